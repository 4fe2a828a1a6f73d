-- Promises about what no row of the table is for or gives.
use Rattle.std.specs.Prelude.{ℕ, ◌+◌, Bool, true, false, not, List, [], ◌∷◌, ◌++◌, bytes_eq, codes, decimal, Option, Some, None, if◌then◌else◌}
use Rattle.std.specs.List.{list_any}
use Rattle.std.specs.Result.{result_ok}
use Rattle.wh_rows.specs.declared.row.CommandTemplate.TheVariants as templates
use Rattle.wh_rows.specs.Tables.{JobPattern, CommandTemplate, Row}
use Rattle.wh_rows.specs.Rows.{closes}
use Rattle.wh_rows.specs.Deciding.{apart}
use Rattle.wh_row_rules.specs.declared.promises.PromiseFinding.{PromiseFinding}
use Rattle.wh_row_rules.specs.declared.promises.PromiseFindings.{PromiseFindings}
use Rattle.wh_row_rules.specs.declared.promises.PromiseFindings.TheVariants as found
use Rattle.wh_table_text.specs.Numbered.{numbered}
use Rattle.wh_table_text.specs.Reading.{job_at}
use Rattle.wh_promise_phrases.specs.declared.phrase.PromisePhrase.TheVariants as phrases
use Rattle.wh_promise_phrases.specs.Phrases.{PromisePhrase, phrase_in}
use Rattle.wh_promise_phrases.specs.declared.thing.PhraseThing.TheVariants as things
use Rattle.wh_promise_phrases.specs.Things.{PhraseThing, thing_in}
use Rattle.wh_table_check.specs.declared.finding.TableFinding.{TableFinding}

-- the command makes it happen
abbrev pub is_by : PhraseThing → CommandTemplate → Bool
is_by (things.Activity name) (templates.StartActivity id activity source) = bytes_eq activity name
is_by (things.Child name) (templates.StartChild id workflow source) = bytes_eq workflow name
is_by (things.Send name) (templates.SignalExternal id signal source) = bytes_eq signal name
is_by things.Complete (templates.Complete source) = true
is_by things.Fail (templates.Fail message) = true
is_by things.Canceled templates.Cancel = true
is_by things.Continued (templates.ContinueAsNew workflow source) = true
is_by things.Close template = closes template
is_by _ template = false

-- a command of the row makes it happen
abbrev pub gives : PhraseThing → Row → Bool
gives thing row = list_any (is_by thing) row.gives

-- a command of one of the rows does
abbrev pub is_given : PhraseThing → List Row → Bool
is_given thing rows = list_any (gives thing) rows

-- one of the rows is for a job of the pattern, whatever the name of the run
abbrev pub is_heard : JobPattern → List Row → Bool
is_heard pattern rows = list_any (λ row. not (apart pattern row.job)) rows

-- so for the pattern that a text is, if it is one
abbrev pub hears_pattern : Option JobPattern → List Row → Bool
hears_pattern (Some pattern) rows = is_heard pattern rows
hears_pattern None rows = true

-- one of the rows is for a job that the text names, or it names none
abbrev pub hears_job : List ℕ → List Row → Bool
hears_job text rows = hears_pattern (result_ok (job_at 0 text)) rows

-- one of the rows is for it or gives it
abbrev pub has_thing : PhraseThing → List Row → Bool
has_thing (things.Job text) rows = hears_job text rows
has_thing thing rows = is_given thing rows

-- what no row does with it
abbrev pub lack_words : PhraseThing → List ℕ
lack_words (things.Job text) = codes "no row is for "
lack_words _ = codes "no row gives "

-- the warning for the promise of this number, about what no row has; its text says that
abbrev pub lack_finding : ℕ → PhraseThing → List ℕ → TableFinding
lack_finding number thing text = record {
  row = None;
  text = codes "promise " ++ (decimal number ++ (codes ": " ++ (lack_words thing ++ text)));
}

-- that warning, unless a row has it
abbrev pub lack : List Row → ℕ → PhraseThing → List ℕ → List TableFinding
lack rows number thing text = if has_thing thing rows then [] else lack_finding number thing text ∷ []

-- the same for what a text says, if it says something that may happen
abbrev pub lack_of : List Row → ℕ → Option PhraseThing → List ℕ → List TableFinding
lack_of rows number None text = []
lack_of rows number (Some thing) text = lack rows number thing text

abbrev pub lacks_text : List Row → ℕ → List ℕ → List TableFinding
lacks_text rows number text = lack_of rows number (thing_in text) text

-- the warnings for all that a promise is about, in the order of its phrase
abbrev pub lacks : List Row → ℕ → PromisePhrase → List TableFinding
lacks rows number (phrases.AtMost most what) = lacks_text rows number what
lacks rows number (phrases.OnlyAfter first what) = lacks_text rows number first ++ lacks_text rows number what
lacks rows number (phrases.NeverAfter first what) = lacks_text rows number first ++ lacks_text rows number what
lacks rows number (phrases.Between first last what) =
    lacks_text rows number first ++ (lacks_text rows number last ++ lacks_text rows number what)

-- so for a phrase, if it says a promise
abbrev pub lacks_of : List Row → ℕ → Option PromisePhrase → List TableFinding
lacks_of rows number None = []
lacks_of rows number (Some promise) = lacks rows number promise

-- the warnings for the phrase at a place
abbrev pub promise_lacks : List Row → ℕ → PromiseFinding → List TableFinding
promise_lacks rows place finding = lacks_of rows (place + 1) (phrase_in finding.phrase)

-- the warnings for the promises of a table
abbrev pub promise_warnings : List Row → PromiseFindings → List TableFinding
promise_warnings rows (found.Each list) = numbered (promise_lacks rows) 0 list
promise_warnings rows _ = []
