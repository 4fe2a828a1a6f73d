-- The promises of a table on its page.
use Rattle.std.specs.Prelude.{ℕ, if◌then◌else◌, List, length, nat_eq, codes}
use Rattle.wh_html.specs.Html.{Html, nothing, markup, plain, hole, ◌⊕◌, each}
use Rattle.wh_row_rules.specs.declared.promises.WayStep.{WayStep}
use Rattle.wh_row_rules.specs.declared.promises.PromiseVerdict.TheVariants as verdicts
use Rattle.wh_row_rules.specs.declared.promises.PhraseFinding.{PhraseFinding}
use Rattle.wh_row_rules.specs.declared.promises.PhraseFinding.TheVariants as outcomes
use Rattle.wh_row_rules.specs.declared.promises.PromiseFinding.{PromiseFinding}
use Rattle.wh_row_rules.specs.declared.promises.PromiseFindings.{PromiseFindings}
use Rattle.wh_row_rules.specs.declared.promises.PromiseFindings.TheVariants as found
use Rattle.wh_table_check.specs.PromiseTexts.{list_words, outcome_detail}

-- the class of a promise of which this is found, in the style sheet
abbrev pub promise_class : PhraseFinding → List ℕ
promise_class (outcomes.Decided verdicts.Kept) = codes "kept"
promise_class (outcomes.Decided (verdicts.Broken breach)) = codes "broken"
promise_class _ = codes "undecided"

-- the mark of a promise of which this is found: a sign and a word
abbrev pub promise_mark : PhraseFinding → List ℕ
promise_mark (outcomes.Decided verdicts.Kept) = codes "&#10003; kept"
promise_mark (outcomes.Decided (verdicts.Broken breach)) = codes "&#10007; broken"
promise_mark (outcomes.Decided (verdicts.NotDecided doubt)) = codes "? not decided"
promise_mark outcomes.NoPromise = codes "? no promise"

-- the commands that a job is given
abbrev pub given_html : List ℕ → Html
given_html words =
    if nat_eq (length words) 0 then markup (codes " <span class=\"soft\">gives nothing</span>")
    else markup (codes " <span class=\"soft\">gives</span> <code>") ⊕ hole 2000 words ⊕ markup (codes "</code>")

-- a job of a scenario, as an item of a list
abbrev pub job_html : WayStep → Html
job_html step =
    markup (codes "<li><code>") ⊕ hole 300 step.job ⊕ markup (codes "</code>") ⊕ given_html step.gives
    ⊕ markup (codes "</li>\n")

-- the jobs that break a promise, if it is broken
abbrev pub jobs_html : PhraseFinding → Html
jobs_html (outcomes.Decided (verdicts.Broken breach)) =
    markup (codes "\n<ol class=\"jobs\">\n") ⊕ each job_html breach.way.items ⊕ markup (codes "</ol>\n")
jobs_html _ = nothing

-- what else is said of a promise, if something is
abbrev pub detail_html : PhraseFinding → Html
detail_html outcome =
    if nat_eq (length (outcome_detail outcome)) 0 then nothing
    else markup (codes " <span class=\"soft\">") ⊕ plain (outcome_detail outcome) ⊕ markup (codes "</span>")

-- a promise with its mark, as an item of a list
abbrev pub promise_html : PromiseFinding → Html
promise_html finding =
    markup (codes "<li class=\"") ⊕ plain (promise_class finding.outcome) ⊕ markup (codes "\"><span class=\"mark\">")
    ⊕ plain (promise_mark finding.outcome) ⊕ markup (codes "</span> <code>") ⊕ hole 600 finding.phrase
    ⊕ markup (codes "</code>") ⊕ detail_html finding.outcome ⊕ jobs_html finding.outcome ⊕ markup (codes "</li>\n")

-- promises under their heading, if there are some
abbrev pub list_html : List PromiseFinding → Html
list_html list =
    if nat_eq (length list) 0 then nothing
    else markup (codes "<section>\n<h2>Promises</h2>\n<ol class=\"promises\">\n") ⊕ each promise_html list
    ⊕ markup (codes "</ol>\n</section>\n")

-- that no promise can be read, and why
abbrev pub lone_html : List ℕ → Html
lone_html why =
    markup (codes "<section>\n<h2>Promises</h2>\n<p class=\"undecided\"><span class=\"mark\">? not read</span> ")
    ⊕ plain why ⊕ markup (codes "</p>\n</section>\n")

-- the promises of a table, if it has some
abbrev pub promises_html : PromiseFindings → Html
promises_html (found.Each list) = list_html list
promises_html findings = lone_html (list_words findings)
