-- Which promise a phrase says. Its words stand between single spaces.
use Rattle.std.specs.Prelude.{ℕ, List, Option, None, option_map, option_and_then, bytes_eq, codes, if◌then◌else◌}
use Rattle.std.proofs.Common.{Bor}
use Rattle.wh_json.specs.Fields.{number_in}
use Rattle.wh_table_text.specs.Words.{word, rest}
use Rattle.wh_promise_phrases.specs.declared.phrase.PromisePhrase.{PromisePhrase as PromisePhraseOf}
use Rattle.wh_promise_phrases.specs.declared.phrase.PromisePhrase.TheVariants as phrases
use Rattle.wh_promise_phrases.specs.Marks.{at_mark}

-- a promise, by the texts of what may happen
abbrev pub PromisePhrase : Type 0
PromisePhrase = PromisePhraseOf (List ℕ)

-- a promise in code
abbrev pub phrase_shown : PromisePhraseOf (Bor (List ℕ)) → PromisePhrase
phrase_shown (phrases.AtMost most what) = phrases.AtMost most what.now
phrase_shown (phrases.OnlyAfter first what) = phrases.OnlyAfter first.now what.now
phrase_shown (phrases.NeverAfter first what) = phrases.NeverAfter first.now what.now
phrase_shown (phrases.Between first last what) = phrases.Between first.now last.now what.now

-- `most N WHAT`
abbrev pub at_most_in : List ℕ → Option PromisePhrase
at_most_in text =
    if bytes_eq (word text) (codes "most")
    then option_map (λ most. phrases.AtMost most (rest (rest text))) (number_in (word (rest text)))
    else None

-- FIRST and WHAT of `after FIRST: WHAT`
abbrev pub pair_in : List ℕ → Option (List ℕ × List ℕ)
pair_in text = if bytes_eq (word text) (codes "after") then at_mark (codes ": ") (rest text) else None

-- LAST and WHAT of `before LAST: WHAT`
abbrev pub last_in : List ℕ → Option (List ℕ × List ℕ)
last_in text = if bytes_eq (word text) (codes "before") then at_mark (codes ": ") (rest text) else None

-- `FIRST, before LAST: WHAT`
abbrev pub between_in : List ℕ → Option PromisePhrase
between_in text =
    option_and_then (λ sides. option_map (λ later. phrases.Between sides.0 later.0 later.1) (last_in sides.1))
    (at_mark (codes ", ") text)

-- the promise that a phrase says
unfoldable pub phrase_in : List ℕ → Option PromisePhrase
phrase_in text =
    if bytes_eq (word text) (codes "at") then at_most_in (rest text)
    else if bytes_eq (word text) (codes "after") then between_in (rest text)
    else if bytes_eq (word text) (codes "only")
    then option_map (λ sides. phrases.OnlyAfter sides.0 sides.1) (pair_in (rest text))
    else if bytes_eq (word text) (codes "never")
    then option_map (λ sides. phrases.NeverAfter sides.0 sides.1) (pair_in (rest text))
    else None
