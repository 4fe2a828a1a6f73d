-- What may happen, as phrases say it.
use Rattle.std.specs.Prelude.{ℕ, Bool, not, ◌&&◌, List, Option, Some, None, option_map, bytes_eq, codes, if◌then◌else◌}
use Rattle.std.proofs.Common.{Bor}
use Rattle.wh_table_text.specs.Words.{word, rest, is_none}
use Rattle.wh_promise_phrases.specs.declared.thing.PhraseThing.{PhraseThing as PhraseThingOf}
use Rattle.wh_promise_phrases.specs.declared.thing.PhraseThing.TheVariants as things

-- what may happen, by its texts
abbrev pub PhraseThing : Type 0
PhraseThing = PhraseThingOf (List ℕ)

-- what may happen, in code
abbrev pub thing_shown : PhraseThingOf (Bor (List ℕ)) → PhraseThing
thing_shown (things.Job text) = things.Job text.now
thing_shown (things.Activity name) = things.Activity name.now
thing_shown (things.Child name) = things.Child name.now
thing_shown (things.Send name) = things.Send name.now
thing_shown things.Complete = things.Complete
thing_shown things.Fail = things.Fail
thing_shown things.Canceled = things.Canceled
thing_shown things.Continued = things.Continued
thing_shown things.Close = things.Close

-- the text is one word
abbrev pub is_name : List ℕ → Bool
is_name text = not (is_none text) && bytes_eq (word text) text

-- the name that a text is, if it is one word
abbrev pub name_in : List ℕ → Option (List ℕ)
name_in text = if is_name text then Some text else None

-- how the run closes by the text, or the job of the text
abbrev pub closing_or_job : List ℕ → PhraseThing
closing_or_job text =
    if bytes_eq text (codes "complete") then things.Complete
    else if bytes_eq text (codes "fail") then things.Fail
    else if bytes_eq text (codes "canceled") then things.Canceled
    else if bytes_eq text (codes "continued") then things.Continued
    else if bytes_eq text (codes "close") then things.Close
    else things.Job text

-- what may happen, by the text that says it
unfoldable pub thing_in : List ℕ → Option PhraseThing
thing_in text =
    if bytes_eq (word text) (codes "activity") then option_map (λ name. things.Activity name) (name_in (rest text))
    else if bytes_eq (word text) (codes "child") then option_map (λ name. things.Child name) (name_in (rest text))
    else if bytes_eq (word text) (codes "send") then option_map (λ name. things.Send name) (name_in (rest text))
    else Some (closing_or_job text)
