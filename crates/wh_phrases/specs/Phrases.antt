-- How jobs, commands and events are written: kinds, ids and types, seconds or versions.
use Rattle.std.specs.Prelude.{ℕ, List, [], ◌++◌, codes, decimal, Option, Some, None}
use Rattle.std.specs.Fmt.{signed_decimal}
use Rattle.wh_events.specs.declared.phrase.Detail.{Detail}
use Rattle.wh_events.specs.declared.phrase.Detail.TheVariants.{Nothing, Time, Seconds, Version, Range}
use Rattle.wh_events.specs.Kinds.{kind_phrase}
use Rattle.wh_events.specs.Phrases.{Phrase}
use Rattle.wh_tester.specs.Report.{shown}
use Rattle.wh_explained_tasks.specs.declared.RecordedEvent.{RecordedEvent}
use Rattle.wh_phrases.specs.Times.{time_text}

-- the phrase of a recorded event
abbrev pub event_phrase : RecordedEvent → Phrase
event_phrase event = kind_phrase event.id event.kind

-- a space and a word, if there is one, shown as names in reports are
abbrev pub word_text : Option (List ℕ) → List ℕ
word_text None = []
word_text (Some word) = codes " " ++ shown word

-- what follows the ids and types of a phrase
abbrev pub detail_text : Detail → List ℕ
detail_text Nothing = []
detail_text (Time time) = codes " " ++ time_text time
detail_text (Seconds seconds) = codes " (" ++ (decimal seconds ++ codes " s)")
detail_text (Version version) = codes " (version " ++ (signed_decimal version ++ codes ")")
detail_text (Range min max) = codes " (" ++ (signed_decimal min ++ (codes " to " ++ (signed_decimal max ++ codes ")")))

-- the text of a phrase
abbrev pub phrase_text : Phrase → List ℕ
phrase_text phrase = phrase.kind ++ (word_text phrase.id ++ (word_text phrase.name ++ detail_text phrase.detail))
