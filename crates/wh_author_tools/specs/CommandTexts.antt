-- Commands as text.
use Rattle.std.specs.Prelude.{ℕ, List, [], ◌∷◌, ◌++◌, codes, decimal, Option, Some, None, if◌then◌else◌}
use Rattle.std.specs.Fmt.{signed_decimal}
use Rattle.std.specs.Str.{is_utf8}
use Rattle.wh_events.specs.declared.event.Payload.{Payload}
use Rattle.wh_events.specs.declared.phrase.Detail.{Detail}
use Rattle.wh_events.specs.declared.phrase.Detail.TheVariants.{Nothing, Time, Seconds, Version, Range}
use Rattle.wh_events.specs.Phrases.{Phrase}
use Rattle.wh_workflow.specs.declared.command.Command.{Command}
use Rattle.wh_workflow.specs.declared.command.Command.TheVariants as commands
use Rattle.wh_workflow.specs.Names.{command_phrase}

-- a word after a space, if there is one
abbrev pub word_text : Option (List ℕ) → List ℕ
word_text None = []
word_text (Some word) = codes " " ++ word

-- the part of a command after its ids and types
abbrev pub detail_text : Detail → List ℕ
detail_text Nothing = []
detail_text (Time _) = []
detail_text (Seconds seconds) = codes " (" ++ (decimal seconds ++ codes " s)")
detail_text (Version version) = codes " (version " ++ (signed_decimal version ++ codes ")")
detail_text (Range least greatest) =
    codes " (" ++ (signed_decimal least ++ (codes " to " ++ (signed_decimal greatest ++ codes ")")))

-- kind, id, type, and the part after them
abbrev pub phrase_text : Phrase → List ℕ
phrase_text phrase = phrase.kind ++ (word_text phrase.id ++ (word_text phrase.name ++ detail_text phrase.detail))

-- the payloads of the input or the result of a command
abbrev pub payloads_given : Command → List Payload
payloads_given (commands.StartActivity _ _ input) = input
payloads_given (commands.StartChild _ _ input) = input
payloads_given (commands.SignalExternal _ _ input) = input
payloads_given (commands.ContinueAsNew _ input) = input
payloads_given (commands.Complete result) = result
payloads_given _ = []

-- the content of a payload, or a question mark if it is not UTF-8
abbrev pub content_text : List ℕ → List ℕ
content_text content = if is_utf8 content then content else codes "?"

-- the contents of payloads, each after a space
abbrev pub payloads_text : List Payload → List ℕ
payloads_text [] = []
payloads_text (payload ∷ rest) = codes " " ++ (content_text payload.content ++ payloads_text rest)

-- a command as `explain` shows it, and its payloads
abbrev pub command_text : Command → List ℕ
command_text command = phrase_text (command_phrase command) ++ payloads_text (payloads_given command)

-- commands, each after a semicolon
abbrev pub later_texts : List Command → List ℕ
later_texts [] = []
later_texts (command ∷ rest) = codes "; " ++ (command_text command ++ later_texts rest)

-- commands, separated by semicolons
abbrev pub commands_text : List Command → List ℕ
commands_text [] = []
commands_text (command ∷ rest) = command_text command ++ later_texts rest
