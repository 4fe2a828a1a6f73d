-- The text of a command and the event in its place.
use Rattle.std.specs.Prelude.{List, ℕ, ◌++◌, codes, decimal}
use Rattle.wh_workflow.specs.declared.command.Command.{Command}
use Rattle.wh_workflow.specs.Names.{command_phrase}
use Rattle.wh_explained_tasks.specs.declared.RecordedEvent.{RecordedEvent}
use Rattle.wh_explained_tasks.specs.declared.Pairing.{Pairing}
use Rattle.wh_explained_tasks.specs.declared.Pairing.TheVariants.{Alike, Different, CommandMissing, CommandExtra}
use Rattle.wh_phrases.specs.Phrases.{phrase_text, event_phrase}

-- `NUMBER EVENT`
abbrev pub event_text : RecordedEvent → List ℕ
event_text event = decimal event.number ++ (codes " " ++ phrase_text (event_phrase event))

-- `sends COMMAND`
abbrev pub sends_text : Command → List ℕ
sends_text command = codes "sends " ++ phrase_text (command_phrase command)

-- `sends COMMAND, recorded EVENT`
abbrev pub both_text : Command → RecordedEvent → List ℕ
both_text command event = sends_text command ++ (codes ", recorded " ++ event_text event)

-- the command and the event of a pairing; `nothing` stands for the one that is missing
abbrev pub sides_text : Pairing → List ℕ
sides_text (Alike command event) = both_text command event
sides_text (Different command event) = both_text command event
sides_text (CommandMissing event) = codes "sends nothing, recorded " ++ event_text event
sides_text (CommandExtra command) = sends_text command ++ codes ", recorded nothing"
