-- What is said of a verdict and of a difference, in words.
use Rattle.std.specs.Prelude.{ℕ, List, ◌++◌, codes, Option, Some, None}
use Rattle.wh_explained_tasks.specs.declared.Pairing.{Pairing}
use Rattle.wh_explained_tasks.specs.declared.Pairing.TheVariants.{Alike, Different, CommandMissing, CommandExtra}
use Rattle.wh_explained_tasks.specs.declared.RecordedEvent.{RecordedEvent}
use Rattle.wh_phrases.specs.Phrases.{event_phrase, phrase_text}
use Rattle.wh_file_faults.specs.declared.detail.FaultDetail.{FaultDetail}
use Rattle.wh_file_faults.specs.DetailTexts.{detail_text}
use Rattle.wh_replay.specs.declared.fault.Fault.{Fault}
use Rattle.wh_replay.specs.declared.fault.Fault.TheVariants as faults
use Rattle.wh_tester.specs.declared.line.Verdict.{Verdict}
use Rattle.wh_tester.specs.declared.line.Verdict.TheVariants as verdicts
use Rattle.wh_tester.specs.Report.{event_of}
use Rattle.wh_html.specs.declared.page.Difference.{Difference as Sides}
use Rattle.wh_workflow.specs.declared.command.Command.{Command}
use Rattle.wh_workflow.specs.declared.fault.Mismatch.{Mismatch}
use Rattle.wh_workflow.specs.declared.fault.Mismatch.TheVariants as mismatches
use Rattle.wh_workflow.specs.Names.{command_phrase}

-- the place of the event that a difference in the task of a cut is about: that of the event that differs or has no command,
-- and else that of the cut
abbrev pub mismatch_place : (at : ℕ) → Mismatch → ℕ
mismatch_place at (mismatches.Different event) = event
mismatch_place at (mismatches.CommandMissing event) = event
mismatch_place at (mismatches.CommandExtra index) = at

-- the place of the event that a fault of replay is about, if it is about one
abbrev pub fault_place : Fault → Option ℕ
fault_place faults.NotATask = None
fault_place (faults.Place at fault) = Some at
fault_place (faults.Workflow at fault) = Some at
fault_place (faults.Mismatch at mismatch) = Some (mismatch_place at mismatch)

-- that of a verdict
abbrev pub verdict_place : Verdict → Option ℕ
verdict_place (verdicts.Good replayed_tasks) = None
verdict_place (verdicts.Unreadable fault) = event_of fault
verdict_place (verdicts.NoCode kind) = Some 1
verdict_place (verdicts.Faulty fault) = fault_place fault
verdict_place verdicts.OutOfMemory = None

-- a command, and a recorded event, as `explain` writes them
abbrev pub command_words : Command → List ℕ
command_words command = phrase_text (command_phrase command)

abbrev pub recorded_words : RecordedEvent → List ℕ
recorded_words event = phrase_text (event_phrase event)

-- a command and the event in its place, as both sides of a difference
abbrev pub both_sides : Command → RecordedEvent → Sides
both_sides command event =
    record { event = Some event.number; code = command_words command; history = recorded_words event }

-- what the code gives and what the history has, with `nothing` for the one that is missing
abbrev pub sides_of : Pairing → Sides
sides_of (Alike command event) = both_sides command event
sides_of (Different command event) = both_sides command event
sides_of (CommandMissing event) =
    record { event = Some event.number; code = codes "nothing"; history = recorded_words event }
sides_of (CommandExtra command) =
    record { event = None; code = command_words command; history = codes "nothing" }

abbrev pub difference_of : Option Pairing → Option Sides
difference_of None = None
difference_of (Some pairing) = Some (sides_of pairing)

-- what a fault leaves out
abbrev pub detail_note : Option FaultDetail → Option (List ℕ)
detail_note None = None
detail_note (Some detail) = Some (detail_text detail)

-- what else there is to say of a verdict: the workflow type that there is no code for, or what its fault leaves out
abbrev pub note_of : Option (List ℕ) → Option FaultDetail → Option (List ℕ)
note_of None detail = detail_note detail
note_of (Some kind) detail = Some (codes "There is no code for the workflow type " ++ (kind ++ codes "."))
