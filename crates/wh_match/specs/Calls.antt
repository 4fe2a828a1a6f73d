-- Lists of calls of a script, and what holds after each of them.
use Rattle.std.specs.Prelude.{◌≡◌, ℕ, ℤ, List, [], ◌∷◌, Option}
use Rattle.wh_events.specs.declared.event.Event.{Event}
use Rattle.wh_workflow.specs.declared.command.Command.{Command}
use Rattle.wh_workflow.specs.Scripts.{ActivationContext, Choice, act_of, reduced}
use Rattle.wh_match.specs.Issuing.{Issuing, context_at, context_in, is_late_act, late_marks, with_issued, with_asked, reduced_by}

-- an accepted call: a command; or an ask, with the version that it got
pub data Call : Type 0 where
  issue : Command → Call
  ask : List ℕ → ℤ → ℤ → Choice → Call

-- the script after a call
abbrev pub after_call : List Event → Option (List Event) → Issuing → Call → Issuing
after_call events recorded script (issue command) =
    with_issued script command (is_late_act (context_in events script recorded) script.issued (act_of command))
after_call events recorded script (ask change_id low high choice) = with_asked script change_id low high choice

-- the script after the calls, one after another
abbrev pub after_calls : List Event → Option (List Event) → Issuing → List Call → Issuing
after_calls events recorded script [] = script
after_calls events recorded script (call ∷ calls) =
    after_calls events recorded (after_call events recorded script call) calls

-- the script in which nothing is issued yet
abbrev pub begun : ℕ → ℕ → Issuing
begun previous cut = record { previous = previous; cut = cut; issued = []; late = [] }

-- the marks are those of the context
abbrev pub IsMarked : ActivationContext → Issuing → Type 0
IsMarked context script = script.late ≡ late_marks context script.issued

-- what the marks of a context send is what is to be sent in it
abbrev pub MarksReduce : Type 0
MarksReduce =
    (context : ActivationContext) (issued : List Command)
    → reduced_by (late_marks context issued) issued ≡ reduced context issued

-- a script whose marks are those of its context keeps such marks after any list of calls
abbrev pub CallsKeepMarks : Type 0
CallsKeepMarks =
    (events : List Event) (recorded : Option (List Event)) (script : Issuing) (calls : List Call)
    → IsMarked (context_in events script recorded) script
    → IsMarked (context_in events script recorded) (after_calls events recorded script calls)

-- what is sent after a list of calls on a script in which nothing is issued
abbrev pub sent_of : List Event → Option (List Event) → ℕ → ℕ → List Call → List Command
sent_of events recorded previous cut calls =
    reduced_by (after_calls events recorded (begun previous cut) calls).late
    (after_calls events recorded (begun previous cut) calls).issued

-- after any list of calls on a script in which nothing is issued, what is sent is what is to be sent of the issued
-- commands in the context
abbrev pub CallsReduce : Type 0
CallsReduce =
    (events : List Event) (recorded : Option (List Event)) (previous cut : ℕ) (calls : List Call)
    → sent_of events recorded previous cut calls
    ≡ reduced (context_at events previous cut recorded)
    (after_calls events recorded (begun previous cut) calls).issued
