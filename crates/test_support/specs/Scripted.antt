-- A test workflow that gives the commands that signals name.
use Rattle.std.specs.Prelude.{ℕ, pos, negsuc, Bool, true, false, List, [], ◌∷◌, codes, bytes_eq, Option, Some, None}
use Rattle.std.specs.Prelude.{refl}
use Rattle.wh_workflow.specs.declared.command.Command.{Command}
use Rattle.wh_workflow.specs.declared.command.Command.TheVariants.{StartActivity, CancelActivity, StartTimer}
use Rattle.wh_workflow.specs.declared.command.Command.TheVariants.{CancelTimer, StartChild, CancelChild}
use Rattle.wh_workflow.specs.declared.command.Command.TheVariants.{SignalExternal, Ask, Complete, Fail, Cancel}
use Rattle.wh_workflow.specs.declared.command.Command.TheVariants.{ContinueAsNew}
use Rattle.wh_workflow.specs.declared.job.Job.{Job}
use Rattle.wh_workflow.specs.declared.job.Job.TheVariants.{Signal}
use Rattle.wh_workflow.specs.Law.{Program, IsAnswer, IsLawful}
use Rattle.wh_workflow.specs.Answering.{none_is_answer as none, one_is_answer as one}
use Rattle.wh_sample_workflows.specs.declared.stateless.NoState.{NoState}

-- the command if the test holds, and else another one
abbrev pub given_if : Bool → Command → Option Command → Option Command
given_if true command otherwise = Some command
given_if false command otherwise = otherwise

-- the request for a version that the name describes
abbrev pub ask_named : List ℕ → Option Command
ask_named name =
    given_if (bytes_eq name (codes "ask")) (Ask (codes "chg") (negsuc 0) (pos 1))
    (given_if (bytes_eq name (codes "ask_known")) (Ask (codes "chg") (pos 0) (pos 1))
    (given_if (bytes_eq name (codes "ask_new")) (Ask (codes "chg") (pos 1) (pos 3))
    (given_if (bytes_eq name (codes "ask_later")) (Ask (codes "chg") (pos 2) (pos 3))
    (given_if (bytes_eq name (codes "ask_crossed")) (Ask (codes "chg") (pos 2) (pos 1))
    (given_if (bytes_eq name (codes "ask_below")) (Ask (codes "chg") (negsuc 1) (pos 1))
    (given_if (bytes_eq name (codes "ask_none")) (Ask (codes "chg") (negsuc 0) (negsuc 0)) None))))))

-- the command of this name that closes the run or signals another workflow
abbrev pub closing_named : List ℕ → Option Command
closing_named name =
    given_if (bytes_eq name (codes "complete")) (Complete [])
    (given_if (bytes_eq name (codes "fail")) (Fail (codes "failure"))
    (given_if (bytes_eq name (codes "cancel")) Cancel
    (given_if (bytes_eq name (codes "continue")) (ContinueAsNew (codes "Nap") [])
    (given_if (bytes_eq name (codes "signal_other")) (SignalExternal (codes "other") (codes "go") [])
    (ask_named name)))))

-- the command of this name that starts or cancels something
abbrev pub command_named : List ℕ → Option Command
command_named name =
    given_if (bytes_eq name (codes "start_timer")) (StartTimer (codes "t") 1)
    (given_if (bytes_eq name (codes "cancel_timer")) (CancelTimer (codes "t"))
    (given_if (bytes_eq name (codes "start_activity")) (StartActivity (codes "1") (codes "work") [])
    (given_if (bytes_eq name (codes "cancel_activity")) (CancelActivity (codes "1"))
    (given_if (bytes_eq name (codes "start_child")) (StartChild (codes "kid") (codes "Nap") [])
    (given_if (bytes_eq name (codes "cancel_child")) (CancelChild (codes "kid")) (closing_named name))))))

-- the command, if there is one
abbrev pub commands_in : Option Command → List Command
commands_in None = []
commands_in (Some command) = command ∷ []

-- the commands that it gives to a job
abbrev pub scripted_gives : Job → List Command
scripted_gives (Signal name _) = commands_in (command_named name)
scripted_gives _ = []

-- the workflow as a program
abbrev pub scripted : Program NoState
scripted = record {
  knows = λ _. true;
  initial = λ _. record {};
  after = λ state _. state;
  gives = λ _ job. scripted_gives job;
}

-- one command or the other
given_answers : (test : Bool) (command : Command) (otherwise : Option Command) → IsAnswer (command ∷ []) →
    IsAnswer (commands_in otherwise) → IsAnswer (commands_in (given_if test command otherwise))
given_answers true command otherwise stands _ = stands
given_answers false command otherwise _ other_stands = other_stands

ask_answers : (name : List ℕ) → IsAnswer (commands_in (ask_named name))
ask_answers name =
    given_answers (bytes_eq name (codes "ask")) _ _ (one _ refl)
    (given_answers (bytes_eq name (codes "ask_known")) _ _ (one _ refl)
    (given_answers (bytes_eq name (codes "ask_new")) _ _ (one _ refl)
    (given_answers (bytes_eq name (codes "ask_later")) _ _ (one _ refl)
    (given_answers (bytes_eq name (codes "ask_crossed")) _ _ (one _ refl)
    (given_answers (bytes_eq name (codes "ask_below")) _ _ (one _ refl)
    (given_answers (bytes_eq name (codes "ask_none")) _ _ (one _ refl) none))))))

closing_answers : (name : List ℕ) → IsAnswer (commands_in (closing_named name))
closing_answers name =
    given_answers (bytes_eq name (codes "complete")) _ _ (one _ refl)
    (given_answers (bytes_eq name (codes "fail")) _ _ (one _ refl)
    (given_answers (bytes_eq name (codes "cancel")) _ _ (one _ refl)
    (given_answers (bytes_eq name (codes "continue")) _ _ (one _ refl)
    (given_answers (bytes_eq name (codes "signal_other")) _ _ (one _ refl) (ask_answers name)))))

command_answers : (name : List ℕ) → IsAnswer (commands_in (command_named name))
command_answers name =
    given_answers (bytes_eq name (codes "start_timer")) _ _ (one _ refl)
    (given_answers (bytes_eq name (codes "cancel_timer")) _ _ (one _ refl)
    (given_answers (bytes_eq name (codes "start_activity")) _ _ (one _ refl)
    (given_answers (bytes_eq name (codes "cancel_activity")) _ _ (one _ refl)
    (given_answers (bytes_eq name (codes "start_child")) _ _ (one _ refl)
    (given_answers (bytes_eq name (codes "cancel_child")) _ _ (one _ refl) (closing_answers name))))))

scripted_answers : (job : Job) → IsAnswer (scripted_gives job)
scripted_answers (Signal name _) = command_answers name
scripted_answers _ = none

pub scripted_lawful : IsLawful scripted
scripted_lawful _ job = scripted_answers job
