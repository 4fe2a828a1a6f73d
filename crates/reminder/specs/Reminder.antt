-- What the workflow Reminder computes.
use Rattle.std.specs.Prelude.{List, [], ◌∷◌, codes, bytes_eq, refl, if◌then◌else◌}
use Rattle.wh_workflow.specs.declared.job.Job.{Job}
use Rattle.wh_workflow.specs.declared.job.Job.TheVariants.{Start, TimerFired, Activity}
use Rattle.wh_workflow.specs.declared.job.ActivityEnd.TheVariants.{Completed}
use Rattle.wh_workflow.specs.declared.command.Command.{Command}
use Rattle.wh_workflow.specs.declared.command.Command.TheVariants.{StartTimer, StartActivity, Complete, Fail}
use Rattle.wh_workflow.specs.Law.{Program, IsAnswer, IsLawful}
use Rattle.wh_workflow.specs.Answering.{none_is_answer, one_is_answer, either_is_answer}
use Rattle.reminder.specs.declared.steps.ReminderState.{ReminderState}
use Rattle.reminder.specs.declared.steps.ReminderState.TheVariants.{Waiting, Sending}

-- the commands that it gives to a job in the hour
abbrev pub waiting_gives : Job → List Command
waiting_gives (Start _ _) = StartTimer (codes "hour") 3_600 ∷ []
waiting_gives (TimerFired id) =
    if bytes_eq id (codes "hour") then StartActivity (codes "mail") (codes "SendMail") [] ∷ [] else []
waiting_gives _ = []

-- the state that such a job leaves
abbrev pub waiting_after : Job → ReminderState
waiting_after (TimerFired id) = if bytes_eq id (codes "hour") then Sending else Waiting
waiting_after _ = Waiting

-- the commands that it gives to a job after the hour
abbrev pub sending_gives : Job → List Command
sending_gives (Activity id (Completed result)) = if bytes_eq id (codes "mail") then Complete result ∷ [] else []
sending_gives (Activity id _) = if bytes_eq id (codes "mail") then Fail (codes "mail") ∷ [] else []
sending_gives _ = []

-- the commands that it gives to a job
abbrev pub reminder_gives : ReminderState → Job → List Command
reminder_gives Waiting job = waiting_gives job
reminder_gives Sending job = sending_gives job

-- the state that a job leaves
abbrev pub reminder_after : ReminderState → Job → ReminderState
reminder_after Waiting job = waiting_after job
reminder_after Sending job = Sending

-- the workflow as a program
abbrev pub reminder : Program ReminderState
reminder = record {
  knows = λ kind. bytes_eq kind (codes "Reminder");
  initial = λ _. Waiting;
  after = reminder_after;
  gives = reminder_gives;
}

-- each step gives at most 64 commands, no marker, and an ask only as the last one
waiting_answers : (job : Job) → IsAnswer (waiting_gives job)
waiting_answers (Start _ _) = one_is_answer _ refl
waiting_answers (TimerFired id) = either_is_answer (bytes_eq id (codes "hour")) _ _ (one_is_answer _ refl) none_is_answer
waiting_answers _ = none_is_answer

sending_answers : (job : Job) → IsAnswer (sending_gives job)
sending_answers (Activity id (Completed result)) =
    either_is_answer (bytes_eq id (codes "mail")) _ _ (one_is_answer _ refl) none_is_answer
sending_answers (Activity id _) = either_is_answer (bytes_eq id (codes "mail")) _ _ (one_is_answer _ refl) none_is_answer
sending_answers _ = none_is_answer

pub reminder_lawful : IsLawful reminder
reminder_lawful Waiting job = waiting_answers job
reminder_lawful Sending job = sending_answers job
