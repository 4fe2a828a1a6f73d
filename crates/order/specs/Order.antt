-- The workflow Order.
use Rattle.std.specs.Prelude.{ℕ, ℤ, pos, negsuc, List, [], ◌∷◌, codes, bytes_eq, refl, if◌then◌else◌}
use Rattle.std.specs.Ordering.{int_eq}
use Rattle.wh_workflow.specs.declared.command.Command.{Command}
use Rattle.wh_workflow.specs.declared.command.Command.TheVariants.{StartActivity, StartTimer, CancelTimer, StartChild, Ask, Complete, Fail}
use Rattle.wh_workflow.specs.declared.job.ActivityEnd.TheVariants.{Completed}
use Rattle.wh_workflow.specs.declared.job.ChildEnd.TheVariants.{Completed as ChildCompleted}
use Rattle.wh_workflow.specs.declared.job.Job.{Job}
use Rattle.wh_workflow.specs.declared.job.Job.TheVariants.{Start, Signal, Activity, TimerFired, Child, Version}
use Rattle.wh_workflow.specs.Law.{Program, IsAnswer, IsLawful}
use Rattle.wh_workflow.specs.Answering.{none_is_answer, one_is_answer, two_are_answer, either_is_answer}
use Rattle.order.specs.Naming.{parcel_id}
use Rattle.order.specs.declared.workflow.OrderState.{OrderState}
use Rattle.order.specs.declared.workflow.OrderState.TheVariants.{Charging, Held, Shipping, Closed}

-- the commands of an order in the state `Charging` for a job
abbrev pub charging_gives : Job → List Command
charging_gives (Start _ input) = StartActivity (codes "charge") (codes "ChargeCard") input ∷ []
charging_gives (Activity id (Completed _)) =
    if bytes_eq id (codes "charge") then StartTimer (codes "hold") 86_400 ∷ [] else []
charging_gives (Activity id _) = if bytes_eq id (codes "charge") then Fail (codes "charge") ∷ [] else []
charging_gives _ = []

-- the state after it; `parcel` is the id of the child
abbrev pub charging_after : List ℕ → Job → OrderState
charging_after parcel (Start _ input) = Charging (parcel_id input)
charging_after parcel (Activity id (Completed _)) =
    if bytes_eq id (codes "charge") then Held parcel else Charging parcel
charging_after parcel (Activity id _) = if bytes_eq id (codes "charge") then Closed else Charging parcel
charging_after parcel _ = Charging parcel

-- the commands that cancel the order
abbrev pub calling_off : List Command
calling_off = CancelTimer (codes "hold") ∷ Complete [] ∷ []

-- the commands of an order in the state `Held` for a job
abbrev pub held_gives : Job → List Command
held_gives (Signal name _) = if bytes_eq name (codes "cancel") then calling_off else []
held_gives (TimerFired id) = if bytes_eq id (codes "hold") then Ask (codes "tracked") (negsuc 0) (pos 1) ∷ [] else []
held_gives _ = []

-- the state after it
abbrev pub held_after : List ℕ → Job → OrderState
held_after parcel (Signal name _) = if bytes_eq name (codes "cancel") then Closed else Held parcel
held_after parcel (TimerFired id) = if bytes_eq id (codes "hold") then Shipping parcel else Held parcel
held_after parcel _ = Held parcel

-- the type of the workflow that ships a parcel; -1 is the version before the change
abbrev pub parcel_type : ℤ → List ℕ
parcel_type version = if int_eq version (negsuc 0) then codes "Ship" else codes "ShipTracked"

-- the commands of an order in the state `Shipping` for a job; `parcel` is the id of the child
abbrev pub shipping_gives : List ℕ → Job → List Command
shipping_gives parcel (Version change_id version) =
    if bytes_eq change_id (codes "tracked") then StartChild parcel (parcel_type version) [] ∷ [] else []
shipping_gives parcel (Child workflow_id (ChildCompleted result)) =
    if bytes_eq workflow_id parcel then Complete result ∷ [] else []
shipping_gives parcel (Child workflow_id _) =
    if bytes_eq workflow_id parcel then Fail (codes "parcel") ∷ [] else []
shipping_gives parcel _ = []

-- the state after it
abbrev pub shipping_after : List ℕ → Job → OrderState
shipping_after parcel (Child workflow_id _) = if bytes_eq workflow_id parcel then Closed else Shipping parcel
shipping_after parcel _ = Shipping parcel

-- the commands of an order for a job
abbrev pub order_gives : OrderState → Job → List Command
order_gives (Charging parcel) job = charging_gives job
order_gives (Held parcel) job = held_gives job
order_gives (Shipping parcel) job = shipping_gives parcel job
order_gives Closed job = []

-- the state after a job
abbrev pub order_after : OrderState → Job → OrderState
order_after (Charging parcel) job = charging_after parcel job
order_after (Held parcel) job = held_after parcel job
order_after (Shipping parcel) job = shipping_after parcel job
order_after Closed job = Closed

-- the workflow as a program
abbrev pub order : Program OrderState
order = record {
  knows = λ kind. bytes_eq kind (codes "Order");
  initial = λ _. Charging (codes "parcel");
  after = order_after;
  gives = order_gives;
}

charging_answers : (job : Job) → IsAnswer (charging_gives job)
charging_answers (Start _ input) = one_is_answer _ refl
charging_answers (Activity id (Completed _)) =
    either_is_answer (bytes_eq id (codes "charge")) _ _ (one_is_answer _ refl) none_is_answer
charging_answers (Activity id _) =
    either_is_answer (bytes_eq id (codes "charge")) _ _ (one_is_answer _ refl) none_is_answer
charging_answers _ = none_is_answer

held_answers : (job : Job) → IsAnswer (held_gives job)
held_answers (Signal name _) =
    either_is_answer (bytes_eq name (codes "cancel")) _ _ (two_are_answer _ _ refl refl) none_is_answer
held_answers (TimerFired id) = either_is_answer (bytes_eq id (codes "hold")) _ _ (one_is_answer _ refl) none_is_answer
held_answers _ = none_is_answer

shipping_answers : (parcel : List ℕ) (job : Job) → IsAnswer (shipping_gives parcel job)
shipping_answers parcel (Version change_id version) =
    either_is_answer (bytes_eq change_id (codes "tracked")) _ _ (one_is_answer _ refl) none_is_answer
shipping_answers parcel (Child workflow_id (ChildCompleted result)) =
    either_is_answer (bytes_eq workflow_id parcel) _ _ (one_is_answer _ refl) none_is_answer
shipping_answers parcel (Child workflow_id _) =
    either_is_answer (bytes_eq workflow_id parcel) _ _ (one_is_answer _ refl) none_is_answer
shipping_answers parcel _ = none_is_answer

-- each step returns at most 64 commands, no marker, and asks for a version only by its last one
pub order_lawful : IsLawful order
order_lawful (Charging parcel) job = charging_answers job
order_lawful (Held parcel) job = held_answers job
order_lawful (Shipping parcel) job = shipping_answers parcel job
order_lawful Closed job = none_is_answer
