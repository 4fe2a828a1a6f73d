-- The steps of a task that prints labels, and its answer.
use Rattle.std.specs.Prelude.{◌≡◌, ◌<◌, ◌+◌, ◌-◌, ℕ, zero, suc, ℤ, pos, negsuc, Bool, true, false, List, [], ◌∷◌, ◌++◌, codes, decimal, nat_le, Option, Some, None, if◌then◌else◌}
use Rattle.order.specs.declared.labels.LabelStep.{LabelStep}
use Rattle.order.specs.declared.labels.LabelStep.TheVariants.{Heard, Printed}
use Rattle.order.specs.declared.labels.LabelsEnd.{LabelsEnd}
use Rattle.order.specs.declared.labels.LabelsEnd.TheVariants.{CalledOff, Done}
use Rattle.wh_tasks.specs.WithHeartbeat.{Brings, Tells}
use Rattle.wh_events.specs.declared.event.Payload.{Payload}
use Rattle.wh_tasks.specs.declared.activity_info.ActivityInfo.{ActivityInfo}
use Rattle.wh_tasks.specs.declared.heartbeat.HeartbeatResponse.{HeartbeatResponse}
use Rattle.wh_tasks.specs.declared.heartbeat.HeartbeatResponse.TheVariants.{CancelRequested, Gone, GoOn, Unheard}
use Rattle.wh_author_tools.specs.Values.{json_value, number_in}
use Rattle.wh_tasks.specs.declared.failure.ActivityFailure.{ActivityFailure}
use Rattle.wh_tasks.specs.declared.source.ActivityAnswer.{ActivityAnswer}
use Rattle.wh_tasks.specs.declared.source.ActivityAnswer.TheVariants.{Completed, Failed}
use Rattle.order.specs.Payloads.{json}

-- the number of printed labels, as JSON
abbrev pub count_payload : ℕ → Payload
count_payload printed = json (decimal printed)

-- a number that was told, if it is one of these labels
abbrev pub counted : Option ℤ → ℕ → ℕ
counted None labels = 0
counted (Some (pos printed)) labels = if nat_le printed labels then printed else 0
counted (Some (negsuc printed)) labels = 0

-- how many of these labels an earlier attempt has printed, by the details of its last heartbeat
abbrev pub printed_before : Option (List Payload) → ℕ → ℕ
printed_before None labels = 0
printed_before (Some details) labels = counted (number_in (json_value details 0)) labels

-- the first label to be printed is the one after those, by what is told of the task
abbrev pub IsFirstLabel : Tells → ℕ → ℕ → Type 0
IsFirstLabel tells labels first =
    (info : ActivityInfo) × (tells info × (first ≡ printed_before info.heartbeat_details labels))

-- no more labels are needed after such a response
abbrev pub stops : HeartbeatResponse → Bool
stops GoOn = false
stops CancelRequested = true
stops Gone = true
stops Unheard = false

-- after these steps the label of a number was printed, and then a heartbeat with the number of printed labels got this
-- response
abbrev pub with_label : List LabelStep → ℕ → HeartbeatResponse → List LabelStep
with_label before number response = (before ++ Printed number ∷ []) ++ Heard response ∷ []

-- from the first label on this many were printed, each followed by a heartbeat after which printing went on, and nothing
-- else was done
abbrev pub WentOn : Brings → ℕ → ℕ → List LabelStep → Type 0
WentOn brings first zero steps = steps ≡ []
WentOn brings first (suc printed) steps =
    (before : List LabelStep) × ((response : HeartbeatResponse)
    × (steps ≡ with_label before (first + printed) response) × (stops response ≡ false)
    × brings (count_payload (first + printed + 1) ∷ []) response
    × WentOn brings first printed before)

-- printing went on until a heartbeat that stopped it, and nothing was done after that
pub record IsCalledOff (brings : Brings) (first labels : ℕ) (steps : List LabelStep) : Type 0 where
  pub printed : ℕ
  pub before : List LabelStep
  pub response : HeartbeatResponse
  pub went_on : WentOn brings first printed before
  pub within : first + printed < labels
  pub last : steps ≡ with_label before (first + printed) response
  pub stopped : stops response ≡ true
  pub brought : brings (count_payload (first + printed + 1) ∷ []) response

-- the labels from the first one on were printed, or those up to the heartbeat that stopped it
abbrev pub ArePrinted : Brings → ℕ → ℕ → LabelsEnd → List LabelStep → Type 0
ArePrinted brings first labels Done steps = WentOn brings first (labels - first) steps
ArePrinted brings first labels CalledOff steps = IsCalledOff brings first labels steps

-- the failure of labels that are needed no more, with a type for retry policies
abbrev pub called_off : ActivityFailure
called_off = record { message = codes "called off"; failure_type = Some (codes "CalledOff"); retryable = true }

-- the result is the number of printed labels; if a heartbeat stopped printing, the activity fails
abbrev pub labels_answer : ℕ → LabelsEnd → ActivityAnswer
labels_answer labels Done = Completed (count_payload labels ∷ [])
labels_answer labels CalledOff = Failed called_off

-- the answer to a task of this many labels, by the steps that were done for it
pub record IsLabelsAnswer (brings : Brings) (tells : Tells) (labels : ℕ) (answer : ActivityAnswer) : Type 0 where
  pub first : ℕ
  pub resumed : IsFirstLabel tells labels first
  pub end : LabelsEnd
  pub steps : List LabelStep
  pub printed : ArePrinted brings first labels end steps
  pub told : answer ≡ labels_answer labels end
