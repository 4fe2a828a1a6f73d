-- What is read from a heartbeat, and from the answer for a canceled activity.
use Rattle.std.proofs.Common.{◌≡◌, codes, Option, Some, None, refl, sym, ap, ◌∙◌}
use Rattle.std.specs.Result.{result_ok}
use Rattle.serde_json.specs.Find.{get}
use Rattle.wh_commands.proofs.Reading.{payloads_back}
use Rattle.wh_messages.specs.Heartbeats.{HeartbeatsAreRead, CanceledIsApart}

pub heartbeats_read : HeartbeatsAreRead
heartbeats_read names token = record {
  heartbeat = λ details. record { namespace = refl; identity = refl; task = refl };
  details = λ details bytes. ap result_ok (payloads_back details bytes);
  canceled = λ reason. record { namespace = refl; identity = refl; task = refl };
}

something_is_nothing : {A : Type 0} (a : A) → None ≡ Some a → ⊥
something_is_nothing a e = cc

pub canceled_apart : CanceledIsApart
canceled_apart names token other_token reason message failure_type retryable outcome = (
  λ e. something_is_nothing _ (ap (get (codes "failure")) e),
  λ e. something_is_nothing _ (ap (get (codes "result")) e),
)
