use Rattle.std.proofs.Common.{[], ◌∷◌, true, codes, refl}
use Rattle.serde_json.specs.Data.{boolean, string}
use Rattle.wh_commands.specs.Objects.{object_of}
use Rattle.wh_json.specs.Fields.{field}
use Rattle.wh_crew.proofs.bridge_connection.BridgeConnectionConnection.was_canceled.Goals as goal

-- a bridge may return any result, so also this one
pub returns : goal.returns
unfolding field
returns g c = λ said. record {
  params = object_of ((codes "taskToken", string c.args.token.now) ∷ []);
  of_task = refl;
  result = object_of ((codes "cancelRequested", boolean true) ∷ []);
  given = tt;
  requested = refl;
}
