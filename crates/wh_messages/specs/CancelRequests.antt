-- The responses to heartbeats.
use Rattle.std.specs.Prelude.{◌≡◌, ◌∷◌, [], Bool, false, Option, Some, codes, option_and_then, unwrap_or}
use Rattle.serde_json.specs.Data.{Data, boolean}
use Rattle.serde_json.specs.Find.{as_bool}
use Rattle.wh_commands.specs.Objects.{object_of}
use Rattle.wh_json.specs.Fields.{field}

-- the response to a heartbeat says that the activity is to be canceled
abbrev pub is_cancel_requested : Data → Bool
is_cancel_requested d = unwrap_or (option_and_then as_bool (field (codes "cancelRequested") (Some d))) false

-- the flag is read as the server writes it; a server may omit a false one
pub record CancelIsRead : Type 0 where
  pub written : (requested : Bool)
      → is_cancel_requested (object_of ((codes "cancelRequested", boolean requested) ∷ [])) ≡ requested
  pub absent : is_cancel_requested (object_of []) ≡ false
