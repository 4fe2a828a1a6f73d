-- How payloads are written: as objects with texts in base64 (RFC 4648, section 4, with padding), in the list
-- `payloads` of an object.
use Rattle.std.specs.Prelude.{ℕ, List, [], ◌∷◌, codes, map}
use Rattle.base64.specs.Engines.{standard}
use Rattle.base64.specs.GeneralPurpose.{encode_of}
use Rattle.serde_json.specs.Data.{Data, string, array}
use Rattle.serde_json.specs.View.{items_of}
use Rattle.serde_json.specs.Written.{compact_text}
use Rattle.wh_events.specs.declared.event.Payload.{Payload}
use Rattle.wh_commands.specs.Objects.{object_of}

-- bytes in base64
abbrev pub base64_text : List ℕ → Data
base64_text bytes = string (encode_of standard bytes)

-- a payload with this encoding and content
abbrev pub encoded : List ℕ → List ℕ → Data
encoded encoding content = object_of (
    (codes "metadata", object_of ((codes "encoding", base64_text encoding) ∷ []))
    ∷ (codes "data", base64_text content) ∷ [])

abbrev pub payload_written : Payload → Data
payload_written payload = encoded payload.encoding payload.content

-- an object with these payloads
abbrev pub payloads_in : List Data → Data
payloads_in payloads = object_of ((codes "payloads", array (items_of payloads)) ∷ [])

abbrev pub payloads_written : List Payload → Data
payloads_written payloads = payloads_in (map payload_written payloads)

-- a JSON value as a payload
abbrev pub json_payload : Data → Data
json_payload value = encoded (codes "json/plain") (compact_text value)

-- a JSON value as the only payload of a list
abbrev pub json_payloads : Data → Data
json_payloads value = payloads_in (json_payload value ∷ [])
