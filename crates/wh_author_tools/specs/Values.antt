-- JSON values (RFC 8259) in payloads, as `serde_json` reads them.
use Rattle.std.specs.Prelude.{ℕ, ℤ, List, Bool, Option, None, codes, option_and_then, slice_get, if◌then◌else◌}
use Rattle.std.specs.Str.{is_utf8}
use Rattle.serde_json.specs.Data.{Data}
use Rattle.serde_json.specs.Find.{as_bool, as_i64, as_number, as_str, get}
use Rattle.serde_json.specs.Read.{read}
use Rattle.serde_json.specs.Written.{compact_text}
use Rattle.wh_events.specs.declared.event.Payload.{Payload}

-- the value of a JSON text in UTF-8
unfoldable pub document : List ℕ → Option Data
document bytes = if is_utf8 bytes then read bytes else None

-- the JSON value of the payload of this number
abbrev pub json_value : List Payload → ℕ → Option Data
json_value input number = option_and_then (λ payload. document payload.content) (slice_get input number)

-- the text of a value, if it is a string
abbrev pub text_in : Option Data → Option (List ℕ)
text_in value = option_and_then as_str value

-- the number of a value, if it is a whole number of 64 bits
abbrev pub number_in : Option Data → Option ℤ
number_in value = option_and_then as_i64 (option_and_then as_number value)

-- the value, if it is true or false
abbrev pub flag_in : Option Data → Option Bool
flag_in value = option_and_then as_bool value

-- the member of this name, if the value is an object that has it
abbrev pub member : List ℕ → Option Data → Option Data
member name value = option_and_then (get name) value

-- the payload of a value
abbrev pub payload_written : Data → Payload
payload_written value = record { encoding = codes "json/plain"; content = compact_text value }
