-- Payloads in JSON: objects in a list named `payloads`, each with data and metadata, as texts in base64.
use Rattle.std.specs.Prelude.{ℕ, List, [], ◌++◌, Bool, false, ◌||◌, not, bytes_eq, codes, Option, Some, option_map, unwrap_or, if◌then◌else◌}
use Rattle.serde_json.specs.Data.{Data, null, boolean, number, string, array, object, Items, no_items, item, Members, no_members, member}
use Rattle.serde_json.specs.Find.{as_object}
use Rattle.wh_json.specs.Fields.{field, text_of, list_of}

-- the name of a list of payloads
abbrev pub is_payloads : List ℕ → Bool
is_payloads name = bytes_eq name (codes "payloads")

-- the data of a payload; empty if absent
abbrev pub data_of : Data → List ℕ
data_of payload = text_of (field (codes "data") (Some payload))

-- the metadata of a payload
abbrev pub metadata_of : Data → Option Data
metadata_of payload = field (codes "metadata") (Some payload)

-- the encoding that metadata name; empty if absent
abbrev pub encoding_in : Option Data → List ℕ
encoding_in metadata = text_of (field (codes "encoding") metadata)

-- whether one of the members has another name than `encoding`
abbrev pub have_other : Members → Bool
have_other no_members = false
have_other (member name d rest) = not (bytes_eq name (codes "encoding")) || have_other rest

-- whether metadata are an object with a member beside `encoding`
abbrev pub have_more : Data → Bool
have_more metadata = unwrap_or (option_map have_other (as_object metadata)) false

-- the members of a list of payloads; anything else has none
abbrev pub payloads_in : Data → List Data
payloads_in null = []
payloads_in (boolean b) = []
payloads_in (number n) = []
payloads_in (string text) = []
payloads_in (array payloads) = list_of payloads
payloads_in (object ms) = []

-- all payloads of a value, in their order
abbrev mutual
  pub payloads_of : Data → List Data
  payloads_of null = []
  payloads_of (boolean b) = []
  payloads_of (number n) = []
  payloads_of (string text) = []
  payloads_of (array items) = payloads_of_items items
  payloads_of (object ms) = payloads_of_members ms

  pub payloads_of_items : Items → List Data
  payloads_of_items no_items = []
  payloads_of_items (item d rest) = payloads_of d ++ payloads_of_items rest

  pub payloads_of_members : Members → List Data
  payloads_of_members no_members = []
  payloads_of_members (member name d rest) =
      (if is_payloads name then payloads_in d else payloads_of d) ++ payloads_of_members rest

-- the payloads of a member of an object
abbrev pub payloads_of_member : List ℕ → Data → List Data
payloads_of_member name d = if is_payloads name then payloads_in d else payloads_of d
