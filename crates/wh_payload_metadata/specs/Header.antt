-- The header of a run: the events that bring its fields, which value of a field stays, and the header as it goes out.
use Rattle.std.specs.Prelude.{◌≡◌, ◌⊎◌, ℕ, List, [], ◌∷◌, ◌++◌, Bool, false, nat_lt, bytes_eq, codes, String, string_bytes, Option, Some, None, if◌then◌else◌, option_and_then, option_map, unwrap_or}
use Rattle.std.specs.BTreeMap.{get_by_text}
use Rattle.std.specs.Option.{option_or}
use Rattle.std.specs.declared.alloc.Global.{Global}
use Rattle.serde_json.specs.Data.{Data, object, Members, no_members, member}
use Rattle.serde_json.specs.Find.{as_object, get_member}
use Rattle.serde_json.specs.View.{view}
use Rattle.wh_json.specs.Fields.{field, at_path, number_of, list_in}
use Rattle.wh_payload_metadata.specs.declared.header.Field.{Field}
use Rattle.wh_payload_metadata.specs.declared.header.Header.{Header}

-- a field that is set: the number of the event that set it, and its value
abbrev pub SetField : Type 0
SetField = ℕ × Data

-- the fields that are set, by their names
abbrev pub Fields : Type 0
Fields = List ℕ → Option SetField

unfoldable pub no_fields : Fields
no_fields = λ name. None

-- the attributes of the events that may bring a header: the start of a run, and a signal
unfoldable pub attributes_of : Data → Option Data
attributes_of event = option_or (field (codes "workflowExecutionStartedEventAttributes") (Some event))
    (field (codes "workflowExecutionSignaledEventAttributes") (Some event))

-- the fields of the header that an event brings
abbrev pub brought_fields : Data → Option Members
brought_fields event = option_and_then as_object (at_path (codes "header" ∷ codes "fields" ∷ []) (attributes_of event))

-- the value that an event brings for the field of this name
abbrev pub brought : List ℕ → Data → Option Data
brought name event = option_and_then (get_member name) (brought_fields event)

-- the number of an event; 0 if it has none
abbrev pub number_in : Data → ℕ
number_in event = unwrap_or (option_and_then number_of (field (codes "eventId") (Some event))) 0

-- the events of a history
abbrev pub events_in : Data → List Data
events_in history = unwrap_or (option_and_then list_in (field (codes "events") (Some history))) []

-- whether an event after that of this number set the field
abbrev pub is_set_later : Option SetField → ℕ → Bool
is_set_later None number = false
is_set_later (Some kept) number = nat_lt number kept.0

-- a field for which the event of this number may bring a value: that stays, unless a later event set the field
abbrev pub newest : Option SetField → ℕ → Option Data → Option SetField
newest kept number None = kept
newest kept number (Some value) = if is_set_later kept number then kept else Some (number, value)

-- the fields, of which one is brought by the event of this number
unfoldable pub field_set : ℕ → List ℕ → Data → Fields → Fields
field_set number name value fields = λ other. if bytes_eq name other then newest (fields other) number (Some value) else fields other

-- the fields, of which these are brought by the event of this number
unfoldable pub fields_set : ℕ → Members → Fields → Fields
fields_set number members fields = λ name. newest (fields name) number (get_member name members)

-- the fields after an event came
unfoldable pub fields_after_event : Data → Fields → Fields
fields_after_event event fields = λ name. newest (fields name) (number_in event) (brought name event)

-- the fields after events came, one after another
abbrev pub fields_after : List Data → Fields → Fields
fields_after [] fields = fields
fields_after (event ∷ rest) fields = fields_after rest (fields_after_event event fields)

-- ---- Fields of which only some were set, since there was no memory

-- each field is as it was, or as if all had been set
abbrev pub IsEachOldOrSet : (old set new : Fields) → Type 0
IsEachOldOrSet old set new = (name : List ℕ) → (new name ≡ old name) ⊎ (new name ≡ set name)

-- a field is as after some of the events, from the first one on
pub record IsAfterFirst (events : List Data) (old new : Fields) (name : List ℕ) : Type 0 where
  pub first : List Data
  pub rest : List Data
  pub are : events ≡ first ++ rest
  pub field : new name ≡ fields_after first old name

-- each field is as after some of the events, from the first one on, which may be more for one field than for another
abbrev pub IsEachAfterFirst : List Data → (old new : Fields) → Type 0
IsEachAfterFirst events old new = (name : List ℕ) → IsAfterFirst events old new name

-- ---- The header as it goes out

-- the members of an object that has a value for each entry
abbrev pub members_by : {X : Type 0} → (String Global × X → Data) → List (String Global × X) → Members
members_by value [] = no_members
members_by value (entry ∷ rest) = member (string_bytes entry.0) (value entry) (members_by value rest)

-- a field as it is kept
abbrev pub set_in : Field → SetField
set_in one = (one.number, view one.value)

-- the fields that are kept
unfoldable pub fields_of : Header → Fields
fields_of header = λ name. option_map set_in (get_by_text header.fields name)

-- the values of the fields that are kept
abbrev pub members_of : List (String Global × Field) → Members
members_of entries = members_by (λ entry. view entry.1.value) entries

-- a header of these fields, if there are any
abbrev pub with_fields : Members → Option Data
with_fields no_members = None
with_fields (member name d rest) = Some (object (member (codes "fields") (object (member name d rest)) no_members))

-- the header as it goes out, if a field is kept
abbrev pub header_of : Header → Option Data
header_of header = with_fields (members_of header.fields.entries)

-- the value of the field of this name in a header that goes out
abbrev pub value_in : List ℕ → Option Data → Option Data
value_in name header = option_and_then (get_member name) (option_and_then as_object (field (codes "fields") header))
