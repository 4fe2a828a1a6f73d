-- The attributes of an event, whatever its type: Temporal's JSON has them in a member whose name says the type.
use Rattle.std.specs.Prelude.{ℕ, List, codes, Bool, nat_eq, Option, Some, None, option_and_then, if◌then◌else◌}
use Rattle.std.specs.List.{ends_with}
use Rattle.serde_json.specs.Data.{Data, Members, no_members, member}
use Rattle.serde_json.specs.Find.{as_object}
use Rattle.wh_json.specs.Fields.{field, text_of}
use Rattle.wh_json.specs.Partial.{attributes_in}

-- a member of this name holds the attributes of an event
abbrev pub holds_attributes : List ℕ → Bool
holds_attributes name = ends_with nat_eq name (codes "EventAttributes")

-- the first of the members that holds attributes
abbrev pub attributes_among : Members → Option Data
attributes_among no_members = None
attributes_among (member name d rest) = if holds_attributes name then Some d else attributes_among rest

-- the value, if there is one, or else the other
abbrev pub or_other : Option Data → Option Data → Option Data
or_other (Some d) other = Some d
or_other None other = other

-- the attributes of an event: those of its type if the reader reads it, or else the first member that holds attributes
abbrev pub attributes_of : Data → Option Data
attributes_of d = or_other (attributes_in d) (option_and_then attributes_among (as_object d))

-- the member with a name of the member with another
unfoldable pub inner : (outer name : List ℕ) → Option Data → Option Data
inner outer name value = field name (field outer value)

-- the text that the member with a name is, and that a member of a member is; empty if absent, or none
unfoldable pub text : List ℕ → Option Data → List ℕ
text name value = text_of (field name value)

unfoldable pub inner_text : (outer name : List ℕ) → Option Data → List ℕ
inner_text outer name value = text_of (inner outer name value)
