-- JSON objects by their members.
use Rattle.std.specs.Prelude.{List, [], ◌∷◌, ℕ, Option, Some, None, bytes_eq, if◌then◌else◌}
use Rattle.serde_json.specs.Data.{Data, object, Members, no_members, put}

-- the members, with each of these values under its name
abbrev pub put_all : List (List ℕ × Data) → Members → Members
put_all [] members = members
put_all (m ∷ ms) members = put_all ms (put m.0 m.1 members)

-- the object with these members
abbrev pub object_of : List (List ℕ × Data) → Data
object_of ms = object (put_all ms no_members)

-- the members, with the value under the name, if there is one
abbrev pub with_member : List ℕ → Option Data → Members → Members
with_member name None members = members
with_member name (Some d) members = put name d members

-- the members, with each of these values that is present under its name
abbrev pub put_given : List (List ℕ × Option Data) → Members → Members
put_given [] members = members
put_given (m ∷ ms) members = put_given ms (with_member m.0 m.1 members)

-- the value, otherwise the one before
abbrev pub value_or : Option Data → Option Data → Option Data
value_or (Some d) before = Some d
value_or None before = before

-- the value under a name after these values were added, if it was this one before
abbrev pub found_at : List ℕ → List (List ℕ × Option Data) → Option Data → Option Data
found_at name [] before = before
found_at name (m ∷ ms) before = found_at name ms (if bytes_eq name m.0 then value_or m.1 before else before)
