-- What the payloads in the details of a marker hold, as far as that is a word of JSON.
use Rattle.std.specs.Prelude.{ℕ, ℤ, List, [], ◌∷◌, Bool, Option, Some, None, option_and_then}
use Rattle.std.specs.Result.{result_ok}
use Rattle.serde_json.specs.Data.{Data}
use Rattle.serde_json.specs.Find.{as_str, as_number, as_i64, as_bool}
use Rattle.wh_json.specs.Events.{document_within}
use Rattle.wh_json.specs.Fields.{field, list_in}
use Rattle.wh_markers.specs.Payloads.{decoded_text, payload_list}
use Rattle.wh_markers.specs.declared.scalars.Scalar.{Scalar}
use Rattle.wh_markers.specs.declared.scalars.Scalar.TheVariants.{Word, Number, Flag, Nothing}

-- a whole number, or else a truth value
abbrev pub plain_scalar : Option ℤ → Option Bool → Scalar
plain_scalar (Some number) flag = Number number
plain_scalar None (Some flag) = Flag flag
plain_scalar None None = Nothing

-- a text, or else one of these
abbrev pub text_or : Option (List ℕ) → Option ℤ → Option Bool → Scalar
text_or (Some text) number flag = Word text
text_or None number flag = plain_scalar number flag

-- what a value of JSON is
abbrev pub scalar_of : Data → Scalar
scalar_of d = text_or (as_str d) (option_and_then as_i64 (as_number d)) (as_bool d)

-- the member of a value with the name, or the value itself if the name is empty
abbrev pub member_of : List ℕ → Data → Option Data
member_of [] d = Some d
member_of (c ∷ cs) d = field (c ∷ cs) (Some d)

abbrev pub scalar_or_nothing : Option Data → Scalar
scalar_or_nothing None = Nothing
scalar_or_nothing (Some d) = scalar_of d

-- what a value is, or its member with the name
abbrev pub scalar_in : (member : List ℕ) → Data → Scalar
scalar_in member d = scalar_or_nothing (member_of member d)

abbrev pub scalar_held : (member : List ℕ) → Option Data → Scalar
scalar_held member None = Nothing
scalar_held member (Some d) = scalar_in member d

-- the JSON value that a payload holds, if it holds one
abbrev pub held_value : Data → Option Data
held_value payload = option_and_then (λ text. result_ok (document_within text)) (decoded_text payload)

-- the first of some values
abbrev pub first_of : List Data → Option Data
first_of [] = None
first_of (d ∷ ds) = Some d

-- the first payload of a list, or else the value itself
abbrev pub payload_or : Option (List Data) → Data → Option Data
payload_or (Some payloads) d = first_of payloads
payload_or None d = Some d

abbrev pub payload_in : Data → Option Data
payload_in d = payload_or (payload_list d) d

-- the first value of a list, which stands for payloads in shorthand, or else what the first payload holds
abbrev pub value_or : Option (List Data) → Data → Option Data
value_or (Some values) d = first_of values
value_or None d = option_and_then held_value (payload_in d)

-- the JSON value of one of the details of a marker
abbrev pub detail_value : Data → Option Data
detail_value d = value_or (list_in d) d

abbrev pub scalar_under : (member : List ℕ) → Option Data → Scalar
scalar_under member None = Nothing
scalar_under member (Some d) = scalar_held member (detail_value d)

-- what the value of the detail with the key is, or the member of that value with the name; nothing if the key is empty
abbrev pub scalar_at : (detail member : List ℕ) → Data → Scalar
scalar_at [] member details = Nothing
scalar_at (c ∷ cs) member details = scalar_under member (field (c ∷ cs) (Some details))
