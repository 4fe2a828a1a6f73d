-- What is read from the JSON of an event that replay does not need.
use Rattle.std.specs.Prelude.{◌≡◌, ◌≤◌, ℕ, List, [], ◌∷◌, ◌++◌, codes, Bool, true, false, Option, Some, None, option_and_then, unwrap_or}
use Rattle.std.specs.List.{flat_map}
use Rattle.serde_json.specs.Data.{Data, Members, no_members, member, depth}
use Rattle.serde_json.specs.Find.{as_object}
use Rattle.serde_json.specs.Read.{read, max_depth}
use Rattle.serde_json.specs.Written.{has_float, compact_text}
use Rattle.wh_json.specs.Fields.{field, text_of, number_of, list_in}
use Rattle.wh_markers.specs.Payloads.{payload_list, payload_text}
use Rattle.wh_view.specs.Each.{Each, none, more}

-- the attempt in an event's attributes, 0 if they have none
abbrev pub attempt_of : Option Data → ℕ
attempt_of attributes = unwrap_or (option_and_then number_of (field (codes "attempt") attributes)) 0

-- the text, or the other one if it is empty
unfoldable pub first_text : List ℕ → List ℕ → List ℕ
first_text [] other = other
first_text (c ∷ cs) other = c ∷ cs

-- the message of the failure under a member's name
abbrev pub message_of : Option Data → List ℕ → List ℕ
message_of attributes name = text_of (field (codes "message") (field name attributes))

-- why something failed: the first of these texts that is not empty
abbrev pub failure_of : Option Data → List ℕ
failure_of attributes =
    first_text (message_of attributes (codes "failure"))
    (first_text (message_of attributes (codes "lastFailure"))
    (first_text (text_of (field (codes "reason") attributes)) (text_of (field (codes "cause") attributes))))

-- the duration of a timer
abbrev pub duration_of : Option Data → List ℕ
duration_of attributes = text_of (field (codes "startToFireTimeout") attributes)

-- a text is the JSON of a value: it reads back as the value, and has no spaces between its parts (if the value has a
-- float, only that it reads back is specified)
pub record IsJsonOf (d : Data) (text : List ℕ) : Type 0 where
  pub reads_back : depth d ≤ max_depth → read text ≡ Some d
  pub compact : has_float d ≡ false → text ≡ compact_text d

-- the text is the content, if there is one, or else the JSON of the value
abbrev pub IsTextOr : Option (List ℕ) → Data → List ℕ → Type 0
IsTextOr (Some content) d text = text ≡ content
IsTextOr None d text = IsJsonOf d text

-- a value as text: a shorthand is JSON, and so is what is no payload
abbrev pub IsValueOf : (shorthand : Bool) → Data → List ℕ → Type 0
IsValueOf true d text = IsJsonOf d text
IsValueOf false d text = IsTextOr (payload_text d) d text

-- the texts are the payloads of a list, if there is one, or else the value itself, as a payload
abbrev pub AreTheirs : Option (List Data) → Data → List (List ℕ) → Type 0
AreTheirs (Some ds) d texts = Each (λ _. IsValueOf false) 0 ds texts
AreTheirs None d texts = Each (λ _. IsValueOf false) 0 (d ∷ []) texts

-- the texts are the values under one name: a list of shorthands, a list of payloads, or one payload
abbrev pub AreNamedOr : Option (List Data) → Data → List (List ℕ) → Type 0
AreNamedOr (Some ds) d texts = Each (λ _. IsValueOf true) 0 ds texts
AreNamedOr None d texts = AreTheirs (payload_list d) d texts

-- a name, and each value after a space
abbrev pub named_text : List ℕ → List (List ℕ) → List ℕ
named_text name values = name ++ flat_map (λ value. codes " " ++ value) values

-- the text is the name and the values under it
pub record IsNamedText (name : List ℕ) (d : Data) (text : List ℕ) : Type 0 where
  pub values : List (List ℕ)
  pub are : AreNamedOr (list_in d) d values
  pub is : text ≡ named_text name values

-- the texts are the members of an object, one by one
abbrev pub AreMembers : Members → List (List ℕ) → Type 0
AreMembers no_members texts = texts ≡ []
AreMembers (member name d rest) [] = ⊥
AreMembers (member name d rest) (text ∷ texts) = IsNamedText name d text × AreMembers rest texts

-- the texts are the members of an object, if there is one, or else the value itself
abbrev pub AreMembersOr : Option Members → Data → List (List ℕ) → Type 0
AreMembersOr (Some members) d texts = AreMembers members texts
AreMembersOr None d texts = Each (λ _. IsJsonOf) 0 (d ∷ []) texts

-- the texts are the values of the list `payloads`, if there is one, or else the members of the value
abbrev pub ArePayloadsOr : Option (List Data) → Data → List (List ℕ) → Type 0
ArePayloadsOr (Some ds) d texts = Each (λ _. IsValueOf false) 0 ds texts
ArePayloadsOr None d texts = AreMembersOr (as_object d) d texts

-- the texts are the values of a list, or of the list `payloads` of an object
abbrev pub AreListedOr : Option (List Data) → Data → List (List ℕ) → Type 0
AreListedOr (Some ds) d texts = Each (λ _. IsValueOf true) 0 ds texts
AreListedOr None d texts = ArePayloadsOr (payload_list d) d texts

-- the texts are the values that a value holds
abbrev pub AreValuesIn : Data → List (List ℕ) → Type 0
AreValuesIn d texts = AreListedOr (list_in d) d texts

-- the texts are the values of an event, none if no member holds them
abbrev pub AreValuesOf : Option Data → List (List ℕ) → Type 0
AreValuesOf None texts = texts ≡ []
AreValuesOf (Some d) texts = AreValuesIn d texts
