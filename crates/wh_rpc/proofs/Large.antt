-- JSON without a value has a number that is out of range.
use Rattle.std.proofs.Common.{◌≡◌, ◌≢◌, ◌⊎◌, ℕ, List, Option, Some, None, option_map, refl, sym, ap, inl, inr}
use Rattle.std.proofs.lemmas.Option.{none-some}
use Rattle.std.specs.Prelude.{option_and_then}
use Rattle.json.specs.Json.{Json, null, boolean, number, string, array, object, Items, no_items, item, Members, no_members, member}
use Rattle.serde_json.specs.Data as value
use Rattle.serde_json.specs.Data.{Data, put}
use Rattle.serde_json.specs.Read.{number_of, of_json, of_items, of_members, read}
use Rattle.wh_rpc.specs.Reasons.{HasLarge, ItemsHaveLarge, MembersHaveLarge}
use Rattle.wh_rpc.specs.Responses.{json_of}

-- ---- Without a value

none_mapped : {A B : Type 0} (f : A → B) (o : Option A) → option_map f o ≡ None → o ≡ None
none_mapped f None e = refl
none_mapped f (Some x) e = absurd (none-some (f x) (sym e))

either_part : {A B P Q : Type 0} (f : A → Option B) (o : Option A) → (o ≡ None → P) → ((x : A) → f x ≡ None → Q)
    → option_and_then f o ≡ None → P ⊎ Q
either_part f None without within none = inl (without refl)
either_part f (Some x) without within none = inr (within x none)

mutual
  pub large_of : (j : Json) → of_json j ≡ None → HasLarge j
  large_of null none = absurd (none-some value.null (sym none))
  large_of (boolean b) none = absurd (none-some (value.boolean b) (sym none))
  large_of (number text) none = none_mapped value.number (number_of text) none
  large_of (string text) none = absurd (none-some (value.string text) (sym none))
  large_of (array items) none = large_items items (none_mapped value.array (of_items items) none)
  large_of (object members) none =
      large_members members value.no_members (none_mapped value.object (of_members members value.no_members) none)

  large_items : (items : Items) → of_items items ≡ None → ItemsHaveLarge items
  large_items no_items none = absurd (none-some value.no_items (sym none))
  large_items (item j items) none =
      either_part (λ d. option_map (value.item d) (of_items items)) (of_json j) (λ is. large_of j is)
      (λ d none. large_items items (none_mapped (value.item d) (of_items items) none)) none

  large_members : (members : Members) (found : value.Members) → of_members members found ≡ None → MembersHaveLarge members
  large_members no_members found none = absurd (none-some found (sym none))
  large_members (member name j members) found none =
      either_part (λ d. of_members members (put name d found)) (of_json j) (λ is. large_of j is)
      (λ d none. large_members members (put name d found) none) none

-- ---- With a number that is out of range

none_then : {A B : Type 0} (f : A → Option B) (o : Option A) → o ≡ None → option_and_then f o ≡ None
none_then f None e = refl
none_then f (Some x) e = absurd (none-some x (sym e))

then_none : {A B : Type 0} (f : A → Option B) (o : Option A) → ((x : A) → f x ≡ None) → option_and_then f o ≡ None
then_none f None each = refl
then_none f (Some x) each = each x

mutual
  pub no_value_of : (j : Json) → HasLarge j → of_json j ≡ None
  no_value_of null large = absurd large
  no_value_of (boolean b) large = absurd large
  no_value_of (number text) large = ap (option_map value.number) large
  no_value_of (string text) large = absurd large
  no_value_of (array items) large = ap (option_map value.array) (no_items_of items large)
  no_value_of (object members) large = ap (option_map value.object) (no_members_of members value.no_members large)

  no_items_of : (items : Items) → ItemsHaveLarge items → of_items items ≡ None
  no_items_of no_items large = absurd large
  no_items_of (item j items) (inl large) = none_then (λ d. option_map (value.item d) (of_items items)) (of_json j) (no_value_of j large)
  no_items_of (item j items) (inr large) =
      then_none (λ d. option_map (value.item d) (of_items items)) (of_json j) (λ d. ap (option_map (value.item d)) (no_items_of items large))

  no_members_of : (members : Members) (found : value.Members) → MembersHaveLarge members → of_members members found ≡ None
  no_members_of no_members found large = absurd large
  no_members_of (member name j members) found (inl large) =
      none_then (λ d. of_members members (put name d found)) (of_json j) (no_value_of j large)
  no_members_of (member name j members) found (inr large) =
      then_none (λ d. of_members members (put name d found)) (of_json j) (λ d. no_members_of members (put name d found) large)

-- ---- Texts

-- a text with a value is JSON
json_there : (o : Option Json) (d : Data) → option_and_then of_json o ≡ Some d → o ≢ None
json_there None d is none = none-some d is
json_there (Some j) d is none = none-some j (sym none)

pub read_is_json : (text : List ℕ) (d : Data) → read text ≡ Some d → json_of text ≢ None
read_is_json text d is = json_there (json_of text) d is

-- a text that is no JSON has no value
pub no_json : (text : List ℕ) → json_of text ≡ None → read text ≡ None
no_json text none = none_then of_json (json_of text) none

pub read_of : (text : List ℕ) (j : Json) → json_of text ≡ Some j → read text ≡ of_json j
read_of text j is = ap (option_and_then of_json) is
