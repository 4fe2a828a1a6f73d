-- Why a line is malformed: each reason by itself, and their order.
use Rattle.std.specs.Prelude.{◌≡◌, ◌≢◌, ◌↔◌, ◌<◌, ◌⊎◌, ℕ, List, length, codes, Some, None, Ok, Err, IsUtf8}
use Rattle.json.specs.Json.{Json, null, boolean, number, string, array, object, Items, no_items, item, Members, no_members, member}
use Rattle.serde_json.specs.Data.{Data}
use Rattle.serde_json.specs.Find.{get, as_object, as_str}
use Rattle.serde_json.specs.Read.{number_of, read}
use Rattle.wh_rpc.specs.declared.bad_line.BadLine.{BadLine}
use Rattle.wh_rpc.specs.declared.bad_line.BadLine.TheVariants as bad
use Rattle.wh_rpc.specs.Responses.{Meaning, code_of, id_of, json_of, message_of, longest, meaning}

-- a number of it, at any depth, is out of range
abbrev mutual
  pub HasLarge : Json → Type 0
  HasLarge null = ⊥
  HasLarge (boolean b) = ⊥
  HasLarge (number text) = number_of text ≡ None
  HasLarge (string text) = ⊥
  HasLarge (array items) = ItemsHaveLarge items
  HasLarge (object members) = MembersHaveLarge members

  pub ItemsHaveLarge : Items → Type 0
  ItemsHaveLarge no_items = ⊥
  ItemsHaveLarge (item j items) = HasLarge j ⊎ ItemsHaveLarge items

  pub MembersHaveLarge : Members → Type 0
  MembersHaveLarge no_members = ⊥
  MembersHaveLarge (member name j members) = HasLarge j ⊎ MembersHaveLarge members

-- without a method the line has to be a response
abbrev pub HasNoMethod : Data → Type 0
HasNoMethod d = get (codes "method") d ≡ None

-- the value of the line has this fault
abbrev pub IsFaulty : BadLine → Data → Type 0
IsFaulty bad.TooLong d = ⊥
IsFaulty bad.NotUtf8 d = ⊥
IsFaulty bad.NotJson d = ⊥
IsFaulty bad.NumberOutOfRange d = ⊥
IsFaulty bad.NotObject d = as_object d ≡ None
IsFaulty bad.NotResponse d =
    (method : Data) × (get (codes "method") d ≡ Some method) × (as_str method ≢ Some (codes "shutdown"))
IsFaulty bad.TwoOutcomes d = HasNoMethod d × (get (codes "result") d ≢ None) × (get (codes "error") d ≢ None)
IsFaulty bad.BadId d = HasNoMethod d × (id_of d ≡ None)
IsFaulty bad.NoOutcome d = HasNoMethod d × (get (codes "result") d ≡ None) × (get (codes "error") d ≡ None)
IsFaulty bad.BadError d = HasNoMethod d
    × ((error : Data) × (get (codes "error") d ≡ Some error) × ((code_of error ≡ None) ⊎ (message_of error ≡ None)))
IsFaulty bad.OutOfMemory d = ⊥

-- the line parses as a value with this fault
abbrev pub HasFault : BadLine → List ℕ → Type 0
HasFault reason bytes = (d : Data) × (read bytes ≡ Some d) × IsFaulty reason d

-- the reason applies to the line, whether or not others do
abbrev pub Applies : BadLine → List ℕ → Type 0
Applies bad.TooLong bytes = longest < length bytes
Applies bad.NotUtf8 bytes = ¬ IsUtf8 bytes
Applies bad.NotJson bytes = json_of bytes ≡ None
Applies bad.NumberOutOfRange bytes = (j : Json) × (json_of bytes ≡ Some j) × HasLarge j
Applies reason bytes = HasFault reason bytes

-- the order of the reasons
abbrev pub rank : BadLine → ℕ
rank bad.TooLong = 0
rank bad.NotUtf8 = 1
rank bad.NotJson = 2
rank bad.NumberOutOfRange = 3
rank bad.NotObject = 4
rank bad.NotResponse = 5
rank bad.TwoOutcomes = 6
rank bad.BadId = 7
rank bad.NoOutcome = 8
rank bad.BadError = 9
rank bad.OutOfMemory = 10

-- the reason applies, and none that comes before it
pub record IsFirst (reason : BadLine) (bytes : List ℕ) : Type 0 where
  pub applies : Applies reason bytes
  pub first : (other : BadLine) → rank other < rank reason → ¬ Applies other bytes

-- a line is malformed for the first reason that applies to it
abbrev pub ReasonsComeInOrder : Type 0
ReasonsComeInOrder = (bytes : List ℕ) (reason : BadLine) → (meaning bytes ≡ Err reason) ↔ IsFirst reason bytes

-- no reason applies to a line that says something
abbrev pub MeaningsHaveNoFault : Type 0
MeaningsHaveNoFault =
    (bytes : List ℕ) (said : Meaning) (reason : BadLine) → meaning bytes ≡ Ok said → ¬ Applies reason bytes
