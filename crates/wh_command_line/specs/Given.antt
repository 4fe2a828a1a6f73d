-- What the words of a subcommand give under names. `clap` puts them into rows.
use Rattle.std.specs.Prelude.{◌≡◌, ◌≢◌, ◌⊎◌, ℕ, ◌≤◌, Bool, true, false, List, [], ◌∷◌, codes, Option, Some, None, option_map}
use Rattle.std.specs.Str.Parse.{IsNumeral, digits_value, without_leading_plus}
use Rattle.clap.specs.Words.{Row, Text, all_of, first_of, one_of}
use Rattle.wh_console.specs.declared.format.Format.{Format}
use Rattle.wh_console.specs.declared.format.Format.TheVariants as formats

-- the rows give a text under a name
abbrev pub GivesText : Text → List Row → Text → Type 0
GivesText name rows text = first_of name rows ≡ Some text

-- the rows give no text under a name
abbrev pub LacksText : Text → List Row → Type 0
LacksText name rows = first_of name rows ≡ None

-- the rows give no text under a name, or an empty one
abbrev pub LacksName : Text → List Row → Type 0
LacksName name rows = LacksText name rows ⊎ GivesText name rows []

-- the rows give the folder
abbrev pub GivesFolder : List Row → Text → Type 0
GivesFolder rows dir = GivesText (codes "DIR") rows dir

-- the rows give the file
abbrev pub GivesFile : List Row → Text → Type 0
GivesFile rows file = GivesText (codes "FILE") rows file

-- the rows give these paths under the name `DIR`: the first, and the others in their order
pub record GivesPaths (rows : List Row) (dir : Text) (more : List Text) : Type 0 where
  pub gives_folder : GivesFolder rows dir
  pub gives_all : all_of (codes "DIR") rows ≡ Some (dir ∷ more)

-- the rows give more than one path
abbrev pub GivesMore : List Row → Type 0
GivesMore rows = (first : Text) × (more : List Text) × GivesPaths rows first more × (more ≢ [])

-- the rows give a flag: its row says whether it is set
pub record GivesFlag (name : Text) (rows : List Row) (flag : Bool) : Type 0 where
  pub absent : one_of name rows ≡ None → flag ≡ false
  pub set : one_of name rows ≡ Some (codes "true") → flag ≡ true
  pub unset : one_of name rows ≡ Some (codes "false") → flag ≡ false

-- the format is JSON
abbrev pub is_json : Format → Bool
is_json formats.Json = true
is_json formats.Text = false

-- the rows give the format: JSON if the flag for it is set, and text otherwise
abbrev pub GivesFormat : List Row → Format → Type 0
GivesFormat rows format = GivesFlag (codes "json") rows (is_json format)

-- the text is a number, which may begin with a plus sign
abbrev pub IsNumber : Text → Type 0
IsNumber text = IsNumeral 10 (without_leading_plus text)

-- the value of a number
abbrev pub value_of : Text → ℕ
value_of text = digits_value 10 (without_leading_plus text)

-- the number that the rows give under a name
abbrev pub value_named : List Row → Text → Option ℕ
value_named rows name = option_map value_of (first_of name rows)

-- the rows give a number under a name, within two bounds, which are included
pub record GivesWithin (rows : List Row) (name : Text) (least most : ℕ) : Type 0 where
  pub text : Text
  pub given : first_of name rows ≡ Some text
  pub number : IsNumber text
  pub at_least : least ≤ value_of text
  pub at_most : value_of text ≤ most

-- the rows give no text under a name, or a number within two bounds, which are included
abbrev pub MayGiveWithin : (rows : List Row) (name : Text) (least most : ℕ) → Type 0
MayGiveWithin rows name least most = LacksText name rows ⊎ GivesWithin rows name least most
