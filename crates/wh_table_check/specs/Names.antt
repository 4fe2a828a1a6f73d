-- Where `@` may be an empty text.
use Rattle.std.specs.Prelude.{ℕ, Bool, ◌||◌, List, [], ◌∷◌, bytes_eq, codes, Option, Some, None, if◌then◌else◌}
use Rattle.std.specs.List.{list_any}
use Rattle.wh_rows.specs.declared.row.CommandTemplate.TheVariants as templates
use Rattle.wh_rows.specs.declared.row.Naming.TheVariants as namings
use Rattle.wh_rows.specs.Tables.{CommandTemplate, Naming, Row}
use Rattle.wh_rows.specs.Deciding.{text_of}
use Rattle.wh_table_check.specs.declared.finding.TableFinding.{TableFinding}
use Rattle.wh_table_check.specs.Findings.{finding_at}

-- why the name of a run is empty, or may be: the table names none, or has no other name for a payload that is not plain
abbrev pub empty_name_words : Naming → Option (List ℕ)
empty_name_words namings.Nameless = Some (codes "@ is empty, since the table has no member name")
empty_name_words (namings.ByPayload number prefix []) =
    Some (codes "@ may be empty, since the member name has no OTHER")
empty_name_words (namings.ByPayload number prefix (byte ∷ other)) = None

-- the text of a command that `@` may be: an id or a change
abbrev pub id_of : CommandTemplate → List ℕ
id_of (templates.StartActivity id activity source) = id
id_of (templates.CancelActivity id) = id
id_of (templates.StartTimer id seconds) = id
id_of (templates.CancelTimer id) = id
id_of (templates.StartChild id workflow source) = id
id_of (templates.CancelChild id) = id
id_of (templates.SignalExternal id signal source) = id
id_of (templates.Ask change least greatest) = change
id_of _ = []

-- it is the name of the run
abbrev pub is_named : CommandTemplate → Bool
is_named template = bytes_eq (id_of template) (codes "@")

-- the job of the row or one of its commands has the name of the run
abbrev pub says_name : Row → Bool
says_name row = bytes_eq (text_of row.job) (codes "@") || list_any is_named row.gives

-- the finding at a row, if there are words
abbrev pub finding_of : ℕ → Option (List ℕ) → List TableFinding
finding_of number None = []
finding_of number (Some words) = finding_at number words [] ∷ []

-- the warning for the row of this number: it has the name of the run, and that may be empty
abbrev pub nameless : Naming → ℕ → Row → List TableFinding
nameless naming number row = if says_name row then finding_of number (empty_name_words naming) else []
