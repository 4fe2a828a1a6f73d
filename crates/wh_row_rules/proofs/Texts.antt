-- Rows that own their texts are seen as they are.
use Rattle.std.proofs.Common.{◌≡◌, List, [], ◌∷◌, map, refl, ap, ◌∙◌}
use Rattle.wh_rows.specs.declared.row.JobPattern.TheVariants as patterns
use Rattle.wh_rows.specs.declared.row.CommandTemplate.TheVariants as templates
use Rattle.wh_rows.specs.declared.row.Naming.TheVariants as namings
use Rattle.wh_rows.specs.Tables.{JobPattern, CommandTemplate, Naming, Row, pattern_by, template_by, naming_by, row_by, rows_by}

pattern_same : (one : JobPattern) → pattern_by (λ text. text) one ≡ one
pattern_same patterns.Start = refl
pattern_same (patterns.Signal _) = refl
pattern_same patterns.CancelRequested = refl
pattern_same (patterns.Done _) = refl
pattern_same (patterns.NotDone _) = refl
pattern_same (patterns.Fired _) = refl
pattern_same (patterns.ChildStarted _) = refl
pattern_same (patterns.ChildDone _) = refl
pattern_same (patterns.ChildCanceled _) = refl
pattern_same (patterns.ChildNotDone _) = refl
pattern_same (patterns.Version _ _) = refl
pattern_same (patterns.AnyVersion _) = refl

pub template_same : (one : CommandTemplate) → template_by (λ text. text) one ≡ one
template_same (templates.StartActivity _ _ _) = refl
template_same (templates.CancelActivity _) = refl
template_same (templates.StartTimer _ _) = refl
template_same (templates.CancelTimer _) = refl
template_same (templates.StartChild _ _ _) = refl
template_same (templates.CancelChild _) = refl
template_same (templates.SignalExternal _ _ _) = refl
template_same (templates.Ask _ _ _) = refl
template_same (templates.Complete _) = refl
template_same (templates.Fail _) = refl
template_same templates.Cancel = refl
template_same (templates.ContinueAsNew _ _) = refl

pub naming_same : (one : Naming) → naming_by (λ text. text) one ≡ one
naming_same namings.Nameless = refl
naming_same (namings.ByPayload _ _ _) = refl

pub gives_same : (gives : List CommandTemplate) → map (template_by (λ text. text)) gives ≡ gives
gives_same [] = refl
gives_same (one ∷ rest) =
    ap (λ first. first ∷ map (template_by (λ text. text)) rest) (template_same one)
    ∙ ap (λ more. one ∷ more) (gives_same rest)

row_same : (row : Row) → row_by (λ text. text) (λ list. list) (λ list. list) (λ list. list) row ≡ row
row_same row =
    ap (λ job. record row { job = job; gives = map (template_by (λ text. text)) row.gives }) (pattern_same row.job)
    ∙ ap (λ gives. record row { gives = gives }) (gives_same row.gives)

pub rows_same : (rows : List Row) → rows_by (λ text. text) (λ list. list) (λ list. list) (λ list. list) rows ≡ rows
rows_same [] = refl
rows_same (row ∷ rest) =
    ap (λ first. first ∷ rows_by (λ text. text) (λ list. list) (λ list. list) (λ list. list) rest) (row_same row)
    ∙ ap (λ more. row ∷ more) (rows_same rest)
