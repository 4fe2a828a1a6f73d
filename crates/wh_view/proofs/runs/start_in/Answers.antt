use Rattle.std.proofs.Common.{◌≡◌, ℕ, ◌<◌, List, [], ◌∷◌, length, get_or, codes, Some, ap, ◌∙◌, arith}
use Rattle.std.specs.Prelude.{map}
use Rattle.serde_json.specs.View.{view}
use Rattle.serde_json.specs.declared.value.Value.{Value}
use Rattle.wh_json.specs.Fields.{field}
use Rattle.wh_view.specs.Runs.{start_in}
use Rattle.wh_view.proofs.runs.start_in.Goals as goal

-- the first of the values is that of the members
of_first : (vs : List Value) (v : Value) → 0 < length vs → v ≡ get_or vs 0 v
    → field (codes "workflowExecutionStartedEventAttributes") (Some (view v)) ≡ start_in (map view vs)
of_first [] v below is = absurd (omega arith)
of_first (w ∷ vs) v below is = ap (λ x. field (codes "workflowExecutionStartedEventAttributes") (Some (view x))) is

pub returns-in-len1-up : goal.returns-in-len1-up
returns-in-len1-up c = c.field.ensures ∙ of_first c.args.members.now c.first-item.result (omega arith) c.first-item.is
