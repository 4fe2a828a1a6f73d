use Rattle.std.proofs.Common.{take}
use Rattle.std.specs.Prelude.{map}
use Rattle.serde_json.specs.View.{view}
use Rattle.wh_view.specs.Details.{IsValueOf}
use Rattle.wh_view.specs.Each.{Each}
use Rattle.wh_view.proofs.details.value_texts.Given as goal

-- a text stands for each value so far
abbrev pub invariant-loop-value : goal.invariant-loop-value
invariant-loop-value l = Each (λ _. IsValueOf l.shorthand) 0 (map view (take l.value-index l.values)) l.texts.items
