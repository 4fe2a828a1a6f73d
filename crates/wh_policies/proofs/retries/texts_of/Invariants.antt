use Rattle.std.proofs.Common.{ℕ, List, ◌++◌, drop}
use Rattle.toml.specs.View.{items_view}
use Rattle.wh_policies.specs.Retries.{AreTexts}
use Rattle.wh_policies.proofs.retries.texts_of.Given as goal

-- the texts so far, with those of what is left, are those of all
abbrev pub invariant-loop-value : goal.invariant-loop-value
invariant-loop-value l =
    (more : List (List ℕ)) → AreTexts (items_view (drop l.value-index l.values.items)) more
    → AreTexts (items_view l.values.items) (l.texts.items ++ more)
