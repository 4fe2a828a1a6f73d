use Rattle.std.proofs.Common.{◌≡◌, drop}
use Rattle.wh_row_rules.specs.Promises.{all_kept}
use Rattle.wh_row_rules.proofs.promises.all_kept.Given as goal

-- each so far is kept
abbrev pub invariant-loop-finding : goal.invariant-loop-finding
invariant-loop-finding l =
    all_kept (drop l.finding-index l.list) ≡ all_kept l.list
