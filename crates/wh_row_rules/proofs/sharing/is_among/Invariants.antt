use Rattle.std.proofs.Common.{◌≡◌, drop, map}
use Rattle.wh_rows.specs.Deciding.{is_among}
use Rattle.wh_row_rules.proofs.sharing.is_among.Given as goal

-- none of the patterns passed so far is for each of its jobs
abbrev pub invariant-loop-other : goal.invariant-loop-other
invariant-loop-other l =
    is_among l.one (map (λ pattern. pattern.now) (drop l.other-index l.patterns))
    ≡ is_among l.one (map (λ pattern. pattern.now) l.patterns)
