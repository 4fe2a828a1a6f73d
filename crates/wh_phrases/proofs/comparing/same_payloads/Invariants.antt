use Rattle.std.proofs.Common.{◌≡◌, length, drop}
use Rattle.std.specs.Cmp.Lexicographic.{pointwise}
use Rattle.wh_phrases.specs.Values.{same_payload}
use Rattle.wh_phrases.proofs.comparing.same_payloads.Given as goal

-- those so far are the same
abbrev pub invariant-loop-index : goal.invariant-loop-index
invariant-loop-index l =
    (length l.one ≡ length l.other)
    × (pointwise same_payload (drop l.index l.one) (drop l.index l.other) ≡ pointwise same_payload l.one l.other)
