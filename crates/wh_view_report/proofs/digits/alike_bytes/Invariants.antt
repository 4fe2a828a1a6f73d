use Rattle.std.proofs.Common.{◌≡◌, ◌≤◌, length}
use Rattle.wh_view_report.proofs.Plain.{same_from}
use Rattle.wh_view_report.proofs.digits.alike_bytes.Given as goal

-- what is left of both texts is compared
abbrev pub invariant-loop-byte : goal.invariant-loop-byte
invariant-loop-byte l =
    (l.at ≤ length l.other) × (same_from l.one l.byte-index l.other l.at ≡ same_from l.one 0 l.other 0)
