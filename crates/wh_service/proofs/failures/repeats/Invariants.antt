use Rattle.std.proofs.Common.{◌≡◌, ◌+◌, drop}
use Rattle.wh_service.specs.Repeats.{repeats}
use Rattle.wh_service.proofs.failures.repeats.Given as goal

-- those so far repeat it, and the others are to be counted
abbrev pub invariant-loop-next : goal.invariant-loop-next
invariant-loop-next l = record {
  counted : l.count ≡ l.next-index;
  left : repeats l.one (drop l.next-index l.after) + l.count ≡ repeats l.one l.after;
}
