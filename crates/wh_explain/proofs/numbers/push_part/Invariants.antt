use Rattle.std.proofs.Common.{◌≡◌, ◌++◌, drop}
use Rattle.wh_explain.specs.Numbers.{numbers_by}
use Rattle.wh_explain.specs.Private.Numbers.{job_in}
use Rattle.wh_explain.proofs.numbers.push_part.Given as goal

-- the numbers so far, and those of the rest of the events, are those of all
abbrev pub invariant-loop-event : goal.invariant-loop-event
invariant-loop-event l =
    l.numbers.items ++ numbers_by (job_in l.part) (drop l.event-index l.between) ≡ l.fn.numbers.items ++ numbers_by (job_in l.part) l.between
