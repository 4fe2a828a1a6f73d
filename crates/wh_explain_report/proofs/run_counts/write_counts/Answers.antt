use Rattle.std.proofs.Common.{[], ◌∷◌}
use Rattle.std.specs.Prelude.{codes}
use Rattle.wh_explain_report.proofs.Counted.{counted, counted_last}
use Rattle.wh_explain_report.proofs.run_counts.write_counts.Goals as goal

-- the numbers are written one after the other
pub returns : goal.returns
returns g c =
    let at = g.O.Write.contents in
    let statuses = c.args.statuses.now in
    let running = codes "running" ∷ [] in
    let continued = codes "continued as new" ∷ running in
    let timed_out = codes "timed out" ∷ continued in
    let terminated = codes "terminated" ∷ timed_out in
    let canceled = codes "canceled" ∷ terminated in
    let failed = codes "failed" ∷ canceled in
    let end = at c.write_count-7.new.writer in
    counted (codes ": ") c.in_ok-second.second.now (codes "completed") failed statuses (at c.args.writer.now) (at c.write_count.new.writer) end c.in_ok-second.ensures.written c.in_ok-second.ensures.next
    (counted c.in_ok-second.second.now c.in_ok-third.third.now (codes "failed") canceled statuses (at c.write_count.new.writer) (at c.write_count-2.new.writer) end c.in_ok-third.ensures.written c.in_ok-third.ensures.next
    (counted c.in_ok-third.third.now c.in_ok-fourth.fourth.now (codes "canceled") terminated statuses (at c.write_count-2.new.writer) (at c.write_count-3.new.writer) end c.in_ok-fourth.ensures.written c.in_ok-fourth.ensures.next
    (counted c.in_ok-fourth.fourth.now c.in_ok-fifth.fifth.now (codes "terminated") timed_out statuses (at c.write_count-3.new.writer) (at c.write_count-4.new.writer) end c.in_ok-fifth.ensures.written c.in_ok-fifth.ensures.next
    (counted c.in_ok-fifth.fifth.now c.in_ok-sixth.sixth.now (codes "timed out") continued statuses (at c.write_count-4.new.writer) (at c.write_count-5.new.writer) end c.in_ok-sixth.ensures.written c.in_ok-sixth.ensures.next
    (counted c.in_ok-sixth.sixth.now c.in_ok-seventh.seventh.now (codes "continued as new") running statuses (at c.write_count-5.new.writer) (at c.write_count-6.new.writer) end c.in_ok-seventh.ensures.written c.in_ok-seventh.ensures.next
    (counted_last c.in_ok-seventh.seventh.now (codes "running") statuses (at c.write_count-6.new.writer) end c.in_ok-write_count.ensures.written))))))
