use Rattle.wh_service.proofs.Made.{firsts_push, told_push}
use Rattle.wh_service.proofs.file_faults.split_faults.Goals as goal

-- what was made of one file more, and what is told of it, stands after that of those before it
pub loop-both-preserved : goal.loop-both-preserved
loop-both-preserved g c =
    let before = c.loop-both.yielded in
    let both = c.in-Some.both in
    record {
      made = firsts_push before both c.loop-both.made.items c.add_told.new.made.items c.in_ok-add_told.ensures.made c.loop-both.invariant.made;
      faults = told_push before both c.loop-both.faults.items c.add_told.new.faults.items c.in_ok-add_told.ensures.faults c.loop-both.invariant.faults;
    }
