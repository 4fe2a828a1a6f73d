use Rattle.std.proofs.Common.{rules}
use Rattle.std.proofs.lemmas.Option.{slice_get_within}
use Rattle.wh_host.proofs.Keeps.{AllMarked-length, finish_at, finish_activity_at}
use Rattle.wh_host.proofs.state.HostState.finish.Goals as goal

pub index_mut-requires : goal.index_mut-requires
index_mut-requires g c =
    let within = slice_get_within c.self.inside.workflow.places c.in-Some.at _ c.in-Some.ensures.found.here in
    let same = AllMarked-length _ _ c.self.invariant.marked in
    search rules

pub invariant_of-self-in-Workflow : goal.invariant_of-self-in-Workflow
invariant_of-self-in-Workflow g c =
    rw (c.take.ensures.after, c.count_outcome.ensures.books) (finish_at g.W.Workflow.program _ c.self.invariant c.free.new.self _ c.in-Some.at c.args.outcome c.in_ok-free-in-Workflow.ensures.freed c.in-Some.ensures.found)

pub invariant_of-self-in-Activity : goal.invariant_of-self-in-Activity
invariant_of-self-in-Activity g c =
    rw c.count_outcome-in-Activity.ensures.books (finish_activity_at g.W.Workflow.program _ c.self.invariant c.free-in-Activity.new.self _ c.args.outcome c.in_ok-free-in-Activity.ensures.freed)
