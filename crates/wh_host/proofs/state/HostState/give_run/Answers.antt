use Rattle.std.proofs.lemmas.Grind.{common_steps}
use Rattle.std.proofs.Common.{arith}
use Rattle.std.proofs.lemmas.Option.{slice_get_within}
use Rattle.wh_host.proofs.Keeps.{AllMarked-length}
use Rattle.wh_host.proofs.state.HostState.give_run.Goals as goal

pub mark_of-requires : goal.mark_of-requires
mark_of-requires g c =
    let within = slice_get_within c.self.inside.workflow.places c.in-Some.at _ c.in-Some.ensures.found.here in
    let same = AllMarked-length _ _ c.self.invariant.marked in
    let value = c.as_slice.ensures.value in
    rw value (omega (arith, within, same))

pub invariant_of-self : goal.invariant_of-self
invariant_of-self g c = grind (arith, common_steps)

pub returns : goal.returns
returns g c = grind (arith, common_steps)

pub returns-in_default : goal.returns-in_default
returns-in_default g c = grind (arith, common_steps)

pub returns-in_default-mark_of : goal.returns-in_default-mark_of
returns-in_default-mark_of g c = grind (arith, common_steps)

pub returns-then-evicted : goal.returns-then-evicted
returns-then-evicted g c = grind (arith, common_steps)
