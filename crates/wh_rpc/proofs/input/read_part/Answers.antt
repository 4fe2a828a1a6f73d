use Rattle.std.proofs.Common.{subst}
use Rattle.wh_rpc.specs.Private.Input.{ReadsOn}
use Rattle.wh_rpc.proofs.Parts.{begun_more, line_read}
use Rattle.wh_rpc.proofs.input.read_part.Goals as goal

pub returns-then-branch-clause-bytes : goal.returns-then-branch-clause-bytes
returns-then-branch-clause-bytes g c =
    line_read _ _ _ _ _ c.loop.invariant (subst (ReadsOn _ _ _ _) c.if-branch.true c.in_ok-read_on.ensures)

pub loop-preserved : goal.loop-preserved
loop-preserved g c = begun_more _ _ _ _ _ c.loop.invariant (subst (ReadsOn _ _ _ _) c.if-branch.false c.in_ok-read_on.ensures)
