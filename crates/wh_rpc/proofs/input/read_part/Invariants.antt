use Rattle.wh_rpc.proofs.Parts.{Begun}
use Rattle.wh_rpc.proofs.input.read_part.Given as goal

-- what was taken out of the input is the line so far, and it has no end
abbrev pub invariant-loop : goal.invariant-loop
invariant-loop g l = Begun (g.B.Read.remaining l.initial.input) (g.B.Read.remaining l.input) l.line.items
