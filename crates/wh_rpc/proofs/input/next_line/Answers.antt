use Rattle.std.proofs.Common.{◌≡◌, ◌<◌, length, arith}
use Rattle.wh_rpc.proofs.LineEnds.{if_some, line_is_next, nothing_next}
use Rattle.wh_rpc.proofs.Parts.{left_after}
use Rattle.wh_rpc.proofs.input.next_line.Goals as goal

pub returns-then-is_empty-clause-line : goal.returns-then-is_empty-clause-line
returns-then-is_empty-clause-line g c =
    let line = c.in_ok-line.line in
    let none : length line.items ≡ 0 = grind (arith, line.ok.0, c.is_empty.ensures, c.if-is_empty.true) in
    if_some (g.B.Read.remaining c.args.input.now) (λ bytes is. nothing_next line.items bytes none is) c.in_ok-line.ensures.bytes

pub returns-clause-line : goal.returns-clause-line
returns-clause-line g c =
    let line = c.in_ok-line.line in
    let some : 0 < length line.items = grind (arith, line.ok.0, c.is_empty.ensures, c.if-is_empty.false) in
    if_some (g.B.Read.remaining c.args.input.now) (λ bytes is. line_is_next _ line.items bytes c.without_end.ensures is some) c.in_ok-line.ensures.bytes

pub returns-clause-left : goal.returns-clause-left
returns-clause-left g c = left_after _ _ _ c.in_ok-line.ensures.left c.in_ok-line.ensures.bytes
