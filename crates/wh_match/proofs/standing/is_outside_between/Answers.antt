use Rattle.std.proofs.Common.{sym, ◌∙◌, arith}
use Rattle.wh_match.proofs.Outside.{none_before, none_after, found_between}
use Rattle.wh_match.proofs.standing.is_outside_between.Goals as goal

pub returns-then-number-previous : goal.returns-then-number-previous
returns-then-number-previous c = sym (none_before c.args.events.now c.args.previous c.args.cut c.args.number c.requires.placed c.if-number-previous.true)

pub returns-then-cut-number : goal.returns-then-cut-number
returns-then-cut-number c =
    let above = c.if-number-previous.false in
    sym (none_after c.args.events.now c.args.previous c.args.cut c.args.number c.requires.placed (omega arith) c.if-cut-number.true)

pub returns-else-cut-number : goal.returns-else-cut-number
returns-else-cut-number c =
    c.is_outside_at.ensures ∙ sym (found_between c.args.events.now c.args.previous c.args.cut c.args.number c.requires.placed c.if-number-previous.false c.if-cut-number.false)
