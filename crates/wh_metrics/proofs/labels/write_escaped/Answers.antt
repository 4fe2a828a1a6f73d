use Rattle.std.proofs.Common.{arith}
use Rattle.std.proofs.lemmas.Grind.{common_steps}
use Rattle.std.proofs.lemmas.Iterator.{YieldsList-from_chars}
use Rattle.std.proofs.lemmas.Iterator.Consumers.{YieldsList-end}
use Rattle.wh_metrics.proofs.Escaping.{whole}
use Rattle.wh_metrics.proofs.labels.write_escaped.Goals as goal

pub returns : goal.returns
returns g c = λ plain ok.
    let road = YieldsList-from_chars c.args.text.now c.utf8.text cc in
    let all = (YieldsList-end road c.loop-c.yielded c.loop-c.c-iterator c.loop-c.yielded_by c.next.result c.next.new.self c.in-None.is c.next.ensures.steps).0 in
    rw (← whole c.loop-c.yielded c.args.text.now all) (c.loop-c.invariant plain)

pub loop-c-preserved : goal.loop-c-preserved
loop-c-preserved g c = grind (arith, common_steps)
