use Rattle.std.proofs.Common.{arith}
use Rattle.std.proofs.lemmas.Grind.{common_steps}
use Rattle.std.proofs.lemmas.Iterator.{YieldsList-from_chars, YieldsList-from_take}
use Rattle.std.proofs.lemmas.Iterator.Consumers.{YieldsList-end}
use Rattle.wh_view_json.proofs.Fronts.{whole_json}
use Rattle.wh_view_json.proofs.texts.write_json_text.Goals as goal

pub returns : goal.returns
returns g c = λ plain ok.
    let road = YieldsList-from_take {s = c.into_iter-c-iterator.result} 1_000 (YieldsList-from_chars c.args.text.now c.utf8.text cc) cc in
    let all = (YieldsList-end road c.loop-c.yielded c.loop-c.c-iterator c.loop-c.yielded_by c.next.result c.next.new.self c.in-None.is c.next.ensures.steps).0 in
    rw (← whole_json c.loop-c.yielded c.args.text.now all) (c.loop-c.invariant plain)

pub loop-c-preserved : goal.loop-c-preserved
loop-c-preserved g c = grind (arith, common_steps)
