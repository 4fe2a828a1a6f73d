use Rattle.std.proofs.Common.{◌≡◌, ◌++◌, ◌∷◌, [], arith, rules}
use Rattle.std.proofs.lemmas.Grind.{common_steps}
use Rattle.wh_recorded.proofs.Parting.{part_goes_on, part_within}
use Rattle.wh_recorded.proofs.script_source.copy_between.Goals as goal

pub loop-place-preserved : goal.loop-place-preserved
loop-place-preserved c =
    let pushed : c.push_copy.new.copies.items ≡ c.loop-place.copies.items ++ c.index-events-place.result ∷ [] = first_of (search rules, grind (arith, common_steps)) in
    part_goes_on c.loop-place.copies.items c.push_copy.new.copies.items _ c.args.events.now c.index-events-place.result c.loop-place.place c.min-stop.result (omega arith) (omega arith) pushed c.index-events-place.is c.loop-place.invariant

pub returns : goal.returns
returns c =
    let whole = part_within c.args.events.now c.args.begin c.args.end in
    grind (arith, common_steps)
