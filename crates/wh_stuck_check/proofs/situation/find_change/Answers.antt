use Rattle.std.proofs.Common.{◌≤◌, ◌<◌, length, map, ap, sym, ◌∙◌, arith}
use Rattle.std.proofs.lemmas.List.{length-map}
use Rattle.wh_stuck_check.specs.Private.Seen.{change_seen, name_seen, place_named}
use Rattle.wh_stuck_check.proofs.Changing.{at_place, named_at, named_nowhere, set_place, keeps_place, past_place}
use Rattle.wh_stuck_check.proofs.situation.find_change.Goals as goal

pub returns-then-names-place-clause-things : goal.returns-then-names-place-clause-things
returns-then-names-place-clause-things c =
    let past : length (map name_seen c.args.names.now) ≤ place_named c.args.thing c.args.id.now (map name_seen c.args.names.now) =
    omega (arith, length-map c.args.names.now name_seen, c.place_of-place.ensures) in
    sym (named_nowhere (change_seen c.args.change c.args.thing) c.args.thing c.args.id.now (map name_seen c.args.names.now) c.args.things.now past)

pub returns-then-things-place-clause-things : goal.returns-then-things-place-clause-things
returns-then-things-place-clause-things c =
    let within : place_named c.args.thing c.args.id.now (map name_seen c.args.names.now) < length (map name_seen c.args.names.now) =
    omega (arith, length-map c.args.names.now name_seen, c.place_of-place.ensures) in
    sym
    (named_at (change_seen c.args.change c.args.thing) c.args.thing c.args.id.now (map name_seen c.args.names.now) c.args.things.now within
    ∙ ap (at_place (change_seen c.args.change c.args.thing) c.args.things.now) (sym c.place_of-place.ensures)
    ∙ past_place (change_seen c.args.change c.args.thing) c.args.things.now c.place_of-place.result (omega arith))

pub returns-in-Some-clause-things : goal.returns-in-Some-clause-things
returns-in-Some-clause-things c =
    let within : place_named c.args.thing c.args.id.now (map name_seen c.args.names.now) < length (map name_seen c.args.names.now) =
    omega (arith, length-map c.args.names.now name_seen, c.place_of-place.ensures) in
    sym
    (named_at (change_seen c.args.change c.args.thing) c.args.thing c.args.id.now (map name_seen c.args.names.now) c.args.things.now within
    ∙ ap (at_place (change_seen c.args.change c.args.thing) c.args.things.now) (sym c.place_of-place.ensures)
    ∙ set_place (change_seen c.args.change c.args.thing) c.args.things.now c.place_of-place.result _ c.in-Some.state (omega arith)
    (sym c.in-Some.ensures))

pub returns-in-None-clause-things : goal.returns-in-None-clause-things
returns-in-None-clause-things c =
    let within : place_named c.args.thing c.args.id.now (map name_seen c.args.names.now) < length (map name_seen c.args.names.now) =
    omega (arith, length-map c.args.names.now name_seen, c.place_of-place.ensures) in
    sym
    (named_at (change_seen c.args.change c.args.thing) c.args.thing c.args.id.now (map name_seen c.args.names.now) c.args.things.now within
    ∙ ap (at_place (change_seen c.args.change c.args.thing) c.args.things.now) (sym c.place_of-place.ensures)
    ∙ keeps_place (change_seen c.args.change c.args.thing) c.args.things.now c.place_of-place.result _ (omega arith) (sym c.in-None.ensures))
