use Rattle.std.proofs.Common.{◌≡◌, ◌==◌, true, List, subst, arith, rules}
use Rattle.std.proofs.lemmas.Bool.{eqb-true}
use Rattle.wh_replay.specs.Runs.{Held}
use Rattle.wh_host.specs.Cache.{MayEnter, Enters}
use Rattle.wh_host.proofs.Fitting.{no_items}
use Rattle.wh_host.proofs.cache.Sticky.put.Goals as goal

pub returns-in-Ok : goal.returns-in-Ok
returns-in-Ok g c =
    let test : (c.in-Ok.gone.len == 0) ≡ true = cc (c.is_empty.ensures, c.if-is_empty.true) in
    let empty = eqb-true c.in-Ok.gone.len 0 test in
    let none = no_items c.in-Ok.gone.items (omega (arith, empty)) in
    subst (λ (gone : List Held). Enters c.args.self.now c.args.run c.enter.new.self gone) none c.in-Ok.ensures.entered

pub returns-in-Err : goal.returns-in-Err
returns-in-Err g c =
    let may : MayEnter c.args.self.now c.args.run = search rules in
    (may, c.in-Err.ensures.needed, c.in-Err.ensures.back, c.in-Err.ensures.unchanged)
