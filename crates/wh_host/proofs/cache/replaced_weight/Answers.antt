use Rattle.std.proofs.Common.{sym, ap, arith}
use Rattle.wh_events.specs.Keys.{same_key}
use Rattle.wh_host.specs.Cache.{held_by}
use Rattle.wh_host.proofs.Runs.{lookup-some, lookup_entry-none, held_by-remove, remove_entry-none}
use Rattle.wh_host.proofs.cache.replaced_weight.Goals as goal

pub returns-in-Some-clause-held : goal.returns-in-Some-clause-held
returns-in-Some-clause-held g c =
    let t = same_key c.args.key.now in
    let found = lookup-some t c.args.runs.now.entries _ (sym c.in-Some.ensures) in
    let less = held_by-remove t c.args.runs.now.entries _ found.1 in
    let len = c.weight.ensures.weight in
    omega (arith, less, len)

pub returns-in-None-clause-held : goal.returns-in-None-clause-held
returns-in-None-clause-held g c =
    let t = same_key c.args.key.now in
    let none = lookup_entry-none t c.args.runs.now.entries (sym c.in-None.ensures) in
    let same = ap held_by (remove_entry-none t c.args.runs.now.entries none) in
    omega (arith, same)
