use Rattle.std.proofs.Common.{length, sym, ap, ◌∙◌, arith}
use Rattle.wh_events.specs.Keys.{same_key}
use Rattle.wh_host.proofs.Runs.{lookup-some, lookup_entry-none, length-remove, remove_entry-none}
use Rattle.wh_host.proofs.cache.Sticky.count_others.Goals as goal

pub returns-in-Some-clause-count : goal.returns-in-Some-clause-count
returns-in-Some-clause-count g c =
    let t = same_key c.args.key.now in
    let found = lookup-some t c.self.inside.runs.entries _ (sym c.in-Some.ensures) in
    let less = length-remove t c.self.inside.runs.entries _ found.1 in
    let len = c.len.ensures.len in
    rw (← c.self.view_is) (omega (arith, less, len))

pub returns-in-None-clause-count : goal.returns-in-None-clause-count
returns-in-None-clause-count g c =
    let t = same_key c.args.key.now in
    let none = lookup_entry-none t c.self.inside.runs.entries (sym c.in-None.ensures) in
    let same = remove_entry-none t c.self.inside.runs.entries none in
    rw (← c.self.view_is) (c.len-in-None.ensures.len ∙ sym (ap length same))
