use Rattle.std.proofs.Common.{◌≡◌, None, sym, ap, ◌∙◌, arith}
use Rattle.std.specs.Map.{lookup_entry}
use Rattle.wh_events.specs.Keys.{same_key}
use Rattle.wh_host.specs.Cache.{held_by}
use Rattle.wh_host.proofs.Runs.{remove_entry-none, held_by-remove, IsSound-remove}
use Rattle.wh_host.proofs.cache.Sticky.take.Goals as goal

pub invariant_of-self : goal.invariant_of-self
invariant_of-self g c =
    let t = same_key c.args.key.now in
    let none : lookup_entry t c.self.inside.runs.entries ≡ None = sym c.pop_entry.ensures.value ∙ c.in_err-key.was in
    let sound = IsSound-remove t _ _ _ _ c.self.invariant.2 in
    rw c.pop_entry.ensures.entries (c.self.invariant.0, c.self.invariant.1 ∙ sym (ap held_by (remove_entry-none t _ none)), sound)

pub overflow_sub-self : goal.overflow_sub-self
overflow_sub-self g c =
    let t = same_key c.args.key.now in
    let found = sym c.pop_entry.ensures.value ∙ c.in_ok-key.was in
    let less = held_by-remove t _ _ found in
    let held = c.self.invariant.1 in
    let len = c.weight.ensures.weight in
    omega (arith, less, held, len)

pub invariant_of-self-2 : goal.invariant_of-self-2
invariant_of-self-2 g c =
    let t = same_key c.args.key.now in
    let found = sym c.pop_entry.ensures.value ∙ c.in_ok-key.was in
    let less = held_by-remove t _ _ found in
    let held = c.self.invariant.1 in
    let len = c.weight.ensures.weight in
    let sound = IsSound-remove t _ _ _ _ c.self.invariant.2 in
    rw c.pop_entry.ensures.entries (c.self.invariant.0, omega (arith, less, held, len), sound)
