use Rattle.std.proofs.Common.{ℕ, ◌≤◌, [], ◌∷◌, Some, ap, sym, subst, ◌∙◌, arith, length-append}
use Rattle.wh_replay.specs.Runs.{HistoryView, Held}
use Rattle.wh_host.specs.Cache.{entry_of}
use Rattle.wh_host.proofs.Runs.{held_by-last, one_more_gone, some_left}
use Rattle.wh_host.proofs.cache.push_out.Goals as goal

pub overflow_sub-held : goal.overflow_sub-held
overflow_sub-held g c =
    let less = held_by-last c.loop-turn.runs.entries (c.in-Some.key, c.in-Some.weighed) (sym c.pop_lru.ensures.value ∙ c.in-Some.is) in
    let held = c.loop-turn.invariant.4 in
    let len = c.weight.ensures.weight in
    omega (arith, less, held, len)

pub loop-turn-preserved : goal.loop-turn-preserved
loop-turn-preserved g c =
    let last = sym c.pop_lru.ensures.value ∙ c.in-Some.is in
    let less = held_by-last c.loop-turn.runs.entries (c.in-Some.key, c.in-Some.weighed) last in
    let held = c.loop-turn.invariant.4 in
    let len = c.weight.ensures.weight in
    let parts = one_more_gone c.loop-turn.runs.entries c.loop-turn.gone.items c.from_parts.result _ (last ∙ ap (λ (h : HistoryView). Some (c.in-Some.key, h)) (sym c.into_history.ensures) ∙ ap (λ (r : Held). Some (entry_of r)) (sym c.from_parts.ensures)) c.loop-turn.invariant.0 in
    let counted = c.loop-turn.invariant.1 in
    let more = length-append c.loop-turn.gone.items (c.from_parts.result ∷ []) in
    let room = c.loop-turn.invariant.2 in
    let same = c.push_reserved.ensures.capacity in
    rw (c.pop_lru.ensures.entries, c.push_reserved.ensures.items) (
      parts,
      omega (arith, counted, more),
      (let P : ℕ → Type 0 = λ n. c.args.count ≤ n in subst P (sym same) room),
      c.loop-turn.invariant.3,
      omega (arith, less, held, len),
    )

pub unreachable-requires : goal.unreachable-requires
unreachable-requires g c =
    let none = sym c.pop_lru.ensures.value ∙ c.in_default.is in
    some_left c.loop-turn.runs.entries c.loop-turn.gone.items _ c.loop-turn._turn c.args.count c.loop-turn.invariant.0 c.loop-turn.invariant.1 c.loop-turn-test.true c.requires.count none
