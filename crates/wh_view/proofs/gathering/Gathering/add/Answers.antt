use Rattle.std.proofs.Common.{◌≡◌, ℕ, ap, sym, ◌∙◌, arith, ◌+◌, length, Option, Some, ◌++◌, List, [], ◌∷◌}
use Rattle.std.specs.Ordering.{nat_cmp}
use Rattle.std.specs.BTreeMap as tree
use Rattle.wh_events.specs.Machines.{or_else}
use Rattle.wh_view.specs.declared.view.ViewedThing.{ViewedThing}
use Rattle.wh_view.specs.Private.Indices.{if_number, AreIndices}
use Rattle.wh_view.specs.Things.{last_from}
use Rattle.wh_view.proofs.Indices.{last_push, if_number_shift}
use Rattle.wh_view.proofs.gathering.Gathering.add.Goals as goal

-- the table fits the things with one more
pub grown : (things more : List ViewedThing) (thing : ViewedThing) (index_of new_of : ℕ → Option ℕ) (index : ℕ)
    → index ≡ length things → more ≡ things ++ thing ∷ [] → AreIndices things index_of
    → ((other : ℕ) → new_of other ≡ or_else (if_number other thing.number index) (index_of other)) → AreIndices more new_of
grown things more thing index_of new_of index is added fit kept number =
    let at : 0 + length things ≡ index = omega arith in
    kept number
    ∙ ap (or_else (if_number number thing.number index)) (fit number)
    ∙ ap (λ o. or_else o (last_from number 0 things)) (if_number_shift number thing.number index (0 + length things) (sym at))
    ∙ sym (last_push number 0 things thing)
    ∙ ap (last_from number 0) (sym added)

pub invariant_of-self-in_err-push : goal.invariant_of-self-in_err-push
invariant_of-self-in_err-push c =
    grown c.self.inside.things.items c.push_reserved.new.self.items c.args.thing (λ n. tree.get nat_cmp c.self.inside.indices n)
    (λ n. tree.get nat_cmp c.keep_index.new.indices n) c.len-index.result (omega (arith, c.self.inside.things.ok.0, c.len-index.ensures))
    (c.push_reserved.ensures.items ∙ ap (λ xs. xs ++ c.args.thing ∷ []) c.reserve.ensures.items)
    c.self.invariant c.in_ok-keep_index.ensures.ok

pub invariant_of-self-2 : goal.invariant_of-self-2
invariant_of-self-2 c =
    grown c.self.inside.things.items c.push_reserved.new.self.items c.args.thing (λ n. tree.get nat_cmp c.self.inside.indices n)
    (λ n. tree.get nat_cmp c.keep_index.new.indices n) c.len-index.result (omega (arith, c.self.inside.things.ok.0, c.len-index.ensures))
    (c.push_reserved.ensures.items ∙ ap (λ xs. xs ++ c.args.thing ∷ []) c.reserve.ensures.items)
    c.self.invariant c.in_ok-keep_index.ensures.ok
