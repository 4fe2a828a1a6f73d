-- The index of the last thing that an event of a number opened, after one more thing and after one changed.
use Rattle.std.proofs.Common.{◌≡◌, ℕ, ◌+◌, ◌<◌, Bool, true, false, cond, eqb, List, [], ◌∷◌, ◌++◌, length, get_or, set, refl, sym, ap, ◌∙◌, arith, Option, Some, None, zero, suc}
use Rattle.wh_events.specs.Machines.{or_else}
use Rattle.wh_view.specs.declared.view.ViewedThing.{ViewedThing}
use Rattle.std.specs.Prelude.{slice_get, slice_set}
use Rattle.wh_events.specs.declared.kind.Effect.{Effect}
use Rattle.wh_events.specs.declared.kind.Effect.TheVariants.{Starts, Cancels, Closes}
use Rattle.wh_view.specs.Things.{last_from, is_number, with_effect}
use Rattle.wh_view.specs.Private.Indices.{if_number}
use Rattle.std.specs.Ordering.{nat_cmp}
use Rattle.std.specs.BTreeMap.{is_at}
use Rattle.std.proofs.lemmas.Bool.Decides.{nat_tests}

or_else_assoc : {A : Type 0} (a b c : Option A) → or_else (or_else a b) c ≡ or_else a (or_else b c)
or_else_assoc None b c = refl
or_else_assoc (Some a) b c = refl

pub if_number_shift : (number : ℕ) (of : Option ℕ) (a b : ℕ) → a ≡ b → if_number number of a ≡ if_number number of b
if_number_shift number of a b e = ap (if_number number of) e

pub last_push : (number first : ℕ) (things : List ViewedThing) (thing : ViewedThing)
    → last_from number first (things ++ thing ∷ [])
    ≡ or_else (if_number number thing.number (first + length things)) (last_from number first things)
unfolding last_from
last_push number first [] thing =
    let same : first ≡ first + length {A = ViewedThing} [] = omega arith in
    if_number_shift number thing.number _ _ same ∙ right_none (if_number number thing.number (first + length {A = ViewedThing} []))
  where
    right_none : (o : Option ℕ) → o ≡ or_else o None
    right_none None = refl
    right_none (Some n) = refl
last_push number first (a ∷ rest) thing =
    let same : first + 1 + length rest ≡ first + length (a ∷ rest) = omega arith in
    ap (λ o. or_else o (if_number number a.number first)) (last_push number (first + 1) rest thing)
    ∙ or_else_assoc (if_number number thing.number (first + 1 + length rest)) (last_from number (first + 1) rest) (if_number number a.number first)
    ∙ ap (λ o. or_else o (or_else (last_from number (first + 1) rest) (if_number number a.number first))) (if_number_shift number thing.number _ _ same)

-- a test by `cmp` is one by `==`
pub is_at-eqb : (a b : ℕ) → is_at (nat_cmp a) b ≡ eqb a b
is_at-eqb a b = grind (arith, nat_tests)

-- nothing was opened yet
pub last_none : (number : ℕ) → None ≡ last_from number 0 []
unfolding last_from
last_none number = refl

number_kept : (effect : Effect) (at : ℕ) (thing : ViewedThing) → (with_effect effect at thing).number ≡ thing.number
number_kept Starts at thing = refl
number_kept Cancels at thing = refl
number_kept Closes at thing = refl

-- a reference changes no number
pub last_changed : (number first : ℕ) (things : List ViewedThing) (index : ℕ) (effect : Effect) (at : ℕ) (thing : ViewedThing)
    → slice_get things index ≡ Some thing
    → last_from number first (slice_set things index (with_effect effect at thing)) ≡ last_from number first things
unfolding last_from
last_changed number first [] index effect at thing is = cc
last_changed number first (a ∷ rest) zero effect at thing is =
    let here : a ≡ thing = cc in
    ap (λ of. or_else (last_from number (first + 1) rest) (if_number number of first)) (number_kept effect at thing ∙ ap (λ t. t.number) (sym here))
last_changed number first (a ∷ rest) (suc index) effect at thing is =
    ap (λ o. or_else o (if_number number a.number first)) (last_changed number (first + 1) rest index effect at thing is)
