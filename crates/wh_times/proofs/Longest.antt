-- The slowest of things is one of them, and no other took longer.
use Rattle.std.proofs.Common.{◌≡◌, ◌≤◌, ◌<◌, ℕ, ◌+◌, zero, suc, List, [], ◌∷◌, length, get_or, Bool, true, false, cond, refl, sym, ap, ◌∙◌, arith, Option, Some, None, inl, inr, ◌⊎◌}
use Rattle.std.specs.Prelude.{nat_lt, unwrap_or, option_map}
use Rattle.std.specs.List.{All, Any, fold}
use Rattle.std.proofs.lemmas.Bool.Decides.{nat_tests}
use Rattle.std.proofs.lemmas.List.Elements.{All-nil, All-cons}
use Rattle.wh_times.specs.declared.sums.TimedThing.{TimedThing}
use Rattle.wh_times.specs.declared.sums.Slowest.{Slowest}
use Rattle.wh_times.specs.Sums.{slower, slower_by, slowest_of}
use Rattle.wh_times.specs.Laws.{IsLongest}

abbrev time_of : Option Slowest → ℕ
time_of best = unwrap_or (option_map (λ slow. slow.millis) best) 0

abbrev IsIt : Slowest → TimedThing → Type 0
IsIt slow thing = (thing.millis ≡ Some slow.millis) × (thing.opened ≡ slow.opened)

-- after one more thing the slowest is the one before, or that thing
among_by : (best : Option Slowest) (opened : ℕ) (millis : Option ℕ) (slow : Slowest) → slower_by best opened millis ≡ Some slow
    → (best ≡ Some slow) ⊎ ((millis ≡ Some slow.millis) × (opened ≡ slow.opened))
among_by best opened None slow is = inl is
among_by None opened (Some millis) slow is = inr (
  ap (λ o. option_map (λ s. s.millis) o) is,
  ap (λ o. unwrap_or (option_map (λ s. s.opened) o) 0) is,
)
among_by (Some best) opened (Some millis) slow is =
    (elim (nat_lt best.millis millis) as (λ b. cond b (Some (record { millis = millis; opened = opened })) (Some best) ≡ Some slow
    → (Some best ≡ Some slow) ⊎ ((Some millis ≡ Some slow.millis) × (opened ≡ slow.opened))) [
      | true ↦ λ e. inr (ap (λ o. option_map (λ s. s.millis) o) e, ap (λ o. unwrap_or (option_map (λ s. s.opened) o) 0) e)
      | false ↦ λ e. inl e
    ]) is

-- it is no shorter than both
time_by : (best : Option Slowest) (opened : ℕ) (millis : Option ℕ)
    → (time_of best ≤ time_of (slower_by best opened millis)) × (unwrap_or millis 0 ≤ time_of (slower_by best opened millis))
time_by best opened None = (omega arith, omega arith)
time_by None opened (Some millis) = (omega arith, omega arith)
time_by (Some best) opened (Some millis) =
    (elim (nat_lt best.millis millis) as (λ b. nat_lt best.millis millis ≡ b → (best.millis ≤ time_of (cond b (Some (record { millis = millis; opened = opened })) (Some best)))
    × (millis ≤ time_of (cond b (Some (record { millis = millis; opened = opened })) (Some best)))) [
      | true ↦ λ e. (less best.millis millis e, omega arith)
      | false ↦ λ e. (omega arith, more best.millis millis e)
    ]) refl
  where
    less : (a b : ℕ) → nat_lt a b ≡ true → a ≤ b
    less a b e = grind (arith, nat_tests)

    more : (a b : ℕ) → nat_lt a b ≡ false → b ≤ a
    more a b e = grind (arith, nat_tests)

any_here : (slow : Slowest) (thing : TimedThing) (things : List TimedThing) → IsIt slow thing → Any (IsIt slow) (thing ∷ things)
any_here slow thing things is = (0, thing, omega arith, refl, is)

any_later : (slow : Slowest) (thing : TimedThing) (things : List TimedThing) → Any (IsIt slow) things → Any (IsIt slow) (thing ∷ things)
any_later slow thing things any = (suc any.0, any.1, omega (arith, any.2), any.3, any.4)

abbrev Found : Option Slowest → List TimedThing → Slowest → Type 0
Found best things slow =
    ((best ≡ Some slow) ⊎ Any (IsIt slow) things) × (time_of best ≤ slow.millis) × All (λ thing. unwrap_or thing.millis 0 ≤ slow.millis) things

found : (things : List TimedThing) (best : Option Slowest) (slow : Slowest) → fold slower best things ≡ Some slow → Found best things slow
found [] best slow is = (inl is, (let e = ap time_of is in omega (arith, e)), All-nil (λ thing. unwrap_or thing.millis 0 ≤ slow.millis))
found (thing ∷ things) best slow is =
    let rest = found things (slower best thing) slow is in
    let both = time_by best thing.opened thing.millis in (
      (elim rest.0 [
        | inl e ↦ (elim (among_by best thing.opened thing.millis slow e) [
          | inl same ↦ inl same
          | inr own ↦ inr (any_here slow thing things own)
        ])
        | inr any ↦ inr (any_later slow thing things any)
      ]),
      omega (arith, rest.1, both.0),
      All-cons (λ one. unwrap_or one.millis 0 ≤ slow.millis) thing things (omega (arith, rest.1, both.1)) rest.2,
    )

none_first : (slow : Slowest) (things : List TimedThing) → (None ≡ Some slow) ⊎ Any (IsIt slow) things → Any (IsIt slow) things
none_first slow things (inl e) = cc
none_first slow things (inr any) = any

pub slowest_is_longest : (own : List TimedThing) (slow : Slowest) → slowest_of own ≡ Some slow → IsLongest own slow
slowest_is_longest own slow is =
    let all = found own None slow is in record { among = none_first slow own all.0; most = all.2 }
