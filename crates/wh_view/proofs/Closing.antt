-- The event that closes the run is looked for one by one.
use Rattle.std.proofs.Common.{◌≡◌, ℕ, ◌+◌, ◌<◌, ◌≤◌, true, false, cond, List, [], ◌∷◌, length, get_or, drop, add-one, refl, sym, ap, ◌∙◌, Option, Some, None, drop_of_length-le}
use Rattle.std.proofs.Math.Seq.{drop-cons}
use Rattle.wh_view.specs.declared.view.ViewedEvent.{ViewedEvent}
use Rattle.wh_view.specs.Runs.{closing_in, closes_run}

closing_at : (events : List ViewedEvent) (i : ℕ) (event : ViewedEvent) → i < length events → event ≡ get_or events i event
    → closing_in (drop i events) ≡ cond (closes_run event) (Some event) (closing_in (drop (i + 1) events))
unfolding closing_in
closing_at events i event below is =
    let e : drop i events ≡ get_or events i event ∷ drop (i + 1) events = rw (add-one, drop-cons events i event) refl in
    ap closing_in e ∙ ap (λ one. cond (closes_run one) (Some one) (closing_in (drop (i + 1) events))) (sym is)

pub closing_found : (events : List ViewedEvent) (i : ℕ) (event : ViewedEvent) → i < length events → event ≡ get_or events i event
    → closes_run event ≡ true → closing_in (drop i events) ≡ Some event
closing_found events i event below is closes =
    closing_at events i event below is ∙ ap (λ b. cond b (Some event) (closing_in (drop (i + 1) events))) closes

pub closing_passed : (events : List ViewedEvent) (i : ℕ) (event : ViewedEvent) → i < length events → event ≡ get_or events i event
    → closes_run event ≡ false → closing_in (drop i events) ≡ closing_in (drop (i + 1) events)
closing_passed events i event below is closes =
    closing_at events i event below is ∙ ap (λ b. cond b (Some event) (closing_in (drop (i + 1) events))) closes

pub closing_nowhere : (events : List ViewedEvent) (i : ℕ) → length events ≤ i → closing_in (drop i events) ≡ None
unfolding closing_in
closing_nowhere events i past = ap closing_in (drop_of_length-le events past)
