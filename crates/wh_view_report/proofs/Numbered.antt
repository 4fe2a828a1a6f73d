-- The first event with a number is looked for one by one.
use Rattle.std.proofs.Common.{◌≡◌, ℕ, ◌+◌, ◌<◌, ◌≤◌, true, false, cond, List, [], ◌∷◌, length, get_or, drop, add-one, refl, sym, ap, ◌∙◌, Option, Some, None, drop_of_length-le}
use Rattle.std.proofs.Math.Seq.{drop-cons}
use Rattle.wh_view.specs.declared.view.ViewedEvent.{ViewedEvent}
use Rattle.wh_view_report.specs.Texts.{numbered_in, has_number}

number_at : (events : List ViewedEvent) (i number : ℕ) (event : ViewedEvent) → i < length events → event ≡ get_or events i event
    → numbered_in number (drop i events) ≡ cond (has_number number event) (Some event) (numbered_in number (drop (i + 1) events))
unfolding numbered_in
number_at events i number event below is =
    let e : drop i events ≡ get_or events i event ∷ drop (i + 1) events = rw (add-one, drop-cons events i event) refl in
    ap (numbered_in number) e ∙ ap (λ one. cond (has_number number one) (Some one) (numbered_in number (drop (i + 1) events))) (sym is)

pub number_found : (events : List ViewedEvent) (i number : ℕ) (event : ViewedEvent) → i < length events → event ≡ get_or events i event
    → has_number number event ≡ true → numbered_in number (drop i events) ≡ Some event
number_found events i number event below is has =
    number_at events i number event below is ∙ ap (λ b. cond b (Some event) (numbered_in number (drop (i + 1) events))) has

pub number_passed : (events : List ViewedEvent) (i number : ℕ) (event : ViewedEvent) → i < length events → event ≡ get_or events i event
    → has_number number event ≡ false → numbered_in number (drop i events) ≡ numbered_in number (drop (i + 1) events)
number_passed events i number event below is has =
    number_at events i number event below is ∙ ap (λ b. cond b (Some event) (numbered_in number (drop (i + 1) events))) has

pub number_nowhere : (events : List ViewedEvent) (i number : ℕ) → length events ≤ i → numbered_in number (drop i events) ≡ None
unfolding numbered_in
number_nowhere events i number past = ap (numbered_in number) (drop_of_length-le events past)
