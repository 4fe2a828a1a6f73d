-- The kinds that are not supported are listed event by event.
use Rattle.std.proofs.Common.{◌≡◌, ℕ, ◌+◌, ◌<◌, ◌≤◌, List, [], ◌∷◌, length, get_or, drop, add-one, refl, sym, ap, ◌∙◌, drop_of_length-le}
use Rattle.std.proofs.Math.Seq.{drop-cons}
use Rattle.wh_view.specs.declared.view.ViewedEvent.{ViewedEvent}
use Rattle.wh_view.specs.declared.view.UnsupportedKind.{UnsupportedKind}
use Rattle.wh_view.specs.Unsupported.{kinds_from, with_kind}

pub kinds_more : (all events : List ViewedEvent) (i : ℕ) (event : ViewedEvent) (kinds : List UnsupportedKind) → i < length events → event ≡ get_or events i event
    → kinds_from all i (drop i events) kinds ≡ kinds_from all (i + 1) (drop (i + 1) events) (with_kind all event.read.fault i kinds)
unfolding kinds_from
kinds_more all events i event kinds below is =
    let e : drop i events ≡ get_or events i event ∷ drop (i + 1) events = rw (add-one, drop-cons events i event) refl in
    ap (λ rest. kinds_from all i rest kinds) e ∙ ap (λ one. kinds_from all (i + 1) (drop (i + 1) events) (with_kind all one.read.fault i kinds)) (sym is)

pub kinds_all : (all events : List ViewedEvent) (i : ℕ) (kinds : List UnsupportedKind) → length events ≤ i → kinds_from all i (drop i events) kinds ≡ kinds
unfolding kinds_from
kinds_all all events i kinds past = ap (λ rest. kinds_from all i rest kinds) (drop_of_length-le events past)
