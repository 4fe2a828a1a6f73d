-- Each event is read after the number of the one before.
use Rattle.std.proofs.Common.{◌≡◌, ℕ, ◌+◌, ◌<◌, ◌≤◌, List, [], ◌∷◌, ◌++◌, length, get_or, drop, add-one, refl, sym, ap, ◌∙◌, append_assoc, append-nil, drop_of_length-le, Option}
use Rattle.std.proofs.Math.Seq.{drop-cons}
use Rattle.std.specs.Prelude.{map}
use Rattle.serde_json.specs.View.{view}
use Rattle.serde_json.specs.declared.value.Value.{Value}
use Rattle.wh_json.specs.Events.{event_number}
use Rattle.wh_json.specs.Partial.{partial_event}
use Rattle.wh_view.specs.declared.view.ViewedEvent.{ViewedEvent}
use Rattle.wh_view.specs.Views.{reads_from, reads_of}

reads_push : (events : List ViewedEvent) (event : ViewedEvent) → reads_of (events ++ event ∷ []) ≡ reads_of events ++ event.read ∷ []
reads_push [] event = refl
reads_push (e ∷ events) event = ap (λ rest. e.read ∷ rest) (reads_push events event)

pub read_more : (vs : List Value) (i : ℕ) (v : Value) (before : Option ℕ) (event : ViewedEvent) (events grown : List ViewedEvent)
    → i < length vs → v ≡ get_or vs i v → grown ≡ events ++ event ∷ [] → event.read ≡ partial_event (i + 1) before (view v)
    → reads_of grown ++ reads_from (i + 1 + 1) event.read.number (map view (drop (i + 1) vs))
    ≡ reads_of events ++ reads_from (i + 1) before (map view (drop i vs))
unfolding reads_from
read_more vs i v before event events grown below is more read =
    let rest = map view (drop (i + 1) vs) in
    let e : drop i vs ≡ get_or vs i v ∷ drop (i + 1) vs = rw (add-one, drop-cons vs i v) refl in
    let at : reads_from (i + 1) before (map view (drop i vs)) ≡ event.read ∷ reads_from (i + 1 + 1) event.read.number rest =
    ap (λ xs. reads_from (i + 1) before (map view xs)) e
    ∙ ap (λ w. partial_event (i + 1) before (view w) ∷ reads_from (i + 1 + 1) (event_number (view w)) rest) (sym is)
    ∙ ap (λ p. p ∷ reads_from (i + 1 + 1) p.number rest) (sym read) in
    ap (λ xs. reads_of xs ++ reads_from (i + 1 + 1) event.read.number rest) more
    ∙ ap (λ xs. xs ++ reads_from (i + 1 + 1) event.read.number rest) (reads_push events event)
    ∙ append_assoc (reads_of events) (event.read ∷ []) (reads_from (i + 1 + 1) event.read.number rest)
    ∙ ap (λ xs. reads_of events ++ xs) (sym at)

pub read_all : (vs : List Value) (i : ℕ) (before : Option ℕ) (events : List ViewedEvent) → length vs ≤ i
    → reads_of events ++ reads_from (i + 1) before (map view (drop i vs)) ≡ reads_of events
unfolding reads_from
read_all vs i before events past =
    ap (λ rest. reads_of events ++ reads_from (i + 1) before (map view rest)) (drop_of_length-le vs past) ∙ append-nil (reads_of events)
