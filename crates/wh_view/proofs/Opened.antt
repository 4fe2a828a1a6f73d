-- The open workflow task is followed event by event.
use Rattle.std.proofs.Common.{◌≡◌, ℕ, ◌+◌, ◌<◌, ◌≤◌, List, [], ◌∷◌, length, get_or, drop, add-one, refl, sym, ap, ◌∙◌, Option, drop_of_length-le}
use Rattle.std.proofs.Math.Seq.{drop-cons}
use Rattle.wh_view.specs.declared.view.OpenTask.{OpenTask}
use Rattle.wh_view.specs.declared.view.ViewedEvent.{ViewedEvent}
use Rattle.wh_view.specs.Waiting.{open_from, task_after}

pub open_more : (events : List ViewedEvent) (i : ℕ) (event : ViewedEvent) (current : Option OpenTask) → i < length events → event ≡ get_or events i event
    → open_from i (drop i events) current ≡ open_from (i + 1) (drop (i + 1) events) (task_after current i event.read.kind)
unfolding open_from
open_more events i event current below is =
    let e : drop i events ≡ get_or events i event ∷ drop (i + 1) events = rw (add-one, drop-cons events i event) refl in
    ap (λ rest. open_from i rest current) e ∙ ap (λ one. open_from (i + 1) (drop (i + 1) events) (task_after current i one.read.kind)) (sym is)

pub open_all : (events : List ViewedEvent) (i : ℕ) (current : Option OpenTask) → length events ≤ i → open_from i (drop i events) current ≡ current
unfolding open_from
open_all events i current past = ap (λ rest. open_from i rest current) (drop_of_length-le events past)
