-- Lists are processed item by item.
use Rattle.std.proofs.Common.{◌≡◌, ℕ, ◌+◌, ◌<◌, ◌≤◌, true, false, cond, List, [], ◌∷◌, ◌++◌, length, get_or, drop, add-one, refl, sym, ap, ◌∙◌, Option, Some, None, append_assoc, append-nil, drop_of_length-le}
use Rattle.std.specs.Prelude.{ℤ}
use Rattle.std.proofs.Math.Seq.{drop-cons}
use Rattle.wh_view.specs.declared.view.View.{View}
use Rattle.wh_view.specs.declared.view.ViewedEvent.{ViewedEvent}
use Rattle.wh_view.specs.declared.view.ViewedThing.{ViewedThing}
use Rattle.wh_run_page.specs.declared.rows.PlacedThing.{PlacedThing}
use Rattle.wh_run_page.specs.Rows.{placed_at, placed_from}
use Rattle.wh_run_page.specs.declared.headings.Sought.{Sought}
use Rattle.wh_run_page.specs.declared.tasks.Group.{Group}
use Rattle.wh_run_page.specs.Headings.{first_like, is_sought}
use Rattle.wh_run_page.specs.Moments.{first_time, millis_of, time_or, times_from}
use Rattle.wh_run_page.specs.Tasks.{closed_by, groups_from, next_group}

module _ {A : Type 0} where
  -- what is left begins with the item that is next
  next_of : (items : List A) (i : ℕ) (item : A) → i < length items → item ≡ get_or items i item
      → drop i items ≡ item ∷ drop (i + 1) items
  next_of items i item below is =
      let e : drop i items ≡ get_or items i item ∷ drop (i + 1) items = rw (add-one, drop-cons items i item) refl in
      e ∙ ap (λ one. one ∷ drop (i + 1) items) (sym is)

-- the first event that is sought
like_at : (sought : Sought) (events : List ViewedEvent) (i : ℕ) (event : ViewedEvent) → i < length events → event ≡ get_or events i event
    → first_like sought (drop i events) ≡ cond (is_sought sought event) (Some event) (first_like sought (drop (i + 1) events))
unfolding first_like
like_at sought events i event below is = ap (first_like sought) (next_of events i event below is)

pub like_found : (sought : Sought) (events : List ViewedEvent) (i : ℕ) (event : ViewedEvent) → i < length events → event ≡ get_or events i event
    → is_sought sought event ≡ true → first_like sought (drop i events) ≡ Some event
like_found sought events i event below is found =
    like_at sought events i event below is ∙ ap (λ b. cond b (Some event) (first_like sought (drop (i + 1) events))) found

pub like_passed : (sought : Sought) (events : List ViewedEvent) (i : ℕ) (event : ViewedEvent) → i < length events → event ≡ get_or events i event
    → is_sought sought event ≡ false → first_like sought (drop i events) ≡ first_like sought (drop (i + 1) events)
like_passed sought events i event below is passed =
    like_at sought events i event below is ∙ ap (λ b. cond b (Some event) (first_like sought (drop (i + 1) events))) passed

pub like_nowhere : (sought : Sought) (events : List ViewedEvent) (i : ℕ) → length events ≤ i → first_like sought (drop i events) ≡ None
unfolding first_like
like_nowhere sought events i past = ap (first_like sought) (drop_of_length-le events past)

-- the first time that an event has
time_at : (events : List ViewedEvent) (i : ℕ) (event : ViewedEvent) → i < length events → event ≡ get_or events i event
    → first_time (drop i events) ≡ time_or (first_time (drop (i + 1) events)) event.read.time
unfolding first_time
time_at events i event below is = ap first_time (next_of events i event below is)

pub time_found : (events : List ViewedEvent) (i : ℕ) (event : ViewedEvent) (time : ℤ) → i < length events → event ≡ get_or events i event
    → event.read.time ≡ Some time → first_time (drop i events) ≡ millis_of time
time_found events i event time below is found =
    time_at events i event below is ∙ ap (time_or (first_time (drop (i + 1) events))) found

pub time_passed : (events : List ViewedEvent) (i : ℕ) (event : ViewedEvent) → i < length events → event ≡ get_or events i event
    → event.read.time ≡ None → first_time (drop i events) ≡ first_time (drop (i + 1) events)
time_passed events i event below is passed =
    time_at events i event below is ∙ ap (time_or (first_time (drop (i + 1) events))) passed

pub time_nowhere : (events : List ViewedEvent) (i : ℕ) → length events ≤ i → first_time (drop i events) ≡ 0
unfolding first_time
time_nowhere events i past = ap first_time (drop_of_length-le events past)

-- the times so far and those of the rest
pub times_more : (events : List ViewedEvent) (i last : ℕ) (event : ViewedEvent) (before grown : List ℕ) → i < length events → event ≡ get_or events i event
    → grown ≡ before ++ time_or last event.read.time ∷ []
    → grown ++ times_from (time_or last event.read.time) (drop (i + 1) events) ≡ before ++ times_from last (drop i events)
unfolding times_from
times_more events i last event before grown below is more =
    let now = time_or last event.read.time in
    let rest = times_from now (drop (i + 1) events) in
    let at : times_from last (drop i events) ≡ now ∷ rest = ap (times_from last) (next_of events i event below is) in
    ap (λ xs. xs ++ rest) more ∙ append_assoc before (now ∷ []) rest ∙ ap (λ xs. before ++ xs) (sym at)

pub times_all : (events : List ViewedEvent) (i last : ℕ) (before : List ℕ) → length events ≤ i
    → before ++ times_from last (drop i events) ≡ before
unfolding times_from
times_all events i last before past = ap (λ rest. before ++ times_from last rest) (drop_of_length-le events past) ∙ append-nil before

-- the groups so far and those of the rest
pub groups_more : (numbers : List ℕ) (i number : ℕ) (group next : Group) (before grown : List Group) → i < length numbers
    → grown ≡ before ++ closed_by group number → next ≡ next_group group number → number ≡ get_or numbers i number
    → grown ++ groups_from next (drop (i + 1) numbers) ≡ before ++ groups_from group (drop i numbers)
unfolding groups_from
groups_more numbers i number group next before grown below more same is =
    let rest = groups_from (next_group group number) (drop (i + 1) numbers) in
    let at : groups_from group (drop i numbers) ≡ closed_by group number ++ rest = ap (groups_from group) (next_of numbers i number below is) in
    ap (λ g. grown ++ groups_from g (drop (i + 1) numbers)) same
    ∙ ap (λ xs. xs ++ rest) more ∙ append_assoc before (closed_by group number) rest ∙ ap (λ xs. before ++ xs) (sym at)

pub groups_all : (numbers : List ℕ) (i : ℕ) (group : Group) (before : List Group) → length numbers ≤ i
    → before ++ groups_from group (drop i numbers) ≡ before ++ group ∷ []
unfolding groups_from
groups_all numbers i group before past = ap (λ rest. before ++ groups_from group rest) (drop_of_length-le numbers past)

-- the things so far with their rows and those of the rest
pub placed_more : (view : View) (all : List ViewedThing) (firsts : List ℕ) (i : ℕ) (thing : ViewedThing) (before grown : List PlacedThing)
    → i < length all → thing ≡ get_or all i thing → grown ≡ before ++ placed_at view all firsts i thing ∷ []
    → grown ++ placed_from view all firsts (i + 1) (drop (i + 1) all) ≡ before ++ placed_from view all firsts i (drop i all)
placed_more view all firsts i thing before grown below is more =
    let own = placed_at view all firsts i thing in
    let rest = placed_from view all firsts (i + 1) (drop (i + 1) all) in
    let at : placed_from view all firsts i (drop i all) ≡ own ∷ rest = ap (placed_from view all firsts i) (next_of all i thing below is) in
    ap (λ xs. xs ++ rest) more ∙ append_assoc before (own ∷ []) rest ∙ ap (λ xs. before ++ xs) (sym at)
