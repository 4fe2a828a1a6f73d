-- The tasks of a view are passed one after the other, and folded.
use Rattle.std.proofs.Common.{◌≡◌, ◌∙◌, ℕ, ◌+◌, ◌-◌, ◌<◌, ◌≤◌, Bool, true, false, cond, ◌||◌, zero, suc, List, [], ◌∷◌, ◌++◌, length, get_or, take, drop, slice_get, slice_range, add-one, refl, sym, ap, subst, append_assoc, append-nil, drop_of_length-le, arith, Option, Some, None}
use Rattle.std.proofs.Math.Seq.{drop-cons, take-add, take-suc}
use Rattle.std.proofs.lemmas.Bool.{false≢true}
use Rattle.std.proofs.lemmas.List.{drop-drop, get_or-drop, length-append, length-drop, length-take-le}
use Rattle.std.proofs.lemmas.List.Concat.{flat_map-append}
use Rattle.std.proofs.lemmas.List.Folds.{drop_split}
use Rattle.std.proofs.lemmas.Option.{get_or_from_slice_get, none-some, slice_get_within}
use Rattle.std.proofs.KnownBytes.{Appends-trans}
use Rattle.std.specs.Io.KnownBytes.{Appends}
use Rattle.std.specs.List.{flat_map, list_any}
use Rattle.wh_view.specs.Lookups.{task_of}
use Rattle.wh_view.specs.declared.view.View.{View}
use Rattle.wh_view.specs.declared.view.ViewedEvent.{ViewedEvent}
use Rattle.wh_view_report.specs.Alike.{alike_tasks}
use Rattle.wh_view_report.specs.Folding.{Task, Part, events_of, fold_text, folded_part, part_events, part_text, parts_from, parts_of, parts_text, repeats, split_from, task_text, tasks_in}
use Rattle.wh_view_report.specs.Folding.Part.{Shown, Folded}
use Rattle.wh_view_report.specs.Laws.{PartsHaveAllEvents, PartsHaveAllTasks, part_tasks, tasks_of}
use Rattle.wh_view_report.specs.Private.Folds.{AreInOrder, belongs, fold_with, ranges, text_unless}
use Rattle.wh_view_report.specs.declared.begins.Begins.{Begins}
use Rattle.wh_view_report.specs.declared.folding.Fold.{Fold}

-- ---- where a task ends

at_index : {A : Type 0} (xs : List A) (i : ℕ) (x : A) → slice_get xs i ≡ Some x → drop i xs ≡ x ∷ drop (i + 1) xs
at_index xs i x is =
    let below : i < length xs = slice_get_within xs i x is in
    let e : drop i xs ≡ get_or xs i x ∷ drop (i + 1) xs = rw (add-one, drop-cons xs i x) refl in
    e ∙ ap (λ y. y ∷ drop (i + 1) xs) (get_or_from_slice_get xs i x x is)

behind : {A : Type 0} (xs : List A) (i : ℕ) → slice_get xs i ≡ None → drop i xs ≡ []
behind [] zero is = refl
behind [] (suc i) is = refl
behind (x ∷ xs) zero is = absurd (none-some x (sym is))
behind (x ∷ xs) (suc i) is = behind xs i is

-- a range with one event more
range_more : {A : Type 0} (xs : List A) (a e : ℕ) (x : A) → a ≤ e → slice_get xs e ≡ Some x → slice_range xs a (e + 1) ≡ slice_range xs a e ++ x ∷ []
range_more xs a e x up is =
    let below : e < length xs = slice_get_within xs e x is in
    let n : (e + 1) - a ≡ suc (e - a) = omega arith in
    let inside : e - a < length (drop a xs) = omega (arith, length-drop a xs) in
    let same : a + (e - a) ≡ e = omega arith in
    let own : get_or (drop a xs) (e - a) x ≡ x = get_or-drop a xs (e - a) x ∙ (ap (λ i. get_or xs i x) same ∙ get_or_from_slice_get xs e x x is) in
    ap (λ m. take m (drop a xs)) n ∙ (take-suc (drop a xs) (e - a) x inside ∙ ap (λ y. take (e - a) (drop a xs) ++ y ∷ []) own)

range_none : {A : Type 0} (xs : List A) (a : ℕ) → slice_range xs a a ≡ []
range_none xs a = let e : a - a ≡ 0 = omega arith in ap (λ n. take n (drop a xs)) e

split_at : (view : View) (number : ℕ) (first : Task) (event : ViewedEvent) (events : List ViewedEvent) (t : Bool) → belongs view number (Some event) ≡ t
    → split_from view number first (event ∷ events) ≡ cond t (split_from view number (first ++ event ∷ []) events) (first ∷ split_from view (task_of view event) (event ∷ []) events)
unfolding split_from
split_at view number first event events t is =
    ap (λ b. cond b (split_from view number (first ++ event ∷ []) events) (first ∷ split_from view (task_of view event) (event ∷ []) events)) is

-- the next event belongs to the task
pub one_more : (view : View) (number at end : ℕ) (o : Option ViewedEvent) → slice_get view.events end ≡ o → at ≤ end → belongs view number o ≡ true
    → split_from view number (slice_range view.events at (end + 1)) (drop (end + 1) view.events) ≡ split_from view number (slice_range view.events at end) (drop end view.events)
one_more view number at end None is up here = absurd (false≢true here)
one_more view number at end (Some event) is up here =
    let first = slice_range view.events at end in
    let rest = drop (end + 1) view.events in
    ap (λ l. split_from view number l rest) (range_more view.events at end event up is)
    ∙ (sym (split_at view number first event rest true here) ∙ ap (split_from view number first) (sym (at_index view.events end event is)))

pub one_within : (view : View) (number end : ℕ) (o : Option ViewedEvent) → slice_get view.events end ≡ o → belongs view number o ≡ true → end + 1 ≤ length view.events
one_within view number end None is here = absurd (false≢true here)
one_within view number end (Some event) is here = let below : end < length view.events = slice_get_within view.events end event is in omega arith

-- the next event does not, or there is none
pub one_apart : (view : View) (number at end : ℕ) (o : Option ViewedEvent) → slice_get view.events end ≡ o → belongs view number o ≡ false
    → split_from view number (slice_range view.events at end) (drop end view.events) ≡ slice_range view.events at end ∷ tasks_in view (drop end view.events)
unfolding split_from
one_apart view number at end None is apart =
    let first = slice_range view.events at end in
    let none = behind view.events end is in
    ap (split_from view number first) none ∙ ap (λ l. first ∷ tasks_in view l) (sym none)
one_apart view number at end (Some event) is apart =
    let first = slice_range view.events at end in
    let rest = drop (end + 1) view.events in
    let e = at_index view.events end event is in
    ap (split_from view number first) e ∙ (split_at view number first event rest false apart ∙ ap (λ l. first ∷ tasks_in view l) (sym e))

-- ---- which tasks stand before one

-- the first so many tasks, with empty ones where there are fewer
pub padded : ℕ → List Task → List Task
padded zero tasks = []
padded (suc n) [] = [] ∷ padded n []
padded (suc n) (task ∷ tasks) = task ∷ padded n tasks

any_padded : (P : Task → Bool) → P [] ≡ false → (n : ℕ) (tasks : List Task) → list_any P (padded n tasks) ≡ list_any P (take n tasks)
unfolding padded
any_padded P none zero [] = refl
any_padded P none zero (task ∷ tasks) = refl
any_padded P none (suc n) [] = ap (λ b. b || list_any P (padded n [])) none ∙ (any_padded P none n [] ∙ empty n)
  where
    empty : (m : ℕ) → list_any P (take m []) ≡ false
    empty zero = refl
    empty (suc m) = refl
any_padded P none (suc n) (task ∷ tasks) = ap (λ b. P task || b) (any_padded P none n tasks)

padded_front : (n : ℕ) (tasks : List Task) → padded n tasks ≡ take n (padded (suc n) tasks)
unfolding padded
padded_front zero [] = refl
padded_front zero (task ∷ tasks) = refl
padded_front (suc n) [] = ap (λ l. [] ∷ l) (padded_front n [])
padded_front (suc n) (task ∷ tasks) = ap (λ l. task ∷ l) (padded_front n tasks)

-- no task with an event is like one without
like_none : (view : View) (task : Task) → 0 < length task → alike_tasks view task [] ≡ false
like_none view [] some = absurd (omega (arith, some))
like_none view (event ∷ events) some = refl

-- ---- the parts of tasks

-- the parts of tasks, by whether the first one repeats one before it
pub parts_at : (view : View) (before folded tasks : List Task) (task : Task) (t : Bool) → repeats view before task ≡ t
    → parts_from view before folded (task ∷ tasks) ≡ cond t (parts_from view (task ∷ before) (folded ++ task ∷ []) tasks) (folded_part folded ++ (Shown task ∷ parts_from view (task ∷ before) [] tasks))
unfolding parts_from
parts_at view before folded tasks task t is =
    ap (λ b. cond b (parts_from view (task ∷ before) (folded ++ task ∷ []) tasks) (folded_part folded ++ (Shown task ∷ parts_from view (task ∷ before) [] tasks))) is

-- the lines of tasks after others
pub text_from : View → (before folded : List Task) → List Task → List ℕ
text_from view before folded tasks = flat_map (part_text view) (parts_from view before folded tasks)

-- the tasks that are not shown, with one more
kept : Bool → List Task → Task → List Task
kept repeats folded task = cond repeats (folded ++ task ∷ []) []

fold_written : (view : View) (folded : List Task) → flat_map (part_text view) (folded_part folded) ≡ fold_text view (length folded) (events_of folded)
fold_written view [] = refl
fold_written view (task ∷ tasks) = append-nil (part_text view (Folded (task ∷ tasks)))

text_step : (view : View) (before folded rest : List Task) (task : Task) (t : Bool) → repeats view before task ≡ t
    → text_from view before folded (task ∷ rest) ≡ text_unless t view (length folded) (events_of folded) task ++ text_from view (task ∷ before) (kept t folded task) rest
unfolding text_from parts_from kept
text_step view before folded rest task true is = ap (flat_map (part_text view)) (parts_at view before folded rest task true is)
text_step view before folded rest task false is =
    let after = parts_from view (task ∷ before) [] rest in
    let lines = flat_map (part_text view) after in
    ap (flat_map (part_text view)) (parts_at view before folded rest task false is)
    ∙ (flat_map-append (part_text view) (folded_part folded) (Shown task ∷ after)
    ∙ (ap (λ l. l ++ (task_text view task ++ lines)) (fold_written view folded)
    ∙ sym (append_assoc (fold_text view (length folded) (events_of folded)) (task_text view task) lines)))

text_end : (view : View) (before folded : List Task) → text_from view before folded [] ≡ fold_text view (length folded) (events_of folded)
unfolding text_from parts_from
text_end view before folded = fold_written view folded

-- ---- the loop

-- the tasks before an index have been written, or are to be told of
pub record IsPassed (view : View) (begins : Begins) (fold : Fold) (at : ℕ) (old now : Option (List ℕ)) : Type 0 where
  pub before : List Task
  pub folded : List Task
  pub done : List ℕ
  pub within : at ≤ length view.events
  pub order : AreInOrder begins at
  pub started_before : fold.start ≤ at
  pub few : fold.tasks ≤ at
  pub recent : padded 4 before ≡ ranges view.events begins at
  pub counted : fold.tasks ≡ length folded
  pub events : slice_range view.events fold.start at ≡ events_of folded
  pub written : Appends old now done
  pub whole : done ++ text_from view before folded (tasks_in view (drop at view.events)) ≡ parts_text view

pub none_passed : (view : View) (begins : Begins) (fold : Fold) (old : Option (List ℕ)) → begins.last ≡ 0 → begins.second ≡ 0 → begins.third ≡ 0 → begins.fourth ≡ 0
    → fold.tasks ≡ 0 → fold.start ≡ 0 → Appends old old [] → IsPassed view begins fold 0 old old
unfolding padded text_from parts_text
none_passed view begins fold old last second third fourth tasks start none = record {
  before = [];
  folded = [];
  done = [];
  within = omega arith;
  order = record { last = omega (arith, last); second = omega (arith, second); third = omega (arith, second, third); fourth = omega (arith, third, fourth) };
  started_before = omega (arith, start);
  few = omega (arith, tasks);
  recent = rw (last, second, third, fourth) refl;
  counted = tasks;
  events = rw start refl;
  written = none;
  whole = refl;
}

events-append : (folded : List Task) (task : Task) → events_of (folded ++ task ∷ []) ≡ events_of folded ++ task
events-append folded task = flat_map-append (λ t. t) folded (task ∷ []) ∙ ap (λ l. events_of folded ++ l) (append-nil task)

-- two ranges side by side
range_joined : {A : Type 0} (xs : List A) (a b c : ℕ) → a ≤ b → b ≤ c → slice_range xs a c ≡ slice_range xs a b ++ slice_range xs b c
range_joined xs a b c one other =
    let n : c - a ≡ (b - a) + (c - b) = omega arith in
    let m : a + (b - a) ≡ b = omega arith in
    ap (λ k. take k (drop a xs)) n ∙ (take-add (b - a) (c - b) (drop a xs)
    ∙ ap (λ l. take (b - a) (drop a xs) ++ take (c - b) l) (drop-drop (b - a) a xs ∙ ap (λ k. drop k xs) m))

length_folded : (t : Bool) (fold : Fold) (folded : List Task) (task : Task) (end : ℕ) → fold.tasks ≡ length folded → (fold_with t fold end).tasks ≡ length (kept t folded task)
unfolding kept
length_folded true fold folded task end counted = ap (λ n. n + 1) counted ∙ sym (length-append folded (task ∷ []))
length_folded false fold folded task end counted = refl

events_folded : (events : List ViewedEvent) (t : Bool) (fold : Fold) (folded : List Task) (at end : ℕ) → fold.start ≤ at → at ≤ end
    → slice_range events fold.start at ≡ events_of folded
    → slice_range events (fold_with t fold end).start end ≡ events_of (kept t folded (slice_range events at end))
unfolding kept
events_folded events true fold folded at end up more are =
    range_joined events fold.start at end up more ∙ (ap (λ l. l ++ slice_range events at end) are ∙ sym (events-append folded (slice_range events at end)))
events_folded events false fold folded at end up more are = range_none events end

start_before : (t : Bool) (fold : Fold) (at end : ℕ) → fold.start ≤ at → at ≤ end → (fold_with t fold end).start ≤ end
start_before true fold at end up more = omega (arith, up, more)
start_before false fold at end up more = omega arith

few_folded : (t : Bool) (fold : Fold) (at end : ℕ) → fold.tasks ≤ at → at < end → (fold_with t fold end).tasks ≤ end
few_folded true fold at end up more = omega (arith, up, more)
few_folded false fold at end up more = omega arith

order_kept : (begins next : Begins) (at end : ℕ) → AreInOrder begins at → at < end → next.last ≡ at → next.second ≡ begins.last → next.third ≡ begins.second → next.fourth ≡ begins.third
    → AreInOrder next end
order_kept begins next at end order up last second third fourth = record {
  last = omega (arith, last, up);
  second = omega (arith, order.last, last, second);
  third = omega (arith, order.second, second, third);
  fourth = omega (arith, order.third, third, fourth);
}

-- one task more is passed
pub task_passed : (view : View) (begins next : Begins) (fold : Fold) (at end : ℕ) (t : Bool) (old now new : Option (List ℕ))
    → IsPassed view begins fold at old now → at < end → end ≤ length view.events
    → tasks_in view (drop at view.events) ≡ slice_range view.events at end ∷ tasks_in view (drop end view.events)
    → t ≡ list_any (alike_tasks view (slice_range view.events at end)) (ranges view.events begins at)
    → Appends now new (text_unless t view fold.tasks (slice_range view.events fold.start at) (slice_range view.events at end))
    → next.last ≡ at → next.second ≡ begins.last → next.third ≡ begins.second → next.fourth ≡ begins.third
    → IsPassed view next (fold_with t fold end) end old new
unfolding padded
task_passed view begins next fold at end t old now new passed up within is_task is_like written last second third fourth =
    let events = view.events in
    let task = slice_range events at end in
    let rest = tasks_in view (drop end events) in
    let before = passed.before in
    let folded = passed.folded in
    let inside : end - at ≤ length (drop at events) = omega (arith, length-drop at events, within) in
    let some : 0 < length task = omega (arith, length-take-le (end - at) (drop at events) inside, up) in
    let like : repeats view before task ≡ t =
    sym (any_padded (alike_tasks view task) (like_none view task some) 4 before) ∙ (ap (list_any (alike_tasks view task)) passed.recent ∙ sym is_like) in
    let own : Appends now new (text_unless t view (length folded) (events_of folded) task) =
    subst (λ l. Appends now new (text_unless t view (length folded) l task)) passed.events
    (subst (λ n. Appends now new (text_unless t view n (slice_range events fold.start at) task)) passed.counted written) in
    let text = text_unless t view (length folded) (events_of folded) task in
    let recent : padded 4 (task ∷ before) ≡ ranges events next end =
    ap (λ l. task ∷ l) (padded_front 3 before ∙ ap (take 3) passed.recent) ∙ rw (last, second, third, fourth) refl in
    record {
      before = task ∷ before;
      folded = kept t folded task;
      done = passed.done ++ text;
      within = within;
      order = order_kept begins next at end passed.order up last second third fourth;
      started_before = start_before t fold at end passed.started_before (omega (arith, up));
      few = few_folded t fold at end passed.few up;
      recent = recent;
      counted = length_folded t fold folded task end passed.counted;
      events = events_folded events t fold folded at end passed.started_before (omega (arith, up)) passed.events;
      written = Appends-trans old now new passed.done text passed.written own;
      whole = append_assoc passed.done text (text_from view (task ∷ before) (kept t folded task) rest)
          ∙ (ap (λ l. passed.done ++ l) (sym (text_step view before folded rest task t like) ∙ ap (text_from view before folded) (sym is_task)) ∙ passed.whole);
    }

-- all tasks are passed
pub all_passed : (view : View) (begins : Begins) (fold : Fold) (at : ℕ) (old now new : Option (List ℕ)) → IsPassed view begins fold at old now → length view.events ≤ at
    → Appends now new (fold_text view fold.tasks (slice_range view.events fold.start at)) → Appends old new (parts_text view)
all_passed view begins fold at old now new passed past last =
    let folded = passed.folded in
    let own : Appends now new (fold_text view (length folded) (events_of folded)) =
    subst (λ l. Appends now new (fold_text view (length folded) l)) passed.events
    (subst (λ n. Appends now new (fold_text view n (slice_range view.events fold.start at))) passed.counted last) in
    let e : passed.done ++ fold_text view (length folded) (events_of folded) ≡ parts_text view =
    ap (λ l. passed.done ++ l) (sym (text_end view passed.before folded))
    ∙ (ap (λ l. passed.done ++ text_from view passed.before folded (tasks_in view l)) (sym (drop_of_length-le view.events past)) ∙ passed.whole) in
    subst (Appends old new) e (Appends-trans old now new passed.done (fold_text view (length folded) (events_of folded)) passed.written own)

-- ---- nothing is lost

split_whole : (view : View) (number : ℕ) (first : Task) (events : List ViewedEvent) → events_of (split_from view number first events) ≡ first ++ events
unfolding split_from
split_whole view number first [] = refl
split_whole view number first (event ∷ events) =
    by (belongs view number (Some event)) refl (split_whole view number (first ++ event ∷ []) events) (split_whole view (task_of view event) (event ∷ []) events)
  where
    by : (t : Bool) → belongs view number (Some event) ≡ t
        → events_of (split_from view number (first ++ event ∷ []) events) ≡ (first ++ event ∷ []) ++ events
        → events_of (split_from view (task_of view event) (event ∷ []) events) ≡ event ∷ events
        → events_of (split_from view number first (event ∷ events)) ≡ first ++ (event ∷ events)
    by true is more other = ap events_of (split_at view number first event events true is) ∙ (more ∙ append_assoc first (event ∷ []) events)
    by false is more other = ap events_of (split_at view number first event events false is) ∙ ap (λ l. first ++ l) other

tasks_whole : (view : View) (events : List ViewedEvent) → events_of (tasks_in view events) ≡ events
tasks_whole view [] = refl
tasks_whole view (event ∷ events) = split_whole view (task_of view event) (event ∷ []) events

folded_tasks : (folded : List Task) → tasks_of (folded_part folded) ≡ folded
folded_tasks [] = refl
folded_tasks (task ∷ tasks) = append-nil (task ∷ tasks)

pub with_folded : (done : List Part) (folded : List Task) → tasks_of (done ++ folded_part folded) ≡ tasks_of done ++ folded
with_folded done folded = flat_map-append part_tasks done (folded_part folded) ∙ ap (λ l. tasks_of done ++ l) (folded_tasks folded)

tasks_from : (view : View) (before folded rest : List Task) → tasks_of (parts_from view before folded rest) ≡ folded ++ rest
unfolding parts_from
tasks_from view before folded [] = folded_tasks folded ∙ sym (append-nil folded)
tasks_from view before folded (task ∷ rest) =
    by (repeats view before task) refl (tasks_from view (task ∷ before) (folded ++ task ∷ []) rest) (tasks_from view (task ∷ before) [] rest)
  where
    by : (t : Bool) → repeats view before task ≡ t
        → tasks_of (parts_from view (task ∷ before) (folded ++ task ∷ []) rest) ≡ (folded ++ task ∷ []) ++ rest
        → tasks_of (parts_from view (task ∷ before) [] rest) ≡ rest
        → tasks_of (parts_from view before folded (task ∷ rest)) ≡ folded ++ task ∷ rest
    by true is more other = ap tasks_of (parts_at view before folded rest task true is) ∙ (more ∙ append_assoc folded (task ∷ []) rest)
    by false is more other =
        let after = parts_from view (task ∷ before) [] rest in
        ap tasks_of (parts_at view before folded rest task false is)
        ∙ (flat_map-append part_tasks (folded_part folded) (Shown task ∷ after)
        ∙ (ap (λ l. l ++ task ∷ tasks_of after) (folded_tasks folded) ∙ ap (λ l. folded ++ task ∷ l) other))

pub parts_have_all_tasks : PartsHaveAllTasks
parts_have_all_tasks view = tasks_from view [] [] (tasks_in view view.events)

events_in : (parts : List Part) → flat_map part_events parts ≡ events_of (tasks_of parts)
events_in [] = refl
events_in (Shown task ∷ parts) = ap (λ l. task ++ l) (events_in parts)
events_in (Folded tasks ∷ parts) = ap (λ l. events_of tasks ++ l) (events_in parts) ∙ sym (flat_map-append (λ t. t) tasks (tasks_of parts))

pub parts_have_all_events : PartsHaveAllEvents
parts_have_all_events view = events_in (parts_of view) ∙ (ap events_of (parts_have_all_tasks view) ∙ tasks_whole view view.events)
