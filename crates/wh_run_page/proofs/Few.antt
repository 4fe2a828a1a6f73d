-- Which tasks of a run its page shows.
use Rattle.std.proofs.Common.{◌≡◌, ℕ, ◌+◌, ◌-◌, ◌≤◌, Bool, true, false, cond, List, [], ◌∷◌, length, map, take, drop, min, refl, sym, ap, subst, ◌∙◌, Option, Some, None, arith}
use Rattle.std.specs.Prelude.{◌≢◌}
use Rattle.std.specs.Option.{option_map}
use Rattle.std.proofs.lemmas.List.{length-drop, length-map, take-map, drop-map, take_all}
use Rattle.wh_html.specs.Views.{first_shown, left_out, shown, tasks_before}
use Rattle.wh_html.specs.declared.page.Moment.{Moment}
use Rattle.wh_html.specs.declared.page.Page.{Page}
use Rattle.wh_view.specs.Runs.{status_of}
use Rattle.wh_view.specs.declared.view.RunStatus.{RunStatus}
use Rattle.wh_view.specs.declared.view.RunStatus.TheVariants as statuses
use Rattle.wh_view.specs.declared.view.View.{View}
use Rattle.wh_run_page.specs.declared.said.Said.{Said}
use Rattle.wh_run_page.specs.Laws.{BeginningsAreShown, EndsAreShown, TasksAreInARow, all_tasks}
use Rattle.wh_run_page.specs.Moments.{event_at, index_at, moment_of, times_of}
use Rattle.wh_run_page.specs.Pages.{IsPageOf, timed_page}
use Rattle.wh_run_page.specs.Tasks.{earlier_of, groups_of, is_running, shown_tasks, start_at, task_at, tasks_of}

-- what is shown of items, each made of one of others, is made of what is shown of those
pub shown_map : {A B : Type 0} (f : A → B) (left : ℕ) (xs : List A) → map f (shown left xs) ≡ shown left (map f xs)
shown_map f left xs = rw (drop-map f left xs, take-map f 300 (drop left xs)) refl

-- as many tasks as groups
tasks-length : (view : View) (times : List ℕ) (place : Option ℕ) → length (tasks_of view times place) ≡ length (groups_of view.tasks)
tasks-length view times place = length-map (groups_of view.tasks) (task_at view times place)

-- the last 300, and the first 300
last_left : (total : ℕ) → left_out total total ≡ total - 300
last_left total = omega arith

none_left : (total : ℕ) → left_out total 0 ≡ 0
none_left total = omega arith

shown-last : {A : Type 0} (xs : List A) (left : ℕ) → left ≡ length xs - 300 → shown left xs ≡ drop (length xs - 300) xs
shown-last xs left e =
    let fits : length (drop left xs) ≤ 300 = rw length-drop (omega arith) in
    take_all 300 (drop left xs) fits ∙ ap (λ n. drop n xs) e

-- how many tasks are left out if nothing is at fault
left-of : (view : View) (times : List ℕ) (place : Option ℕ) (fault : Option Moment) (running : Bool) → fault ≡ None
    → is_running (status_of view.events) ≡ running
    → earlier_of view times fault ≡ left_out (length (tasks_of view times place)) (cond running (length (tasks_of view times place)) 0)
unfolding first_shown
left-of view times place fault running none is =
    let starts = map (start_at view times) (groups_of view.tasks) in
    let same : length starts ≡ length (tasks_of view times place) =
    length-map (groups_of view.tasks) (start_at view times) ∙ sym (tasks-length view times place) in
    ap (λ f. left_out (length starts) (tasks_before starts f (is_running (status_of view.events)))) none
    ∙ (ap (λ b. left_out (length starts) (cond b (length starts) 0)) is
    ∙ ap (λ n. left_out n (cond running n 0)) same)

open-runs : (status : RunStatus) → status ≡ statuses.Running → is_running status ≡ true
open-runs status is = ap is_running is

closed-do-not : (status : RunStatus) → status ≢ statuses.Running → is_running status ≡ false
closed-do-not statuses.Running not = absurd (not refl)
closed-do-not statuses.Completed not = refl
closed-do-not statuses.Failed not = refl
closed-do-not statuses.Canceled not = refl
closed-do-not statuses.Terminated not = refl
closed-do-not statuses.TimedOut not = refl
closed-do-not statuses.ContinuedAsNew not = refl

pub tasks_are_in_a_row : TasksAreInARow
unfolding timed_page
tasks_are_in_a_row view said page own =
    subst (λ (one : Page). (one.tasks ≡ take 300 (drop one.earlier (all_tasks view said))) × (one.all_tasks ≡ length (all_tasks view said))) (sym own.is)
    (refl, sym (tasks-length view (times_of view.events) said.place))

pub ends_are_shown : EndsAreShown
unfolding timed_page
ends_are_shown view said page own none running =
    let times = times_of view.events in
    let all = all_tasks view said in
    let fault = option_map (moment_of times) (event_at view.events (index_at said.place)) in
    let no_fault : fault ≡ None = sym (ap (λ one. one.fault) own.is) ∙ none in
    let left = left-of view times said.place fault true no_fault (open-runs (status_of view.events) running) ∙ last_left (length all) in
    ap (λ one. one.tasks) own.is ∙ shown-last all (earlier_of view times fault) left

pub beginnings_are_shown : BeginningsAreShown
unfolding timed_page
beginnings_are_shown view said page own none closed =
    let times = times_of view.events in
    let all = all_tasks view said in
    let fault = option_map (moment_of times) (event_at view.events (index_at said.place)) in
    let no_fault : fault ≡ None = sym (ap (λ one. one.fault) own.is) ∙ none in
    let left = left-of view times said.place fault false no_fault (closed-do-not (status_of view.events) closed) ∙ none_left (length all) in
    ap (λ one. one.tasks) own.is ∙ ap (λ n. shown n all) left
