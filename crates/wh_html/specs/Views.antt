-- Which tasks of a run its page shows.
use Rattle.std.specs.Prelude.{ℕ, ◌-◌, nat_lt, min, Bool, if◌then◌else◌, Option, Some, None, List, take, drop, length, count_by}
use Rattle.wh_html.specs.declared.page.Moment.{Moment}
use Rattle.wh_html.specs.declared.page.Page.{Page}
use Rattle.wh_html.specs.declared.axis.Stop.{Stop}
use Rattle.wh_html.specs.Axes.{AreStopsOf}

-- how many items are left out before the first that is shown, if `at` of them precede the fault
abbrev pub left_out : (total at : ℕ) → ℕ
left_out total at = min (at - 200) (total - 300)

-- the items that are shown, 300 at most, if the first `left` are left out
abbrev pub shown : {A : Type 0} → (left : ℕ) → List A → List A
shown left items = take 300 (drop left items)

-- how many of the tasks that start at these moments precede the place around which tasks are shown: that of the event of
-- the fault, or else the end of an open run, or the beginning of a closed one
abbrev pub tasks_before : (starts : List Moment) → (fault : Option Moment) → (running : Bool) → ℕ
tasks_before starts (Some fault) running = count_by (λ start. nat_lt start.event fault.event) starts
tasks_before starts None running = if running then length starts else 0

-- how many tasks are left out before those that are shown
unfoldable pub first_shown : (starts : List Moment) → (fault : Option Moment) → (running : Bool) → ℕ
first_shown starts fault running = left_out (length starts) (tasks_before starts fault running)

-- the stops are the axis of what a page shows
abbrev pub IsAxisOf : Page → List Stop → Type 0
IsAxisOf page stops = AreStopsOf page.lanes page.tasks page.fault stops
