-- What holds of every page of a run.
use Rattle.std.specs.Prelude.{◌≡◌, ◌≢◌, ◌⊎◌, ◌||◌, ℕ, ◌+◌, ◌-◌, ◌<◌, ◌≤◌, nat_le, min, Bool, true, false, Option, None, List, [], ◌∷◌, length, take, drop, replicate, count_by, All, Contains}
use Rattle.std.specs.List.{flat_map, list_any, sum_by}
use Rattle.wh_view.specs.Runs.{status_of}
use Rattle.wh_view.specs.declared.view.RunStatus.TheVariants.{Running}
use Rattle.wh_view.specs.declared.view.View.{View}
use Rattle.wh_view.specs.declared.view.ViewedThing.{ViewedThing}
use Rattle.wh_run_page.specs.declared.said.Said.{Said}
use Rattle.wh_run_page.specs.declared.tasks.Group.{Group}
use Rattle.wh_html.specs.declared.page.Page.{Page}
use Rattle.wh_html.specs.declared.page.Task.{Task}
use Rattle.wh_html.specs.declared.page.RowPart.{RowPart}
use Rattle.wh_html.specs.declared.page.RowPart.TheVariants.{Alone, First, Later}
use Rattle.wh_run_page.specs.Choices.{is_hit, time_until}
use Rattle.wh_run_page.specs.Moments.{index_at, times_of}
use Rattle.wh_run_page.specs.Pages.{IsPageOf}
use Rattle.wh_run_page.specs.Rows.{is_failed, is_open, outcome_of}
use Rattle.wh_run_page.specs.Tasks.{groups_of, lines_of, tasks_of}

-- groups written out: the number of the task of each, once for each of its events
abbrev pub written_out : List Group → List ℕ
written_out groups = flat_map (λ group. replicate group.count group.number) groups

-- each group has at least one event, and begins where the one before ends
abbrev pub FollowOn : (first : ℕ) → List Group → Type 0
FollowOn first [] = Unit {0}
FollowOn first (group ∷ groups) = (0 < group.count) × (group.first ≡ first) × FollowOn (first + group.count) groups

-- the first of the groups has another number
abbrev pub BeginsApart : (number : ℕ) → List Group → Type 0
BeginsApart number [] = Unit {0}
BeginsApart number (group ∷ groups) = group.number ≢ number

-- no two adjacent groups have the same number
abbrev pub AreApart : List Group → Type 0
AreApart [] = Unit {0}
AreApart (group ∷ groups) = BeginsApart group.number groups × AreApart groups

-- the groups are the longest runs of equal numbers
pub record AreRuns (numbers : List ℕ) (groups : List Group) : Type 0 where
  pub all : written_out groups ≡ numbers
  pub follow : FollowOn 0 groups
  pub apart : AreApart groups

-- the groups of the tasks of events are the longest runs of equal numbers
abbrev pub GroupsAreRuns : Type 0
GroupsAreRuns = (numbers : List ℕ) → AreRuns numbers (groups_of numbers)

-- the tasks of a run, before any is left out of its page
abbrev pub all_tasks : View → Said → List Task
all_tasks view said = tasks_of view (times_of view.events) said.place

-- if the view has a task for each event, the lines of all tasks are those of all events
abbrev pub LinesAreAllEvents : Type 0
LinesAreAllEvents =
    (view : View) (said : Said) → length view.tasks ≡ length view.events
    → flat_map (λ task. task.lines) (all_tasks view said) ≡ lines_of view said.place view.events

-- a page shows 300 tasks at most, which stand one after the other in the run, and counts those before them and all
abbrev pub TasksAreInARow : Type 0
TasksAreInARow =
    (view : View) (said : Said) (page : Page) → IsPageOf view said page
    → (page.tasks ≡ take 300 (drop page.earlier (all_tasks view said))) × (page.all_tasks ≡ length (all_tasks view said))

-- if nothing is at fault, the page of an open run shows its last tasks, and that of a closed one its first
abbrev pub EndsAreShown : Type 0
EndsAreShown =
    (view : View) (said : Said) (page : Page) → IsPageOf view said page → page.fault ≡ None
    → status_of view.events ≡ Running → page.tasks ≡ drop (length (all_tasks view said) - 300) (all_tasks view said)

abbrev pub BeginningsAreShown : Type 0
BeginningsAreShown =
    (view : View) (said : Said) (page : Page) → IsPageOf view said page → page.fault ≡ None
    → status_of view.events ≢ Running → page.tasks ≡ take 300 (all_tasks view said)

-- a page shows all things, or just 300 of more
abbrev pub ThingsAreAsManyAsFit : Type 0
ThingsAreAsManyAsFit =
    (view : View) (said : Said) (page : Page) → IsPageOf view said page
    → length page.lanes ≡ min (length view.things) 300

-- the thing is shown, unless each that is shown passes the test
abbrev pub IsShownUnless : (shown : List ViewedThing) → ViewedThing → (ViewedThing → Bool) → Type 0
IsShownUnless shown thing passes = Contains shown thing ⊎ All (λ other. passes other ≡ true) shown

-- a thing has the event of the fault, or failed
abbrev pub failed_or_worse : View → (fault : Option ℕ) → ViewedThing → Bool
failed_or_worse view fault thing = is_hit fault thing || is_failed (outcome_of view thing)

-- a thing has the event of the fault, or failed, or is open
abbrev pub open_or_worse : View → (fault : Option ℕ) → ViewedThing → Bool
open_or_worse view fault thing = failed_or_worse view fault thing || is_open (outcome_of view thing)

-- how long a thing took; 0 if it is open
abbrev pub time_of : List ℕ → ViewedThing → ℕ
time_of times thing = time_until times thing.opened thing.ended

-- a thing is left out only where each that is shown comes before it, or as early: for a thing of the fault others of
-- the fault; for one that failed also others that failed; for one that is open also others that are open; and for any
-- thing also those that took as long
pub record ComesInTurn
    (view : View) (times : List ℕ) (fault : Option ℕ) (shown : List ViewedThing) (thing : ViewedThing) : Type 0 where
  pub hit : is_hit fault thing ≡ true → IsShownUnless shown thing (is_hit fault)
  pub failed : is_failed (outcome_of view thing) ≡ true → IsShownUnless shown thing (failed_or_worse view fault)
  pub pending : is_open (outcome_of view thing) ≡ true → IsShownUnless shown thing (open_or_worse view fault)
  pub slow : IsShownUnless shown thing
      (λ other. open_or_worse view fault other || nat_le (time_of times thing) (time_of times other))

-- each thing of a run is shown, or left out in its turn
abbrev pub WorstAreShown : Type 0
WorstAreShown =
    (view : View) (said : Said) (page : Page) → (own : IsPageOf view said page)
    → All (ComesInTurn view (times_of view.events) (index_at said.place) own.shown) view.things

-- a lane tells of its row: the first one that is drawn there
abbrev pub tells : RowPart → Bool
tells Alone = true
tells (First things drawn failed pending) = true
tells Later = false

-- as many lanes tell of a row as there are rows
abbrev pub RowsAreTold : Type 0
RowsAreTold =
    (view : View) (said : Said) (page : Page) → IsPageOf view said page
    → count_by (λ lane. tells lane.part) page.lanes ≡ page.rows

-- how many things a lane says are drawn in its row, if it tells of it
abbrev pub drawn_in : RowPart → ℕ
drawn_in Alone = 1
drawn_in (First things drawn failed pending) = drawn
drawn_in Later = 0

-- what is said to be drawn in the rows adds up to all lanes: each is drawn in one row
abbrev pub RowsAddUp : Type 0
RowsAddUp =
    (view : View) (said : Said) (page : Page) → IsPageOf view said page
    → sum_by (λ lane. drawn_in lane.part) page.lanes ≡ length page.lanes

-- of the things of which a row tells, some are drawn, and some failed or are open, and none did both
abbrev pub TellsOfItsThings : RowPart → Type 0
TellsOfItsThings Alone = Unit {0}
TellsOfItsThings (First things drawn failed pending) = (drawn ≤ things) × (failed + pending ≤ things)
TellsOfItsThings Later = Unit {0}

-- so each row does
abbrev pub RowsTellOfTheirThings : Type 0
RowsTellOfTheirThings =
    (view : View) (said : Said) (page : Page) → IsPageOf view said page
    → All (λ lane. TellsOfItsThings lane.part) page.lanes

-- if the event of the fault opened, started or ended a thing, such a thing is shown
abbrev pub FaultIsShown : Type 0
FaultIsShown =
    (view : View) (said : Said) (page : Page) → (own : IsPageOf view said page)
    → list_any (is_hit (index_at said.place)) view.things ≡ true
    → list_any (is_hit (index_at said.place)) own.shown ≡ true
