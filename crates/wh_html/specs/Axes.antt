-- The axis of a picture: the places of its times.
use Rattle.std.specs.Ordering.{nat_cmp}
use Rattle.std.specs.Prelude.{IsPermutation, IsSorted, ◌≡◌, ◌≤◌, ◌<◌, ℕ, suc, zero, ◌+◌, ◌-◌, ◌*◌, ◌/◌, ◌==◌, min, max, nat_le, nat_lt, get_or, length, if◌then◌else◌, Option, Some, None, List, [], ◌∷◌, ◌++◌, map}
use Rattle.std.specs.List.{flat_map}
use Rattle.wh_html.specs.declared.page.Lane.{Lane}
use Rattle.wh_html.specs.declared.page.Task.{Task}
use Rattle.wh_html.specs.declared.page.Moment.{Moment}
use Rattle.wh_html.specs.declared.axis.Stop.{Stop}
use Rattle.wh_html.specs.declared.axis.Gap.{Gap}

-- where the first time stands, and where the last one does, in units of the picture from the left
abbrev pub left : ℕ
left = 200

abbrev pub right : ℕ
right = 830

-- where a time stands: at the place of the last stop that is not later, if the stops are in their order
abbrev pub place_from : (x : ℕ) → List Stop → (millis : ℕ) → ℕ
place_from x [] millis = x
place_from x (stop ∷ stops) millis = if nat_lt millis stop.millis then x else place_from stop.x stops millis

-- where a time stands, among all stops
unfoldable pub place_of : List Stop → (millis : ℕ) → ℕ
place_of stops millis = place_from left stops millis

-- the time of an event, if there is one
abbrev pub moment_times : Option Moment → List ℕ
moment_times None = []
moment_times (Some moment) = moment.millis ∷ []

-- the times of a thing
abbrev pub lane_times : Lane → List ℕ
lane_times lane =
    lane.opened.millis ∷ (moment_times lane.started ++ (moment_times lane.cancelling ++ moment_times lane.ended))

-- the times of all that a page shows
unfoldable pub times_shown : List Lane → List Task → Option Moment → List ℕ
times_shown lanes tasks fault =
    flat_map lane_times lanes ++ (map (λ task. task.started.millis) tasks ++ moment_times fault)

-- the stops go to the right from a place on, and not beyond the right end
abbrev pub GoesRight : (x : ℕ) → List Stop → Type 0
GoesRight x [] = x ≤ right
GoesRight x (stop ∷ stops) = (x ≤ stop.x) × GoesRight stop.x stops

-- the first stop stands at the left end
abbrev pub BeginsLeft : List Stop → Type 0
BeginsLeft [] = Unit {0}
BeginsLeft (stop ∷ stops) = stop.x ≡ left

-- the first of the times, and the last; 0 if there is none
abbrev pub first_of : List ℕ → ℕ
first_of times = get_or times 0 0

abbrev pub last_of : List ℕ → ℕ
last_of times = get_or times (length times - 1) 0

-- where the last stop stands
abbrev pub last_place : (x : ℕ) → List Stop → ℕ
last_place x [] = x
last_place x (stop ∷ stops) = last_place stop.x stops

-- how many of the times differ from the one before
abbrev pub steps_from : (steps before : ℕ) → List ℕ → ℕ
steps_from steps before [] = steps
steps_from steps before (time ∷ times) =
    steps_from (if time == before then steps else min (steps + 1) 18446744073709551615) time times

-- how many of all times differ from the one before
abbrev pub steps_of : List ℕ → ℕ
steps_of times = steps_from 0 (first_of times) times

-- the length of all steps together, each counted as the longest at most
abbrev pub whole_from : (longest whole before : ℕ) → List ℕ → ℕ
whole_from longest whole before [] = whole
whole_from longest whole before (time ∷ times) =
    whole_from longest (min (whole + min (time - before) longest) 18446744073709551615) time times

-- the length of the steps between all times, each counted as the longest at most
abbrev pub whole_of : List ℕ → (longest : ℕ) → ℕ
whole_of times longest = whole_from longest 0 (first_of times) times

-- half of the longest, if it is more than half of the length of all steps together
abbrev pub shorter : List ℕ → (longest : ℕ) → ℕ
shorter times longest = if nat_le longest (whole_of times longest / 2) then longest else longest / 2

-- the longest step after up to so many halvings
unfoldable pub shortened : List ℕ → (halvings longest : ℕ) → ℕ
shortened times zero longest = longest
shortened times (suc halvings) longest = shorter times (shortened times halvings longest)

-- the longest step that is drawn to scale: the time between the first and the last; if there are three steps or more,
-- it is halved until it is no more than half of what is drawn
abbrev pub longest_of : List ℕ → ℕ
longest_of times =
    let all = last_of times - first_of times in if nat_le 3 (steps_of times) then shortened times 64 all else all

-- the gap of a step from a place, if the step is longer than the longest
abbrev pub gap_of : (from step longest : ℕ) → Option Gap
gap_of from step longest = if nat_lt longest step then Some (record { from = from; millis = step }) else None

-- each stop has the gap of the step from the place and time before
abbrev pub Gaps : (longest x millis : ℕ) → List Stop → Type 0
Gaps longest x millis [] = Unit {0}
Gaps longest x millis (stop ∷ stops) =
    (stop.gap ≡ gap_of x (stop.millis - millis) longest) × Gaps longest stop.x stop.millis stops

-- each stop has the gap of the step before it, by their times
abbrev pub AreGaps : List Stop → Type 0
AreGaps stops =
    let times = map (λ stop. stop.millis) stops in Gaps (longest_of times) left (first_of times) stops

-- if the last stop is later than the first, it stands at the right end
abbrev pub EndsRight : List Stop → Type 0
EndsRight stops =
    let times = map (λ stop. stop.millis) stops in first_of times < last_of times → last_place left stops ≡ right

-- the share of the room for a part of the whole, all the room at most
abbrev pub share : (room part whole : ℕ) → ℕ
share room part whole = if whole == 0 then 0 else min (min (room * part) 18446744073709551615 / whole) room

-- how many steps there are with one more of this length, and their length together, each counted as the longest at most
abbrev pub steps_to : (steps step : ℕ) → ℕ
steps_to steps step = min (steps + min step 1) 18446744073709551615

abbrev pub length_to : (longest before step : ℕ) → ℕ
length_to longest before step = min (before + min step longest) 18446744073709551615

-- where a time stands after so many of all steps, with the length `far` of the whole length: each step gets the same
-- share of 250 units, and a share of 380 units in proportion to its length; the last time stands at the right end
abbrev pub place_after : (all whole last steps far millis : ℕ) → ℕ
place_after all whole last steps far millis =
    if millis == last then right else left + share 250 steps all + share 380 far whole

-- where the next time stands: no further left than the one before, and the same time at the same place
abbrev pub next_place : (all whole longest last steps far before x millis : ℕ) → ℕ
next_place all whole longest last steps far before x millis =
    let step = millis - before in
    if millis == before then x
    else max (place_after all whole last (steps_to steps step) (length_to longest far step) millis) x

-- each stop stands where the steps up to it lead; `steps`, `far`, `millis` and `x` are those of the stop before
unfoldable pub Places : (all whole longest last steps far millis x : ℕ) → List Stop → Type 0
Places all whole longest last steps far millis x [] = Unit {0}
Places all whole longest last steps far millis x (stop ∷ stops) =
    let step = stop.millis - millis in
    (stop.x ≡ next_place all whole longest last steps far millis x stop.millis)
    × Places all whole longest last (steps_to steps step) (length_to longest far step) stop.millis stop.x stops

-- each stop stands where the steps up to it lead
abbrev pub ArePlaced : List Stop → Type 0
ArePlaced stops =
    let times = map (λ stop. stop.millis) stops in
    let longest = longest_of times in
    Places (steps_of times) (whole_of times longest) longest (last_of times) 0 0 (first_of times) left stops

-- where the next mark may stand: 84 units to the right of the mark before
abbrev pub next_free : (free x : ℕ) → ℕ
next_free free x = if nat_le free x then x + 84 else free

-- each stop has a mark if there is room for it
abbrev pub Marks : (free : ℕ) → List Stop → Type 0
Marks free [] = Unit {0}
Marks free (stop ∷ stops) = (stop.marked ≡ nat_le free stop.x) × Marks (next_free free stop.x) stops

-- the stops are the axis of things, tasks and a fault: their times in order, each at its place
pub record AreStopsOf (lanes : List Lane) (tasks : List Task) (fault : Option Moment) (stops : List Stop) : Type 0 where
  -- the times are in their order
  pub order : IsSorted nat_cmp (map (λ stop. stop.millis) stops)
  -- they are the times of all that is shown
  pub all : IsPermutation (times_shown lanes tasks fault) (map (λ stop. stop.millis) stops)
  -- each stands no further left than the one before
  pub places : GoesRight left stops
  -- the first stands at the left end
  pub begins : BeginsLeft stops
  -- the last stands at the right end, if it is later than the first
  pub ends : EndsRight stops
  -- each stands where the steps up to it lead: each step gets some room, and more by its length
  pub stand : ArePlaced stops
  -- each step that is longer than the longest that is drawn to scale has a gap
  pub gaps : AreGaps stops
  -- a stop has a mark if there is room for it
  pub marks : Marks left stops
