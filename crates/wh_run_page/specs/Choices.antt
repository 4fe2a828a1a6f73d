-- Which things of a run its page shows.
use Rattle.std.specs.Prelude.{◌≡◌, ◌≤◌, ◌<◌, ℕ, ◌+◌, ◌-◌, ◌==◌, ◌&&◌, ◌||◌, min, nat_le, nat_lt, get_or, count_by, length, Bool, true, false, if◌then◌else◌, Option, Some, None, List, [], ◌∷◌, ◌++◌}
use Rattle.wh_html.specs.declared.page.ThingOutcome.{ThingOutcome}
use Rattle.wh_html.specs.declared.page.ThingOutcome.TheVariants.{Open, Done, Failed, Canceled}
use Rattle.wh_view.specs.declared.view.View.{View}
use Rattle.wh_view.specs.declared.view.ViewedThing.{ViewedThing}
use Rattle.wh_run_page.specs.Lanes.{is_index, outcome_at}
use Rattle.wh_run_page.specs.Moments.{event_at}

-- the event at this index opened, started or ended the thing
abbrev pub has_event : ViewedThing → (at : ℕ) → Bool
has_event thing at = thing.opened == at || (is_index at thing.started || is_index at thing.ended)

-- so of the event of the fault, if there is one
abbrev pub is_hit : (fault : Option ℕ) → ViewedThing → Bool
is_hit None thing = false
is_hit (Some at) thing = has_event thing at

-- how long a thing took until the event at an index, in milliseconds; 0 if there is no such event
abbrev pub time_until : List ℕ → (opened : ℕ) → Option ℕ → ℕ
time_until times opened None = 0
time_until times opened (Some ended) = get_or times ended 0 - get_or times opened 0

-- what a thing of this outcome weighs that took so long
abbrev pub outcome_weight : ThingOutcome → (millis : ℕ) → ℕ
outcome_weight Open millis = 4_611_686_018_427_387_902
outcome_weight Done millis = min millis 4_611_686_018_427_387_901
outcome_weight Failed millis = 4_611_686_018_427_387_903
outcome_weight Canceled millis = min millis 4_611_686_018_427_387_901

-- what a thing weighs: the most if it has the event of the fault, the next if it failed, the next if it is open, and
-- else how long it took
abbrev pub weight : View → List ℕ → (fault : Option ℕ) → ViewedThing → ℕ
weight view times fault thing =
    if is_hit fault thing then 4_611_686_018_427_387_904
    else outcome_weight (outcome_at (event_at view.events thing.ended)) (time_until times thing.opened thing.ended)

-- how many of the things weigh so much or more
abbrev pub count_from : (weigh : ViewedThing → ℕ) → (least : ℕ) → List ViewedThing → ℕ
count_from weigh least things = count_by (λ thing. nat_le least (weigh thing)) things

-- the weight is the least of the 300 heaviest things
pub record IsLeast (weigh : ViewedThing → ℕ) (things : List ViewedThing) (least : ℕ) : Type 0 where
  pub enough : 300 ≤ count_from weigh least things
  pub fewer : count_from weigh (least + 1) things < 300

-- a thing of this weight is among those that are shown, if there is room for so many that have the least weight
abbrev pub has_room : (least room own : ℕ) → Bool
has_room least room own = nat_lt least own || (own == least && nat_lt 0 room)

-- for how many more there is room then
abbrev pub room_after : (least room own : ℕ) → ℕ
room_after least room own = if own == least then room - 1 else room

-- the things that weigh more than the least, and the first so many of those that weigh as much
abbrev pub heaviest : (weigh : ViewedThing → ℕ) → (least room : ℕ) → List ViewedThing → List ViewedThing
heaviest weigh least room [] = []
heaviest weigh least room (thing ∷ things) =
    (if has_room least room (weigh thing) then thing ∷ [] else [])
    ++ heaviest weigh least (room_after least room (weigh thing)) things

-- these are the 300 heaviest of many things, in their order, the earlier ones of those that weigh as much
pub record AreHeaviest (weigh : ViewedThing → ℕ) (things shown : List ViewedThing) : Type 0 where
  pub least : ℕ
  pub is_least : IsLeast weigh things least
  pub are : shown ≡ heaviest weigh least (300 - count_from weigh (least + 1) things) things

-- these are the things that are shown: all, or the 300 heaviest
pub record AreChosen (weigh : ViewedThing → ℕ) (things shown : List ViewedThing) : Type 0 where
  pub few : length things ≤ 300 → shown ≡ things
  pub many : 300 < length things → AreHeaviest weigh things shown
