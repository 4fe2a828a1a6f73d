-- What the things of each type come to, as a page says it.
use Rattle.std.specs.Prelude.{ℕ, Option, Some, None, List, [], ◌∷◌, ◌++◌, codes}
use Rattle.std.specs.List.{flat_map}
use Rattle.wh_html.specs.Words.{kind_word}
use Rattle.wh_html.specs.declared.page.Longest.{Longest}
use Rattle.wh_html.specs.declared.page.SumOfType.{SumOfType}
use Rattle.wh_times.specs.declared.sums.Lengths.{Lengths}
use Rattle.wh_times.specs.declared.sums.TypeSum.{TypeSum}
use Rattle.wh_view.specs.Lookups.{event_type, thing_of}
use Rattle.wh_view.specs.declared.view.View.{View}
use Rattle.wh_view.specs.declared.view.ViewedEvent.{ViewedEvent}
use Rattle.wh_view.specs.declared.view.ViewedThing.{ViewedThing}
use Rattle.wh_html.specs.Times.{span_text}
use Rattle.wh_run_page.specs.Lanes.{lane_kind}
use Rattle.wh_run_page.specs.Moments.{event_at, number_of}
use Rattle.wh_run_page.specs.Words.{after_label, known_span}

-- the kind of the thing of an event, if it has one
abbrev pub kind_of : Option ViewedThing → List ℕ
kind_of None = []
kind_of (Some thing) = kind_word (lane_kind thing.kind)

abbrev pub kind_at : View → ViewedEvent → List ℕ
kind_at view event = kind_of (thing_of view event)

-- the kind of the things of a type, and the type if they have one, by the event that opened the first of them
abbrev pub sum_name : View → ViewedEvent → List ℕ
sum_name view event = kind_at view event ++ after_label (codes " ") (event_type event)

-- the median of the times of a type, if one is known
abbrev pub median_of : Option Lengths → Option ℕ
median_of None = None
median_of (Some lengths) = Some lengths.median

-- the longest time with the event that opened what took so long, if there is such an event
abbrev pub longest_by : (millis : ℕ) → Option ViewedEvent → Option Longest
longest_by millis None = None
longest_by millis (Some event) = Some (record { words = span_text millis; event = number_of event })

abbrev pub longest_in : View → Lengths → Option Longest
longest_in view lengths = longest_by lengths.slowest.millis (event_at view.events (Some lengths.slowest.opened))

-- the longest of the times of a type, if one is known
abbrev pub longest_of : View → Option Lengths → Option Longest
longest_of view None = None
longest_of view (Some lengths) = longest_in view lengths

-- what the things of a type come to, the first of which the event opened
unfoldable pub sum_of : View → TypeSum → ViewedEvent → SumOfType
sum_of view sum event =
    record {
      name = sum_name view event;
      times = sum.times;
      failed = sum.failed;
      pending = sum.still_open;
      median = known_span (median_of sum.lengths);
      longest = longest_of view sum.lengths;
    }

-- the same, if there is such an event
abbrev pub sum_by : View → TypeSum → Option ViewedEvent → List SumOfType
sum_by view sum None = []
sum_by view sum (Some event) = sum_of view sum event ∷ []

abbrev pub sum_at : View → TypeSum → List SumOfType
sum_at view sum = sum_by view sum (event_at view.events (Some sum.first))

-- what the activities, timers and child workflows of each type come to, in the order of the first of each
abbrev pub sums_of : View → List SumOfType
sums_of view = flat_map (sum_at view) view.sums
