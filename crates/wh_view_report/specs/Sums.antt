-- What the activities, timers and child workflows of each type come to.
use Rattle.std.specs.Prelude.{ℕ, ◌==◌, List, [], ◌∷◌, ◌++◌, codes, decimal, Option, Some, None, slice_get, if◌then◌else◌}
use Rattle.wh_times.specs.declared.sums.Lengths.{Lengths}
use Rattle.wh_times.specs.declared.sums.TypeSum.{TypeSum}
use Rattle.wh_view.specs.Lookups.{event_type, thing_of}
use Rattle.wh_view.specs.declared.view.View.{View}
use Rattle.wh_view.specs.declared.view.ViewedEvent.{ViewedEvent}
use Rattle.wh_view.specs.declared.view.ViewedThing.{ViewedThing}
use Rattle.wh_view_report.specs.Cut.{label_text}
use Rattle.wh_html.specs.Times.{span_text}
use Rattle.wh_view_report.specs.Waits.{kind_text}
use Rattle.wh_view_report.specs.Words.{reference_text}

-- so many of the things, before a word, if there are some
abbrev pub count_text : ℕ → List ℕ → List ℕ
count_text count word = if count == 0 then [] else codes ", " ++ (decimal count ++ (codes " " ++ word))

-- the median and the longest of the times of a type, with the event of the longest, if times are known
abbrev pub lengths_text : View → Option Lengths → List ℕ
lengths_text view None = []
lengths_text view (Some lengths) =
    codes ", median " ++ (span_text lengths.median ++ (codes ", longest " ++ (span_text lengths.slowest.millis
    ++ reference_text (codes " ") view (Some lengths.slowest.opened))))

-- the kind of the thing of an event, if it has one
abbrev pub kind_of : Option ViewedThing → List ℕ
kind_of None = []
kind_of (Some thing) = kind_text thing.kind

abbrev pub kind_at : View → ViewedEvent → List ℕ
kind_at view event = kind_of (thing_of view event)

-- the line of a type, the first thing of which the event opened
unfoldable pub sum_line : View → TypeSum → ViewedEvent → List ℕ
sum_line view sum event =
    kind_at view event ++ (label_text (codes " ") (event_type event) ++ (codes ": " ++ (decimal sum.times ++ (codes " times"
    ++ (count_text sum.failed (codes "failed") ++ (count_text sum.still_open (codes "open")
    ++ (lengths_text view sum.lengths ++ 10 ∷ [])))))))

-- that line, if there is such an event
abbrev pub sum_at : View → TypeSum → Option ViewedEvent → List ℕ
sum_at view sum None = []
sum_at view sum (Some event) = sum_line view sum event

-- the line of a type
abbrev pub sum_text : View → TypeSum → List ℕ
sum_text view sum = sum_at view sum (slice_get view.events sum.first)
