-- What the activities, timers and child workflows of each type come to, as JSON.
use Rattle.std.specs.Prelude.{ℕ, List, [], ◌++◌, codes, decimal, Option, Some, None, slice_get}
use Rattle.wh_times.specs.declared.sums.Lengths.{Lengths}
use Rattle.wh_times.specs.declared.sums.TypeSum.{TypeSum}
use Rattle.wh_view.specs.Lookups.{event_type, thing_of}
use Rattle.wh_view.specs.declared.view.View.{View}
use Rattle.wh_view.specs.declared.view.ViewedEvent.{ViewedEvent}
use Rattle.wh_view.specs.declared.view.ViewedThing.{ViewedThing}
use Rattle.wh_view_json.specs.Parts.{kind_word, place_at, place_member}
use Rattle.wh_view_json.specs.Texts.{seconds_member, text_member}

-- the median and the longest of the times of a type, with the place of the event of the longest, if times are known
abbrev pub length_members : View → Option Lengths → List ℕ
length_members view None = []
length_members view (Some lengths) =
    seconds_member (codes "median") (Some lengths.median) ++ (seconds_member (codes "longest") (Some lengths.slowest.millis)
    ++ place_member (codes "longestOpened") (place_at view (Some lengths.slowest.opened)))

-- the kind of the thing of an event, if it has one
abbrev pub kind_of : Option ViewedThing → List ℕ
kind_of None = []
kind_of (Some thing) = kind_word thing.kind

abbrev pub kind_at : View → ViewedEvent → List ℕ
kind_at view event = kind_of (thing_of view event)

-- the object of a type, the first thing of which the event opened
unfoldable pub sum_object : View → TypeSum → ViewedEvent → List ℕ
sum_object view sum event =
    codes "{\"sum\":\"" ++ (kind_at view event ++ (codes "\"" ++ (text_member (codes "type") (event_type event)
    ++ (codes ",\"times\":" ++ (decimal sum.times ++ (codes ",\"failed\":" ++ (decimal sum.failed
    ++ (codes ",\"open\":" ++ (decimal sum.still_open ++ (length_members view sum.lengths ++ codes "}\n"))))))))))

-- that object, if there is such an event
abbrev pub object_at : View → TypeSum → Option ViewedEvent → List ℕ
object_at view sum None = []
object_at view sum (Some event) = sum_object view sum event

-- the object of a type
abbrev pub type_object : View → TypeSum → List ℕ
type_object view sum = object_at view sum (slice_get view.events sum.first)
