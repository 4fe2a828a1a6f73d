use Rattle.std.proofs.Common.{◌≡◌, ◌≤◌, ◌<◌, ◌-◌, take, map, get_or}
use Rattle.wh_html.specs.Axes.{left, right, first_of, last_place}
use Rattle.wh_html.proofs.Ways.{GoesTo, Begun, GapsTo, MarksTo, PlacesTo}
use Rattle.wh_html.proofs.axis.stops_of.Given as goal

-- the stops so far are at the times so far, and go to the right up to where the way has come
abbrev pub invariant-loop-time : goal.invariant-loop-time
invariant-loop-time l =
    (map (λ stop. stop.millis) l.stops.items ≡ take l.time-index l.times)
    × (l.way.x ≤ right)
    × GoesTo left l.stops.items l.way.x
    × (l.way.millis ≡ get_or l.times (l.time-index - 1) 0)
    × Begun l.stops.items l.time-index l.way.x
    × (last_place left l.stops.items ≡ l.way.x)
    × (first_of l.times < l.scale.last → l.way.millis ≡ l.scale.last → l.way.x ≡ right)
    × GapsTo l.scale.longest left (first_of l.times) l.stops.items l.way.x l.way.millis
    × MarksTo left l.stops.items l.way.free
    × PlacesTo l.scale.steps l.scale.whole l.scale.longest l.scale.last
    (record { steps = 0; far = 0; millis = first_of l.times; x = left }) l.stops.items
    (record { steps = l.way.steps; far = l.way.length; millis = l.way.millis; x = l.way.x })
