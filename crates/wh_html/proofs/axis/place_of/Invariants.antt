use Rattle.std.proofs.Common.{◌≡◌, drop}
use Rattle.wh_html.specs.Axes.{left, place_from}
use Rattle.wh_html.proofs.axis.place_of.Given as goal

-- the time stands where the stops that are left say from here on
abbrev pub invariant-loop-stop : goal.invariant-loop-stop
invariant-loop-stop l = place_from left l.stops l.millis ≡ place_from l.x (drop l.stop-index l.stops) l.millis
