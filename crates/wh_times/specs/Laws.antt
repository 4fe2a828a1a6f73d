-- What holds of the median and the longest of all times.
use Rattle.std.specs.Prelude.{◌≡◌, ◌≤◌, ℕ, ◌*◌, List, Option, Some, length, count_by, nat_le, unwrap_or}
use Rattle.std.specs.List.{All, Any}
use Rattle.wh_times.specs.declared.sums.TimedThing.{TimedThing}
use Rattle.wh_times.specs.declared.sums.Slowest.{Slowest}
use Rattle.wh_times.specs.Sums.{IsMedian, slowest_of}

-- at least half of the times are no longer than their median, and at least half are no shorter
pub record IsHalf (times : List ℕ) (median : ℕ) : Type 0 where
  pub longer : length times ≤ 2 * count_by (λ time. nat_le time median) times
  pub shorter : length times ≤ 2 * count_by (λ time. nat_le median time) times

abbrev pub MedianHalves : Type 0
MedianHalves = (times : List ℕ) (median : ℕ) → IsMedian times (Some median) → IsHalf times median

-- the time is that of one of the things, and no other is longer
pub record IsLongest (own : List TimedThing) (slow : Slowest) : Type 0 where
  pub among : Any (λ thing. (thing.millis ≡ Some slow.millis) × (thing.opened ≡ slow.opened)) own
  pub most : All (λ thing. unwrap_or thing.millis 0 ≤ slow.millis) own

abbrev pub SlowestIsLongest : Type 0
SlowestIsLongest = (own : List TimedThing) (slow : Slowest) → slowest_of own ≡ Some slow → IsLongest own slow
