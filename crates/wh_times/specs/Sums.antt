-- What the things of each type come to.
use Rattle.std.specs.Prelude.{◌≡◌, ℕ, ◌-◌, ◌/◌, ◌==◌, List, [], ◌∷◌, Bool, true, false, Option, Some, None, slice_get, length, map, count_by, nat_lt, bytes_eq, if◌then◌else◌, IsPermutation, IsSorted}
use Rattle.std.specs.List.{filter, flat_map, fold, AllZip}
use Rattle.std.specs.Ordering.{nat_cmp}
use Rattle.wh_times.specs.declared.sums.Outcome.{Outcome}
use Rattle.wh_times.specs.declared.sums.Outcome.TheVariants.{Open, Failed, Ended}
use Rattle.wh_times.specs.declared.sums.TimedThing.{TimedThing}
use Rattle.wh_times.specs.declared.sums.TypedThing.{TypedThing}
use Rattle.wh_times.specs.declared.sums.Slowest.{Slowest}
use Rattle.wh_times.specs.declared.sums.Lengths.{Lengths}
use Rattle.wh_times.specs.declared.sums.TypeSum.{TypeSum}

-- the things of a type
abbrev pub of_type : List ℕ → List TypedThing → List TimedThing
of_type name things = map (λ typed. typed.thing) (filter (λ typed. bytes_eq name typed.type_name) things)

-- the times of things, as far as they are known
abbrev pub time_list : Option ℕ → List ℕ
time_list None = []
time_list (Some millis) = millis ∷ []

abbrev pub known_time : TimedThing → List ℕ
known_time thing = time_list thing.millis

abbrev pub known_times : List TimedThing → List ℕ
known_times own = flat_map known_time own

-- the middle one of the times, or of two the first one
abbrev pub middle_of : List ℕ → Option ℕ
middle_of times = slice_get times ((length times - 1) / 2)

-- the median of the times: the middle one of them in order, or of two the shorter one
pub record IsMedian (times : List ℕ) (median : Option ℕ) : Type 0 where
  pub sorted : List ℕ
  pub order : IsSorted nat_cmp sorted
  pub all : IsPermutation times sorted
  pub middle : median ≡ middle_of sorted

-- the slower one of the slowest so far, and a thing of this time that the event at the index opened; the first of two
-- that took as long
abbrev pub slower_by : Option Slowest → (opened : ℕ) → Option ℕ → Option Slowest
slower_by best opened None = best
slower_by None opened (Some millis) = Some (record { millis = millis; opened = opened })
slower_by (Some best) opened (Some millis) =
    if nat_lt best.millis millis then Some (record { millis = millis; opened = opened }) else Some best

abbrev pub slower : Option Slowest → TimedThing → Option Slowest
slower best thing = slower_by best thing.opened thing.millis

-- the slowest of the things whose time is known
abbrev pub slowest_of : List TimedThing → Option Slowest
slowest_of own = fold slower None own

-- the thing failed; it has not ended
abbrev pub failed_by : Outcome → Bool
failed_by Failed = true
failed_by _ = false

abbrev pub has_failed : TimedThing → Bool
has_failed thing = failed_by thing.outcome

abbrev pub open_by : Outcome → Bool
open_by Open = true
open_by _ = false

abbrev pub is_open : TimedThing → Bool
is_open thing = open_by thing.outcome

-- the median and the slowest of the things, if a time is known
abbrev pub lengths_by : Option ℕ → Option Slowest → Option Lengths
lengths_by (Some median) (Some slowest) = Some (record { median = median; slowest = slowest })
lengths_by _ _ = None

pub record AreLengths (own : List TimedThing) (lengths : Option Lengths) : Type 0 where
  pub median : Option ℕ
  pub halves : IsMedian (known_times own) median
  pub are : lengths ≡ lengths_by median (slowest_of own)

-- what the things of a type come to, the first of which the event at the index opened
pub record IsSumOf (opened : ℕ) (own : List TimedThing) (sum : TypeSum) : Type 0 where
  pub first : sum.first ≡ opened
  pub times : sum.times ≡ length own
  pub failed : sum.failed ≡ count_by has_failed own
  pub still_open : sum.still_open ≡ count_by is_open own
  pub lengths : AreLengths own sum.lengths

-- the event at the index opened the first of the things
abbrev pub opens_first : List TimedThing → ℕ → Bool
opens_first [] opened = false
opens_first (thing ∷ things) opened = thing.opened == opened

-- a thing is the first of its type
abbrev pub is_first : List TypedThing → TypedThing → Bool
is_first things typed = opens_first (of_type typed.type_name things) typed.thing.opened

-- the sum is that of the type of a thing, which is the first of its type
abbrev pub IsOwnSum : List TypedThing → TypedThing → TypeSum → Type 0
IsOwnSum things typed sum = IsSumOf typed.thing.opened (of_type typed.type_name things) sum

-- the sums are those of the types, in the order of the first things of each
abbrev pub AreSums : List TypedThing → List TypeSum → Type 0
AreSums things sums = AllZip (IsOwnSum things) (filter (is_first things) things) sums
