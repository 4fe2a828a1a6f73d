-- What was read was not too long.
use Rattle.std.proofs.Common.{◌≡◌, ◌≤◌, ℕ, Bool, true, false, List, length, Ok, refl, arith}
use Rattle.std.specs.Prelude.{nat_lt}
use Rattle.wh_events.specs.declared.event.Event.{Event}
use Rattle.wh_json.specs.Events.{history, longest}

pub read_within : (bytes : List ℕ) (events : List Event) → history bytes ≡ Ok events → length bytes ≤ longest
unfolding history
read_within bytes events read = by_test (nat_lt longest (length bytes)) refl
  where
    by_test : (b : Bool) → nat_lt longest (length bytes) ≡ b → length bytes ≤ longest
    by_test true e = let refused = rw e at read in cc
    by_test false e = grind arith
