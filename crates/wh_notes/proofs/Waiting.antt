-- How long a worker waits, in closed form.
use Rattle.std.proofs.Common.{◌≡◌, ℕ, zero, suc, ◌*◌, ◌^◌, min, arith, refl}
use Rattle.std.proofs.Math.Nat.{pow-succ'}
use Rattle.wh_notes.specs.Waits.{WaitsDouble, wait_after}

-- twice a wait that was bounded is bounded as twice the wait
doubled : (wait power next : ℕ) → wait ≡ min (100 * power) 10000 → next ≡ 2 * power → min (2 * wait) 10000 ≡ min (100 * next) 10000
doubled wait power next known twice = omega (arith, known, twice)

pub waits_double : WaitsDouble
waits_double zero = refl
waits_double (suc count) = doubled (wait_after count) (2 ^ count) (2 ^ suc count) (waits_double count) (pow-succ' 2 count)
