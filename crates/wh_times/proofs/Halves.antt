-- The middle of an ordered list halves it.
use Rattle.std.proofs.Common.{◌≡◌, ◌≤◌, ◌<◌, ℕ, ◌+◌, ◌-◌, ◌*◌, ◌/◌, zero, suc, List, [], ◌∷◌, length, get_or, Bool, true, cond, sym, ap, ◌∙◌, arith, Some}
use Rattle.std.specs.Prelude.{count_by, nat_le, IsPermutation, slice_get}
use Rattle.std.specs.List.Sorted.{IsNonDecreasing}
use Rattle.std.proofs.lemmas.Bool.Decides.{nat_tests}
use Rattle.std.proofs.lemmas.List.Sums.{sum_by-cons}
use Rattle.std.proofs.lemmas.List.Sorted.{IsNonDecreasingBy-from_sort, length_permutation, sum_by-IsPermutation}
use Rattle.wh_times.specs.Sums.{IsMedian, middle_of}
use Rattle.wh_times.specs.Laws.{IsHalf}

-- so many are counted if those before a place pass the test
counted_to : (p : ℕ → Bool) (n : ℕ) (xs : List ℕ) → n ≤ length xs → ((i : ℕ) → i < n → p (get_or xs i 0) ≡ true) → n ≤ count_by p xs
counted_to p zero xs short passes = omega arith
counted_to p (suc n) [] short passes = omega (arith, short)
counted_to p (suc n) (x ∷ xs) short passes =
    let rest = counted_to p n xs (omega (arith, short)) (λ i below. passes (suc i) (omega (arith, below))) in
    let one : ◌≡◌ {A = ℕ} (cond (p x) 1 0) 1 = ap (λ b. cond b 1 0) (passes 0 (omega arith)) in
    let all = sum_by-cons (λ y. cond (p y) 1 0) x xs in
    omega (arith, rest, one, all)

-- and if those from a place on do
counted_from : (p : ℕ → Bool) (k : ℕ) (xs : List ℕ) → ((i : ℕ) → k ≤ i → i < length xs → p (get_or xs i 0) ≡ true) → length xs ≤ k + count_by p xs
counted_from p k [] passes = omega arith
counted_from p zero (x ∷ xs) passes =
    let rest = counted_from p zero xs (λ i from below. passes (suc i) (omega arith) (omega (arith, below))) in
    let one : ◌≡◌ {A = ℕ} (cond (p x) 1 0) 1 = ap (λ b. cond b 1 0) (passes 0 (omega arith) (omega arith)) in
    let all = sum_by-cons (λ y. cond (p y) 1 0) x xs in
    omega (arith, rest, one, all)
counted_from p (suc k) (x ∷ xs) passes =
    let rest = counted_from p k xs (λ i from below. passes (suc i) (omega (arith, from)) (omega (arith, below))) in
    let all = sum_by-cons (λ y. cond (p y) 1 0) x xs in
    omega (arith, rest, all)

passes_below : (a b : ℕ) → a ≤ b → nat_le a b ≡ true
passes_below a b le = grind (arith, nat_tests)

found_at : (xs : List ℕ) (k m : ℕ) → Some m ≡ slice_get xs k → (k < length xs) × (get_or xs k 0 ≡ m)
found_at [] k m is = cc
found_at (x ∷ xs) zero m is = (omega arith, cc)
found_at (x ∷ xs) (suc k) m is = let rest = found_at xs k m is in (omega (arith, rest.0), rest.1)

-- of an ordered list
halved : (xs : List ℕ) (k m : ℕ) → IsNonDecreasing xs → k < length xs → get_or xs k 0 ≡ m
    → (k + 1 ≤ count_by (λ time. nat_le time m) xs) × (length xs ≤ k + count_by (λ time. nat_le m time) xs)
halved xs k m rises within is = (
  counted_to (λ time. nat_le time m) (k + 1) xs (omega (arith, within))
      (λ i below. passes_below (get_or xs i 0) m (omega (arith, is, rises i k 0 (omega (arith, below)) within))),
  counted_from (λ time. nat_le m time) k xs
      (λ i from below. passes_below m (get_or xs i 0) (omega (arith, is, rises k i 0 from below))),
)

pub median_halves : (times : List ℕ) (median : ℕ) → IsMedian times (Some median) → IsHalf times median
median_halves times median is =
    let sorted = is.sorted in
    let found = found_at sorted ((length sorted - 1) / 2) median is.middle in
    let both = halved sorted ((length sorted - 1) / 2) median (IsNonDecreasingBy-from_sort (λ x. x) sorted is.order) found.0 found.1 in
    let long = length_permutation times sorted is.all in
    let longer = sum_by-IsPermutation (λ time. cond (nat_le time median) 1 0) times sorted is.all in
    let shorter = sum_by-IsPermutation (λ time. cond (nat_le median time) 1 0) times sorted is.all in
    record {
      longer = omega (arith, long, longer, both.0, found.0);
      shorter = omega (arith, long, shorter, both.1, found.0);
    }
