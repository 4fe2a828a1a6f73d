-- A seat beside those of the workers counts nothing.
use Rattle.std.proofs.Common.{◌≡◌, ℕ, suc, List, [], ◌∷◌, ◌++◌, length, refl, sym, ap, ◌∙◌, arith}
use Rattle.std.specs.Prelude.{replicate, zero, sum_by}
use Rattle.std.proofs.lemmas.List.{length-replicate}
use Rattle.std.proofs.lemmas.List.Sums.{sum_by-append}
use Rattle.std.proofs.lemmas.List.Folds.{sum_by-replicate}
use Rattle.wh_host.specs.declared.ledger.Shares.{Shares}
use Rattle.wh_host.specs.Shares.{no_shares, shares_of, sums_of}

-- the beginning of a list that has the same at each place has it too
pub first_part : {A : Type 0} (z : A) (xs ys : List A) (count : ℕ) → replicate count z ≡ xs ++ ys → xs ≡ replicate (length xs) z
first_part z [] ys count same = refl
first_part z (x ∷ xs) ys zero same = grind arith
first_part z (x ∷ xs) ys (suc count) same = let rest = first_part z xs ys count in grind arith

-- so has the rest
last_part : {A : Type 0} (z : A) (xs ys : List A) (count : ℕ) → replicate count z ≡ xs ++ ys → ys ≡ replicate (length ys) z
last_part z [] ys count same =
    let long : length ys ≡ count = sym (ap length same) ∙ length-replicate count z in
    sym same ∙ ap (λ n. replicate n z) (sym long)
last_part z (x ∷ xs) ys zero same = grind arith
last_part z (x ∷ xs) ys (suc count) same = let rest = last_part z xs ys count in grind arith

none_more : {X : Type 0} (f : X → ℕ) (xs ys : List X) (z : X) → ys ≡ replicate (length ys) z → f z ≡ 0 → sum_by f (xs ++ ys) ≡ sum_by f xs
none_more f xs ys z is none =
    let more : sum_by f ys ≡ 0 = ap (sum_by f) is ∙ sum_by-replicate f (length ys) z ∙ grind (arith, none) in
    omega (arith, sum_by-append f xs ys, more)

-- seats that have counted nothing change no sum
same_sums : (seats fresh : List Shares) → fresh ≡ replicate (length fresh) no_shares → sums_of (seats ++ fresh) ≡ sums_of seats
same_sums seats fresh is =
    ap (λ n. shares_of n (sum_by (λ s. s.completed) (seats ++ fresh)) (sum_by (λ s. s.failed) (seats ++ fresh))) (none_more (λ s. s.taken) seats fresh no_shares is refl)
    ∙ ap (λ n. shares_of (sum_by (λ s. s.taken) seats) n (sum_by (λ s. s.failed) (seats ++ fresh))) (none_more (λ s. s.completed) seats fresh no_shares is refl)
    ∙ ap (λ n. shares_of (sum_by (λ s. s.taken) seats) (sum_by (λ s. s.completed) seats) n) (none_more (λ s. s.failed) seats fresh no_shares is refl)

-- nor does the seat beside those of the workers, once it is put back
pub sums_back : (seats spare back ended closed counted : List Shares) (count : ℕ)
    → replicate count no_shares ≡ seats ++ spare → back ≡ spare → closed ≡ ended ++ back → ended ≡ counted → sums_of closed ≡ sums_of counted
sums_back seats spare back ended closed counted count parts same put own =
    ap sums_of (put ∙ ap (λ l. ended ++ l) same) ∙ same_sums ended spare (last_part no_shares seats spare count parts) ∙ ap sums_of own
