-- A line is read up to its end, but not too far.
use Rattle.std.proofs.Common.{◌≡◌, ℕ, zero, suc, ◌+◌, ◌-◌, ◌<◌, ◌==◌, Bool, true, false, cond, List, [], ◌∷◌, length, take, nat_lt, Option, Some, None, IfSome, refl, sym, ap, subst, ◌∙◌, arith}
use Rattle.std.specs.Prelude.{slice_index}
use Rattle.std.specs.Io.BufRead.{take_through, strip_last}
use Rattle.std.proofs.lemmas.Bool.{lt-ltb}
use Rattle.wh_rpc.specs.Responses.{longest}
use Rattle.wh_rpc.specs.Private.Input.{before_end, next_of}

-- ---- What is taken up to a line end

kept : (b : Bool) (n x : ℕ) (xs : List ℕ) → cond b (take (suc n) (x ∷ xs)) (x ∷ xs) ≡ x ∷ cond b (take n xs) xs
kept true n x xs = refl
kept false n x xs = refl

strip-one : (x : ℕ) → strip_last 10 (x ∷ []) ≡ cond (x == 10) [] (x ∷ [])
strip-one x = refl

strip-cons : (x y : ℕ) (ys : List ℕ) → strip_last 10 (x ∷ y ∷ ys) ≡ x ∷ strip_last 10 (y ∷ ys)
strip-cons x y ys =
    let two : length (x ∷ y ∷ ys) - 1 ≡ suc (length ys) = omega arith in
    let one : length (y ∷ ys) - 1 ≡ length ys = omega arith in
    let some_two : nat_lt 0 (length (x ∷ y ∷ ys)) ≡ true = lt-ltb 0 _ (omega arith) in
    let some_one : nat_lt 0 (length (y ∷ ys)) ≡ true = lt-ltb 0 _ (omega arith) in
    rw (two, one, some_two, some_one) (kept (slice_index (y ∷ ys) (length ys) == 10) (length ys) x (y ∷ ys))

by_rest : (x : ℕ) (ys : List ℕ) → (x == 10) ≡ false → strip_last 10 (x ∷ ys) ≡ x ∷ strip_last 10 ys
by_rest x [] other = strip-one x ∙ ap (λ b. cond b [] (x ∷ [])) other
by_rest x (y ∷ ys) other = strip-cons x y ys

strip-step : (b : Bool) (x : ℕ) (xs : List ℕ) → (x == 10) ≡ b → strip_last 10 (take_through 10 xs) ≡ before_end xs
    → strip_last 10 (cond b (x ∷ []) (x ∷ take_through 10 xs)) ≡ cond b [] (x ∷ before_end xs)
strip-step true x xs is rest = strip-one x ∙ ap (λ b. cond b [] (x ∷ [])) is
strip-step false x xs is rest = by_rest x (take_through 10 xs) is ∙ ap (λ ys. x ∷ ys) rest

strip-through : (xs : List ℕ) → strip_last 10 (take_through 10 xs) ≡ before_end xs
strip-through [] = refl
strip-through (x ∷ xs) = strip-step (x == 10) x xs refl (strip-through xs)

-- ---- What is taken of too long a line

cut-step : (b : Bool) (n x : ℕ) (xs ys : List ℕ) → ys ≡ take n xs → cond b [] (x ∷ ys) ≡ take (suc n) (cond b [] (x ∷ xs))
cut-step true n x xs ys same = refl
cut-step false n x xs ys same = ap (λ zs. x ∷ zs) same

before_end-take : (n : ℕ) (xs : List ℕ) → before_end (take n xs) ≡ take n (before_end xs)
before_end-take zero xs = refl
before_end-take (suc n) [] = refl
before_end-take (suc n) (x ∷ xs) = cut-step (x == 10) n x (before_end xs) (before_end (take n xs)) (before_end-take n xs)

pub stripped : (n : ℕ) (xs : List ℕ) → strip_last 10 (take_through 10 (take n xs)) ≡ take n (before_end xs)
stripped n xs = strip-through (take n xs) ∙ before_end-take n xs

-- the line is the next one
pub line_is_next : (line read xs : List ℕ) → line ≡ strip_last 10 read → read ≡ take_through 10 (take (longest + 1) xs) → 0 < length read → Some line ≡ next_of xs
line_is_next line read [] is of some = absurd (omega (arith, some, ap length of))
line_is_next line read (x ∷ xs) is of some = ap Some (is ∙ ap (strip_last 10) of ∙ stripped (longest + 1) (x ∷ xs))

some_read : (n x : ℕ) (xs : List ℕ) → 0 < length (take_through 10 (take (suc n) (x ∷ xs)))
some_read n x xs = by (x == 10)
  where
    by : (b : Bool) → 0 < length (cond b (x ∷ []) (x ∷ take_through 10 (take n xs)))
    by true = omega arith
    by false = omega arith

read_nothing : (n : ℕ) (read xs : List ℕ) → length read ≡ 0 → read ≡ take_through 10 (take (suc n) xs) → xs ≡ []
read_nothing n read [] none of = refl
read_nothing n read (x ∷ xs) none of = absurd (omega (arith, none, ap length of, some_read n x xs))

-- where nothing is read there is no line
pub nothing_next : (read xs : List ℕ) → length read ≡ 0 → read ≡ take_through 10 (take (longest + 1) xs) → None ≡ next_of xs
nothing_next read xs none of = subst (λ bytes. None ≡ next_of bytes) (sym (read_nothing longest read xs none of)) refl

-- ---- Facts of what may be there

pub if_some : {X : Type 0} (o : Option X) {P Q : X → Type 0} → ((x : X) → P x → Q x) → IfSome o P → IfSome o Q
if_some None step h = h
if_some (Some x) step h = step x h
