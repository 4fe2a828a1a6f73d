-- Templates that have the same tags.
use Rattle.std.proofs.Common.{◌≡◌, ◌∙◌, ℕ, zero, suc, ◌+◌, ◌/◌, ◌%◌, ◌<◌, ◌&&◌, ◌||◌, not, Bool, true, false, cond, List, [], ◌∷◌, ◌++◌, map, sym, refl, ap, append_assoc, arith}
use Rattle.std.proofs.lemmas.Bool.{and_parts, and_from, not-true, not_from_false, ltb-true}
use Rattle.std.proofs.lemmas.Bool.Decides.{nat_tests}
use Rattle.std.specs.Prelude.{◌==◌, nat_lt, decimal}
use Rattle.std.specs.List.{list_all}
use Rattle.std.specs.Fmt.{digits, digits_onto, digit_glyph}
use Rattle.wh_html.specs.Html.{Html, nothing, markup, plain, hole, ◌⊕◌, bytes, each, number}
use Rattle.wh_html.specs.Escaping.{escaped}
use Rattle.wh_html.specs.Laws.{is_harmless}
use Rattle.wh_html.specs.Tags.{within_after, tags_from}
use Rattle.wh_html.proofs.Harmless.{all-weaker, beyond, texts_are_harmless}

-- neither `<` nor `>`
abbrev pub is_inner : ℕ → Bool
is_inner b = not (b == 60) && not (b == 62)

-- whether a reader is within a tag after some bytes
abbrev pub run : Bool → List ℕ → Bool
run s [] = s
run s (b ∷ bs) = run (within_after s b) bs

-- two templates after which a reader that began in one state is in another, with the same tags
pub record Alike (s t : Bool) (a b : Html) : Type 0 where
  pub same : (r q : List ℕ) → tags_from t r ≡ tags_from t q → tags_from s (bytes a ++ r) ≡ tags_from s (bytes b ++ q)

fixed-same : (s : Bool) (x r q : List ℕ) → tags_from (run s x) r ≡ tags_from (run s x) q → tags_from s (x ++ r) ≡ tags_from s (x ++ q)
fixed-same s [] r q e = e
fixed-same s (b ∷ bs) r q e = ap (λ ys. cond (s || b == 60) (b ∷ []) [] ++ ys) (fixed-same (within_after s b) bs r q e)

-- markup is alike itself
pub last : {s : Bool} (x : List ℕ) → Alike s (run s x) (markup x) (markup x)
last {s} x = record { same = fixed-same s x }

stays : (s : Bool) (b : ℕ) → is_inner b ≡ true → within_after s b ≡ s
stays true b e = (and_parts (not (b == 60)) (not (b == 62)) e).1
stays false b e = not-true (b == 60) (and_parts (not (b == 60)) (not (b == 62)) e).0

run-inner : (s : Bool) (x : List ℕ) → list_all is_inner x ≡ true → run s x ≡ s
run-inner s [] e = refl
run-inner s (b ∷ bs) e =
    let parts = and_parts (is_inner b) (list_all is_inner bs) e in
    ap (λ t. run t bs) (stays s b parts.0) ∙ run-inner s bs parts.1

-- so are words without `<` and `>`, which lead nowhere
pub words : {s : Bool} (x : List ℕ) → list_all is_inner x ≡ true → Alike s s (plain x) (plain x)
words {s} x e = record { same = λ r q f. fixed-same s x r q (rw (run-inner s x e) f) }

outer-step : (b : ℕ) (bs r : List ℕ) (y : Bool) → (list_all (λ c. not (c == 60)) bs ≡ true → tags_from false (bs ++ r) ≡ tags_from false r) → (not y && list_all (λ c. not (c == 60)) bs) ≡ true → cond y (b ∷ []) [] ++ tags_from y (bs ++ r) ≡ tags_from false r
outer-step b bs r true later f = cc
outer-step b bs r false later f = later f

outer-skip : (x r : List ℕ) → list_all (λ b. not (b == 60)) x ≡ true → tags_from false (x ++ r) ≡ tags_from false r
outer-skip [] r e = refl
outer-skip (b ∷ bs) r e = outer-step b bs r (b == 60) (outer-skip bs r) e

outer : (b : ℕ) → is_harmless b ≡ true → not (b == 60) ≡ true
outer b e = (and_parts _ _ ((and_parts _ _ ((and_parts _ _ ((and_parts _ _ e).0)).0)).0)).1

-- a text outside of tags is skipped, wherever it is cut
skip : (m : ℕ) (v r : List ℕ) → tags_from false (escaped m v ++ r) ≡ tags_from false r
skip m v r = outer-skip (escaped m v) r (all-weaker is_harmless (λ b. not (b == 60)) outer (escaped m v) (texts_are_harmless m v))

-- two texts are alike outside of tags
pub cuts : (m n : ℕ) (t u : List ℕ) → Alike false false (hole m t) (hole n u)
cuts m n t u = record { same = λ r q e. skip m t r ∙ (e ∙ sym (skip n u q)) }

pub texts : (m : ℕ) (t u : List ℕ) → Alike false false (hole m t) (hole m u)
texts m t u = cuts m m t u

-- one after another
pub both : {s t u : Bool} {a b c d : Html} → Alike s t a b → Alike t u c d → Alike s u (a ⊕ c) (b ⊕ d)
both {s} {t} {u} {a} {b} {c} {d} h k =
    record { same = λ r q e. rw (append_assoc (bytes a) (bytes c) r, append_assoc (bytes b) (bytes d) q) (h.same (bytes c ++ r) (bytes d ++ q) (k.same r q e)) }

-- nothing is alike nothing
pub none : {s : Bool} → Alike s s nothing nothing
none = record { same = λ r q e. e }

-- markup, words, a text, and then more
pub mark : {s u : Bool} (x : List ℕ) {a b : Html} → Alike (run s x) u a b → Alike s u (markup x ⊕ a) (markup x ⊕ b)
mark x h = both (last x) h

pub word : {s u : Bool} (x : List ℕ) {a b : Html} → list_all is_inner x ≡ true → Alike s u a b → Alike s u (plain x ⊕ a) (plain x ⊕ b)
word x e h = both (words x e) h

pub text : {u : Bool} (m : ℕ) (v w : List ℕ) {a b : Html} → Alike false u a b → Alike false u (hole m v ⊕ a) (hole m w ⊕ b)
text m v w h = both (texts m v w) h

module _ {A : Type 0} where
  -- templates of items, one after another
  pub each-alike : (f : A → Html) (g : A → A) → ((x : A) → Alike false false (f x) (f (g x))) → (xs : List A) → Alike false false (each f xs) (each f (map g xs))
  each-alike f g h [] = none
  each-alike f g h (x ∷ xs) = both (h x) (each-alike f g h xs)

  pub each-same : (f : A → Html) → ((x : A) → Alike false false (f x) (f x)) → (xs : List A) → Alike false false (each f xs) (each f xs)
  each-same f h [] = none
  each-same f h (x ∷ xs) = both (h x) (each-same f h xs)

glyph-inner : (d : ℕ) → is_inner (digit_glyph false d) ≡ true
glyph-inner d = by (nat_lt d 10) refl
  where
    high : (n : ℕ) → 62 < n → is_inner n ≡ true
    high n e = and_from _ _ (not_from_false _ (beyond 60 n (omega arith))) (not_from_false _ (beyond 62 n e))

    low : (n : ℕ) → n < 60 → is_inner n ≡ true
    low n e = grind (arith, nat_tests)

    by : (b : Bool) → nat_lt d 10 ≡ b → is_inner (cond b (48 + d) (87 + d)) ≡ true
    by true e = let small = ltb-true d 10 e in low (48 + d) (omega arith)
    by false e = high (87 + d) (omega arith)

either : (b : Bool) (xs ys : List ℕ) → list_all is_inner xs ≡ true → list_all is_inner ys ≡ true → list_all is_inner (cond b xs ys) ≡ true
either true xs ys p q = p
either false xs ys p q = q

digits-inner : (k n : ℕ) (acc : List ℕ) → list_all is_inner acc ≡ true → list_all is_inner (digits_onto k 10 false n acc) ≡ true
digits-inner zero n acc h = h
digits-inner (suc k) n acc h =
    let more : List ℕ = digit_glyph false (n % 10) ∷ acc in
    let inner : list_all is_inner more ≡ true = and_from _ _ (glyph-inner (n % 10)) h in
    either (n / 10 == 0) more (digits_onto k 10 false (n / 10) more) inner (digits-inner k (n / 10) more inner)

-- a number has only digits
pub decimal-inner : (n : ℕ) → list_all is_inner (decimal n) ≡ true
unfolding digits
decimal-inner n = digits-inner 64 n [] refl

-- a number, and then more
pub num : {s u : Bool} (n : ℕ) {a b : Html} → Alike s u a b → Alike s u (number n ⊕ a) (number n ⊕ b)
num n h = both (words (decimal n) (decimal-inner n)) h
