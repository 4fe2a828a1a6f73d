-- Two texts are compared without their digits, from place to place.
use Rattle.std.proofs.Common.{◌≡◌, ◌≢◌, ◌∙◌, ℕ, ◌+◌, ◌<◌, ◌≤◌, Bool, true, false, cond, List, [], ◌∷◌, length, get_or, drop, add-one, refl, sym, ap, drop_of_length-le, arith, eqb-true, false-eqb}
use Rattle.std.proofs.Math.Seq.{drop-cons}
use Rattle.std.specs.Prelude.{◌&&◌, bytes_eq, nat_eq}
use Rattle.wh_view_report.specs.Digits.{is_plain, plain}

plain_at : (text : List ℕ) (i : ℕ) → i < length text → is_plain (get_or text i 0) ≡ true → plain (drop i text) ≡ get_or text i 0 ∷ plain (drop (i + 1) text)
plain_at text i below here =
    let e : drop i text ≡ get_or text i 0 ∷ drop (i + 1) text = rw (add-one, drop-cons text i 0) refl in
    ap plain e ∙ ap (λ t. cond t (get_or text i 0 ∷ plain (drop (i + 1) text)) (plain (drop (i + 1) text))) here

plain_end : (text : List ℕ) (i : ℕ) → length text ≤ i → plain (drop i text) ≡ []
plain_end text i past = ap plain (drop_of_length-le text past)

-- what is left of two texts is the same, but for digits
abbrev pub same_from : List ℕ → ℕ → List ℕ → ℕ → Bool
same_from one i other at = bytes_eq (plain (drop i one)) (plain (drop at other))

-- the second text ends after digits, and the first one does not
pub ends_sooner : (one other : List ℕ) (i at next : ℕ) → i < length one → is_plain (get_or one i 0) ≡ true → plain (drop next other) ≡ plain (drop at other) → length other ≤ next → same_from one i other at ≡ false
ends_sooner one other i at next below here same past =
    ap (λ l. bytes_eq l (plain (drop at other))) (plain_at one i below here) ∙ ap (bytes_eq (get_or one i 0 ∷ plain (drop (i + 1) one))) (sym same ∙ plain_end other next past)

-- it goes on otherwise
pub goes_otherwise : (one other : List ℕ) (i at next : ℕ) → i < length one → is_plain (get_or one i 0) ≡ true → plain (drop next other) ≡ plain (drop at other) → next < length other → is_plain (get_or other next 0) ≡ true
    → nat_eq (get_or one i 0) (get_or other next 0) ≡ false → same_from one i other at ≡ false
goes_otherwise one other i at next below here same within own differs =
    ap (λ l. bytes_eq l (plain (drop at other))) (plain_at one i below here)
    ∙ (ap (bytes_eq (get_or one i 0 ∷ plain (drop (i + 1) one))) (sym same ∙ plain_at other next within own)
    ∙ ap (λ t. t && bytes_eq (plain (drop (i + 1) one)) (plain (drop (next + 1) other))) differs)

-- the first text has ended
pub ended : (one other : List ℕ) (i at next : ℕ) → length one ≤ i → plain (drop next other) ≡ plain (drop at other) → next ≤ length other → (next < length other → is_plain (get_or other next 0) ≡ true)
    → nat_eq next (length other) ≡ same_from one i other at
ended one other i at next past same within own = by (nat_eq next (length other)) refl
  where
    first : same_from one i other at ≡ bytes_eq [] (plain (drop next other))
    first = ap (λ l. bytes_eq l (plain (drop at other))) (plain_end one i past) ∙ ap (bytes_eq []) (sym same)

    by : (t : Bool) → nat_eq next (length other) ≡ t → t ≡ same_from one i other at
    by true is = sym (first ∙ ap (bytes_eq []) (plain_end other next (let e : next ≡ length other = eqb-true next (length other) is in omega (arith, e))))
    by false is = let apart : next ≢ length other = false-eqb next (length other) (sym is) in let more : next < length other = omega (arith, apart, within) in sym (first ∙ ap (bytes_eq []) (plain_at other next more (own more)))
