-- How the arrow of a line is found.
use Rattle.std.specs.Prelude.{◌≡◌, ℕ, suc, zero, ◌<◌, ◌≤◌, Bool, true, false, List, [], ◌∷◌, ◌++◌, length, take, drop, Option, Some, None, MatchOption, option_map, bytes_eq, codes, refl, if◌then◌else◌}
use Rattle.std.specs.Str.Pattern.{FindsText, LacksTextAt, SplitsAroundMatch}
use Rattle.std.proofs.Common.{ap, sym, subst, ◌∙◌, arith, Bor}
use Rattle.std.proofs.lemmas.List.{take-append-drop}
use Rattle.std.proofs.lemmas.Slice.Eq.{bytes_eq-Decides}
use Rattle.wh_author_tools.specs.Scenarios.{onto_before, at_arrow}

-- a text that begins with an arrow
begins : (line : List ℕ) → bytes_eq (take 2 line) (codes "=>") ≡ true → drop 0 line ≡ codes "=>" ++ drop 2 line
begins line is =
    let front : take 2 line ≡ codes "=>" = (bytes_eq-Decides (take 2 line) (codes "=>")).0 is in
    sym (take-append-drop 2 line) ∙ ap (λ list. list ++ drop 2 line) front

none : (line : List ℕ) → ((i : ℕ) → i ≤ length line → LacksTextAt (codes "=>") line i) → at_arrow line ≡ None
none [] lacks = refl
none (byte ∷ rest) lacks = by_test (bytes_eq (take 2 (byte ∷ rest)) (codes "=>")) refl (none rest (λ i within. lacks (suc i) (omega arith)))
  where
    by_test : (test : Bool) → bytes_eq (take 2 (byte ∷ rest)) (codes "=>") ≡ test
        → at_arrow rest ≡ None → (if test then Some ([], drop 1 rest) else onto_before byte (at_arrow rest)) ≡ None
    by_test true is later = absurd (lacks 0 (omega arith) (drop 2 (byte ∷ rest)) (begins (byte ∷ rest) is))
    by_test false is later = ap (onto_before byte) later

found : (line : List ℕ) (i : ℕ) (back : List ℕ) → ((k : ℕ) → k < i → LacksTextAt (codes "=>") line k)
    → drop i line ≡ codes "=>" ++ back → at_arrow line ≡ Some (take i line, back)
found [] zero back lacks is = cc
found [] (suc i) back lacks is = cc
found (byte ∷ rest) zero back lacks is = subst (λ line. at_arrow line ≡ Some (take 0 line, back)) (sym is) refl
found (byte ∷ rest) (suc i) back lacks is =
    by_test (bytes_eq (take 2 (byte ∷ rest)) (codes "=>")) refl (found rest i back (λ k below. lacks (suc k) (omega arith)) is)
  where
    by_test : (test : Bool) → bytes_eq (take 2 (byte ∷ rest)) (codes "=>") ≡ test
        → at_arrow rest ≡ Some (take i rest, back)
        → (if test then Some ([], drop 1 rest) else onto_before byte (at_arrow rest)) ≡ Some (byte ∷ take i rest, back)
    by_test true starts later = absurd (lacks 0 (omega arith) (drop 2 (byte ∷ rest)) (begins (byte ∷ rest) starts))
    by_test false starts later = ap (onto_before byte) later

-- the result of `split_once` at an arrow
pub arrow_cases : (line : List ℕ) (result : Option (Bor (List ℕ) × Bor (List ℕ)))
    → MatchOption result (FindsText (codes "=>") line None)
    (λ sides. SplitsAroundMatch (FindsText (codes "=>")) line sides.0.now sides.1.now)
    → option_map (λ sides. (sides.0.now, sides.1.now)) result ≡ at_arrow line
arrow_cases line None lacks = sym (none line lacks)
arrow_cases line (Some sides) cases =
    let at : at_arrow line ≡ Some (take cases.0 line, drop cases.1 line) =
    found line cases.0 (drop cases.1 line) cases.2.0 cases.2.1.split in
    let front : sides.0.now ≡ take cases.0 line = cases.3 in
    let back : sides.1.now ≡ drop cases.1 line = cases.4 in
    cc
