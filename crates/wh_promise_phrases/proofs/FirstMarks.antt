-- How the mark of a phrase is found.
use Rattle.std.specs.Prelude.{◌≡◌, ℕ, suc, zero, ◌<◌, ◌≤◌, Bool, true, false, List, [], ◌∷◌, ◌++◌, length, take, drop, Option, Some, None, MatchOption, option_map, bytes_eq, refl, if◌then◌else◌}
use Rattle.std.specs.Str.Pattern.{FindsText, LacksTextAt, SplitsAroundMatch}
use Rattle.std.proofs.Common.{ap, sym, subst, ◌∙◌, arith, Bor}
use Rattle.std.proofs.lemmas.List.{take-append-drop}
use Rattle.std.proofs.lemmas.Slice.Eq.{bytes_eq-Decides}
use Rattle.wh_promise_phrases.specs.Marks.{onto_before, at_mark}

module _ (first second : ℕ) where
  abbrev mark : List ℕ
  mark = first ∷ second ∷ []

  -- a text that begins with the mark
  begins : (text : List ℕ) → bytes_eq (take 2 text) mark ≡ true → drop 0 text ≡ mark ++ drop 2 text
  begins text is =
      let front : take 2 text ≡ mark = (bytes_eq-Decides (take 2 text) mark).0 is in
      sym (take-append-drop 2 text) ∙ ap (λ list. list ++ drop 2 text) front

  none : (text : List ℕ) → ((i : ℕ) → i ≤ length text → LacksTextAt mark text i) → at_mark mark text ≡ None
  none [] lacks = refl
  none (byte ∷ rest) lacks = by_test (bytes_eq (take 2 (byte ∷ rest)) mark) refl (none rest (λ i within. lacks (suc i) (omega arith)))
    where
      by_test : (test : Bool) → bytes_eq (take 2 (byte ∷ rest)) mark ≡ test
          → at_mark mark rest ≡ None → (if test then Some ([], drop 1 rest) else onto_before byte (at_mark mark rest)) ≡ None
      by_test true is later = absurd (lacks 0 (omega arith) (drop 2 (byte ∷ rest)) (begins (byte ∷ rest) is))
      by_test false is later = ap (onto_before byte) later

  same_mark : bytes_eq mark mark ≡ true
  same_mark = (bytes_eq-Decides mark mark).1 refl

  found : (text : List ℕ) (i : ℕ) (back : List ℕ) → ((k : ℕ) → k < i → LacksTextAt mark text k)
      → drop i text ≡ mark ++ back → at_mark mark text ≡ Some (take i text, back)
  found [] zero back lacks is = cc
  found [] (suc i) back lacks is = cc
  found (byte ∷ rest) zero back lacks is =
      subst (λ text. at_mark mark text ≡ Some (take 0 text, back)) (sym is)
      (ap (λ test. if test then Some ([], back) else onto_before first (at_mark mark (second ∷ back))) same_mark)
  found (byte ∷ rest) (suc i) back lacks is =
      by_test (bytes_eq (take 2 (byte ∷ rest)) mark) refl (found rest i back (λ k below. lacks (suc k) (omega arith)) is)
    where
      by_test : (test : Bool) → bytes_eq (take 2 (byte ∷ rest)) mark ≡ test
          → at_mark mark rest ≡ Some (take i rest, back)
          → (if test then Some ([], drop 1 rest) else onto_before byte (at_mark mark rest)) ≡ Some (byte ∷ take i rest, back)
      by_test true starts later = absurd (lacks 0 (omega arith) (drop 2 (byte ∷ rest)) (begins (byte ∷ rest) starts))
      by_test false starts later = ap (onto_before byte) later

  -- the result of `split_once` at the mark
  pub mark_cases : (text : List ℕ) (result : Option (Bor (List ℕ) × Bor (List ℕ)))
      → MatchOption result (FindsText mark text None)
      (λ sides. SplitsAroundMatch (FindsText mark) text sides.0.now sides.1.now)
      → option_map (λ sides. (sides.0.now, sides.1.now)) result ≡ at_mark mark text
  mark_cases text None lacks = sym (none text lacks)
  mark_cases text (Some sides) cases =
      let at : at_mark mark text ≡ Some (take cases.0 text, drop cases.1 text) =
      found text cases.0 (drop cases.1 text) cases.2.0 cases.2.1.split in
      let front : sides.0.now ≡ take cases.0 text = cases.3 in
      let back : sides.1.now ≡ drop cases.1 text = cases.4 in
      cc
