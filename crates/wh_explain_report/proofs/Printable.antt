-- Names are shown without control characters.
use Rattle.std.proofs.Common.{◌≡◌, ℕ, ◌&&◌, Bool, true, false, cond, List, [], ◌∷◌, ◌++◌, take, refl, ap}
use Rattle.std.specs.Prelude.{nat_le}
use Rattle.std.specs.List.{flat_map, list_all}
use Rattle.std.specs.Str.{chars}
use Rattle.wh_tester.specs.Report.{shown, shown_char}
use Rattle.wh_explain_report.specs.Laws.{is_printable, NamesArePrintable}

both : (xs ys : List ℕ) → list_all is_printable xs ≡ true → list_all is_printable ys ≡ true → list_all is_printable (xs ++ ys) ≡ true
both [] ys p q = q
both (x ∷ xs) ys p q = by (is_printable x) p (both xs ys)
  where
    by : (b : Bool) → (b && list_all is_printable xs) ≡ true → (list_all is_printable xs ≡ true → list_all is_printable ys ≡ true → list_all is_printable (xs ++ ys) ≡ true) → (b && list_all is_printable (xs ++ ys)) ≡ true
    by true p later = later p q
    by false p later = cc

one : (c : ℕ) → list_all is_printable (shown_char c) ≡ true
one c = by (nat_le 32 c && nat_le c 126) refl
  where
    by : (b : Bool) → (nat_le 32 c && nat_le c 126) ≡ b → list_all is_printable (cond b (c ∷ []) (63 ∷ [])) ≡ true
    by true e = ap (λ t. t && true) e
    by false e = refl

each : (xs : List ℕ) → list_all is_printable (flat_map shown_char xs) ≡ true
each [] = refl
each (x ∷ xs) = both (shown_char x) (flat_map shown_char xs) (one x) (each xs)

pub names_are_printable : NamesArePrintable
unfolding shown
names_are_printable name = each (take 255 (chars name))
