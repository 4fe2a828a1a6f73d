-- Numbers identify states.
use Rattle.std.proofs.Common.{◌≡◌, ℕ, suc, ◌<◌, Bool, true, false, List, [], ◌∷◌, length, refl, ap, sym, ◌∙◌, arith}
use Rattle.std.specs.Prelude.{ltb, nat_eq, bytes_eq}
use Rattle.std.proofs.lemmas.Bool.{ltb-true, eqb-true, eq-eqb}
use Rattle.std.proofs.lemmas.Bool.Decides.{same_from_decides}
use Rattle.std.proofs.lemmas.Slice.Eq.{bytes_eq-Decides}
use Rattle.wh_rows.specs.Tables.{Row}
use Rattle.wh_rows.specs.Deciding.{place}

abbrev pick : Bool → ℕ → ℕ
pick t n = elim t [ true ↦ 0 | false ↦ suc n ]

-- two states with the same number are the same, if it has rows
one_state : (a b : List ℕ) (rows : List Row) → place a rows ≡ place b rows → place a rows < length rows → a ≡ b
one_state a b [] same few = absurd (omega arith)
one_state a b (row ∷ rest) same few =
    by (one_state a b rest) (bytes_eq row.state a) refl (bytes_eq row.state b) refl same few
  where
    by : (place a rest ≡ place b rest → place a rest < length rest → a ≡ b)
        → (t : Bool) → bytes_eq row.state a ≡ t → (u : Bool) → bytes_eq row.state b ≡ u
        → pick t (place a rest) ≡ pick u (place b rest) → pick t (place a rest) < suc (length rest) → a ≡ b
    by later true p true q same few = sym ((bytes_eq-Decides row.state a).0 p) ∙ (bytes_eq-Decides row.state b).0 q
    by later true p false q same few = absurd (omega arith)
    by later false p true q same few = absurd (omega arith)
    by later false p false q same few = later (omega arith) (omega arith)

-- so states are the same exactly if their numbers are
pub places_tell : (a b : List ℕ) (rows : List Row) → ltb (place a rows) (length rows) ≡ true
    → nat_eq (place a rows) (place b rows) ≡ bytes_eq a b
places_tell a b rows few =
    same_from_decides (nat_eq (place a rows) (place b rows)) (bytes_eq a b) (
      λ same. one_state a b rows (eqb-true (place a rows) (place b rows) same) (ltb-true (place a rows) (length rows) few),
      λ same. eq-eqb (place a rows) (place b rows) (ap (λ name. place name rows) same),
    )
    (bytes_eq-Decides a b)
