-- Where the rows of a table lead, one after another.
use Rattle.std.proofs.Common.{◌≡◌, ℕ, suc, ◌+◌, ◌<◌, Bool, true, false, ◌&&◌, List, [], ◌∷◌, ◌++◌, length, get_or, drop, refl, ap, sym, ◌∙◌, append_assoc, Option, Some, None, arith}
use Rattle.std.proofs.Math.Seq.{drop-cons}
use Rattle.wh_rows.specs.declared.row.Counters.{Counters}
use Rattle.wh_rows.specs.declared.row.JobPattern.TheVariants as patterns
use Rattle.wh_rows.specs.Tables.{JobPattern}
use Rattle.wh_rows.specs.Rules.{covers}
use Rattle.wh_rows.specs.Watches.{Turn}
use Rattle.wh_rows.specs.Deciding.{Line, Config, is_ready, is_among, job_turns, leads, starts}
use Rattle.wh_table_promises.specs.Private.Seen.{stand_by, started, LeadsOn}

plus_one : (n : ℕ) → n + 1 ≡ suc n
plus_one n = omega arith

-- what is left of a list from a place on is the member there, and what is left from the next
pub front : {A : Type 0} → (xs : List A) (i : ℕ) (x : A) → i < length xs → x ≡ get_or xs i x → drop i xs ≡ x ∷ drop (i + 1) xs
front xs i x within is =
    drop-cons xs i x within ∙ ap (λ y. y ∷ drop (suc i) xs) (sym is) ∙ ap (λ n. x ∷ drop n xs) (sym (plus_one i))

module _ (tops : Counters) (turns : List Turn) (one : Config) where
  -- a row that is not ready leads nowhere
  pub leads_not : (row : Line) (passed : List JobPattern) (found : List Config) → is_ready row one ≡ false
      → LeadsOn tops turns one row passed passed found found
  leads_not row passed found ready rest = ap (λ list. found ++ list) (by (is_ready row one) ready)
    where
      by : (t : Bool) → t ≡ false → leads tops turns rest passed one ≡ elim t [
        | true ↦ elim (is_among row.job passed) [
          | true ↦ leads tops turns rest passed one
          | false ↦ job_turns (stand_by tops turns (Some row) one) turns (Some row.job) passed one.watch
              ++ leads tops turns rest (row.job ∷ passed) one
        ]
        | false ↦ leads tops turns rest passed one
      ]
      by true is = cc
      by false is = refl

  -- nor does one whose jobs others took
  pub leads_taken : (row : Line) (passed : List JobPattern) (found : List Config) → is_ready row one ≡ true
      → is_among row.job passed ≡ true → LeadsOn tops turns one row passed passed found found
  leads_taken row passed found ready among rest =
      ap (λ list. found ++ list) (by (is_ready row one) ready (is_among row.job passed) among)
    where
      by : (t : Bool) → t ≡ true → (u : Bool) → u ≡ true → leads tops turns rest passed one ≡ elim t [
        | true ↦ elim u [
          | true ↦ leads tops turns rest passed one
          | false ↦ job_turns (stand_by tops turns (Some row) one) turns (Some row.job) passed one.watch
              ++ leads tops turns rest (row.job ∷ passed) one
        ]
        | false ↦ leads tops turns rest passed one
      ]
      by true is true it = refl
      by true is false it = cc
      by false is u it = cc

  -- another one leads on
  pub leads_there : (row : Line) (passed : List JobPattern) (found behind : List Config) → is_ready row one ≡ true
      → is_among row.job passed ≡ false
      → behind ≡ found ++ job_turns (stand_by tops turns (Some row) one) turns (Some row.job) passed one.watch
      → LeadsOn tops turns one row passed (row.job ∷ passed) found behind
  leads_there row passed found behind ready among is rest =
      ap (λ list. list ++ leads tops turns rest (row.job ∷ passed) one) is
      ∙ append_assoc found (job_turns (stand_by tops turns (Some row) one) turns (Some row.job) passed one.watch)
      (leads tops turns rest (row.job ∷ passed) one)
      ∙ ap (λ list. found ++ list) (by (is_ready row one) ready (is_among row.job passed) among)
    where
      by : (t : Bool) → t ≡ true → (u : Bool) → u ≡ false
          → job_turns (stand_by tops turns (Some row) one) turns (Some row.job) passed one.watch
          ++ leads tops turns rest (row.job ∷ passed) one ≡ elim t [
            | true ↦ elim u [
              | true ↦ leads tops turns rest passed one
              | false ↦ job_turns (stand_by tops turns (Some row) one) turns (Some row.job) passed one.watch
                  ++ leads tops turns rest (row.job ∷ passed) one
            ]
            | false ↦ leads tops turns rest passed one
          ]
      by true it false other = refl
      by true it true other = cc
      by false it u other = cc

  -- the start leads where the row leads that counts
  pub starts_is : (rows : List Line) → starts tops turns rows one
      ≡ job_turns (stand_by tops turns (started rows one) one) turns (Some patterns.Start) [] one.watch
  starts_is [] = refl
  starts_is (row ∷ rest) = by (is_ready row one && covers row.job patterns.Start) (starts_is rest)
    where
      by : (t : Bool) → starts tops turns rest one
          ≡ job_turns (stand_by tops turns (started rest one) one) turns (Some patterns.Start) [] one.watch
          → elim t [
            | true ↦ job_turns (stand_by tops turns (Some row) one) turns (Some patterns.Start) [] one.watch
            | false ↦ starts tops turns rest one
          ] ≡ job_turns (stand_by tops turns (elim t [ true ↦ Some row | false ↦ started rest one ]) one) turns (Some patterns.Start) [] one.watch
      by true later = refl
      by false later = later
