-- Where the start leads.
use Rattle.std.proofs.Common.{◌≡◌, Bool, true, false, ◌&&◌, List, [], ◌∷◌, refl, Option, Some, None}
use Rattle.wh_rows.specs.declared.row.JobPattern.TheVariants as patterns
use Rattle.wh_rows.specs.declared.row.Counters.{Counters}
use Rattle.wh_rows.specs.Rules.{covers}
use Rattle.wh_rows.specs.Deciding.{Line}
use Rattle.wh_possible_runs.specs.Situations.{ThingName}
use Rattle.wh_possible_runs.specs.Configurations.{Config, is_ready, stays, led, starts}
use Rattle.wh_stuck_check.specs.Private.Configs.{started}

module _ (names : List ThingName) (tops : Counters) (one : Config) where
  -- the configuration once the row that counts, if there is one, is followed
  abbrev begun_by : Option Line → Config
  begun_by None = stays one one.situation
  begun_by (Some row) = led names tops row one one.situation

  starts_is : (rows : List Line) → starts names tops rows one ≡ begun_by (started rows one) ∷ []
  starts_is [] = refl
  starts_is (row ∷ rest) = by (is_ready row one && covers row.job patterns.Start) (starts_is rest)
    where
      by : (t : Bool) → starts names tops rest one ≡ begun_by (started rest one) ∷ []
          → ◌≡◌ {A = List Config} (elim t [ true ↦ led names tops row one one.situation ∷ [] | false ↦ starts names tops rest one ])
          (begun_by (elim t [ true ↦ Some row | false ↦ started rest one ]) ∷ [])
      by true later = refl
      by false later = later

  -- a row leads on
  pub starts_some : (rows : List Line) (row : Line) → Some row ≡ started rows one
      → led names tops row one one.situation ∷ [] ≡ starts names tops rows one
  starts_some rows row is = rw (starts_is rows, ← is) refl

  -- none does
  pub starts_none : (rows : List Line) → None ≡ started rows one → stays one one.situation ∷ [] ≡ starts names tops rows one
  starts_none rows is = rw (starts_is rows, ← is) refl
