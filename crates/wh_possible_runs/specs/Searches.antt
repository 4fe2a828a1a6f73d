-- A search for the configurations of a run, for tables of a program. The proof does not rest on it.
use Rattle.std.specs.Prelude.{ℕ, zero, suc, true, false, List, [], ◌∷◌, ◌++◌}
use Rattle.wh_rows.specs.declared.row.Counters.{Counters}
use Rattle.wh_rows.specs.Tables.{Definition}
use Rattle.wh_rows.specs.Deciding.{Line, case_of, place, lines, cuts_of}
use Rattle.wh_possible_runs.specs.Situations.{ThingName}
use Rattle.wh_possible_runs.specs.Configurations.{Config, begun, starts, steps}
use Rattle.wh_possible_runs.specs.Shown.{has, shows, names_of}

-- the configurations that these lead to; the first that is at fault alone, if one is
abbrev pub found : ℕ → List ThingName → Counters → List Line → List Config → List Config → List Config
found zero names tops rows all left = all
found (suc fuel) names tops rows all [] = all
found (suc fuel) names tops rows all (one ∷ left) =
    elim (has all one) [
      | true ↦ found fuel names tops rows all left
      | false ↦ elim one.situation.faulty [
        | true ↦ one ∷ []
        | false ↦ found fuel names tops rows (one ∷ all) (left ++ steps names tops rows one)
      ]
    ]

-- the verdict
pub data Verdict : Type 0 where
  -- no run gets stuck
  NeverStuck : Verdict
  -- a run gets stuck, in this configuration
  GetsStuck : Config → Verdict
  -- it is not decided
  NotDecided : Verdict

-- the verdict by the list that the search found
abbrev pub verdict_by : Definition → List ThingName → Counters → List Config → Verdict
verdict_by table names tops all =
    elim (shows table names tops all) [
      | true ↦ NeverStuck
      | false ↦ elim all [
        | [] ↦ NotDecided
        | one ∷ rest ↦ elim one.situation.faulty [ true ↦ GetsStuck one | false ↦ NotDecided ]
      ]
    ]

-- whether a run of the table gets stuck, by a search of so many steps
abbrev pub verdict : ℕ → Definition → Verdict
verdict fuel table =
    let names = names_of table in
    let tops = cuts_of (case_of table) in
    let rows = lines table.rows table.rows in
    verdict_by table names tops
    (found fuel names tops rows [] (starts names tops rows (begun names (place table.first table.rows))))
