-- Configurations that were found show what the definitions do.
use Rattle.std.proofs.Common.{◌≡◌, ℕ, zero, suc, ◌<◌, ◌≤◌, Bool, true, false, ◌&&◌, ◌||◌, List, [], ◌∷◌, length, get_or, map, refl, inl, inr, arith}
use Rattle.std.specs.Prelude.{leb}
use Rattle.std.proofs.lemmas.Bool.{and_parts, and_from, or_cases}
use Rattle.std.proofs.lemmas.Bool.Decides.{nat_tests}
use Rattle.wh_rows.specs.declared.row.Counters.{Counters}
use Rattle.wh_rows.specs.Tables.{Definition}
use Rattle.wh_rows.specs.Watches.{Turn}
use Rattle.wh_rows.specs.Promises.{Promise, Promises, watch_of}
use Rattle.wh_rows.specs.Deciding.{Line, Config, place, lines, steps, starts, covered, each, all_within, are_cuts, begun, case_of}
use Rattle.wh_rows.proofs.Cuts.{Cuts, cuts_from}
use Rattle.wh_rows.proofs.Turns.{both_of}
use Rattle.wh_rows.proofs.Meant.{means}
use Rattle.wh_rows.proofs.Sound.{IsGood, keeps_all}
use Rattle.wh_table_promises.specs.declared.config.Configuration.{Configuration as ConfigHeld}
use Rattle.wh_table_promises.specs.Private.Seen.{config_seen}
use Rattle.wh_table_promises.specs.Private.Found.{is_in, is_good, shows_all}

or_left : (t u : Bool) → t ≡ true → (t || u) ≡ true
or_left true u is = refl
or_left false u is = cc

or_right : (t u : Bool) → u ≡ true → (t || u) ≡ true
or_right true u is = refl
or_right false u is = is

-- a configuration that is covered by the one at a place is covered by one of them
pub in_at : (configs : List ConfigHeld) (i : ℕ) (other : ConfigHeld) (one : Config) → i < length configs
    → covered one (config_seen (get_or configs i other)) ≡ true → is_in (map config_seen configs) one ≡ true
in_at [] i other one within is = absurd (none within)
  where
    none : i < 0 → ⊥
    none below = omega (arith, below)
in_at (first ∷ rest) zero other one within is = or_left (covered one (config_seen first)) (is_in (map config_seen rest) one) is
in_at (first ∷ rest) (suc i) other one within is =
    let below : i < length rest = omega (arith, within) in
    or_right (covered one (config_seen first)) (is_in (map config_seen rest) one) (in_at rest i other one below is)

both_to : (a b : Bool) → a ≡ true → b ≡ true → ◌≡◌ {A = Bool} (elim a [ true ↦ b | false ↦ false ]) true
both_to true b first second = second
both_to false b first second = cc

-- what keeps to a budget keeps to a greater one
module _ (tops : Counters) (turns : List Turn) (budget most : ℕ) (less : budget ≤ most) (rows : List Line) (all : List Config) where
  one_within : (one : Config) → is_good tops turns budget rows all one ≡ true → is_good tops turns most rows all one ≡ true
  one_within one good =
      let parts : (leb one.watch.spent budget ≡ true) × (each (is_in all) (steps tops turns rows one) ≡ true) = and_parts _ _ good in
      let kept : leb one.watch.spent most ≡ true = grind (arith, nat_tests) in
      and_from (leb one.watch.spent most) (each (is_in all) (steps tops turns rows one)) kept parts.1

  each_within : (list : List Config) → each (is_good tops turns budget rows all) list ≡ true
      → each (is_good tops turns most rows all) list ≡ true
  each_within [] good = refl
  each_within (one ∷ rest) good =
      let parts : (is_good tops turns budget rows all one ≡ true) × (each (is_good tops turns budget rows all) rest ≡ true) =
      both_of (is_good tops turns budget rows all one) (each (is_good tops turns budget rows all) rest) good in
      both_to (is_good tops turns most rows all one) (each (is_good tops turns most rows all) rest)
      (one_within one parts.0) (each_within rest parts.1)

module _ (table : Definition) (promise : Promise) (tops : Counters) (all : List Config) where
  abbrev pub rows : List Line
  rows = lines table.rows table.rows

  abbrev pub turns : List Turn
  turns = (watch_of promise).turns

  -- what covers a configuration among these is good
  pub under : (fine : Cuts table.bounds tops) (list : List Config) (one : Config) → is_in list one ≡ true
      → each (is_good tops turns (watch_of promise).budget rows all) list ≡ true
      → (other : Config) × (covered one other ≡ true) × IsGood table tops turns fine (watch_of promise).budget (is_in all) other
  under fine [] one is good = cc
  under fine (first ∷ rest) one is good =
      let parts : (is_good tops turns (watch_of promise).budget rows all first ≡ true)
      × (each (is_good tops turns (watch_of promise).budget rows all) rest ≡ true) =
      both_of (is_good tops turns (watch_of promise).budget rows all first) (each (is_good tops turns (watch_of promise).budget rows all) rest) good in
      elim (or_cases (covered one first) (is_in rest one) is) [
        | inl covers ↦ (first, covers, and_parts (leb first.watch.spent (watch_of promise).budget) (each (is_in all) (steps tops turns rows first)) parts.0)
        | inr later ↦ under fine rest one later parts.1
      ]

  -- configurations that show it show it
  pub shown_keeps : shows_all (case_of table) tops turns (watch_of promise).budget all ≡ true → Promises table promise
  shown_keeps shown =
      let halves : ((are_cuts table.bounds tops && all_within (length table.rows) tops rows) ≡ true)
      × ((each (is_in all) (starts tops turns rows (begun (place table.first table.rows)))
      && each (is_good tops turns (watch_of promise).budget rows all) all) ≡ true) = and_parts _ _ shown in
      let cuts : (are_cuts table.bounds tops ≡ true) × (all_within (length table.rows) tops rows ≡ true) = and_parts _ _ halves.0 in
      let lists : (each (is_in all) (starts tops turns rows (begun (place table.first table.rows))) ≡ true)
      × (each (is_good tops turns (watch_of promise).budget rows all) all ≡ true) = and_parts _ _ halves.1 in
      let fine : Cuts table.bounds tops = cuts_from table.bounds tops cuts.0 in
      means table promise
      (keeps_all table (watch_of promise) tops fine (is_in all) cuts.1 lists.0 (λ one there. under fine all one there lists.1))

  -- so do those that keep to a smaller budget
  pub shown_within : (budget : ℕ) → budget ≤ (watch_of promise).budget → shows_all (case_of table) tops turns budget all ≡ true
      → Promises table promise
  shown_within budget less shown =
      let most = (watch_of promise).budget in
      let halves : ((are_cuts table.bounds tops && all_within (length table.rows) tops rows) ≡ true)
      × ((each (is_in all) (starts tops turns rows (begun (place table.first table.rows)))
      && each (is_good tops turns budget rows all) all) ≡ true) = and_parts _ _ shown in
      let lists : (each (is_in all) (starts tops turns rows (begun (place table.first table.rows))) ≡ true)
      × (each (is_good tops turns budget rows all) all ≡ true) = and_parts _ _ halves.1 in
      shown_keeps
      (and_from (are_cuts table.bounds tops && all_within (length table.rows) tops rows)
      (each (is_in all) (starts tops turns rows (begun (place table.first table.rows))) && each (is_good tops turns most rows all) all)
      halves.0
      (and_from (each (is_in all) (starts tops turns rows (begun (place table.first table.rows))))
      (each (is_good tops turns most rows all) all) lists.0 (each_within tops turns budget most less rows all all lists.1)))
