-- Configurations that jobs lead to, one after another, show that so many jobs break no promise.
use Rattle.std.proofs.Common.{◌≡◌, ℕ, zero, suc, ◌+◌, ◌-◌, ◌≤◌, ◌<◌, Bool, true, false, ◌||◌, List, [], ◌∷◌, ◌++◌, length, map, take, drop, refl, ap, sym, subst, ◌∙◌, append_assoc, arith}
use Rattle.std.specs.Prelude.{leb}
use Rattle.std.proofs.lemmas.Bool.{and_parts, and_from}
use Rattle.std.proofs.lemmas.List.{append-nil, map-append, length-map, take-append-drop, take-map, drop-map, drop-take}
use Rattle.std.proofs.Math.Seq.{take-append_seam}
use Rattle.wh_rows.specs.declared.row.Counters.{Counters}
use Rattle.wh_rows.specs.Tables.{Definition}
use Rattle.wh_rows.specs.Rows.{initial}
use Rattle.wh_rows.specs.Courses.{course}
use Rattle.wh_rows.specs.Watches.{Turn}
use Rattle.wh_rows.specs.Promises.{Promise, watch_of}
use Rattle.wh_rows.specs.Deciding.{Line, Config, place, lines, steps, covered, each, all_within, are_cuts, case_of}
use Rattle.wh_rows.proofs.Cuts.{Cuts, cuts_from}
use Rattle.wh_rows.proofs.Turns.{both_of}
use Rattle.wh_rows.proofs.Meant.{means_in}
use Rattle.wh_rows.proofs.Sound.{KeepsOn, keeps_on, keeps_none, keeps_before}
use Rattle.wh_table_promises.specs.declared.config.Configuration.{Configuration as ConfigHeld}
use Rattle.wh_table_promises.specs.Private.Seen.{config_seen}
use Rattle.wh_table_promises.specs.Private.Found.{is_in, is_good, is_within_case, GoesOn, Leads, LeadsFrom}
use Rattle.wh_table_promises.specs.Ways.{IsKeptBefore}
use Rattle.wh_table_promises.proofs.Showing.{under}

-- a list goes on from itself
pub goes_same : (list : List Config) → GoesOn list list
goes_same list = ([], sym (append-nil list))

-- what goes on from a list that goes on
pub goes_then : (first second third : List Config) → GoesOn first second → GoesOn second third → GoesOn first third
goes_then first second third one other =
    (one.0 ++ other.0, other.1 ∙ ap (λ l. l ++ other.0) one.1 ∙ append_assoc first one.0 other.0)

-- a list with one more goes on
pub goes_one : (held new : List ConfigHeld) (one : ConfigHeld) → new ≡ held ++ one ∷ []
    → GoesOn (map config_seen held) (map config_seen new)
goes_one held new one is = (config_seen one ∷ [], ap (map config_seen) is ∙ map-append config_seen held (one ∷ []))

in_more : (list more : List Config) (one : Config) → is_in list one ≡ true → is_in (list ++ more) one ≡ true
in_more [] more one is = cc
in_more (other ∷ rest) more one is = by (covered one other) is (in_more rest more one)
  where
    by : (t : Bool) → (t || is_in rest one) ≡ true → (is_in rest one ≡ true → is_in (rest ++ more) one ≡ true)
        → (t || is_in (rest ++ more) one) ≡ true
    by true is later = refl
    by false is later = later is

-- what is among these is among those that go on from them
in_next : (list next : List Config) → GoesOn list next → (one : Config) → is_in list one ≡ true → is_in next one ≡ true
in_next list next on one is = subst (λ all. is_in all one ≡ true) (sym on.1) (in_more list on.0 one is)

each_next : (test other : Config → Bool) → ((one : Config) → test one ≡ true → other one ≡ true)
    → (list : List Config) → each test list ≡ true → each other list ≡ true
each_next test other then [] is = refl
each_next test other then (one ∷ rest) is =
    let parts : (test one ≡ true) × (each test rest ≡ true) = both_of (test one) (each test rest) is in
    both_from (other one) (each other rest) (then one parts.0) (each_next test other then rest parts.1)
  where
    both_from : (t u : Bool) → t ≡ true → u ≡ true → ◌≡◌ {A = Bool} (elim t [ true ↦ u | false ↦ false ]) true
    both_from true u first second = second
    both_from false u first second = cc

each_append : (test : Config → Bool) (xs ys : List Config) → each test xs ≡ true → each test ys ≡ true → each test (xs ++ ys) ≡ true
each_append test [] ys first second = second
each_append test (x ∷ xs) ys first second =
    let parts : (test x ≡ true) × (each test xs ≡ true) = both_of (test x) (each test xs) first in
    by (test x) parts.0 (each_append test xs ys parts.1 second)
  where
    by : (t : Bool) → t ≡ true → each test (xs ++ ys) ≡ true
        → ◌≡◌ {A = Bool} (elim t [ true ↦ each test (xs ++ ys) | false ↦ false ]) true
    by true is later = later
    by false is later = cc

-- those of these numbers
pub between : (xs : List ConfigHeld) (from end : ℕ) → from ≤ end
    → map config_seen (take (end - from) (drop from xs)) ≡ drop from (take end (map config_seen xs))
between xs from end below =
    let sum : from + (end - from) ≡ end = omega (arith, below) in
    sym (take-map config_seen (end - from) (drop from xs))
    ∙ ap (take (end - from)) (sym (drop-map config_seen from xs))
    ∙ sym (drop-take from (end - from) (map config_seen xs))
    ∙ ap (λ n. drop from (take n (map config_seen xs))) sum

-- so many of those that go on from these are these
pub taken : (held next : List ConfigHeld) → GoesOn (map config_seen held) (map config_seen next)
    → take (length held) (map config_seen next) ≡ map config_seen held
taken held next on =
    ap (take (length held)) on.1
    ∙ ap (λ n. take n (map config_seen held ++ on.0)) (sym (length-map held config_seen))
    ∙ take-append_seam (map config_seen held) on.0

module _ (tops : Counters) (turns : List Turn) (budget : ℕ) (rows : List Line) where
  -- all jobs are left at first
  pub leads_all : (many : ℕ) (all : List Config) → Leads tops turns budget rows (many - 0) all → Leads tops turns budget rows many all
  leads_all many all leads =
      let sum : many - 0 ≡ many = omega arith in
      subst (λ n. Leads tops turns budget rows n all) sum leads

  -- those that are good are so many of those that go on from them
  pub good_before : (held next : List ConfigHeld) (count : ℕ) → count ≡ length held → GoesOn (map config_seen held) (map config_seen next)
      → each (is_good tops turns budget rows (map config_seen next)) (map config_seen held) ≡ true
      → each (is_good tops turns budget rows (map config_seen next)) (take count (map config_seen next)) ≡ true
  good_before held next count is on good =
      subst (λ list. each (is_good tops turns budget rows (map config_seen next)) list ≡ true)
      (sym (ap (λ n. take n (map config_seen next)) is ∙ taken held next on)) good

  -- one job more leads from configurations on
  pub leads_more : (many i : ℕ) (all next : List Config) → i < many → each (is_good tops turns budget rows next) all ≡ true
      → Leads tops turns budget rows (many - (i + 1)) next → Leads tops turns budget rows (many - i) all
  leads_more many i all next below good rest =
      let one : suc (many - (i + 1)) ≡ many - i = omega (arith, below) in
      subst (λ n. Leads tops turns budget rows n all) one (next, good, rest)

  -- no job leads anywhere
  pub leads_end : (many i : ℕ) (all : List Config) → many ≤ i → Leads tops turns budget rows (many - i) all
  leads_end many i all most =
      let none : 0 ≡ many - i = omega (arith, most) in
      subst (λ n. Leads tops turns budget rows n all) none tt

  -- what leads to these leads to those that go on from them
  good_next : (list next : List Config) → GoesOn list next → (one : Config) → is_good tops turns budget rows list one ≡ true
      → is_good tops turns budget rows next one ≡ true
  good_next list next on one good =
      let parts : (leb one.watch.spent budget ≡ true) × (each (is_in list) (steps tops turns rows one) ≡ true) =
      and_parts (leb one.watch.spent budget) (each (is_in list) (steps tops turns rows one)) good in
      and_from (leb one.watch.spent budget) (each (is_in next) (steps tops turns rows one)) parts.0
      (each_next (is_in list) (is_in next) (in_next list next on) (steps tops turns rows one) parts.1)

  -- those before a number and those from it on are good
  pub good_all : (held new : List ConfigHeld) (from end : ℕ) → end ≡ length held → GoesOn (map config_seen held) (map config_seen new)
      → each (is_good tops turns budget rows (map config_seen held)) (take from (map config_seen held)) ≡ true
      → each (is_good tops turns budget rows (map config_seen new)) (drop from (take end (map config_seen new))) ≡ true
      → each (is_good tops turns budget rows (map config_seen new)) (map config_seen held) ≡ true
  good_all held new from end is on before behind =
      let list : List Config = map config_seen held in
      let next : List Config = map config_seen new in
      let same : take end next ≡ list = ap (λ n. take n next) is ∙ taken held new on in
      subst (λ all. each (is_good tops turns budget rows next) all ≡ true) (take-append-drop from list)
      (each_append (is_good tops turns budget rows next) (take from list) (drop from list)
      (each_next (is_good tops turns budget rows list) (is_good tops turns budget rows next) (good_next list next on) (take from list) before)
      (subst (λ all. each (is_good tops turns budget rows next) (drop from all) ≡ true) same behind))

module _ (table : Definition) (promise : Promise) (tops : Counters) (fine : Cuts table.bounds tops)
    (fit : all_within (length table.rows) tops (lines table.rows table.rows) ≡ true) where
  -- where so many jobs lead from configurations on, each but the last keeps to the budget
  leads_keep : (many : ℕ) (all : List Config)
      → Leads tops (watch_of promise).turns (watch_of promise).budget (lines table.rows table.rows) many all
      → KeepsOn table tops (watch_of promise).turns fine (watch_of promise).budget (is_in all) many
  leads_keep zero all leads = keeps_none table tops (watch_of promise).turns fine (watch_of promise).budget fit (is_in all)
  leads_keep (suc many) all leads =
      keeps_on table tops (watch_of promise).turns fine (watch_of promise).budget fit (is_in all) (is_in leads.0)
      (λ one there. under table promise tops leads.0 fine all one there leads.1)
      many (leads_keep many leads.0 leads.2)

-- so fewer jobs do not break the promise
pub kept_before : (table : Definition) (promise : Promise) (tops : Counters) (many : ℕ)
    → is_within_case (case_of table) tops ≡ true
    → LeadsFrom tops (watch_of promise).turns (watch_of promise).budget (lines table.rows table.rows) (place table.first table.rows) many
    → (jobs : ℕ) → jobs ≤ suc many → IsKeptBefore jobs table promise
kept_before table promise tops many within from jobs most list start fewer =
    let parts : (are_cuts table.bounds tops ≡ true)
    × (all_within (length table.rows) tops (lines table.rows table.rows) ≡ true) = and_parts _ _ within in
    let fine : Cuts table.bounds tops = cuts_from table.bounds tops parts.0 in
    let few : length list ≤ many = omega (arith, most, fewer) in
    means_in promise (course table (initial table) list)
    (keeps_before table (watch_of promise) tops fine (is_in from.0) parts.1 from.1 many
    (leads_keep table promise tops fine parts.1 many from.0 from.2) list start few)
