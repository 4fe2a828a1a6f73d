-- The names that a table uses are all that it opens or cancels.
use Rattle.std.proofs.Common.{◌≡◌, ℕ, Bool, true, false, List, [], ◌∷◌, refl, ap}
use Rattle.std.proofs.lemmas.Bool.{and_parts, and_from, not_from_false}
use Rattle.std.proofs.lemmas.Slice.Eq.{bytes_eq-Decides}
use Rattle.wh_events.specs.declared.place.Thing.{Thing}
use Rattle.wh_events.specs.declared.place.Thing.TheVariants as things
use Rattle.wh_events.specs.Places.{is_named as may_be_named}
use Rattle.wh_events.proofs.Placing.{same_decides}
use Rattle.wh_workflow.specs.Scripts.{Act}
use Rattle.wh_workflow.specs.Scripts.Act.{Opening, Cancelling, Asking, Closing, Other}
use Rattle.wh_rows.specs.declared.row.CommandTemplate.TheVariants as templates
use Rattle.wh_rows.specs.Tables.{CommandTemplate, Row, Definition}
use Rattle.wh_possible_runs.specs.Situations.{ThingName, is_named}
use Rattle.wh_possible_runs.specs.Configurations.{act_by}
use Rattle.wh_possible_runs.specs.Shown.{are_plain, has_name, with_name, with_act, with_acts, with_rows, names_of}
use Rattle.wh_possible_runs.specs.Rules.{is_new, are_distinct, is_covered}
use Rattle.wh_possible_histories.specs.Records.{are_named}
use Rattle.wh_possible_histories.specs.Tellings.{templates_known, rows_known, are_names_of}

-- no two are the same, and each may be a name
abbrev AreNames : List ThingName → Type 0
AreNames names = (are_distinct names ≡ true) × (are_named names ≡ true)

-- the second list has the names of the first
abbrev Grows : List ThingName → List ThingName → Type 0
Grows names more = (thing : Thing) (id : List ℕ) → has_name names thing id ≡ true → has_name more thing id ≡ true

new_one : (names : List ThingName) (thing : Thing) (id : List ℕ) → has_name names thing id ≡ false → is_new (thing, id) names ≡ true
new_one [] thing id none = refl
new_one (name ∷ rest) thing id none = by (is_named thing id name) refl none (new_one rest thing id)
  where
    by : (t : Bool) → is_named thing id name ≡ t
        → ◌≡◌ {A = Bool} (elim t [ true ↦ true | false ↦ has_name rest thing id ]) false
        → (has_name rest thing id ≡ false → is_new (thing, id) rest ≡ true) → is_new (thing, id) (name ∷ rest) ≡ true
    by true p none later = cc
    by false p none later = and_from _ _ (not_from_false (is_named thing id name) p) (later none)

self_named : (thing : Thing) (id : List ℕ) → is_named thing id (thing, id) ≡ true
self_named thing id = and_from _ _ ((same_decides thing thing).1 refl) ((bytes_eq-Decides id id).1 refl)

name_names : (names : List ThingName) (thing : Thing) (id : List ℕ) → may_be_named thing ≡ true → AreNames names
    → AreNames (with_name names thing id)
name_names names thing id may are = by (has_name names thing id) refl
  where
    by : (t : Bool) → has_name names thing id ≡ t → AreNames (elim t [ true ↦ names | false ↦ (thing, id) ∷ names ])
    by true p = are
    by false p = (and_from _ _ (new_one names thing id p) are.0, and_from _ _ may are.1)

name_grows : (names : List ThingName) (thing : Thing) (id : List ℕ) → Grows names (with_name names thing id)
name_grows names thing id other other_id has = by (has_name names thing id)
  where
    there : (t : Bool) → ◌≡◌ {A = Bool} (elim t [ true ↦ true | false ↦ has_name names other other_id ]) true
    there true = refl
    there false = has

    by : (t : Bool) → has_name (elim t [ true ↦ names | false ↦ (thing, id) ∷ names ]) other other_id ≡ true
    by true = has
    by false = there (is_named other other_id (thing, id))

name_has : (names : List ThingName) (thing : Thing) (id : List ℕ) → has_name (with_name names thing id) thing id ≡ true
name_has names thing id = by (has_name names thing id) refl
  where
    by : (t : Bool) → has_name names thing id ≡ t → has_name (elim t [ true ↦ names | false ↦ (thing, id) ∷ names ]) thing id ≡ true
    by true p = p
    by false p = ap (λ (b : Bool). let all : Bool = elim b [ true ↦ true | false ↦ has_name names thing id ] in all) (self_named thing id)

act_names : (names : List ThingName) (one : CommandTemplate) → AreNames names → AreNames (with_act names (act_by one))
act_names names (templates.StartActivity id _ _) are = name_names names things.Activity id refl are
act_names names (templates.CancelActivity id) are = name_names names things.Activity id refl are
act_names names (templates.StartTimer id _) are = name_names names things.Timer id refl are
act_names names (templates.CancelTimer id) are = name_names names things.Timer id refl are
act_names names (templates.StartChild id _ _) are = name_names names things.Child id refl are
act_names names (templates.CancelChild id) are = name_names names things.Child id refl are
act_names names (templates.SignalExternal _ _ _) are = are
act_names names (templates.Ask _ _ _) are = are
act_names names (templates.Complete _) are = are
act_names names (templates.Fail _) are = are
act_names names templates.Cancel are = are
act_names names (templates.ContinueAsNew _ _) are = are

act_grows : (names : List ThingName) (act : Act) → Grows names (with_act names act)
act_grows names (Opening thing id) = name_grows names thing id
act_grows names (Cancelling thing id) = name_grows names thing id
act_grows names (Asking _ _ _) = λ thing id has. has
act_grows names Closing = λ thing id has. has
act_grows names Other = λ thing id has. has

act_covered : (names : List ThingName) (act : Act) → is_covered (with_act names act) act ≡ true
act_covered names (Opening thing id) = name_has names thing id
act_covered names (Cancelling thing id) = name_has names thing id
act_covered names (Asking _ _ _) = refl
act_covered names Closing = refl
act_covered names Other = refl

covered_grows : (names more : List ThingName) (act : Act) → Grows names more → is_covered names act ≡ true → is_covered more act ≡ true
covered_grows names more (Opening thing id) grows covered = grows thing id covered
covered_grows names more (Cancelling thing id) grows covered = grows thing id covered
covered_grows names more (Asking _ _ _) grows covered = refl
covered_grows names more Closing grows covered = refl
covered_grows names more Other grows covered = refl

acts_names : (names : List ThingName) (list : List CommandTemplate) → AreNames names → AreNames (with_acts names list)
acts_names names [] are = are
acts_names names (one ∷ rest) are = acts_names (with_act names (act_by one)) rest (act_names names one are)

acts_grow : (names : List ThingName) (list : List CommandTemplate) → Grows names (with_acts names list)
acts_grow names [] thing id has = has
acts_grow names (one ∷ rest) thing id has =
    acts_grow (with_act names (act_by one)) rest thing id (act_grows names (act_by one) thing id has)

acts_known : (names : List ThingName) (list : List CommandTemplate) → templates_known (with_acts names list) list ≡ true
acts_known names [] = refl
acts_known names (one ∷ rest) =
    and_from _ _
    (covered_grows (with_act names (act_by one)) (with_acts (with_act names (act_by one)) rest) (act_by one)
    (acts_grow (with_act names (act_by one)) rest) (act_covered names (act_by one)))
    (acts_known (with_act names (act_by one)) rest)

templates_grow : (names more : List ThingName) (list : List CommandTemplate) → Grows names more → templates_known names list ≡ true
    → templates_known more list ≡ true
templates_grow names more [] grows known = refl
templates_grow names more (one ∷ rest) grows known =
    let parts = and_parts (is_covered names (act_by one)) (templates_known names rest) known in
    and_from _ _ (covered_grows names more (act_by one) grows parts.0) (templates_grow names more rest grows parts.1)

rows_names : (names : List ThingName) (rows : List Row) → AreNames names → AreNames (with_rows names rows)
rows_names names [] are = are
rows_names names (row ∷ rest) are = rows_names (with_acts names row.gives) rest (acts_names names row.gives are)

rows_grow : (names : List ThingName) (rows : List Row) → Grows names (with_rows names rows)
rows_grow names [] thing id has = has
rows_grow names (row ∷ rest) thing id has = rows_grow (with_acts names row.gives) rest thing id (acts_grow names row.gives thing id has)

rows_are_known : (names : List ThingName) (rows : List Row) → rows_known (with_rows names rows) rows ≡ true
rows_are_known names [] = refl
rows_are_known names (row ∷ rest) =
    and_from _ _
    (templates_grow (with_acts names row.gives) (with_rows (with_acts names row.gives) rest) row.gives
    (rows_grow (with_acts names row.gives) rest) (acts_known names row.gives))
    (rows_are_known (with_acts names row.gives) rest)

-- the names of a table that uses the name of the run nowhere are all that it opens or cancels
pub names_are : (table : Definition) → are_plain table.rows ≡ true → are_names_of table (names_of table) ≡ true
names_are table plain =
    let are = rows_names [] table.rows (refl, refl) in
    and_from _ _ (and_from _ _ are.0 are.1) (and_from _ _ (rows_are_known [] table.rows) plain)
