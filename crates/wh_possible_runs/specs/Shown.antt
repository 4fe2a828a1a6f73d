-- A list of configurations shows that no run of a table gets stuck if it has the first ones and each that a job or the
-- next task leads to, and none of them is at fault.
use Rattle.std.specs.Prelude.{◌≡◌, ℕ, Bool, true, false, not, ◌&&◌, cond, List, [], ◌∷◌, length, bytes_eq, codes, nat_eq}
use Rattle.wh_events.specs.declared.place.Thing.{Thing}
use Rattle.wh_workflow.specs.Scripts.{Act}
use Rattle.wh_workflow.specs.Scripts.Act.{Opening, Cancelling, Asking}
use Rattle.wh_rows.specs.declared.row.Counters.{Counters}
use Rattle.wh_rows.specs.Tables.{CommandTemplate, Row, Definition}
use Rattle.wh_rows.specs.Deciding.{Line, place, lines, text_of, all_within, are_cuts, same_counts}
use Rattle.wh_possible_runs.specs.declared.thing.Phase.{Phase}
use Rattle.wh_possible_runs.specs.declared.thing.Phase.TheVariants.{Absent, Open, AskedToCancel, Ended, EndTold}
use Rattle.wh_possible_runs.specs.declared.thing.Touch.{Touch}
use Rattle.wh_possible_runs.specs.declared.thing.Touch.TheVariants.{Untouched, Opened, Withdrawn, Canceled}
use Rattle.wh_possible_runs.specs.declared.thing.ThingState.{ThingState}
use Rattle.wh_possible_runs.specs.Situations.{ThingName, is_named}
use Rattle.wh_possible_runs.specs.PossibleRuns.{IsStuckFree}
use Rattle.wh_possible_runs.specs.Configurations.{Config, act_by, begun, starts, steps}

-- the number of a phase
abbrev pub phase_number : Phase → ℕ
phase_number Absent = 0
phase_number Open = 1
phase_number AskedToCancel = 2
phase_number Ended = 3
phase_number EndTold = 4

-- the number of a touch
abbrev pub touch_number : Touch → ℕ
touch_number Untouched = 0
touch_number Opened = 1
touch_number Withdrawn = 2
touch_number Canceled = 3

-- both are equal
abbrev pub same_bool : Bool → Bool → Bool
same_bool one other = cond one other (not other)

-- both are equal
abbrev pub same_thing_state : ThingState → ThingState → Bool
same_thing_state one other =
    nat_eq (phase_number one.phase) (phase_number other.phase)
    && (nat_eq (touch_number one.touch) (touch_number other.touch) && same_bool one.started other.started)

-- both are equal
abbrev pub same_things : List ThingState → List ThingState → Bool
same_things [] [] = true
same_things (one ∷ rest) (other ∷ others) =
    elim (same_thing_state one other) [ true ↦ same_things rest others | false ↦ false ]
same_things _ _ = false

-- both are equal
abbrev pub same_config : Config → Config → Bool
same_config one other =
    elim (nat_eq one.state other.state) [
      | true ↦ (same_bool one.closed other.closed && same_counts one.counts other.counts)
          && ((same_bool one.situation.awaits_version other.situation.awaits_version
          && same_bool one.situation.takes_signals other.situation.takes_signals)
          && (same_bool one.situation.faulty other.situation.faulty
          && same_things one.situation.things other.situation.things))
      | false ↦ false
    ]

-- the list has the configuration
abbrev pub has : List Config → Config → Bool
has [] one = false
has (other ∷ rest) one = elim (same_config one other) [ true ↦ true | false ↦ has rest one ]

-- each passes the test
abbrev pub each : (Config → Bool) → List Config → Bool
each test [] = true
each test (one ∷ rest) = elim (test one) [ true ↦ each test rest | false ↦ false ]

-- none of these is at fault, and each leads only to those that `known` has
abbrev pub is_closed : List ThingName → Counters → List Line → (Config → Bool) → List Config → Bool
is_closed names tops rows known [] = true
is_closed names tops rows known (one ∷ rest) =
    elim one.situation.faulty [
      | true ↦ false
      | false ↦ elim (each known (steps names tops rows one)) [
        | true ↦ is_closed names tops rows known rest
        | false ↦ false
      ]
    ]

-- it does not stand for the name of the run
abbrev pub is_plain : List ℕ → Bool
is_plain text = not (bytes_eq text (codes "@"))

-- the id or the change that it names is plain
abbrev pub is_plain_act : Act → Bool
is_plain_act (Opening thing id) = is_plain id
is_plain_act (Cancelling thing id) = is_plain id
is_plain_act (Asking change low high) = is_plain change
is_plain_act _ = true

-- so are those of all these commands
abbrev pub all_plain_acts : List CommandTemplate → Bool
all_plain_acts [] = true
all_plain_acts (one ∷ rest) = is_plain_act (act_by one) && all_plain_acts rest

-- the rows use the name of the run nowhere
abbrev pub are_plain : List Row → Bool
are_plain [] = true
are_plain (row ∷ rest) = (is_plain (text_of row.job) && all_plain_acts row.gives) && are_plain rest

-- nor do the names
abbrev pub plain_names : List ThingName → Bool
plain_names [] = true
plain_names (name ∷ rest) = is_plain name.1 && plain_names rest

-- these configurations show that no run gets stuck
abbrev pub shows : Definition → List ThingName → Counters → List Config → Bool
shows table names tops all =
    let rows = lines table.rows table.rows in
    ((are_cuts table.bounds tops && all_within (length table.rows) tops rows)
    && (are_plain table.rows && plain_names names))
    && (each (has all) (starts names tops rows (begun names (place table.first table.rows)))
    && is_closed names tops rows (has all) all)

-- one of the names is that of the thing
abbrev pub has_name : List ThingName → Thing → List ℕ → Bool
has_name [] thing id = false
has_name (name ∷ rest) thing id = elim (is_named thing id name) [ true ↦ true | false ↦ has_name rest thing id ]

-- the names with this one
abbrev pub with_name : List ThingName → Thing → List ℕ → List ThingName
with_name names thing id = elim (has_name names thing id) [ true ↦ names | false ↦ (thing, id) ∷ names ]

-- the names with that of what is opened or canceled
abbrev pub with_act : List ThingName → Act → List ThingName
with_act names (Opening thing id) = with_name names thing id
with_act names (Cancelling thing id) = with_name names thing id
with_act names _ = names

-- the names with those of commands
abbrev pub with_acts : List ThingName → List CommandTemplate → List ThingName
with_acts names [] = names
with_acts names (one ∷ rest) = with_acts (with_act names (act_by one)) rest

-- the names with those of the commands of rows
abbrev pub with_rows : List ThingName → List Row → List ThingName
with_rows names [] = names
with_rows names (row ∷ rest) = with_rows (with_acts names row.gives) rest

-- the names of all that a table opens or cancels
abbrev pub names_of : Definition → List ThingName
names_of table = with_rows [] table.rows

-- if a list of configurations shows it, no run gets stuck
abbrev pub ShownIsStuckFree : Type 0
ShownIsStuckFree =
    (table : Definition) (names : List ThingName) (tops : Counters) (all : List Config)
    → shows table names tops all ≡ true → IsStuckFree table names
