-- The rules that the rows of a table must not break.
use Rattle.std.specs.Prelude.{ℕ, zero, suc, ◌-◌, ℤ, pos, negsuc, Bool, true, false, not, ◌&&◌, ◌||◌, List, [], ◌∷◌, length, Option, Some, None, bytes_eq, codes, leb, nat_eq, int_lt, if◌then◌else◌}
use Rattle.std.specs.Ordering.{int_eq}
use Rattle.wh_events.specs.Machines.{or_else}
use Rattle.wh_rows.specs.declared.row.JobPattern.TheVariants as patterns
use Rattle.wh_rows.specs.declared.row.Condition.{Condition}
use Rattle.wh_rows.specs.declared.row.Condition.TheVariants as conditions
use Rattle.wh_rows.specs.declared.row.CommandTemplate.TheVariants as templates
use Rattle.wh_rows.specs.declared.row.Counter.{Counter}
use Rattle.wh_rows.specs.declared.row.Counter.TheVariants as counters
use Rattle.wh_rows.specs.declared.row.RowEffect.{RowEffect}
use Rattle.wh_rows.specs.declared.row.RowEffect.TheVariants as effects
use Rattle.wh_rows.specs.declared.row.Counters.{Counters}
use Rattle.wh_rows.specs.Tables.{JobPattern, CommandTemplate, Row, Definition}
use Rattle.wh_rows.specs.Rows.{count_of, closes, some_closes}

-- a rule that a row breaks
pub data Rule : Type 0 where
  -- it gives more than 64 commands
  TooManyCommands : Rule
  -- a command follows one that asks for a version or closes the run
  CommandAfterLast : Rule
  -- two of its commands start an activity, a timer or a child under one id
  OpensTwice : Rule
  -- it asks for an invalid range of versions: the least is below -1, the greatest is below 0, or the greatest is below
  -- the least
  BadRange : Rule
  -- it is for a state named `same`, which can't be: after `=>` that means the state that the row is for
  NoState : Rule
  -- it does not close the run, and no row is for the state after it
  LeadsNowhere : Rule
  -- no row of another state leads to its state, and it is not the state that runs begin in
  NeverReached : Rule
  -- it asks for the version of a change, and in the state after it, some version that may be the answer has no row
  -- without conditions
  AsksInVain : Rule
  -- it raises a counter that has no bound, or compares one with a number above its bound
  Unbounded : Rule
  -- it never applies, since the earlier row of this number fits whenever it does
  HiddenBy : ℕ → Rule

-- what is wrong with a table
pub data TableFault : Type 0 where
  -- no row is for the state that runs begin in
  BeginsNowhere : TableFault
  -- the row of this number, counted from 1, breaks a rule
  InRow : ℕ → Rule → TableFault

-- the command asks for a version
abbrev pub asks : CommandTemplate → Bool
asks (templates.Ask _ _ _) = true
asks _ = false

-- no command but the last one asks for a version or closes the run
abbrev pub ends_well : List CommandTemplate → Bool
ends_well [] = true
ends_well (one ∷ []) = true
ends_well (one ∷ next ∷ rest) = not (asks one) && (not (closes one) && ends_well (next ∷ rest))

-- both commands start something of the same kind with the same id
abbrev pub opens_same : CommandTemplate → CommandTemplate → Bool
opens_same (templates.StartActivity id _ _) (templates.StartActivity other _ _) = bytes_eq id other
opens_same (templates.StartTimer id _) (templates.StartTimer other _) = bytes_eq id other
opens_same (templates.StartChild id _ _) (templates.StartChild other _ _) = bytes_eq id other
opens_same _ _ = false

-- one of the commands starts something of the same kind with the same id
abbrev pub opens_again : CommandTemplate → List CommandTemplate → Bool
opens_again one [] = false
opens_again one (other ∷ rest) = opens_same one other || opens_again one rest

-- no two of the commands start something of the same kind with the same id
abbrev pub opens_once : List CommandTemplate → Bool
opens_once [] = true
opens_once (one ∷ rest) = not (opens_again one rest) && opens_once rest

-- the range of versions is valid: the least is at least -1, the greatest is at least 0, and not below the least
abbrev pub is_range : ℤ → ℤ → Bool
is_range least greatest =
    not (int_lt greatest least || (int_lt least (negsuc 0) || int_lt greatest (pos 0)))

-- each range of versions that the commands ask for is valid
abbrev pub are_ranges : List CommandTemplate → Bool
are_ranges [] = true
are_ranges (templates.Ask _ least greatest ∷ rest) = is_range least greatest && are_ranges rest
are_ranges (one ∷ rest) = are_ranges rest

-- a row is for the state
abbrev pub has_state : List ℕ → List Row → Bool
has_state name [] = false
has_state name (row ∷ rows) = bytes_eq row.state name || has_state name rows

-- the row closes the run, stays, or leads to a state that rows are for
abbrev pub leads_on : List Row → Row → Bool
leads_on rows row =
    some_closes row.gives
    || (bytes_eq row.next (codes "same") || (not (bytes_eq row.next (codes "any")) && has_state row.next rows))

-- a row of another state, which does not close the run, leads to the state
abbrev pub is_led_to : List ℕ → List Row → Bool
is_led_to name [] = false
is_led_to name (row ∷ rows) =
    (bytes_eq row.next name && (not (bytes_eq row.state name) && not (some_closes row.gives))) || is_led_to name rows

-- the state is `any`, or that in which a run begins, or a row of another state leads to it (whether that other state is
-- reached is not checked)
abbrev pub is_reached : List ℕ → List ℕ → List Row → Bool
is_reached first name rows = bytes_eq name (codes "any") || (bytes_eq name first || is_led_to name rows)

-- each job that the second pattern matches, the first one matches too
abbrev pub covers : JobPattern → JobPattern → Bool
covers patterns.Start patterns.Start = true
covers (patterns.Signal name) (patterns.Signal other) = bytes_eq name other
covers patterns.CancelRequested patterns.CancelRequested = true
covers (patterns.Done id) (patterns.Done other) = bytes_eq id other
covers (patterns.NotDone id) (patterns.NotDone other) = bytes_eq id other
covers (patterns.Fired id) (patterns.Fired other) = bytes_eq id other
covers (patterns.ChildStarted id) (patterns.ChildStarted other) = bytes_eq id other
covers (patterns.ChildDone id) (patterns.ChildDone other) = bytes_eq id other
covers (patterns.ChildCanceled id) (patterns.ChildCanceled other) = bytes_eq id other
covers (patterns.ChildNotDone id) (patterns.ChildNotDone other) = bytes_eq id other
covers (patterns.ChildNotDone id) (patterns.ChildCanceled other) = bytes_eq id other
covers (patterns.Version change number) (patterns.Version other version) =
    bytes_eq change other && int_eq number version
covers (patterns.AnyVersion change) (patterns.AnyVersion other) = bytes_eq change other
covers (patterns.AnyVersion change) (patterns.Version other _) = bytes_eq change other
covers _ _ = false

-- there is no condition
abbrev pub is_unconditional : List Condition → Bool
is_unconditional [] = true
is_unconditional (one ∷ rest) = false

-- a row for the state, without conditions, covers the pattern
abbrev pub hears : JobPattern → List ℕ → List Row → Bool
hears wanted name [] = false
hears wanted name (row ∷ rows) =
    ((bytes_eq row.state (codes "any") || bytes_eq row.state name)
    && (is_unconditional row.conditions && covers row.job wanted))
    || hears wanted name rows

-- the place of a version, counted from that of -1
abbrev pub version_place : ℤ → ℕ
version_place (pos number) = suc number
version_place (negsuc _) = 0

-- the version at a place
abbrev pub version_at : ℕ → ℤ
version_at zero = negsuc 0
version_at (suc number) = pos number

-- in the state, rows without conditions cover so many versions of the change, from the one at this place on
abbrev pub hears_each : List ℕ → ℕ → ℕ → List ℕ → List Row → Bool
hears_each change zero place name rows = true
hears_each change (suc more) place name rows =
    hears (patterns.Version change (version_at place)) name rows && hears_each change more (suc place) name rows

-- in the state, rows without conditions cover each version of the change from the least to the greatest
abbrev pub hears_versions : List ℕ → ℤ → ℤ → List ℕ → List Row → Bool
hears_versions change least greatest name rows =
    hears (patterns.AnyVersion change) name rows
    || hears_each change (suc (version_place greatest) - version_place least) (version_place least) name rows

-- the state after the row
abbrev pub state_after : Row → List ℕ
state_after row = if bytes_eq row.next (codes "same") then row.state else row.next

-- in the state, rows without conditions cover each version that the commands ask for
abbrev pub are_heard : List ℕ → List Row → List CommandTemplate → Bool
are_heard name rows [] = true
are_heard name rows (templates.Ask change least greatest ∷ rest) =
    hears_versions change least greatest name rows && are_heard name rows rest
are_heard name rows (one ∷ rest) = are_heard name rows rest

-- no condition compares a counter with a number above its bound
abbrev pub condition_bounded : Counters → Condition → Bool
condition_bounded bounds (conditions.Below counter number) = leb number (count_of counter bounds)
condition_bounded bounds (conditions.AtLeast counter number) = leb number (count_of counter bounds)

abbrev pub conditions_bounded : Counters → List Condition → Bool
conditions_bounded bounds [] = true
conditions_bounded bounds (one ∷ rest) = condition_bounded bounds one && conditions_bounded bounds rest

-- no effect raises a counter without a bound
abbrev pub effect_bounded : Counters → RowEffect → Bool
effect_bounded bounds (effects.Up counter) = leb 1 (count_of counter bounds)
effect_bounded bounds _ = true

abbrev pub effects_bounded : Counters → List RowEffect → Bool
effects_bounded bounds [] = true
effects_bounded bounds (one ∷ rest) = effect_bounded bounds one && effects_bounded bounds rest

-- the place of a counter among the four
abbrev pub place_of : Counter → ℕ
place_of counters.A = 0
place_of counters.B = 1
place_of counters.C = 2
place_of counters.D = 3

-- the second condition holds whenever the first does
abbrev pub implies : Condition → Condition → Bool
implies (conditions.Below counter number) (conditions.Below other most) =
    nat_eq (place_of counter) (place_of other) && leb number most
implies (conditions.AtLeast counter number) (conditions.AtLeast other least) =
    nat_eq (place_of counter) (place_of other) && leb least number
implies _ _ = false

-- one of the given conditions implies this one
abbrev pub follows : List Condition → Condition → Bool
follows [] wanted = false
follows (one ∷ rest) wanted = implies one wanted || follows rest wanted

-- each of the others is implied by one of the given conditions
abbrev pub all_follow : List Condition → List Condition → Bool
all_follow given [] = true
all_follow given (wanted ∷ rest) = follows given wanted && all_follow given rest

-- the earlier row fits whenever the later one does
abbrev pub hides : Row → Row → Bool
hides earlier later =
    elim (bytes_eq earlier.state (codes "any") || bytes_eq earlier.state later.state) [
      | true ↦ covers earlier.job later.job && all_follow later.conditions earlier.conditions
      | false ↦ false
    ]

-- the first of so many rows that hides the row; the first of them has this number
abbrev pub hidden_from : ℕ → ℕ → List Row → Row → Option Rule
hidden_from number zero rows row = None
hidden_from number (suc more) [] row = None
hidden_from number (suc more) (earlier ∷ rest) row =
    elim (hides earlier row) [ true ↦ Some (HiddenBy number) | false ↦ hidden_from (suc number) more rest row ]

-- the rule if the test fails, and else the later result
abbrev pub unless : Bool → Rule → Option Rule → Option Rule
unless true rule later = later
unless false rule later = Some rule

-- the first rule that a row breaks, if so many rows of the table come before it
abbrev pub row_rule : Definition → ℕ → Row → Option Rule
row_rule table before row =
    unless (leb (length row.gives) 64) TooManyCommands
    (unless (ends_well row.gives) CommandAfterLast
    (unless (opens_once row.gives) OpensTwice
    (unless (are_ranges row.gives) BadRange
    (unless (not (bytes_eq row.state (codes "same"))) NoState
    (unless (leads_on table.rows row) LeadsNowhere
    (unless (is_reached table.first row.state table.rows) NeverReached
    (unless (are_heard (state_after row) table.rows row.gives) AsksInVain
    (unless (conditions_bounded table.bounds row.conditions && effects_bounded table.bounds row.effects) Unbounded
    (hidden_from 1 before table.rows row)))))))))

-- the fault of a row by the rule that it breaks
abbrev pub in_row : ℕ → Option Rule → Option TableFault
in_row number None = None
in_row number (Some rule) = Some (InRow number rule)

-- the first fault of these rows of the table, if so many come before them
abbrev pub rows_fault : Definition → ℕ → List Row → Option TableFault
rows_fault table before [] = None
rows_fault table before (row ∷ rest) =
    or_else (in_row (suc before) (row_rule table before row)) (rows_fault table (suc before) rest)

-- the first fault of a table
abbrev pub table_fault : Definition → Option TableFault
table_fault table = if has_state table.first table.rows then rows_fault table 0 table.rows else Some BeginsNowhere
