-- What an author may prove of a table by a check of its rows.
use Rattle.std.specs.Prelude.{ℕ, ◌+◌, ◌≤◌, Bool, true, false, not, ◌&&◌, ◌||◌, List, [], ◌∷◌, ◌++◌, bytes_eq, nat_eq, cond}
use Rattle.wh_workflow.specs.declared.job.Job.{Job}
use Rattle.wh_workflow.specs.declared.command.Command.{Command}
use Rattle.wh_workflow.specs.declared.command.Command.TheVariants as commands
use Rattle.wh_rows.specs.declared.row.CommandTemplate.TheVariants as templates
use Rattle.wh_rows.specs.declared.row.Condition.TheVariants as conditions
use Rattle.wh_rows.specs.declared.row.Counter.{Counter}
use Rattle.wh_rows.specs.declared.row.RowEffect.{RowEffect}
use Rattle.wh_rows.specs.declared.row.RowEffect.TheVariants as effects
use Rattle.wh_rows.specs.declared.row.RowsState.{RowsState}
use Rattle.wh_rows.specs.Tables.{CommandTemplate, Row, Definition}
use Rattle.wh_rows.specs.Rows.{count_of, gives, after, initial}
use Rattle.wh_rows.specs.Rules.{place_of, follows}

-- the kinds of commands that promises distinguish
pub data CommandKind : Type 0 where
  -- those that start an activity of this type
  StartsActivity : List ℕ → CommandKind
  -- those that start a child of this type
  StartsChild : List ℕ → CommandKind
  -- those that send this signal
  SendsSignal : List ℕ → CommandKind
  -- each other command
  Other : CommandKind

-- the kind of a command
abbrev pub kind_of : Command → CommandKind
kind_of (commands.StartActivity _ activity _) = StartsActivity activity
kind_of (commands.StartChild _ workflow _) = StartsChild workflow
kind_of (commands.SignalExternal _ signal _) = SendsSignal signal
kind_of _ = Other

-- the kind of the command that a row gives
abbrev pub kind_by : CommandTemplate → CommandKind
kind_by (templates.StartActivity _ activity _) = StartsActivity activity
kind_by (templates.StartChild _ workflow _) = StartsChild workflow
kind_by (templates.SignalExternal _ signal _) = SendsSignal signal
kind_by _ = Other

-- both kinds are the same
abbrev pub same_kind : CommandKind → CommandKind → Bool
same_kind (StartsActivity activity) (StartsActivity other) = bytes_eq activity other
same_kind (StartsChild workflow) (StartsChild other) = bytes_eq workflow other
same_kind (SendsSignal signal) (SendsSignal other) = bytes_eq signal other
same_kind Other Other = true
same_kind _ _ = false

-- how many of the commands are of the kind
abbrev pub count_kind : CommandKind → List Command → ℕ
count_kind kind [] = 0
count_kind kind (command ∷ rest) = cond (same_kind kind (kind_of command)) 1 0 + count_kind kind rest

-- all commands that a run gives to these jobs, one after another
abbrev pub given_to_all : Definition → RowsState → List Job → List Command
given_to_all table state [] = []
given_to_all table state (job ∷ later) = gives table state job ++ given_to_all table (after table state job) later

-- a run gives at most so many commands of the kind, whatever jobs come
abbrev pub AtMost : Definition → CommandKind → ℕ → Type 0
AtMost table kind most = (jobs : List Job) → count_kind kind (given_to_all table (initial table) jobs) ≤ most

-- how many commands of the kind a row gives
abbrev pub count_templates : CommandKind → List CommandTemplate → ℕ
count_templates kind [] = 0
count_templates kind (one ∷ rest) = cond (same_kind kind (kind_by one)) 1 0 + count_templates kind rest

-- one of the effects raises the counter
abbrev pub raises : Counter → List RowEffect → Bool
raises counter [] = false
raises counter (effects.Up other ∷ rest) = nat_eq (place_of other) (place_of counter) || raises counter rest
raises counter (_ ∷ rest) = raises counter rest

-- one of the effects sets the counter to 0
abbrev pub resets : Counter → List RowEffect → Bool
resets counter [] = false
resets counter (effects.Zero other ∷ rest) = nat_eq (place_of other) (place_of counter) || resets counter rest
resets counter (_ ∷ rest) = resets counter rest

-- the row does not set the counter to 0. It gives no command of the kind; or it gives one, raises the counter, and fits
-- only if the counter is below its bound
abbrev pub row_counts : CommandKind → Counter → ℕ → Row → Bool
row_counts kind counter bound row =
    not (resets counter row.effects)
    && (nat_eq (count_templates kind row.gives) 0
    || (nat_eq (count_templates kind row.gives) 1
    && (raises counter row.effects && follows row.conditions (conditions.Below counter bound))))

-- each row does so
abbrev pub rows_count : CommandKind → Counter → ℕ → List Row → Bool
rows_count kind counter bound [] = true
rows_count kind counter bound (row ∷ rest) = row_counts kind counter bound row && rows_count kind counter bound rest

-- the counter counts at least the commands of the kind
abbrev pub is_counted : Definition → CommandKind → Counter → Bool
is_counted table kind counter = rows_count kind counter (count_of counter table.bounds) table.rows
