-- Each command of one kind is followed by one of another kind, before the run closes.
use Rattle.std.specs.Prelude.{Bool, true, false, not, ◌&&◌, ◌||◌, List, [], ◌∷◌, Option, Some, None, leb, nat_eq, IsTrue, if◌then◌else◌}
use Rattle.wh_workflow.specs.declared.job.Job.{Job}
use Rattle.wh_workflow.specs.declared.command.Command.{Command}
use Rattle.wh_workflow.specs.declared.command.Command.TheVariants as commands
use Rattle.wh_rows.specs.declared.row.CommandTemplate.TheVariants as templates
use Rattle.wh_rows.specs.declared.row.Condition.TheVariants as conditions
use Rattle.wh_rows.specs.declared.row.Counter.{Counter}
use Rattle.wh_rows.specs.declared.row.RowEffect.{RowEffect}
use Rattle.wh_rows.specs.declared.row.RowEffect.TheVariants as effects
use Rattle.wh_rows.specs.Tables.{CommandTemplate, Row, Definition}
use Rattle.wh_rows.specs.Rows.{count_of, some_closes, initial}
use Rattle.wh_rows.specs.Rules.{place_of, follows}
use Rattle.wh_rows.specs.Properties.{CommandKind, kind_of, kind_by, same_kind, given_to_all}

-- how a command closes the run
pub data Closing : Type 0 where
  Completes : Closing
  Fails : Closing
  IsCanceled : Closing
  Continues : Closing

-- how the command closes the run, if it does
abbrev pub closing_of : Command → Option Closing
closing_of (commands.Complete _) = Some Completes
closing_of (commands.Fail _) = Some Fails
closing_of commands.Cancel = Some IsCanceled
closing_of (commands.ContinueAsNew _ _) = Some Continues
closing_of _ = None

-- how the command that a row gives closes the run, if it does
abbrev pub closing_by : CommandTemplate → Option Closing
closing_by (templates.Complete _) = Some Completes
closing_by (templates.Fail _) = Some Fails
closing_by templates.Cancel = Some IsCanceled
closing_by (templates.ContinueAsNew _ _) = Some Continues
closing_by _ = None

-- every way of closing
abbrev pub any_close : Closing → Bool
any_close closing = true

-- every way of closing but completing
abbrev pub unsuccessful : Closing → Bool
unsuccessful Completes = false
unsuccessful _ = true

-- the command closes the run in one of these ways
abbrev pub closes_so : (Closing → Bool) → Option Closing → Bool
closes_so ways None = false
closes_so ways (Some closing) = ways closing

-- Each command of the first kind is followed by one of the second, before another of the first and before a command
-- that closes the run in one of these ways. `owed` says that a command of the first kind came last before the list.
abbrev pub is_followed : CommandKind → CommandKind → (Closing → Bool) → Bool → List Command → Bool
is_followed first second ways owed [] = true
is_followed first second ways owed (command ∷ rest) =
    if same_kind first (kind_of command) then not owed && is_followed first second ways true rest
    else (if same_kind second (kind_of command) then is_followed first second ways false rest
    else (not (owed && closes_so ways (closing_of command)) && is_followed first second ways owed rest))

-- each command of the first kind that a run gives is followed by one of the second, before another of the first and
-- before the run closes in one of these ways, whatever jobs come
abbrev pub EachFollowed : Definition → CommandKind → CommandKind → (Closing → Bool) → Type 0
EachFollowed table first second ways =
    (jobs : List Job) → IsTrue (is_followed first second ways false (given_to_all table (initial table) jobs))

-- whether a command of the second kind is still owed after the commands of a row, if it is so before them; `None` if
-- the commands break the promise
abbrev pub owed_behind : CommandKind → CommandKind → (Closing → Bool) → Bool → List CommandTemplate → Option Bool
owed_behind first second ways owed [] = Some owed
owed_behind first second ways owed (one ∷ rest) =
    elim (same_kind first (kind_by one)) [
      | true ↦ elim owed [ true ↦ None | false ↦ owed_behind first second ways true rest ]
      | false ↦ elim (same_kind second (kind_by one)) [
        | true ↦ owed_behind first second ways false rest
        | false ↦ elim (owed && closes_so ways (closing_by one)) [
          | true ↦ None
          | false ↦ owed_behind first second ways owed rest
        ]
      ]
    ]

-- whether a counter is above 0 after an effect, by whether it is before
abbrev pub flag_by : Counter → RowEffect → Bool → Bool
flag_by counter (effects.Up other) flag = nat_eq (place_of other) (place_of counter) || flag
flag_by counter (effects.Zero other) flag = not (nat_eq (place_of other) (place_of counter)) && flag
flag_by counter effects.Keep flag = flag

-- the same after all effects
abbrev pub flag_after : Counter → List RowEffect → Bool → Bool
flag_after counter [] flag = flag
flag_after counter (one ∷ rest) flag = flag_after counter rest (flag_by counter one flag)

-- both flags are equal
abbrev pub same_flag : Bool → Bool → Bool
same_flag true other = other
same_flag false other = not other

-- the commands keep the promise, and the run ends or the flag says whether one is still owed
abbrev pub keeps_flag : Bool → Bool → Option Bool → Bool
keeps_flag ends flag None = false
keeps_flag ends flag (Some owed) = ends || same_flag flag owed

-- if a command is owed as given before the row, its commands keep the promise, and its counter is above 0 after it if
-- one is still owed
abbrev pub row_keeps : CommandKind → CommandKind → (Closing → Bool) → Counter → Row → Bool → Bool
row_keeps first second ways counter row owed =
    keeps_flag (some_closes row.gives) (flag_after counter row.effects owed)
    (owed_behind first second ways owed row.gives)

-- it does so for both values of `owed` that its conditions allow
abbrev pub row_follows : CommandKind → CommandKind → (Closing → Bool) → Counter → Row → Bool
row_follows first second ways counter row =
    (follows row.conditions (conditions.AtLeast counter 1) || row_keeps first second ways counter row false)
    && (follows row.conditions (conditions.Below counter 1) || row_keeps first second ways counter row true)

-- each row does so
abbrev pub rows_follow : CommandKind → CommandKind → (Closing → Bool) → Counter → List Row → Bool
rows_follow first second ways counter [] = true
rows_follow first second ways counter (row ∷ rest) =
    row_follows first second ways counter row && rows_follow first second ways counter rest

-- the counter is above 0 while a command of the second kind is owed
abbrev pub is_tracked : Definition → CommandKind → CommandKind → (Closing → Bool) → Counter → Bool
is_tracked table first second ways counter =
    leb 1 (count_of counter table.bounds) && rows_follow first second ways counter table.rows
