-- The faults of a table that was read.
use Rattle.std.specs.Prelude.{[]}
use Rattle.wh_rows.specs.Tables.{Definition}
use Rattle.wh_rows.specs.Rules.{Rule, TooManyCommands, CommandAfterLast, OpensTwice, BadRange, NoState, LeadsNowhere, NeverReached, AsksInVain, Unbounded, HiddenBy, TableFault, BeginsNowhere, InRow}
use Rattle.wh_row_rules.specs.declared.fault.BrokenRule.{BrokenRule}
use Rattle.wh_row_rules.specs.declared.fault.BrokenRule.TheVariants as rules
use Rattle.wh_row_rules.specs.declared.fault.RowsFault.{RowsFault}
use Rattle.wh_row_rules.specs.declared.fault.RowsFault.TheVariants as faults
use Rattle.wh_row_rules.specs.declared.owned.OwnedTable.{OwnedTable}

-- a rule, as the program names it
abbrev pub broken_rule : Rule → BrokenRule
broken_rule TooManyCommands = rules.TooManyCommands
broken_rule CommandAfterLast = rules.CommandAfterLast
broken_rule OpensTwice = rules.OpensTwice
broken_rule BadRange = rules.BadRange
broken_rule NoState = rules.NoState
broken_rule LeadsNowhere = rules.LeadsNowhere
broken_rule NeverReached = rules.NeverReached
broken_rule AsksInVain = rules.AsksInVain
broken_rule Unbounded = rules.Unbounded
broken_rule (HiddenBy number) = rules.HiddenBy number

-- a fault of a table, as the program names it
abbrev pub broken : TableFault → RowsFault
broken BeginsNowhere = faults.BeginsNowhere
broken (InRow number rule) = faults.InRow number (broken_rule rule)

-- the table as one of a program, with an empty workflow type
abbrev pub definition : OwnedTable → Definition
definition table = record {
  kind = [];
  first = table.first;
  name = table.name;
  bounds = table.bounds;
  rows = table.rows;
}
