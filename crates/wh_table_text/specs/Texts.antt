-- The messages for faults of tables.
use Rattle.std.specs.Prelude.{ℕ, List, ◌++◌, codes}
use Rattle.std.specs.Fmt.{decimal}
use Rattle.wh_row_rules.specs.declared.fault.BrokenRule.{BrokenRule}
use Rattle.wh_row_rules.specs.declared.fault.BrokenRule.TheVariants as broken
use Rattle.wh_table_text.specs.declared.fault.RowFault.{RowFault}
use Rattle.wh_table_text.specs.declared.fault.RowFault.TheVariants as rules
use Rattle.wh_table_text.specs.declared.fault.TableFault.{TableFault}
use Rattle.wh_table_text.specs.declared.fault.TableFault.TheVariants as faults

-- the message for a row that breaks a rule of tables
abbrev pub rule_text : BrokenRule → List ℕ
rule_text broken.TooManyCommands = codes "it gives more than 64 commands"
rule_text broken.CommandAfterLast = codes "a command follows one that asks or closes the run"
rule_text broken.OpensTwice = codes "it starts two things of a kind under one id"
rule_text broken.BadRange = codes "it asks for a range of versions that is none"
rule_text broken.NoState = codes "no state has the name same"
rule_text broken.LeadsNowhere = codes "no row is for the state that it leads to"
rule_text broken.NeverReached = codes "no row of another state leads to its state"
rule_text broken.AsksInVain = codes "it asks for a version that no row hears in the state after it"
rule_text broken.Unbounded = codes "it raises a counter without a bound, or asks for more than the bound"
rule_text (broken.HiddenBy number) =
    codes "it never counts, since row " ++ (decimal number ++ codes " fits wherever it does")

-- the message for the fault of a row
abbrev pub row_text : RowFault → List ℕ
row_text rules.NotARow = codes "a row is a list of at most six members"
row_text rules.NotText = codes "a member is no text, and no list of texts where one may be"
row_text rules.UnknownJob = codes "no job is written so"
row_text rules.TooManyPhrases = codes "it has more than 16 conditions or marks"
row_text rules.UnknownCondition = codes "no condition is written so, or there is no such counter"
row_text rules.UnknownCommand = codes "no command begins with this word"
row_text rules.BadCommand = codes "a command lacks a word, has one too much, or a number is out of range"
row_text rules.UnknownMark = codes "no mark is written so, or there is no such counter"
row_text (rules.Breaks rule) = rule_text rule

-- the message for a text that is not a table
abbrev pub fault_text : TableFault → List ℕ
fault_text faults.NoTable = codes "there is no table"
fault_text faults.NotJson = codes "the table is no JSON"
fault_text faults.UnknownVersion = codes "the version of the table is not 1"
fault_text faults.NoRows = codes "the table has no list of rows"
fault_text faults.TooManyRows = codes "the table has more than 200 rows"
fault_text faults.BadCounters = codes "counters are at most four texts, each a name and a bound"
fault_text faults.BadName = codes "the name is not written so: payload NUMBER PREFIX OTHER"
fault_text (faults.InRow row fault) = codes "row " ++ (decimal row ++ (codes ": " ++ row_text fault))
fault_text faults.BeginsNowhere = codes "the table has no row"
