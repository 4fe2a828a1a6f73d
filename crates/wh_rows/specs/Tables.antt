-- The types of tables with texts as bytes, and how contracts see a table of the program.
use Rattle.std.specs.Prelude.{ℕ, List, map}
use Rattle.std.proofs.Common.{Bor}
use Rattle.wh_rows.specs.declared.row.JobPattern.{JobPattern as JobPatternOf}
use Rattle.wh_rows.specs.declared.row.JobPattern.TheVariants as patterns
use Rattle.wh_rows.specs.declared.row.CommandTemplate.{CommandTemplate as CommandTemplateOf}
use Rattle.wh_rows.specs.declared.row.CommandTemplate.TheVariants as templates
use Rattle.wh_rows.specs.declared.row.Condition.{Condition}
use Rattle.wh_rows.specs.declared.row.RowEffect.{RowEffect}
use Rattle.wh_rows.specs.declared.row.Naming.{Naming as NamingOf}
use Rattle.wh_rows.specs.declared.row.Naming.TheVariants as namings
use Rattle.wh_rows.specs.declared.row.RowOf.{RowOf}
use Rattle.wh_rows.specs.declared.row.DefinitionOf.{DefinitionOf}

-- the jobs that a row is for
abbrev pub JobPattern : Type 0
JobPattern = JobPatternOf (List ℕ)

-- a command that a row gives
abbrev pub CommandTemplate : Type 0
CommandTemplate = CommandTemplateOf (List ℕ)

-- how a run is named
abbrev pub Naming : Type 0
Naming = NamingOf (List ℕ)

-- a row
abbrev pub Row : Type 0
Row = RowOf (List ℕ) (List Condition) (List CommandTemplate) (List RowEffect)

-- a table
abbrev pub Definition : Type 0
Definition = DefinitionOf (List ℕ) (List Row)

module _ {T : Type 0} where
  -- the jobs that a row is for, with texts as bytes
  abbrev pub pattern_by : (T → List ℕ) → JobPatternOf T → JobPattern
  pattern_by bytes patterns.Start = patterns.Start
  pattern_by bytes (patterns.Signal name) = patterns.Signal (bytes name)
  pattern_by bytes patterns.CancelRequested = patterns.CancelRequested
  pattern_by bytes (patterns.Done id) = patterns.Done (bytes id)
  pattern_by bytes (patterns.NotDone id) = patterns.NotDone (bytes id)
  pattern_by bytes (patterns.Fired id) = patterns.Fired (bytes id)
  pattern_by bytes (patterns.ChildStarted id) = patterns.ChildStarted (bytes id)
  pattern_by bytes (patterns.ChildDone id) = patterns.ChildDone (bytes id)
  pattern_by bytes (patterns.ChildCanceled id) = patterns.ChildCanceled (bytes id)
  pattern_by bytes (patterns.ChildNotDone id) = patterns.ChildNotDone (bytes id)
  pattern_by bytes (patterns.Version change number) = patterns.Version (bytes change) number
  pattern_by bytes (patterns.AnyVersion change) = patterns.AnyVersion (bytes change)

  -- a command that a row gives, with texts as bytes
  abbrev pub template_by : (T → List ℕ) → CommandTemplateOf T → CommandTemplate
  template_by bytes (templates.StartActivity id activity source) =
      templates.StartActivity (bytes id) (bytes activity) source
  template_by bytes (templates.CancelActivity id) = templates.CancelActivity (bytes id)
  template_by bytes (templates.StartTimer id seconds) = templates.StartTimer (bytes id) seconds
  template_by bytes (templates.CancelTimer id) = templates.CancelTimer (bytes id)
  template_by bytes (templates.StartChild id workflow source) =
      templates.StartChild (bytes id) (bytes workflow) source
  template_by bytes (templates.CancelChild id) = templates.CancelChild (bytes id)
  template_by bytes (templates.SignalExternal id signal source) =
      templates.SignalExternal (bytes id) (bytes signal) source
  template_by bytes (templates.Ask change least greatest) = templates.Ask (bytes change) least greatest
  template_by bytes (templates.Complete source) = templates.Complete source
  template_by bytes (templates.Fail message) = templates.Fail (bytes message)
  template_by bytes templates.Cancel = templates.Cancel
  template_by bytes (templates.ContinueAsNew workflow source) = templates.ContinueAsNew (bytes workflow) source

module _ {T : Type 0} where
  -- how a run is named, with texts as bytes
  abbrev pub naming_by : (T → List ℕ) → NamingOf T → Naming
  naming_by bytes namings.Nameless = namings.Nameless
  naming_by bytes (namings.ByPayload number prefix other) = namings.ByPayload number (bytes prefix) (bytes other)

module _ {T C G E : Type 0} where
  -- a row, with texts as bytes and its lists as lists
  abbrev pub row_by : (T → List ℕ) → (C → List Condition) → (G → List (CommandTemplateOf T)) → (E → List RowEffect)
      → RowOf T C G E → Row
  row_by bytes conditions gives effects row = record {
    state = bytes row.state;
    job = pattern_by bytes row.job;
    conditions = conditions row.conditions;
    gives = map (template_by bytes) (gives row.gives);
    effects = effects row.effects;
    next = bytes row.next;
  }

module _ {T C G E : Type 0} where
  -- rows, with texts as bytes and their lists as lists
  abbrev pub rows_by : (T → List ℕ) → (C → List Condition) → (G → List (CommandTemplateOf T)) → (E → List RowEffect)
      → List (RowOf T C G E) → List Row
  rows_by bytes conditions gives effects rows = map (row_by bytes conditions gives effects) rows

-- a row of a table of the program, in code
abbrev pub BorrowedRow : Type 0
BorrowedRow = RowOf (Bor (List ℕ)) (Bor (List Condition))
    (Bor (List (CommandTemplateOf (Bor (List ℕ))))) (Bor (List RowEffect))

-- a row of it
abbrev pub row_shown : BorrowedRow → Row
row_shown row = row_by (λ text. text.now) (λ list. list.now) (λ list. list.now) (λ list. list.now) row

-- a table of the program, in code
abbrev pub shown : DefinitionOf (Bor (List ℕ)) (Bor (List BorrowedRow)) → Definition
shown table = record {
  kind = table.kind.now;
  first = table.first.now;
  name = naming_by (λ text. text.now) table.name;
  bounds = table.bounds;
  rows = map row_shown table.rows.now;
}

-- what a reference is in a static that proofs name
abbrev pub Named : Type 0 → Type 0
Named A = record { now : A }

-- a row of such a static
abbrev pub NamedRow : Type 0
NamedRow = RowOf (Named (List ℕ)) (Named (List Condition))
    (Named (List (CommandTemplateOf (Named (List ℕ))))) (Named (List RowEffect))

-- a row of it
abbrev pub row_seen : NamedRow → Row
row_seen row = row_by (λ text. text.now) (λ list. list.now) (λ list. list.now) (λ list. list.now) row

-- a table of the program, as its static declares it
abbrev pub seen : DefinitionOf (Named (List ℕ)) (Named (List NamedRow)) → Definition
seen table = record {
  kind = table.kind.now;
  first = table.first.now;
  name = naming_by (λ text. text.now) table.name;
  bounds = table.bounds;
  rows = map row_seen table.rows.now;
}
