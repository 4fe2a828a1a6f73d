-- What a check says of a table that gets stuck, or of which that is not decided.
use Rattle.std.specs.Prelude.{ℕ, List, [], ◌∷◌, codes}
use Rattle.wh_table_check.specs.declared.finding.TableFinding.{TableFinding}
use Rattle.wh_table_check.specs.declared.stuck.StuckFinding.{StuckFinding}
use Rattle.wh_table_check.specs.declared.stuck.StuckFinding.TheVariants as found
use Rattle.wh_table_check.specs.Findings.{finding_about}

-- the fault of a table that gets stuck
abbrev pub stuck_faults : StuckFinding → List TableFinding
stuck_faults (found.Stuck words) = finding_about (codes "a run ") words ∷ []
stuck_faults _ = []

-- the warning for a table of which it is not decided whether it does, for this reason
abbrev pub doubt_warning : List ℕ → TableFinding
doubt_warning reason = finding_about (codes "it is not decided whether a run gets stuck: ") reason

-- the same if it is not decided
abbrev pub stuck_doubts : StuckFinding → List TableFinding
stuck_doubts (found.NotDecided reason) = doubt_warning reason ∷ []
stuck_doubts _ = []
