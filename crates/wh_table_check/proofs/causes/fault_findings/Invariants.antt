use Rattle.std.proofs.Common.{◌≡◌, ◌++◌, drop}
use Rattle.std.specs.Prelude.{option_map}
use Rattle.serde_json.specs.View.{view}
use Rattle.wh_table_text.specs.Numbered.{numbered}
use Rattle.wh_table_check.specs.Causes.{finding_at_place}
use Rattle.wh_table_check.proofs.causes.fault_findings.Given as goal

-- the findings so far and those of the faults that are left are all
abbrev pub invariant-loop-place : goal.invariant-loop-place
invariant-loop-place l =
    let part = finding_at_place (option_map (λ v. view v.now) l.value) l.faults in
    l.found.items ++ numbered part l.place (drop l.place l.faults) ≡ numbered part 0 l.faults
