use Rattle.std.proofs.Common.{◌≡◌, drop}
use Rattle.std.specs.Prelude.{option_map}
use Rattle.serde_json.specs.View.{view}
use Rattle.wh_table_check.specs.Causes.{is_explained}
use Rattle.wh_table_check.proofs.causes.is_explained.Given as goal

-- no fault passed so far explains it
abbrev pub invariant-loop-fault : goal.invariant-loop-fault
invariant-loop-fault l =
    is_explained (option_map (λ v. view v.now) l.value) l.state (drop l.fault-index l.earlier)
    ≡ is_explained (option_map (λ v. view v.now) l.value) l.state l.earlier
