use Rattle.std.proofs.Common.{◌≡◌, ◌++◌, map, take}
use Rattle.wh_table_trial.specs.Entries.{entry_of}
use Rattle.wh_table_trial.proofs.entries.add_parts.Given as goal

-- the jobs so far
abbrev pub invariant-loop-part : goal.invariant-loop-part
invariant-loop-part l =
    l.entries.items ≡ l.initial.entries.items ++ map (entry_of l.line) (map (λ part. part.now) (take l.part-index l.parts))
