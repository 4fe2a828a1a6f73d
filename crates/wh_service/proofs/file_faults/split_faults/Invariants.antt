use Rattle.std.proofs.Common.{◌≡◌, map}
use Rattle.std.specs.List.{flat_map}
use Rattle.wh_service.specs.Faults.{reported_of}
use Rattle.wh_service.proofs.file_faults.split_faults.Given as goal

-- what was made of the files so far, and what is told of them
abbrev pub invariant-loop-both : goal.invariant-loop-both
invariant-loop-both g l = record {
  made : l.made.items ≡ map (λ one. one.0) l.yielded;
  faults : l.faults.items ≡ flat_map reported_of (map (λ one. one.1) l.yielded);
}
