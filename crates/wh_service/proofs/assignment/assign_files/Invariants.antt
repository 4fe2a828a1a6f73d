use Rattle.std.proofs.Common.{◌≡◌, ◌<◌, ◌++◌, ℕ, [], map, length}
use Rattle.std.specs.Prelude.{get_or}
use Rattle.wh_service.specs.Assignment.{assigned_as, assigned_to}
use Rattle.wh_service.specs.Assignment.{histories_seen}
use Rattle.wh_service.specs.Readings.{reading}
use Rattle.wh_service.proofs.assignment.assign_files.Given as goal

abbrev pub invariant-loop-file : goal.invariant-loop-file
invariant-loop-file l = record {
  assigned : l.assigned.items ≡ map assigned_as (map reading l.yielded);
  lists : length l.lists ≡ length l.initial.lists;
  histories : (worker : ℕ) → worker < length l.initial.lists →
      get_or (map histories_seen l.lists) worker [] ≡ get_or (map histories_seen l.initial.lists) worker [] ++ assigned_to (length l.initial.lists) worker (map reading l.yielded);
}
