use Rattle.std.proofs.Common.{◌≡◌, take}
use Rattle.std.specs.List.{fold}
use Rattle.wh_notes.specs.Counts.{counts_together, no_source_counts}
use Rattle.wh_notes.specs.Notes.{counts_of}
use Rattle.wh_crew.proofs.crews.total_counts.Given as goal

abbrev pub invariant-loop-worker : goal.invariant-loop-worker
invariant-loop-worker g l =
    l.all ≡ fold (λ all worker. counts_together all (counts_of worker.source.notes)) no_source_counts (take l.worker-index l.left)
