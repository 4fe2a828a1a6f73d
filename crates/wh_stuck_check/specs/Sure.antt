-- Moves that are sure to be a server's: the definition of its moves allows any version after an ask, and any number of
-- cancel requests, where a server records one, and a host gives the version that was recorded, or one that was asked for.
use Rattle.std.specs.Prelude.{Bool, true, false, not, ◌&&◌, List, [], ◌∷◌}
use Rattle.wh_workflow.specs.declared.job.Job.{Job}
use Rattle.wh_workflow.specs.declared.job.Job.TheVariants as jobs
use Rattle.wh_possible_runs.specs.PossibleRuns.{Move, GivesJob, NextTask}

-- the job has a version
abbrev pub is_version : Job → Bool
is_version (jobs.Version _ _) = true
is_version _ = false

-- none of the moves gives a version
abbrev pub gives_no_version : List Move → Bool
gives_no_version [] = true
gives_no_version (GivesJob job ∷ later) = not (is_version job) && gives_no_version later
gives_no_version (NextTask ended ∷ later) = gives_no_version later

-- the job asks the run to cancel
abbrev pub is_cancel_request : Job → Bool
is_cancel_request jobs.CancelRequested = true
is_cancel_request _ = false

-- none of the moves asks the run to cancel
abbrev pub asks_no_cancel : List Move → Bool
asks_no_cancel [] = true
asks_no_cancel (GivesJob job ∷ later) = not (is_cancel_request job) && asks_no_cancel later
asks_no_cancel (NextTask ended ∷ later) = asks_no_cancel later

-- at most one of them does
abbrev pub cancels_once : List Move → Bool
cancels_once [] = true
cancels_once (GivesJob job ∷ later) =
    elim (is_cancel_request job) [ true ↦ asks_no_cancel later | false ↦ cancels_once later ]
cancels_once (NextTask ended ∷ later) = cancels_once later

-- they have no version, and at most one cancel request
abbrev pub are_sure : List Move → Bool
are_sure moves = gives_no_version moves && cancels_once moves
