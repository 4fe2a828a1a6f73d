use denote.Exit.{no}
use denote.Param.Send.{param_sync, arg_sync}
use Rattle.wh_payload_metadata.proofs.Crossing.{KeepingCalls-sync}
use Rattle.wh_work.proofs.workers.serve_calls.Goals as goal

pub serve_over-end-requires-sync-C : goal.serve_over-end-requires-sync-C
serve_over-end-requires-sync-C g c κs within =
    param_sync _ _ (arg_sync _ no _ (KeepingCalls-sync _ _ c.type_bounds.sync-C))
