use Rattle.std.proofs.Common.{◌∙◌, ap, is_some, map, refl, replicate}
use Rattle.wh_crew.specs.Counts.{tallies_of}
use Rattle.wh_crew.specs.Crews.{normal_workers, sources_of}
use denote.Param.Send.{param_send, arg_send, param_sync}
use denote.Param.{param}
use denote.Exit.{no}
use denote.Ref.{NamedLft}
use mir.Syntax.{named}
use Rattle.wh_crew.specs.contracts.bridge_connection.BridgeConnectionConnection.TheImpl as connection
use Rattle.wh_crew.proofs.Sending.{connection_sync, source_send}
use Rattle.wh_notes.proofs.Joining.{all_joined}
use Rattle.wh_notes.specs.Notes.{all_counts}
use Rattle.wh_crew.proofs.serving.serve_with.Goals as goal

-- the setups are those of the crew, and the end is what the host left of them
pub returns-clause-served : goal.returns-clause-served
returns-clause-served g c =
    let options = c.args.options.now in
    let normal = normal_workers c.args.workers (is_some options.sticky) in
    let many = c.args.crew.ok.0 in
    record {
      setups = c.in_ok-setups.setups;
      left = c.in_ok-end.end;
      members = c.in_ok-setups.ensures.members;
      sources = c.in_ok-setups.ensures.sources ∙ ap (sources_of options.names normal c.args.workers) many;
      turns = c.in_ok-setups.ensures.turns ∙ ap (λ n. replicate n 18446744073709551615) many;
      ran = c.in_ok-end.ensures.end;
      totals = refl;
      tally = c.total_tally.ensures ∙ ap (λ left. tallies_of (map (λ worker. worker.source.tally) left)) c.as_slice.ensures.value;
      counts =
          c.total_counts.ensures
          ∙ ap (all_counts (λ worker. worker.source.notes)) c.as_slice-2.ensures.value
          ∙ all_joined (λ worker. worker.source.notes) c.in_ok-end.end.workers.items;
    }

-- a live source may go to another thread
pub run_host_answering-requires-send-S : goal.run_host_answering-requires-send-S
run_host_answering-requires-send-S g c κs within =
    let R = param 1 g.row.R in
    let C = param 2 g.row.C in
    let ℓ : NamedLft = record { mir = named 14; lft = κs.1.1.1.1.1.1.1.1.1.1.1.1.1.1.0 } in
    let ℓ' : NamedLft = record { mir = named 15; lft = κs.1.1.1.1.1.1.1.1.1.1.1.1.1.1.1.0 } in
    let N = param 7 g.row.N in
    let ghosts = connection.ghosts R C N g.R.Wait connection.no_dict g.R.Clock connection.no_dict g.R.Eprint
    connection.no_dict g.C.Caller connection.no_dict g.N.SourceObserver connection.no_dict in
    let shared = connection_sync ℓ' R C N (param_sync 1 _ c.type_bounds.sync-R) (param_sync 2 _ c.type_bounds.sync-C)
    (param_sync 7 _ c.type_bounds.sync-N) in
    param_send 2 _ (arg_send _ no _ (source_send ℓ _ (param 6 g.row.Q) ghosts g.Q.QueryHandler shared
    (param_sync 6 _ c.type_bounds.sync-Q)))
