-- What a host of a server's tasks leaves.
use Rattle.std.specs.Prelude.{◌≡◌, ◌≤◌, ◌-◌, ◌^◌, ℕ, List, length, map, replicate, is_some, sum_by, Vec}
use Rattle.std.specs.List.{AllZip, flat_map}
use Rattle.std.specs.declared.alloc.Global.{Global}
use Rattle.serde_json.specs.Data.{Data}
use Rattle.wh_client.specs.declared.options.LiveOptions.{LiveOptions}
use Rattle.wh_slots.specs.declared.sizes.Config.{Config}
use Rattle.wh_live.specs.Deliveries.{ComesFrom, Delivers, Fetches, LiveView}
use Rattle.wh_notes.specs.Notes.{counts_of}
use Rattle.wh_poll.specs.Ends.{IsHostEnd}
use Rattle.wh_poll.specs.Turns.{Hears}
use Rattle.wh_poll.specs.declared.hosting.HostEnd.{HostEnd}
use Rattle.wh_poll.specs.declared.setup.WorkerSetup.{WorkerSetup}
use Rattle.wh_tasks.specs.Source.{Answerable}
use Rattle.wh_workflow.specs.Law.{Program}
use Rattle.wh_crew.specs.Counts.{tallies_of}
use Rattle.wh_crew.specs.Crews.{normal_workers, sources_of}
use Rattle.wh_crew.specs.declared.serving.LiveEnd.{LiveEnd}

-- a request may get any result, since there is a bridge in between
abbrev pub gives_any : List ℕ → Data → Data → Type 0
gives_any method params value = Unit {0}

-- a host of these sizes ran a worker for each member of the crew, each over a source of its own with the names of the
-- options; the totals are those of the host, the tally is how often the sources failed together, and what the sources
-- have done is what is counted of all their notes
pub record HasServed {P A O : Type 0} (program : Program P) (may : A → Answerable) (hears : Hears O) (config : Config)
    (options : LiveOptions) (workers : ℕ) (crew : List (A × O)) (end : LiveEnd) : Type 0 where
  pub setups : Vec (WorkerSetup LiveView A O) Global
  pub left : HostEnd LiveView A O
  pub members : map (λ setup. (setup.handler, setup.observer)) setups.items ≡ crew
  pub sources : map (λ setup. setup.source) setups.items
      ≡ sources_of options.names (normal_workers workers (is_some options.sticky)) workers (length crew)
  pub turns : map (λ setup. setup.turns) setups.items ≡ replicate (length crew) (2 ^ 64 - 1)
  pub ran : IsHostEnd program (λ source. Fetches gives_any source.names source.role)
      (λ source. Delivers gives_any source.names source.role) (λ source. source.answers)
      (λ source. source.tally.failures) ComesFrom may hears config setups left
  pub totals : end.totals ≡ left.totals
  pub tally : end.tally ≡ tallies_of (map (λ worker. worker.source.tally) left.workers.items)
  pub counts : end.sources ≡ counts_of (flat_map (λ worker. worker.source.notes) left.workers.items)

-- what became of the sources of a host of these sizes: each comes from one that had not polled yet, with the role of
-- its place and the names of the options; together they were sent no more answers than tasks were taken; the tally is
-- how often they failed together; and what they have done is what is counted of all their notes
pub record AreServed (config : Config) (options : LiveOptions) (workers : ℕ) (end : LiveEnd) : Type 0 where
  pub sources : List LiveView
  pub from : AllZip (λ first later. ComesFrom later first)
      (sources_of options.names (normal_workers workers (is_some options.sticky)) workers config.seats) sources
  pub answers : sum_by (λ source. length source.answers) sources ≤ end.totals.taken
  pub tally : end.tally ≡ tallies_of (map (λ source. source.tally) sources)
  pub counts : end.sources ≡ counts_of (flat_map (λ source. source.notes) sources)
