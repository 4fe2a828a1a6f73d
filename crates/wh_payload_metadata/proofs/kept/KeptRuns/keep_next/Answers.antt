use Rattle.wh_payload_metadata.proofs.Lookups.{others_stay_after}
use Rattle.wh_payload_metadata.proofs.kept.KeptRuns.keep_next.Goals as goal

pub returns-clause-others : goal.returns-clause-others
returns-clause-others c = others_stay_after c.args.self.now c.take-seen.new.self c.put.new.self c.args.name.now _ c.take-seen.ensures.others c.in_ok-displaced.ensures.others
