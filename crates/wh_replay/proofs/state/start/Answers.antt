use Rattle.std.proofs.Common.{◌∙◌, [], ap}
use Rattle.wh_replay.specs.Outcomes.{replay_result}
use Rattle.wh_replay.proofs.state.start.Goals as goal

pub returns : goal.returns
returns g c meter =
    c.sent_state.ensures meter
    ∙ (ap (λ settled. replay_result c.in_ok-state.state settled [] meter) c.new.ensures ∙ ap (λ state. replay_result state [] [] meter) c.in_ok-state.ensures)
