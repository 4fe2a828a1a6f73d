use Rattle.std.proofs.Common.{◌∙◌, sym, map}
use Rattle.wh_stuck_check.specs.Private.Seen.{name_seen, situation_seen}
use Rattle.wh_stuck_check.proofs.Hearing.{awaiting, hearing}
use Rattle.wh_stuck_check.proofs.situation.after_job.Goals as goal

pub returns-then-now : goal.returns-then-now
returns-then-now c =
    c.after_answer.ensures ∙ sym (awaiting (map name_seen c.args.names.now) c.args.job.now (situation_seen c.args.now) c.if-now.true)

pub returns-else-now : goal.returns-else-now
returns-else-now c =
    c.after_telling.ensures ∙ sym (hearing (map name_seen c.args.names.now) c.args.job.now (situation_seen c.args.now) c.if-now.false)
