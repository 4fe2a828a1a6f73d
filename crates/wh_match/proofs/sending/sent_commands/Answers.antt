use Rattle.std.proofs.Common.{◌≡◌, ◌++◌, ◌∷◌, [], ap, ◌∙◌}
use Rattle.wh_match.specs.Issuing.{reduced_by}
use Rattle.wh_match.proofs.Reducing.{step_sent, step_dropped}
use Rattle.wh_match.proofs.sending.sent_commands.Goals as goal
use Rattle.wh_match.proofs.sending.sent_commands.Goals.{then-is_sent+in_ok-try_copy+in_ok-push, else-is_sent}

pub loop-place-preserved : goal.loop-place-preserved
loop-place-preserved c =
    let late = c.args.late.now in
    let issued = c.args.issued.now in
    let place = c.loop-place.place in
    let command = c.index-issued-place.result in
    let sent = c.loop-place.sent.items in
    elim c.if-is_sent.branch [
      | then-is_sent+in_ok-try_copy+in_ok-push w ↦
          (let more : c.if-is_sent.sent.items ≡ sent ++ command ∷ [] = ap (λ v. v.items) w.sent-is ∙ w.in_ok-push.ensures.items ∙ ap (λ x. sent ++ x ∷ []) w.in_ok-try_copy.ensures in
          rw more (step_sent late issued place command c.loop-place-test.true c.requires c.index-issued-place.is sent (reduced_by late issued) w.if-is_sent.ensures c.loop-place.invariant))
      | else-is_sent w ↦
          (let same : c.if-is_sent.sent.items ≡ sent = ap (λ v. v.items) w.sent-is in
          rw same (step_dropped late issued place command c.loop-place-test.true c.requires c.index-issued-place.is sent (reduced_by late issued) w.if-is_sent.ensures c.loop-place.invariant))
    ]
