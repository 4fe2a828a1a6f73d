use Rattle.std.proofs.Common.{◌≡◌, ◌∙◌, ◌++◌, ℕ, ap, arith}
use Rattle.wh_workflow.proofs.Answering.{appends_answer}
use Rattle.wh_sample_workflows.specs.Flood.{timers, counted, timers_answer}
use Rattle.wh_sample_workflows.specs.declared.flood.FloodState.{FloodState}
use Rattle.wh_sample_workflows.proofs.flood.start_timers.Goals as goal

abbrev at_number : ℕ → FloodState
at_number n = record { next = n }

pub returns-clause-state : goal.returns-clause-state
returns-clause-state c =
    let all : c.loop.counter ≡ 64 = omega arith in
    ap at_number (c.loop.invariant.1 ∙ ap (λ times. counted times c.args.state.now.next) all)

pub returns-clause-commands : goal.returns-clause-commands
returns-clause-commands c =
    let all : c.loop.counter ≡ 64 = omega arith in
    c.loop.invariant.0 ∙ ap (λ times. c.args.out.now.items ++ timers times c.args.state.now.next) all

pub returns-clause-answer : goal.returns-clause-answer
returns-clause-answer c = appends_answer _ _ _ c.loop.invariant.0 (timers_answer c.loop.counter c.args.state.now.next (omega arith))

pub returns-in_err-format-clause-answer : goal.returns-in_err-format-clause-answer
returns-in_err-format-clause-answer c = appends_answer _ _ _ c.loop.invariant.0 (timers_answer c.loop.counter c.args.state.now.next (omega arith))

pub returns-in_err-push-clause-answer : goal.returns-in_err-push-clause-answer
returns-in_err-push-clause-answer c =
    appends_answer c.args.out.now.items c.push.new.self.items (timers c.loop.counter c.args.state.now.next) (cc (c.in_err-push.ensures.items, c.loop.invariant.0)) (timers_answer c.loop.counter c.args.state.now.next (omega arith))
