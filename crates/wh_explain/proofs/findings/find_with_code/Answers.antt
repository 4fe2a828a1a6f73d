use Rattle.std.proofs.Common.{◌≡◌, ◌∙◌, true, Err, Ok, ap, rules}
use Rattle.wh_replay.specs.Replays.{ReplayResult, workflow_of}
use Rattle.wh_explain.proofs.Judged.{ok_along, walk_found}
use Rattle.wh_explain.proofs.findings.find_with_code.Goals as goal

pub start-requires : goal.start-requires
start-requires g c =
    let program = g.W.Workflow.program in
    let shown : c.workflow_of-kind.result.now ≡ workflow_of c.args.track.now = c.workflow_of-kind.ensures ∙ ap workflow_of c.events.ensures.events in
    let known : program.knows c.workflow_of-kind.result.now ≡ true = ap program.knows shown ∙ c.requires in
    search rules

pub returns-in-Ok : goal.returns-in-Ok
returns-in-Ok g c =
    let program = g.W.Workflow.program in
    let track = c.args.track.now in
    let began = c.in_ok-first.ensures 0 in
    let shown : c.workflow_of-kind.result.now ≡ workflow_of track = c.workflow_of-kind.ensures ∙ ap workflow_of c.events.ensures.events in
    ok_along _ c.explanation_of.result _ c.explanation_of.ensures
    (walk_found program c.args.detail track c.in_ok-first.first.state c.in_ok-first.first.versions c.walk_tasks.new.tasks.items (Ok c.in-Ok.replayed_tasks) c.requires (ap (λ (u : ReplayResult _). u.state) began ∙ ap program.initial shown) (ap (λ (u : ReplayResult _). u.settled) began)
    c.in-Ok.ensures.tasks c.in-Ok.ensures.replayed_tasks)

pub returns-in-Err-Fault : goal.returns-in-Err-Fault
returns-in-Err-Fault g c =
    let program = g.W.Workflow.program in
    let track = c.args.track.now in
    let began = c.in_ok-first.ensures 0 in
    let shown : c.workflow_of-kind.result.now ≡ workflow_of track = c.workflow_of-kind.ensures ∙ ap workflow_of c.events.ensures.events in
    ok_along _ c.explanation_of-in-Err-Fault.result _ c.explanation_of-in-Err-Fault.ensures
    (walk_found program c.args.detail track c.in_ok-first.first.state c.in_ok-first.first.versions c.walk_tasks.new.tasks.items (Err c.in-Err-Fault.fault) c.requires (ap (λ (u : ReplayResult _). u.state) began ∙ ap program.initial shown) (ap (λ (u : ReplayResult _). u.settled) began)
    (rw c.in-Err-Fault.field-0-is at c.in-Err-Fault.ensures.tasks) (rw c.in-Err-Fault.field-0-is at c.in-Err-Fault.ensures.replayed_tasks))
