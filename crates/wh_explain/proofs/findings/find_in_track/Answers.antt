use Rattle.std.proofs.Common.{◌≡◌, ◌∙◌, true, Ok, sym, subst, rules}
use Rattle.wh_replay.specs.Replays.{workflow_of}
use Rattle.wh_explain.proofs.Judged.{known_by, no_code_found, unknown_by}
use Rattle.wh_explain.specs.Private.Findings.{IsFoundPlaced}
use Rattle.wh_explain.proofs.findings.find_in_track.Goals as goal

-- the workflow type is registered
pub find_with_code-requires : goal.find_with_code-requires
find_with_code-requires g c =
    let program = g.W.Workflow.program in
    let kind = workflow_of c.args.track.now in
    let known : program.knows kind ≡ true = known_by (program.knows kind) kind (sym c.in-Ok-None.field-0-is ∙ c.in-Ok-None.ensures) in
    search rules

-- or it is the one that is named
pub returns-in-Ok-Some : goal.returns-in-Ok-Some
returns-in-Ok-Some g c =
    let program = g.W.Workflow.program in
    let track = c.args.track.now in
    let kind = workflow_of track in
    let named = unknown_by (program.knows kind) kind c.in-Ok-Some.kind (sym c.in-Ok-Some.field-0-is ∙ c.in-Ok-Some.ensures) in
    subst (IsFoundPlaced c.args.detail program (Ok track)) (sym c.of_verdict.ensures) (no_code_found program c.args.detail track c.in-Ok-Some.kind named.0 named.1)
