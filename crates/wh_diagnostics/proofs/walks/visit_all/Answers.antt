use Rattle.std.proofs.Common.{◌∙◌, [], ◌∷◌, ◌++◌, refl, subst, sym}
use Rattle.std.specs.Prelude.{◌+◌, drop, length}
use Rattle.std.proofs.lemmas.Iterator.Adapters.{YieldsList-from_vec}
use Rattle.std.proofs.lemmas.Iterator.Consumers.{YieldsList-so_far, YieldsList-turn}
use Rattle.std.proofs.lemmas.List.{append_assoc, map-id}
use Rattle.wh_diagnostics.proofs.Unlisted.{failed_as}
use Rattle.wh_diagnostics.proofs.Walked.{inputs_parted, no_memory_after, one_told, stopped_at}
use Rattle.wh_diagnostics.specs.Walks.{AreTold, HasBrokenOff}
use Rattle.wh_diagnostics.proofs.walks.visit_all.Goals as goal

-- none at first
pub loop-input-init : goal.loop-input-init
loop-input-init g c =
    let tells = (g.V.Visitor.visits c.args.visitor.now).tells g.R.InputReader.gives in
    subst (λ l. AreTold tells [] l c.args.console.now c.args.console.now) (sym c.new-all.ensures.items) refl

-- one input more was told
pub loop-input-preserved : goal.loop-input-preserved
loop-input-preserved g c =
    let tells = (g.V.Visitor.visits c.args.visitor.now).tells g.R.InputReader.gives in
    let at = c.loop-input in
    subst (λ l. AreTold tells (at.yielded ++ (c.in-Some.input ∷ [])) l c.args.console.now c.visit.new.console) (sym c.in-Ok.ensures.items)
    (one_told tells at.yielded at.all.items c.in-Some.input c.in_ok-own.own c.args.console.now at.console c.visit.new.console at.invariant c.in_ok-own.ensures.told)

-- the command stopped at an input
pub returns-in_err-own-clause-stopped : goal.returns-in_err-own-clause-stopped
returns-in_err-own-clause-stopped g c =
    let visits = g.V.Visitor.visits c.args.visitor.now in
    let gives = g.R.InputReader.gives in
    let at = c.loop-input in
    let inputs = c.args.inputs.items in
    let input = c.in-Some.input in
    let given = c.into_iter-input-iterator.ensures.into_iter_gives in
    let road = YieldsList-from_vec {s = c.into_iter-input-iterator.result} inputs given.0 (given.1 ∙ c.args.inputs.ok.0) in
    let far = sym (map-id at.yielded) ∙ YieldsList-so_far road at.yielded at.input-iterator at.yielded_by in
    let turn = YieldsList-turn road at.yielded at.input-iterator at.yielded_by c.next.result c.next.new.self input c.in-Some.is c.next.ensures.steps in
    failed_as (HasBrokenOff visits gives inputs c.args.console.now c.visit.new.console) c.from_residual.result c.in_err-own.field-0.0 c.from_residual.ensures.1
    (stopped_at visits gives inputs at.yielded input (drop (length at.yielded + 1) inputs) at.all.items c.args.console.now at.console c.visit.new.console c.in_err-own.field-0.0
    (inputs_parted inputs at.yielded input far turn.0 turn.1) at.invariant c.in_err-own.ensures.refused c.in_err-own.ensures.why)

-- there was no memory for what is kept of it
pub returns-in_default-clause-stopped : goal.returns-in_default-clause-stopped
returns-in_default-clause-stopped g c =
    let visits = g.V.Visitor.visits c.args.visitor.now in
    let gives = g.R.InputReader.gives in
    let at = c.loop-input in
    let inputs = c.args.inputs.items in
    let input = c.in-Some.input in
    let given = c.into_iter-input-iterator.ensures.into_iter_gives in
    let road = YieldsList-from_vec {s = c.into_iter-input-iterator.result} inputs given.0 (given.1 ∙ c.args.inputs.ok.0) in
    let far = sym (map-id at.yielded) ∙ YieldsList-so_far road at.yielded at.input-iterator at.yielded_by in
    let turn = YieldsList-turn road at.yielded at.input-iterator at.yielded_by c.next.result c.next.new.self input c.in-Some.is c.next.ensures.steps in
    no_memory_after visits gives inputs (at.yielded ++ (input ∷ [])) (drop (length at.yielded + 1) inputs) (at.all.items ++ (c.in_ok-own.own ∷ [])) c.args.console.now c.visit.new.console
    (inputs_parted inputs at.yielded input far turn.0 turn.1 ∙ sym (append_assoc at.yielded (input ∷ []) (drop (length at.yielded + 1) inputs)))
    (one_told (visits.tells gives) at.yielded at.all.items input c.in_ok-own.own c.args.console.now at.console c.visit.new.console at.invariant c.in_ok-own.ensures.told)
