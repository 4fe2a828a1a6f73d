use Rattle.std.proofs.Common.{◌≡◌, ◌∙◌, ◌∷◌, ◌++◌, [], ap, sym, subst}
use Rattle.std.specs.Prelude.{◌==◌, ◌||◌, ◌+◌, drop, length, not}
use Rattle.std.proofs.lemmas.Iterator.Adapters.{YieldsList-from_vec}
use Rattle.std.proofs.lemmas.Iterator.Consumers.{YieldsList-end, YieldsList-so_far, YieldsList-turn}
use Rattle.std.proofs.lemmas.List.{map-id}
use Rattle.wh_diagnostics.specs.declared.failures.Failure.TheVariants.{OutOfMemory}
use Rattle.wh_diagnostics.specs.Listings.{AreListed, AreUnlisted, is_by_path}
use Rattle.wh_diagnostics.proofs.InOrder.{listed_one, listed_push}
use Rattle.wh_diagnostics.proofs.Unlisted.{failed_as, parted, unlisted_after, unlisted_at}
use Rattle.wh_diagnostics.proofs.listing.all_inputs.Goals as goal

pub loop-path-init : goal.loop-path-init
loop-path-init g c =
    listed_one (not c.is_empty-by_path.result) c.args.first c.in_ok-own.own.inputs.items c.in_ok-own.own.left_out c.args.console.now c.inputs_of.new.console c.in_ok-own.ensures.listed

-- the inputs of one path more stand after those before it
pub loop-path-preserved : goal.loop-path-preserved
loop-path-preserved g c =
    let by_path = not c.is_empty-by_path.result in
    let new = c.inputs_of-in-loop-path.new.console in
    let others = c.in_ok-others.others in
    let paths = (c.args.first ∷ c.loop-path.yielded) ++ (c.in-Some.path ∷ []) in
    let inputs = c.loop-path.inputs.items ++ others.inputs.items in
    subst (λ l. AreListed by_path paths l c.is_either-left.result c.args.console.now new) (sym c.in-Ok.ensures.items)
    (subst (λ b. AreListed by_path paths inputs b c.args.console.now new) (sym c.is_either-left.ensures)
    (listed_push by_path (c.args.first ∷ c.loop-path.yielded) c.in-Some.path c.loop-path.inputs.items others.inputs.items c.loop-path.left_out others.left_out c.args.console.now c.loop-path.console new
    c.loop-path.invariant c.in_ok-others.ensures.listed))

-- all paths have been gone over, and files are called by their paths where there are more
pub returns-clause-listed : goal.returns-clause-listed
returns-clause-listed g c =
    let by_path = not c.is_empty-by_path.result in
    let more = c.args.more.items in
    let yielded = c.loop-path.yielded in
    let given = c.into_iter-path-iterator.ensures.into_iter_gives in
    let road = YieldsList-from_vec {s = c.into_iter-path-iterator.result} more given.0 (given.1 ∙ c.args.more.ok.0) in
    let gone = (YieldsList-end road yielded c.loop-path.path-iterator c.loop-path.yielded_by c.next.result c.next.new.self c.in-None.is c.next.ensures.steps).0 in
    let all : yielded ≡ more = sym (map-id yielded) ∙ gone in
    let by : by_path ≡ is_by_path more = ap not c.is_empty-by_path.ensures ∙ ap (λ n. not (n == 0)) c.args.more.ok.0 in
    subst (λ b. AreListed b (c.args.first ∷ more) c.loop-path.inputs.items c.loop-path.left_out c.args.console.now c.loop-path.console) by
    (subst (λ l. AreListed by_path (c.args.first ∷ l) c.loop-path.inputs.items c.loop-path.left_out c.args.console.now c.loop-path.console) all c.loop-path.invariant)

-- nothing can be read at a path, and those after it are left
pub returns-in_err-others-clause-refused : goal.returns-in_err-others-clause-refused
returns-in_err-others-clause-refused g c =
    let by_path = not c.is_empty-by_path.result in
    let more = c.args.more.items in
    let yielded = c.loop-path.yielded in
    let path = c.in-Some.path in
    let given = c.into_iter-path-iterator.ensures.into_iter_gives in
    let road = YieldsList-from_vec {s = c.into_iter-path-iterator.result} more given.0 (given.1 ∙ c.args.more.ok.0) in
    let far = sym (map-id yielded) ∙ YieldsList-so_far road yielded c.loop-path.path-iterator c.loop-path.yielded_by in
    let turn = YieldsList-turn road yielded c.loop-path.path-iterator c.loop-path.yielded_by c.next.result c.next.new.self path c.in-Some.is c.next.ensures.steps in
    let parts = parted more yielded path far turn.0 turn.1 in
    let by : by_path ≡ is_by_path more = ap not c.is_empty-by_path.ensures ∙ ap (λ n. not (n == 0)) c.args.more.ok.0 in
    let new = c.inputs_of-in-loop-path.new.console in
    failed_as (AreUnlisted (is_by_path more) (c.args.first ∷ more) c.args.console.now new) c.from_residual-in_err-others.result c.in_err-others.field-0.0 c.from_residual-in_err-others.ensures.1
    (subst (λ b. AreUnlisted b (c.args.first ∷ more) c.args.console.now new c.in_err-others.field-0.0) by
    (unlisted_at by_path c.args.first more yielded path (drop (length yielded + 1) more) c.loop-path.inputs.items c.loop-path.left_out c.args.console.now c.loop-path.console new c.in_err-others.field-0.0 parts
    c.loop-path.invariant c.in_err-others.ensures.refused))

-- there was no memory for the inputs of a path
pub returns-in_default-clause-refused : goal.returns-in_default-clause-refused
returns-in_default-clause-refused g c =
    let by_path = not c.is_empty-by_path.result in
    let more = c.args.more.items in
    let yielded = c.loop-path.yielded in
    let path = c.in-Some.path in
    let others = c.in_ok-others.others in
    let given = c.into_iter-path-iterator.ensures.into_iter_gives in
    let road = YieldsList-from_vec {s = c.into_iter-path-iterator.result} more given.0 (given.1 ∙ c.args.more.ok.0) in
    let far = sym (map-id yielded) ∙ YieldsList-so_far road yielded c.loop-path.path-iterator c.loop-path.yielded_by in
    let turn = YieldsList-turn road yielded c.loop-path.path-iterator c.loop-path.yielded_by c.next.result c.next.new.self path c.in-Some.is c.next.ensures.steps in
    let parts = parted more yielded path far turn.0 turn.1 in
    let by : by_path ≡ is_by_path more = ap not c.is_empty-by_path.ensures ∙ ap (λ n. not (n == 0)) c.args.more.ok.0 in
    subst (λ b. AreUnlisted b (c.args.first ∷ more) c.args.console.now c.inputs_of-in-loop-path.new.console OutOfMemory) by
    (unlisted_after by_path c.args.first more yielded path (drop (length yielded + 1) more) (c.loop-path.inputs.items ++ others.inputs.items) (c.loop-path.left_out || others.left_out) c.args.console.now c.inputs_of-in-loop-path.new.console parts
    (listed_push by_path (c.args.first ∷ yielded) path c.loop-path.inputs.items others.inputs.items c.loop-path.left_out others.left_out c.args.console.now c.loop-path.console c.inputs_of-in-loop-path.new.console
    c.loop-path.invariant c.in_ok-others.ensures.listed))
