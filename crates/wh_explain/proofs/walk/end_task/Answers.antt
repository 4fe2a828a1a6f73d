use Rattle.std.proofs.Common.{◌∙◌, refl, sym, ap}
use Rattle.wh_explain.specs.Private.Tasks.{fault_at, mismatch_with}
use Rattle.wh_replay.specs.Views.{context_of}
use Rattle.wh_explain.proofs.Ends.{end_kept, end_passed}
use Rattle.wh_explain.proofs.walk.end_task.Goals as goal

pub returns-then-is_passed : goal.returns-then-is_passed
returns-then-is_passed c whole keeps =
    let cut = c.args.cut.now in
    let known = c.fault_at-fault.ensures ∙ ap (λ l. fault_at cut.number c.args.refused (mismatch_with cut.track.now l (context_of cut).recorded)) c.as_slice.ensures.value in
    end_passed c.args.detail _ _ c.fault_at-fault.result c.args.tasks.now.items c.args.tasks.now.items known (sym c.is_passed.ensures ∙ c.if-is_passed.true) refl

pub returns-in-Some : goal.returns-in-Some
returns-in-Some c whole keeps =
    let cut = c.args.cut.now in
    let known = c.fault_at-fault.ensures ∙ ap (λ l. fault_at cut.number c.args.refused (mismatch_with cut.track.now l (context_of cut).recorded)) c.as_slice.ensures.value in
    end_kept c.args.detail _ _ c.fault_at-fault.result _ c.args.tasks.now.items c.add_task.new.tasks.items known (sym c.is_passed.ensures ∙ c.if-is_passed.false) c.in-Some.is (c.in_ok-add_task.ensures whole keeps)

pub returns-in-None : goal.returns-in-None
returns-in-None c whole keeps =
    let cut = c.args.cut.now in
    let known = c.fault_at-fault.ensures ∙ ap (λ l. fault_at cut.number c.args.refused (mismatch_with cut.track.now l (context_of cut).recorded)) c.as_slice.ensures.value in
    end_kept c.args.detail _ _ c.fault_at-fault.result _ c.args.tasks.now.items c.add_task.new.tasks.items known (sym c.is_passed.ensures ∙ c.if-is_passed.false) c.in-None.is (c.in_ok-add_task.ensures whole keeps)
