use Rattle.std.proofs.Common.{◌≡◌, ◌+◌, ◌-◌, ◌++◌, ◌∙◌, ℕ, drop, sym, subst, rules}
use Rattle.std.proofs.KnownBytes.{Appends-trans}
use Rattle.std.specs.List.{flat_map}
use Rattle.std.specs.Io.KnownBytes.{Appends}
use Rattle.wh_explain_report.specs.Selections.{sharing}
use Rattle.wh_explain_report.specs.Texts.{task_text}
use Rattle.wh_explain_report.specs.TaskTexts.{text_unless}
use Rattle.wh_explain_report.proofs.Written.{one_passed, tasks_written}
use Rattle.wh_explain_report.proofs.tasks.write_after.Goals as goal

pub loop-task-preserved : goal.loop-task-preserved
loop-task-preserved g c =
    let at = g.O.Write.contents in
    let inv = c.loop-task.invariant in
    let i = c.loop-task.task-index in
    let tasks = c.args.before.now in
    let task = c.task-item.result in
    let left = c.loop-task.left in
    let whole = flat_map task_text (drop c.args.skipped (sharing c.args.fault.now tasks)) in
    let P : ℕ → Type 0 = λ n. (inv.0 ++ text_unless left task) ++ flat_map task_text (drop n (sharing c.args.fault.now (drop (i + 1) tasks))) ≡ whole in (
      inv.0 ++ text_unless left task,
      Appends-trans (at c.args.writer.now) (at c.loop-task.writer) _ _ _ inv.1 c.in_ok-write_unless.ensures,
      subst P (sym c.saturating_sub-left.ensures) (one_passed c.args.fault.now tasks i task left inv.0 whole c.loop-task-test.true c.task-item.is (search rules) inv.2),
    )

pub returns : goal.returns
returns g c =
    let at = g.O.Write.contents in
    let inv = c.loop-task.invariant in
    let whole = flat_map task_text (drop c.args.skipped (sharing c.args.fault.now c.args.before.now)) in
    subst (Appends (at c.args.writer.now) (at c.loop-task.writer)) (tasks_written c.args.fault.now c.args.before.now c.loop-task.task-index c.loop-task.left inv.0 whole c.loop-task-test.false inv.2) inv.1
