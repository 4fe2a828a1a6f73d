use Rattle.std.proofs.Common.{◌≡◌, ◌≤◌, ◌+◌, ◌++◌, ◌∙◌, ℕ, drop, sym, ap, subst}
use Rattle.std.proofs.KnownBytes.{Appends-trans}
use Rattle.std.proofs.lemmas.Result.{on_ok_weaker}
use Rattle.std.specs.Io.KnownBytes.{Appends}
use Rattle.wh_explain_report.specs.Alike.{alike_tasks}
use Rattle.wh_explain_report.specs.TaskTexts.{fold_line, folded_from, next_count, unlike_text}
use Rattle.wh_explain_report.proofs.Written.{counts_below, fold_more, folds_end}
use Rattle.wh_explain_report.proofs.tasks.write_rest.Goals as goal

pub loop-task-preserved : goal.loop-task-preserved
loop-task-preserved g c =
    let at = g.O.Write.contents in
    let inv = c.loop-task.invariant in
    let i = c.loop-task.task-index in
    let tasks = c.args.rest.now in
    let task = c.task-item.result in
    let before = c.loop-task.before.now in
    let count = c.loop-task.count in
    let alike = alike_tasks before task in
    let whole = folded_from c.args.first.now 0 tasks in
    let same = c.alike_tasks-alike.ensures in
    let counted : c.next_count-count.result ≡ next_count alike count = c.next_count-count.ensures ∙ ap (λ t. next_count t count) same in
    let written = subst (λ t. Appends (at c.loop-task.writer) (at c.write_unlike.new.writer) (unlike_text t count before task)) same c.in_ok-write_unlike.ensures in
    let P : ℕ → Type 0 = λ n. (inv.0 ++ unlike_text alike count before task) ++ folded_from task n (drop (i + 1) tasks) ≡ whole in (
      inv.0 ++ unlike_text alike count before task,
      Appends-trans (at c.args.writer.now) (at c.loop-task.writer) _ _ _ inv.1 written,
      subst P (sym counted) (fold_more before count tasks i task inv.0 whole c.loop-task-test.true c.task-item.is inv.2),
      subst (λ n. n ≤ i + 1) (sym counted) (counts_below alike count i inv.3),
    )

pub returns : goal.returns
returns g c =
    let at = g.O.Write.contents in
    let inv = c.loop-task.invariant in
    let start = at c.args.writer.now in
    let whole = folded_from c.args.first.now 0 c.args.rest.now in
    on_ok_weaker c.write_fold.result (λ last.
    subst (Appends start (at c.write_fold.new.writer)) (folds_end c.loop-task.before.now c.loop-task.count c.args.rest.now c.loop-task.task-index inv.0 whole c.loop-task-test.false inv.2)
    (Appends-trans start (at c.loop-task.writer) _ _ _ inv.1 last)) c.write_fold.ensures
