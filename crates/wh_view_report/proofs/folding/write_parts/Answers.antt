use Rattle.std.proofs.Common.{◌≡◌, ◌≤◌, List, [], length, slice_range, refl, sym, subst, rules}
use Rattle.std.proofs.lemmas.Result.{on_ok_weaker}
use Rattle.std.specs.Io.KnownBytes.{Appends}
use Rattle.std.specs.List.{list_any}
use Rattle.wh_view.specs.declared.view.ViewedEvent.{ViewedEvent}
use Rattle.wh_view_report.specs.Alike.{alike_tasks}
use Rattle.wh_view_report.specs.Folding.{fold_text}
use Rattle.wh_view_report.specs.Private.Folds.{ranges, text_unless}
use Rattle.wh_view_report.proofs.Parts.{IsPassed, all_passed, none_passed, task_passed}
use Rattle.wh_view_report.proofs.folding.write_parts.Goals as goal

pub loop-at-init : goal.loop-at-init
loop-at-init g c =
    let old = g.O.Write.contents c.args.writer.now in
    let none : Appends old old [] = search rules in
    none_passed c.args.view.now _ _ old refl refl refl refl refl refl none

pub loop-at-preserved : goal.loop-at-preserved
loop-at-preserved g c =
    let view = c.args.view.now in
    let begins = c.loop-at.begins in
    let fold = c.loop-at.fold in
    let at = c.loop-at.at in
    let end = c.end_of-end.result in
    let repeats = c.repeats-repeats.result in
    let next = c.begins_with-begins.result in
    let old = g.O.Write.contents c.args.writer.now in
    let now = g.O.Write.contents c.loop-at.writer in
    let new = g.O.Write.contents c.write_unless.new.writer in
    let same : c.get-events.result.now ≡ view.events = c.get-events.ensures in
    let own = c.end_of-end.ensures in
    let is = c.begins_with-begins.ensures in
    let like : repeats ≡ list_any (alike_tasks view (slice_range view.events at end)) (ranges view.events begins at) =
    subst (λ (l : List ViewedEvent). repeats ≡ list_any (alike_tasks view (slice_range l at end)) (ranges view.events begins at)) same c.repeats-repeats.ensures in
    let written : Appends now new (text_unless repeats view fold.tasks (slice_range view.events fold.start at) (slice_range view.events at end)) =
    subst (λ (l : List ViewedEvent). Appends now new (text_unless repeats view fold.tasks (slice_range l fold.start at) (slice_range l at end))) same c.in_ok-write_unless.ensures in
    subst (λ f. IsPassed view next f end old new) (sym c.fold_with-fold.ensures)
    (task_passed view begins next fold at end repeats old now new c.loop-at.invariant own.after own.within own.task like written is.last is.second is.third is.fourth)

pub returns : goal.returns
returns g c =
    let view = c.args.view.now in
    let fold = c.loop-at.fold in
    let at = c.loop-at.at in
    let old = g.O.Write.contents c.args.writer.now in
    let now = g.O.Write.contents c.loop-at.writer in
    let new = g.O.Write.contents c.write_fold.new.writer in
    let same : c.get-events.result.now ≡ view.events = c.get-events.ensures in
    let past : length view.events ≤ at = subst (λ (l : List ViewedEvent). length l ≤ at) same c.loop-at-test.false in
    on_ok_weaker c.write_fold.result (λ last. all_passed view c.loop-at.begins fold at old now new c.loop-at.invariant past
    (subst (λ (l : List ViewedEvent). Appends now new (fold_text view fold.tasks (slice_range l fold.start at))) same last)) c.write_fold.ensures
