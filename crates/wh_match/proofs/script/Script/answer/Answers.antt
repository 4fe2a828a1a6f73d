use Rattle.std.proofs.Common.{◌≡◌, ◌++◌, ◌∷◌, [], false, Some, None, option_map, ap, ◌∙◌}
use Rattle.std.proofs.lemmas.Result.{err_from_is_err_and}
use Rattle.wh_events.specs.Cuts.{commanded}
use Rattle.wh_match.specs.Issuing.{Issuing, unmarked_if, with_asked, choice_in}
use Rattle.wh_match.proofs.Judged.{asked_fault}
use Rattle.wh_match.proofs.Asking.{after_ask, ask_joined, asked_each, asked_count, asked_ended, asked_view}
use Rattle.wh_match.proofs.script.Script.answer.Goals as goal

pub returns-in-Some-clause-fault : goal.returns-in-Some-clause-fault
returns-in-Some-clause-fault c = λ seen between. asked_fault (record { seen = seen; between = between; recorded = option_map (λ events. commanded events.now) c.args.recorded }) c.args.versions.now c.args.self.now.issued c.args.question.change_id.now c.args.question.min c.args.question.max (record { version = c.choose-chosen.result.version; marked = c.choose-chosen.result.marked }) c.choose-chosen.ensures (Some c.in-Some.fault) c.in-Some.ensures

pub returns-clause-fault : goal.returns-clause-fault
returns-clause-fault c = λ seen between. asked_fault (record { seen = seen; between = between; recorded = option_map (λ events. commanded events.now) c.args.recorded }) c.args.versions.now c.args.self.now.issued c.args.question.change_id.now c.args.question.min c.args.question.max (record { version = c.choose-chosen.result.version; marked = c.choose-chosen.result.marked }) c.choose-chosen.ensures None c.in_default.ensures

pub returns-in_err-make_room-clause-fault : goal.returns-in_err-make_room-clause-fault
returns-in_err-make_room-clause-fault c =
    λ seen between.
    let refused = err_from_is_err_and c.from_residual.result c.from_residual.ensures.1 in
    rw (refused.1, refused.2) (asked_fault (record { seen = seen; between = between; recorded = option_map (λ events. commanded events.now) c.args.recorded }) c.args.versions.now c.args.self.now.issued c.args.question.change_id.now c.args.question.min c.args.question.max (record { version = c.choose-chosen.result.version; marked = c.choose-chosen.result.marked }) c.choose-chosen.ensures None c.in_default.ensures)

pub returns-in_err-asked-clause-fault : goal.returns-in_err-asked-clause-fault
returns-in_err-asked-clause-fault c =
    λ seen between.
    let refused = err_from_is_err_and c.from_residual-in_err-asked.result c.from_residual-in_err-asked.ensures.1 in
    rw (refused.1, refused.2) (asked_fault (record { seen = seen; between = between; recorded = option_map (λ events. commanded events.now) c.args.recorded }) c.args.versions.now c.args.self.now.issued c.args.question.change_id.now c.args.question.min c.args.question.max (record { version = c.choose-chosen.result.version; marked = c.choose-chosen.result.marked }) c.choose-chosen.ensures None c.in_default.ensures)

pub invariant_of-self-2 : goal.invariant_of-self-2
invariant_of-self-2 c =
    let inside = c.self.inside in
    let chosen = c.choose-chosen.result in
    let change_id = c.args.question.change_id.now in
    let issued : c.append_reserved.new.items.items ≡ after_ask inside.issued.items change_id c.args.question.min c.args.question.max chosen.marked chosen.version =
    c.append_reserved.ensures ∙ ap (λ l. l ++ c.in_ok-asked.asked.items) c.make_room.ensures.issued ∙ ap (λ l. inside.issued.items ++ l) c.in_ok-asked.ensures.items ∙ ask_joined inside.issued.items change_id c.args.question.min c.args.question.max chosen.marked chosen.version in
    let late : c.push_marks.new.late.items ≡ (inside.late.items ++ false ∷ []) ++ unmarked_if chosen.marked = c.push_marks.ensures ∙ ap (λ l. (l ++ false ∷ []) ++ unmarked_if chosen.marked) c.make_room.ensures.late in
    record {
      each = rw (issued, late) (asked_each inside.issued.items change_id c.args.question.min c.args.question.max inside.late.items chosen.marked chosen.version c.self.invariant.each);
      counted = rw issued (asked_count inside.issued.items change_id c.args.question.min c.args.question.max inside.count chosen.marked chosen.version c.self.invariant.counted);
      ended = rw issued (c.self.invariant.ended ∙ asked_ended inside.issued.items change_id c.args.question.min c.args.question.max chosen.marked chosen.version);
    }

pub returns-clause-asked : goal.returns-clause-asked
returns-clause-asked c =
    let inside = c.self.inside in
    let chosen = c.choose-chosen.result in
    let change_id = c.args.question.change_id.now in
    let issued : c.append_reserved.new.items.items ≡ after_ask inside.issued.items change_id c.args.question.min c.args.question.max chosen.marked chosen.version =
    c.append_reserved.ensures ∙ ap (λ l. l ++ c.in_ok-asked.asked.items) c.make_room.ensures.issued ∙ ap (λ l. inside.issued.items ++ l) c.in_ok-asked.ensures.items ∙ ask_joined inside.issued.items change_id c.args.question.min c.args.question.max chosen.marked chosen.version in
    let late : c.push_marks.new.late.items ≡ (inside.late.items ++ false ∷ []) ++ unmarked_if chosen.marked = c.push_marks.ensures ∙ ap (λ l. (l ++ false ∷ []) ++ unmarked_if chosen.marked) c.make_room.ensures.late in
    asked_view (record { previous = inside.previous; cut = inside.cut; issued = inside.issued.items; late = inside.late.items }) _ _ change_id c.args.question.min c.args.question.max _ (record { version = chosen.version; marked = chosen.marked }) c.choose-chosen.ensures issued late
    ∙ ap (λ (s : Issuing). with_asked s change_id c.args.question.min c.args.question.max (choice_in (option_map (λ events. commanded events.now) c.args.recorded) c.args.versions.now change_id c.args.question.max)) c.self.view_is
