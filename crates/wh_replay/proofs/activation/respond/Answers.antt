use Rattle.std.proofs.Common.{◌≡◌, ◌+◌, ◌++◌, ◌∷◌, ◌∙◌, [], length, length-append, Option, Result, sym, ap, subst, arith}
use Rattle.std.specs.Prelude.{option_to_list}
use Rattle.wh_workflow.specs.Law.{asks_last, records_none}
use Rattle.wh_workflow.specs.Activations.{and_then, issue_all, respond}
use Rattle.wh_match.specs.declared.fault.ScriptFault.{ScriptFault}
use Rattle.wh_workflow.specs.declared.job.Job.{Job}
use Rattle.wh_replay.specs.Activating.{Gives}
use Rattle.wh_replay.specs.Views.{context_of, script, reply_of}
use Rattle.wh_replay.proofs.Settling.{gives_err}
use Rattle.wh_replay.proofs.Responding.{plain_front, respond-push, gives_along, stops_sooner, stops_last}
use Rattle.wh_replay.proofs.activation.respond.Goals as goal

pub issue_all-requires-clause-plain : goal.issue_all-requires-clause-plain
issue_all-requires-clause-plain c =
    let front = c.pop.new.self.items in
    let parted : c.args.given.items ≡ front ++ c.in-Some.last ∷ [] = c.pop.ensures.items ∙ ap (λ o. front ++ option_to_list o) c.in-Some.is in
    (plain_front front c.in-Some.last (ap asks_last (sym parted) ∙ c.requires.answer.asks) (ap records_none (sym parted) ∙ c.requires.answer.records)).0

pub issue_last-requires-clause-not_marker : goal.issue_last-requires-clause-not_marker
issue_last-requires-clause-not_marker c =
    let front = c.pop.new.self.items in
    let parted : c.args.given.items ≡ front ++ c.in-Some.last ∷ [] = c.pop.ensures.items ∙ ap (λ o. front ++ option_to_list o) c.in-Some.is in
    (plain_front front c.in-Some.last (ap asks_last (sym parted) ∙ c.requires.answer.asks) (ap records_none (sym parted) ∙ c.requires.answer.records)).1

pub returns-in-Err-clause-issued : goal.returns-in-Err-clause-issued
returns-in-Err-clause-issued c =
    let place = context_of c.args.cut.now in
    let s = script c.args.versions.now c.args.script.now.issued in
    let front = c.pop.new.self.items in
    let last = c.in-Some.last in
    let parted : c.args.given.items ≡ front ++ last ∷ [] = c.pop.ensures.items ∙ ap (λ o. front ++ option_to_list o) c.in-Some.is in
    gives_err c.in-Err.stop.fault (issue_all place s front) (respond place s c.args.given.items) _ _
    (λ fault e. ap (respond place s) parted ∙ (respond-push place s front last ∙ ap (λ r. and_then r (λ next. respond place next (last ∷ []))) e))
    (c.in-Err.ensures.issued c.args.versions.now)

pub returns-in-Err-clause-stops : goal.returns-in-Err-clause-stops
returns-in-Err-clause-stops c =
    let front = c.pop.new.self.items in
    let last = c.in-Some.last in
    let parted : c.args.given.items ≡ front ++ last ∷ [] = c.pop.ensures.items ∙ ap (λ o. front ++ option_to_list o) c.in-Some.is in
    stops_sooner (context_of c.args.cut.now) c.args.versions.now c.args.script.now.issued front (last ∷ []) c.args.given.items c.in-Err.stop.place c.in-Err.stop.fault parted (c.in-Err.ensures.stops c.args.versions.now)

pub returns-in-Ok-clause-issued : goal.returns-in-Ok-clause-issued
returns-in-Ok-clause-issued c =
    let place = context_of c.args.cut.now in
    let s = script c.args.versions.now c.args.script.now.issued in
    let front = c.pop.new.self.items in
    let last = c.in-Some.last in
    let parted : c.args.given.items ≡ front ++ last ∷ [] = c.pop.ensures.items ∙ ap (λ o. front ++ option_to_list o) c.in-Some.is in
    let P : Result (Option Job) ScriptFault → Type 0 = λ r. Gives r (respond place s c.args.given.items) (reply_of c.issue_last.new.versions c.issue_last.new.script) in
    subst P (sym c.at_place.ensures.answer)
    (gives_along c.issue_last.result _ (respond place s c.args.given.items) _
    (ap (respond place s) parted ∙ (respond-push place s front last ∙ ap (λ r. and_then r (λ next. respond place next (last ∷ []))) (c.in-Ok.ensures.issued c.args.versions.now)))
    c.issue_last.ensures.issued)

pub returns-in-Ok-clause-stops : goal.returns-in-Ok-clause-stops
returns-in-Ok-clause-stops c =
    let front = c.pop.new.self.items in
    let parted : c.args.given.items ≡ front ++ c.in-Some.last ∷ [] = c.pop.ensures.items ∙ ap (λ o. front ++ option_to_list o) c.in-Some.is in
    let held = c.args.given.ok.0 in
    let more = ap length parted ∙ length-append front (c.in-Some.last ∷ []) in
    let size : c.len-place.result ≡ length front + 1 = omega (arith, c.len-place.ensures, held, more) in
    stops_last c.at_place.result c.issue_last.result (context_of c.args.cut.now) c.args.versions.now c.args.script.now.issued front c.args.given.items c.in-Some.last (script c.args.versions.now c.issue_all.new.script.issued) c.len-place.result
    (reply_of c.issue_last.new.versions c.issue_last.new.script) c.at_place.ensures.answer c.at_place.ensures.place size parted (c.in-Ok.ensures.issued c.args.versions.now) c.issue_last.ensures.issued
