use Rattle.std.proofs.Common.{◌≡◌, ◌∷◌, ◌++◌, ◌∙◌, [], length, sym, ap, arith, append_assoc, length-append}
use Rattle.std.specs.Vec.Iter.{into_iter_items}
use Rattle.wh_workflow.specs.Activations.{issue_all}
use Rattle.wh_replay.specs.Views.{context_of, script}
use Rattle.wh_replay.specs.Private.Activating.{IsPlain}
use Rattle.wh_replay.proofs.Responding.{issued_one, stands_one, stops_by}
use Rattle.wh_replay.proofs.activation.issue_all.Goals as goal

pub loop-command-preserved : goal.loop-command-preserved
loop-command-preserved c =
    let at = c.loop-command in
    let place = context_of c.args.cut.now in
    let command = c.in-Some.command in
    let rest = into_iter_items c.next.new.self in
    let before = c.args.script.now.issued in
    let steps : into_iter_items at.command-iterator ≡ command ∷ rest = c.in-Some.ensures.steps.0 in
    let plain : IsPlain (command ∷ rest) = rw steps at at.invariant.plain in
    let issued : c.issue_one.new.script.issued ≡ at.script.issued ++ command ∷ [] = c.in_default.ensures.issued in
    record {
      parts = append_assoc at.yielded (command ∷ []) rest ∙ (ap (λ l. at.yielded ++ l) (sym steps) ∙ at.invariant.parts);
      count = let was = at.invariant.count in let gone = c.in-Some.ensures.steps.1 in let short = ap length steps in omega arith;
      plain = plain.2;
      of = c.in_default.ensures.script;
      left = λ settled.
          issued_one place settled at.script.issued c.issue_one.new.script.issued command rest (sym (c.in_default.ensures.fault settled)) issued
          ∙ (ap (issue_all place (script settled at.script.issued)) (sym steps) ∙ at.invariant.left settled);
      place_is = let was = at.invariant.place_is in let more = length-append at.yielded (command ∷ []) in omega arith;
      few = at.invariant.few;
      issued = issued ∙ (ap (λ l. l ++ command ∷ []) at.invariant.issued ∙ append_assoc before at.yielded (command ∷ []));
      stands = λ settled. stands_one place settled before at.yielded at.script.issued command at.invariant.issued (at.invariant.stands settled) (sym (c.in_default.ensures.fault settled));
    }

pub returns-in-Err-clause-stops : goal.returns-in-Err-clause-stops
returns-in-Err-clause-stops c settled =
    let at = c.loop-command in
    let place = context_of c.args.cut.now in
    let command = c.in-Some.command in
    let rest = into_iter_items c.next.new.self in
    let steps : into_iter_items at.command-iterator ≡ command ∷ rest = c.in-Some.ensures.steps.0 in
    stops_by (Unit {0}) place settled c.args.script.now.issued at.yielded at.script.issued rest c.args.commands.items command at.place c.in-Err.fault (sym at.invariant.parts ∙ ap (λ l. at.yielded ++ l) steps) at.invariant.place_is at.invariant.issued
    (at.invariant.stands settled) (c.in-Err.ensures.fault settled)
