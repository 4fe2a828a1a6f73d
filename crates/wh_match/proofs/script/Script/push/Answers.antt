use Rattle.std.proofs.Common.{◌≡◌, ◌<◌, ◌++◌, ◌∷◌, [], None, length, sym, ap, ◌∙◌, arith}
use Rattle.wh_workflow.specs.Scripts.{given}
use Rattle.wh_match.specs.Private.Faults.{early_fault}
use Rattle.wh_match.specs.Issuing.{Issuing}
use Rattle.wh_match.proofs.Counts.{still_few, not_ended, count_more, ended_more, each_more}
use Rattle.wh_match.proofs.script.Script.push.Goals as goal

pub overflow_add-self : goal.overflow_add-self
overflow_add-self c =
    let issued : c.args.self.now.issued ≡ c.self.inside.issued.items = ap (λ (s : Issuing). s.issued) (sym c.self.view_is) in
    let few : length (given c.self.inside.issued.items) < 4096 = still_few c.self.inside.issued.items (sym (ap early_fault issued) ∙ c.requires.unfaulted) in
    let counted = c.self.invariant.counted in
    omega arith

pub invariant_of-self : goal.invariant_of-self
invariant_of-self c =
    let inside = c.self.inside in
    let issued : c.args.self.now.issued ≡ inside.issued.items = ap (λ (s : Issuing). s.issued) (sym c.self.view_is) in
    let fits : early_fault inside.issued.items ≡ None = sym (ap early_fault issued) ∙ c.requires.unfaulted in
    let more : c.push_reserved.new.self.items ≡ inside.issued.items ++ c.args.command ∷ [] = c.push_reserved.ensures.items ∙ ap (λ l. l ++ c.args.command ∷ []) c.make_room.ensures.issued in
    let marks : c.push_reserved-in-Ok.new.self.items ≡ inside.late.items ++ c.args.late ∷ [] = c.push_reserved-in-Ok.ensures.items ∙ ap (λ l. l ++ c.args.late ∷ []) c.make_room.ensures.late in
    record {
      each = rw (more, marks) (each_more inside.late.items inside.issued.items c.args.late c.args.command c.self.invariant.each);
      counted = rw more (count_more inside.count inside.issued.items c.args.command c.requires.not_marker c.self.invariant.counted);
      ended = rw more (c.closes-self-inside.ensures ∙ ended_more inside.issued.items c.args.command (not_ended inside.issued.items fits));
    }
