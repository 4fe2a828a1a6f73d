use Rattle.std.proofs.Common.{◌≡◌, Some, sym, ap, ◌∙◌}
use Rattle.wh_machines.specs.Private.Changes.{with_effect}
use Rattle.wh_machines.specs.Private.Tables.{key_of, entry_at}
use Rattle.wh_machines.proofs.Keys.{change_sound, change_found, value_written, others_kept, marked-number}
use Rattle.wh_machines.proofs.openings.Openings.mark.Goals as goal
use Rattle.slab.specs.Slab as slab

pub returns-in-Some-get_mut : goal.returns-in-Some-get_mut
returns-in-Some-get_mut c =
    let old = c.args.self.now in
    let key = c.in-Some.key in
    let before = c.in-Some-get_mut.opening.now in
    let after = c.mark.new.self in
    let effect = c.args.effect in
    let there : key_of old c.args.number ≡ Some key = sym c.get.ensures.value ∙ sym c.copied.ensures ∙ c.in-Some.is in
    let was : slab.get old.entries key ≡ Some before = sym c.in-Some-get_mut.ensures.value in
    let numbered : after.number ≡ before.number = ap (λ o. o.number) c.mark.ensures ∙ marked-number effect c.args.by before in
    let new = slab.get (slab.with_value old.entries key after) in
    let written = value_written old.entries key before after was in
    let others = others_kept old.entries key before after was in
    record {
      sound = change_sound (key_of old) (entry_at old) c.requires new c.args.number key before after there was numbered written others;
      marked = change_found (key_of old) (entry_at old) c.requires new c.args.number key before after there was numbered written others (with_effect effect c.args.by) c.mark.ensures;
    }
