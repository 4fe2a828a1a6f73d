use Rattle.std.proofs.Common.{◌+◌, refl, sym, subst, arith, ◌∙◌}
use Rattle.std.specs.Prelude.{map}
use Rattle.std.proofs.lemmas.List.{take_all}
use Rattle.serde_json.specs.View.{view}
use Rattle.wh_view.specs.Each.{none}
use Rattle.wh_view.specs.Views.{AreEventsOf}
use Rattle.wh_view.proofs.Paired.{each_more}
use Rattle.wh_view.proofs.Following.{read_more, read_all}
use Rattle.wh_view.proofs.reading.events_of.Goals as goal

pub loop-index-init : goal.loop-index-init
loop-index-init c = (rw c.new-events.ensures.items (none 1), rw c.new-events.ensures.items refl)

pub loop-index-preserved : goal.loop-index-preserved
loop-index-preserved c =
    let i = c.loop-index.index in
    let members = c.args.members.now in
    let member = c.index-members-index.result in
    let events = c.loop-index.events.items in (
      each_more 1 i (i + 1) members member events _ c.in_ok-event.event c.loop-index-test.true c.index-members-index.is c.in_ok-push.ensures.items c.loop-index.invariant.0 (omega arith) c.in_ok-event.ensures.parts,
      rw c.number_of-before.ensures (read_more members i member c.loop-index.before c.in_ok-event.event events _ c.loop-index-test.true c.index-members-index.is c.in_ok-push.ensures.items c.in_ok-event.ensures.read ∙ c.loop-index.invariant.1),
    )

pub returns-clause-parts : goal.returns-clause-parts
returns-clause-parts c =
    subst (λ vs. AreEventsOf (map view vs) c.loop-index.events.items) (take_all c.loop-index.index c.args.members.now c.loop-index-test.false) c.loop-index.invariant.0

pub returns-clause-reads : goal.returns-clause-reads
returns-clause-reads c = sym (read_all c.args.members.now c.loop-index.index c.loop-index.before c.loop-index.events.items c.loop-index-test.false) ∙ c.loop-index.invariant.1
