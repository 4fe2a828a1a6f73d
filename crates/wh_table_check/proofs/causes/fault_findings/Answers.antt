use Rattle.std.proofs.Common.{ap, sym, ◌∙◌, ◌+◌, ◌++◌, drop}
use Rattle.std.proofs.lemmas.List.{get_or_default}
use Rattle.std.specs.Prelude.{option_map}
use Rattle.serde_json.specs.View.{view}
use Rattle.wh_table_text.specs.Numbered.{numbered}
use Rattle.wh_table_text.proofs.Places.{numbered_on, numbered_all}
use Rattle.wh_table_check.specs.Causes.{finding_at_place}
use Rattle.wh_table_check.proofs.causes.fault_findings.Goals as goal

pub loop-place-preserved : goal.loop-place-preserved
loop-place-preserved c =
    let i = c.loop-place.place in
    let list = c.args.faults.now in
    let part = finding_at_place (option_map (λ v. view v.now) c.args.value) list in
    ap (λ items. items ++ numbered part (i + 1) (drop (i + 1) list)) c.in_ok-add_fault.ensures
    ∙ sym (numbered_on part c.loop-place.found.items list i _ c.loop-place-test.true
    (get_or_default list i _ _ c.loop-place-test.true))
    ∙ c.loop-place.invariant

pub returns : goal.returns
returns c =
    sym (numbered_all (finding_at_place (option_map (λ v. view v.now) c.args.value) c.args.faults.now)
    c.loop-place.found.items c.args.faults.now c.loop-place.place c.loop-place-test.false)
    ∙ c.loop-place.invariant
