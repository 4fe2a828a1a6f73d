use Rattle.std.proofs.Common.{ap, sym, ◌∙◌, ◌+◌, ◌++◌, drop}
use Rattle.std.specs.Prelude.{map, option_to_list}
use Rattle.serde_json.specs.View.{view}
use Rattle.wh_table_text.specs.Numbered.{numbered}
use Rattle.wh_table_text.specs.Faults.{unread}
use Rattle.wh_table_text.proofs.Places.{seen_on, seen_all}
use Rattle.wh_table_text.proofs.listing.row_faults.Goals as goal

pub loop-place-preserved : goal.loop-place-preserved
loop-place-preserved c =
    let i = c.loop-place.place in
    let rest = numbered (unread c.args.names.now) (i + 1) (map view (drop (i + 1) c.args.values.now)) in
    ap (λ items. items ++ rest) (c.in_ok-add.ensures ∙ ap (λ own. c.loop-place.faults.items ++ option_to_list own) c.in_ok-fault.ensures)
    ∙ sym (seen_on view (unread c.args.names.now) c.loop-place.faults.items c.args.values.now i c.index-values-place.result
    c.loop-place-test.true c.index-values-place.is)
    ∙ c.loop-place.invariant

pub returns : goal.returns
returns c =
    sym (seen_all view (unread c.args.names.now) c.loop-place.faults.items c.args.values.now c.loop-place.place c.loop-place-test.false)
    ∙ c.loop-place.invariant
