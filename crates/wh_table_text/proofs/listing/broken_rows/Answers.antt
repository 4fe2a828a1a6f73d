use Rattle.std.proofs.Common.{ap, sym, ◌∙◌, ◌+◌, ◌++◌, drop}
use Rattle.wh_table_text.specs.Numbered.{numbered}
use Rattle.wh_table_text.specs.Faults.{breaks}
use Rattle.wh_table_text.proofs.Places.{numbered_on, numbered_all}
use Rattle.wh_table_text.proofs.listing.broken_rows.Goals as goal

pub loop-place-preserved : goal.loop-place-preserved
loop-place-preserved c =
    let i = c.loop-place.place in
    let rest = numbered (breaks c.args.table.now) (i + 1) (drop (i + 1) c.args.rows.now) in
    ap (λ items. items ++ rest) (c.in_ok-add.ensures ∙ ap (λ own. c.loop-place.faults.items ++ own) c.broken_row.ensures)
    ∙ sym (numbered_on (breaks c.args.table.now) c.loop-place.faults.items c.args.rows.now i c.index-rows-place.result
    c.loop-place-test.true c.index-rows-place.is)
    ∙ c.loop-place.invariant

pub returns : goal.returns
returns c =
    sym (numbered_all (breaks c.args.table.now) c.loop-place.faults.items c.args.rows.now c.loop-place.place c.loop-place-test.false)
    ∙ c.loop-place.invariant
