use Rattle.std.proofs.Common.{ap, sym, ◌∙◌, ◌+◌, ◌++◌, drop}
use Rattle.wh_table_text.specs.Numbered.{numbered}
use Rattle.wh_table_text.proofs.Places.{numbered_on, numbered_all}
use Rattle.wh_table_check.specs.Warnings.{row_warnings}
use Rattle.wh_table_check.proofs.warning.add_rows.Goals as goal

pub loop-place-preserved : goal.loop-place-preserved
loop-place-preserved c =
    let i = c.loop-place.place in
    let part = row_warnings c.args.naming.now c.args.rows.now in
    ap (λ items. items ++ numbered part (i + 1) (drop (i + 1) c.args.rows.now)) c.in_ok-add_row.ensures
    ∙ sym (numbered_on part c.loop-place.found.items c.args.rows.now i c.index-rows-place.result c.loop-place-test.true
    c.index-rows-place.is)
    ∙ c.loop-place.invariant

pub returns : goal.returns
returns c =
    sym (numbered_all (row_warnings c.args.naming.now c.args.rows.now) c.loop-place.found.items c.args.rows.now
    c.loop-place.place c.loop-place-test.false)
    ∙ c.loop-place.invariant
