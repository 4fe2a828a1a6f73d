use Rattle.std.proofs.Common.{ap, sym, ◌∙◌, ◌+◌, ◌++◌, drop}
use Rattle.std.specs.Prelude.{map}
use Rattle.serde_json.specs.View.{view}
use Rattle.wh_table_text.specs.Numbered.{numbered}
use Rattle.wh_table_text.proofs.Places.{seen_on, seen_all}
use Rattle.wh_table_picture.specs.Layout.{line_at}
use Rattle.wh_table_picture.proofs.layout.lines_with.Goals as goal

pub loop-place-preserved : goal.loop-place-preserved
loop-place-preserved c =
    let i = c.loop-place.place in
    let part = line_at c.args.rows.now c.args.firsts.now in
    ap (λ items. items ++ numbered part (i + 1) (map view (drop (i + 1) c.args.values.now)))
    (c.in_ok-add.ensures ∙ ap (λ own. c.loop-place.lines.items ++ own) c.in_ok-line.ensures)
    ∙ sym (seen_on view part c.loop-place.lines.items c.args.values.now i c.index-values-place.result c.loop-place-test.true
    c.index-values-place.is)
    ∙ c.loop-place.invariant

pub returns : goal.returns
returns c =
    sym (seen_all view (line_at c.args.rows.now c.args.firsts.now) c.loop-place.lines.items c.args.values.now c.loop-place.place c.loop-place-test.false)
    ∙ c.loop-place.invariant
