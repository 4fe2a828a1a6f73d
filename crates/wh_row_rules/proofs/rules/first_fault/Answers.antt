use Rattle.std.proofs.Common.{ap, sym, ◌∙◌}
use Rattle.std.specs.Prelude.{option_map}
use Rattle.wh_row_rules.specs.Broken.{broken, definition}
use Rattle.wh_row_rules.proofs.Breaking.{row_breaks, row_keeps}
use Rattle.wh_row_rules.proofs.rules.first_fault.Goals as goal

pub returns-in-Some : goal.returns-in-Some
returns-in-Some c =
    sym (row_breaks (definition c.args.table.now) c.args.rows.now c.loop-index.index c.index-rows-index.result c.in-Some.rule
    c.loop-index-test.true c.index-rows-index.is (sym c.in-Some.ensures))
    ∙ ap (option_map broken) c.loop-index.invariant

pub loop-index-preserved : goal.loop-index-preserved
loop-index-preserved c =
    sym (row_keeps (definition c.args.table.now) c.args.rows.now c.loop-index.index c.index-rows-index.result
    c.loop-index-test.true c.index-rows-index.is (sym c.in_default.ensures))
    ∙ c.loop-index.invariant
