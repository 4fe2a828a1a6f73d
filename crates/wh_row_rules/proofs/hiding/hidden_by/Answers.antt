use Rattle.std.proofs.Common.{◌<◌, ap, sym, ◌∙◌, arith}
use Rattle.std.specs.Prelude.{option_map}
use Rattle.wh_row_rules.specs.Broken.{broken_rule}
use Rattle.wh_row_rules.proofs.Breaking.{hides_not, hides_one, hides_none, below_both}
use Rattle.wh_row_rules.proofs.hiding.hidden_by.Goals as goal

pub loop-index-preserved : goal.loop-index-preserved
loop-index-preserved c =
    let below : c.loop-index.index < c.args.before = below_both _ _ c.loop-index.invariant.before c.if-index-before.false in
    record {
      before = omega (arith, below);
      none =
          sym (hides_not c.args.rows.now c.args.before c.loop-index.index c.index-rows-index.result c.args.row.now below c.loop-index-test.true
          c.index-rows-index.is (sym c.hides.ensures ∙ c.if-hides.false))
          ∙ c.loop-index.invariant.none;
    }

pub returns-then-hides : goal.returns-then-hides
returns-then-hides c =
    let below : c.loop-index.index < c.args.before = below_both _ _ c.loop-index.invariant.before c.if-index-before.false in
    ap (option_map broken_rule)
    (sym (hides_one c.args.rows.now c.args.before c.loop-index.index c.index-rows-index.result c.args.row.now below c.loop-index-test.true
    c.index-rows-index.is (sym c.hides.ensures ∙ c.if-hides.true))
    ∙ c.loop-index.invariant.none)

pub returns : goal.returns
returns c =
    ap (option_map broken_rule)
    (sym (hides_none c.args.rows.now _ _ c.loop-index.index c.args.row.now c.loop-index-test.false) ∙ c.loop-index.invariant.none)
