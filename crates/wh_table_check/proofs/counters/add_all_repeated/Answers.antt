use Rattle.std.proofs.Common.{ap, sym, ◌∙◌, ◌+◌, ◌++◌, drop}
use Rattle.wh_table_text.specs.Numbered.{numbered}
use Rattle.wh_table_text.proofs.Places.{numbered_on, numbered_all}
use Rattle.wh_table_check.specs.Counters.{repeated}
use Rattle.wh_table_check.proofs.counters.add_all_repeated.Goals as goal

pub loop-place-preserved : goal.loop-place-preserved
loop-place-preserved c =
    let i = c.loop-place.place in
    let part = repeated c.args.phrases.now in
    ap (λ items. items ++ numbered part (i + 1) (drop (i + 1) c.args.phrases.now)) c.in_ok-add_repeated.ensures
    ∙ sym (numbered_on part c.loop-place.found.items c.args.phrases.now i c.index-phrases-place.result
    c.loop-place-test.true c.index-phrases-place.is)
    ∙ c.loop-place.invariant

pub returns : goal.returns
returns c =
    sym (numbered_all (repeated c.args.phrases.now) c.loop-place.found.items c.args.phrases.now c.loop-place.place
    c.loop-place-test.false)
    ∙ c.loop-place.invariant
