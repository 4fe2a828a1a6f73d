use Rattle.std.proofs.Common.{ap, sym, ◌∙◌, ◌+◌, ◌++◌, drop}
use Rattle.wh_table_text.specs.Numbered.{numbered}
use Rattle.wh_table_text.proofs.Places.{numbered_on, numbered_all}
use Rattle.wh_promise_phrases.specs.Phrases.{phrase_in}
use Rattle.wh_table_check.specs.Promised.{lacks_of, promise_lacks}
use Rattle.wh_table_check.proofs.promised.add_each.Goals as goal

pub loop-index-preserved : goal.loop-index-preserved
loop-index-preserved c =
    let i = c.loop-index.index in
    let rows = c.args.rows.now in
    let part = promise_lacks rows in
    ap (λ items. items ++ numbered part (i + 1) (drop (i + 1) c.args.list.now))
    (c.in_ok-add_phrase.ensures
    ∙ ap (λ phrase. c.loop-index.found.items ++ lacks_of rows (i + 1) (phrase_in phrase)) c.get.ensures)
    ∙ sym (numbered_on part c.loop-index.found.items c.args.list.now i c.index-list-index.result c.loop-index-test.true
    c.index-list-index.is)
    ∙ c.loop-index.invariant

pub returns : goal.returns
returns c =
    sym (numbered_all (promise_lacks c.args.rows.now) c.loop-index.found.items c.args.list.now c.loop-index.index
    c.loop-index-test.false)
    ∙ c.loop-index.invariant
