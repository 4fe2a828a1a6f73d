use Rattle.std.proofs.Common.{[], sym, subst, append-nil, drop_of_length-le}
use Rattle.wh_row_rules.specs.Broken.{definition}
use Rattle.wh_promise_check.specs.Findings.{AreFound}
use Rattle.wh_promise_check.proofs.findings.findings_of.Goals as goal

pub returns : goal.returns
returns c =
    subst (λ list. AreFound (definition c.args.table.now) c.args.phrases.now list) (append-nil c.loop-phrase.list.items)
    (c.loop-phrase.invariant [] (subst (λ rest. AreFound (definition c.args.table.now) rest [])
    (sym (drop_of_length-le c.args.phrases.now c.loop-phrase-test.false)) tt))
