use Rattle.std.proofs.Common.{List, ◌++◌, drop}
use Rattle.wh_row_rules.specs.Broken.{definition}
use Rattle.wh_row_rules.specs.declared.promises.PromiseFinding.{PromiseFinding}
use Rattle.wh_promise_check.specs.Findings.{AreFound}
use Rattle.wh_promise_check.proofs.findings.findings_of.Given as goal

-- what is found so far, with what is found of the rest, is what is found of all
abbrev pub invariant-loop-phrase : goal.invariant-loop-phrase
invariant-loop-phrase l =
    (more : List PromiseFinding) → AreFound (definition l.table) (drop l.phrase-index l.phrases) more
    → AreFound (definition l.table) l.phrases (l.list.items ++ more)
