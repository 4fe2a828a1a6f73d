use Rattle.std.proofs.Common.{◌≡◌, ◌++◌, ◌+◌, drop}
use Rattle.std.specs.Prelude.{string_bytes}
use Rattle.wh_table_check.specs.PromiseTexts.{later_findings}
use Rattle.wh_table_check.proofs.promise_texts.later_findings.Given as goal

-- the objects so far and those of the rest are all
abbrev pub invariant-loop-index : goal.invariant-loop-index
invariant-loop-index l =
    string_bytes l.text ++ later_findings (l.index + 2) (drop l.index l.list) ≡ later_findings 2 l.list
