use Rattle.std.proofs.Common.{◌≡◌, ◌++◌, ◌+◌, drop}
use Rattle.std.specs.Prelude.{string_bytes}
use Rattle.wh_table_check.specs.PromiseTexts.{each_text}
use Rattle.wh_table_check.proofs.promise_texts.each_text.Given as goal

-- the lines so far and those of the rest are all
abbrev pub invariant-loop-index : goal.invariant-loop-index
invariant-loop-index l =
    string_bytes l.text ++ each_text l.name (l.index + 1) (drop l.index l.list) ≡ each_text l.name 1 l.list
