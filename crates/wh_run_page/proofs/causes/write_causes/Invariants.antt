use Rattle.std.proofs.Common.{take}
use Rattle.std.specs.List.{flat_map}
use Rattle.std.specs.Fmt.{HasWritten, IsPlainFormatter}
use Rattle.wh_run_page.specs.Causes.{cause_words}
use Rattle.wh_run_page.proofs.causes.write_causes.Given as goal

-- the causes so far have been written
abbrev pub invariant-loop-failure : goal.invariant-loop-failure
invariant-loop-failure g l =
    IsPlainFormatter l.initial.f → HasWritten g.W.Write.write_str_gives l.initial.f (flat_map cause_words (take l.failure-index l.failures)) l.f
