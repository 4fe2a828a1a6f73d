use Rattle.std.specs.List.{flat_map}
use Rattle.std.specs.Fmt.{HasWritten, IsPlainFormatter}
use Rattle.wh_tester.specs.Report.{shown_char}
use Rattle.wh_tester.specs.Json.{escaped}
use Rattle.wh_tester.proofs.json_report.write_escaped.Given as goal

-- the characters so far have been written
abbrev pub invariant-loop-c : goal.invariant-loop-c
invariant-loop-c g l =
    IsPlainFormatter l.initial.f → HasWritten g.W.Write.write_str_gives l.initial.f (escaped (flat_map shown_char l.yielded)) l.f
