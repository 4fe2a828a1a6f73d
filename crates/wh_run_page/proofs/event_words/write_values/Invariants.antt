use Rattle.std.proofs.Common.{take}
use Rattle.std.specs.List.{flat_map}
use Rattle.std.specs.Fmt.{HasWritten, IsPlainFormatter}
use Rattle.wh_run_page.specs.EventWords.{value_text}
use Rattle.wh_run_page.proofs.event_words.write_values.Given as goal

-- the values so far have been written
abbrev pub invariant-loop-value : goal.invariant-loop-value
invariant-loop-value g l =
    IsPlainFormatter l.initial.f → HasWritten g.W.Write.write_str_gives l.initial.f (flat_map value_text (take l.value-index l.values)) l.f
