use Rattle.std.specs.List.{flat_map}
use Rattle.std.specs.Fmt.{HasWritten, IsPlainFormatter}
use Rattle.wh_view_json.specs.Texts.{json_char}
use Rattle.wh_view_json.proofs.texts.write_json_text.Given as goal

-- the characters so far have been written
abbrev pub invariant-loop-c : goal.invariant-loop-c
invariant-loop-c g l =
    IsPlainFormatter l.initial.f → HasWritten g.W.Write.write_str_gives l.initial.f (flat_map json_char l.yielded) l.f
