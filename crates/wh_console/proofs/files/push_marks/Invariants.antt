use Rattle.std.proofs.Common.{◌≡◌, ◌++◌}
use Rattle.std.specs.Prelude.{replicate, string_bytes}
use Rattle.wh_console.proofs.files.push_marks.Given as goal

-- as many marks as rounds stand after what was there
abbrev pub invariant-loop-mark : goal.invariant-loop-mark
invariant-loop-mark l = string_bytes l.shown ≡ string_bytes l.initial.shown ++ replicate l._mark 63
