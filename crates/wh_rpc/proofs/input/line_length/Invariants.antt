use Rattle.std.proofs.Common.{◌≡◌, ◌++◌, drop, take}
use Rattle.std.specs.Io.BufRead.{take_through}
use Rattle.wh_rpc.specs.Private.Input.{has_end}
use Rattle.wh_rpc.proofs.input.line_length.Given as goal

-- none of the bytes so far ends the line
abbrev pub invariant-loop-byte : goal.invariant-loop-byte
invariant-loop-byte l = (l.count ≡ l.byte-index)
    × (take_through 10 l.bytes ≡ take l.byte-index l.bytes ++ take_through 10 (drop l.byte-index l.bytes))
    × (has_end l.bytes ≡ has_end (drop l.byte-index l.bytes))
