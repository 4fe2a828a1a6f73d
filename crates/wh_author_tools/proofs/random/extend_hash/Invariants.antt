use Rattle.std.proofs.Common.{◌≡◌, drop}
use Rattle.wh_author_tools.specs.Sources.{mixed}
use Rattle.wh_author_tools.proofs.random.extend_hash.Given as goal

-- the rest, mixed into what has been mixed, is all
abbrev pub invariant-loop-byte : goal.invariant-loop-byte
invariant-loop-byte l = mixed l.hash (drop l.byte-index l.bytes) ≡ mixed l.before l.bytes
