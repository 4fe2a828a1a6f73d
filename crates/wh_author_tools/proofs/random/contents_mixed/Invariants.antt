use Rattle.std.proofs.Common.{◌≡◌, drop}
use Rattle.wh_author_tools.specs.Sources.{contents_mixed}
use Rattle.wh_author_tools.proofs.random.contents_mixed.Given as goal

-- the rest, mixed into what has been mixed, is all
abbrev pub invariant-loop-payload : goal.invariant-loop-payload
invariant-loop-payload l = contents_mixed l.hash (drop l.payload-index l.input) ≡ contents_mixed l.before l.input
