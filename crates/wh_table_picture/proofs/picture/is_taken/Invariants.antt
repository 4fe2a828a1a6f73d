use Rattle.std.proofs.Common.{◌≡◌, drop}
use Rattle.wh_table_picture.specs.Pictures.{is_taken}
use Rattle.wh_table_picture.proofs.picture.is_taken.Given as goal

-- none so far is
abbrev pub invariant-loop-path : goal.invariant-loop-path
invariant-loop-path l = is_taken (drop l.path-index l.paths) l.number ≡ is_taken l.paths l.number
