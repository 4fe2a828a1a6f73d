use Rattle.std.proofs.Common.{◌≡◌, take}
use Rattle.std.specs.Prelude.{string_bytes}
use Rattle.std.specs.List.{flat_map}
use Rattle.wh_table_check.specs.Texts.{checked_as}
use Rattle.wh_table_check.proofs.report.all_as.Given as goal

-- the files so far
abbrev pub invariant-loop-own : goal.invariant-loop-own
invariant-loop-own l = string_bytes l.text ≡ flat_map (checked_as l.format) (take l.own-index l.files)
