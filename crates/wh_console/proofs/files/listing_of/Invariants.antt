use Rattle.std.specs.Prelude.{All}
use Rattle.wh_console.specs.Inputs.{IsCalled, IsOf}
use Rattle.wh_console.specs.Names.{IsBadName}
use Rattle.wh_console.proofs.files.listing_of.Given as goal

-- the inputs so far are called as they should be, and are files of the folder
abbrev pub invariant-loop-name : goal.invariant-loop-name
invariant-loop-name l =
    All (IsCalled l.by_path) l.inputs.items × All (λ input. IsOf l.dir input.origin) l.inputs.items
    × All IsBadName l.bad_names.items
