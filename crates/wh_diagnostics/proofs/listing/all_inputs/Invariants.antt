use Rattle.std.proofs.Common.{◌∷◌}
use Rattle.wh_diagnostics.specs.Listings.{AreListed}
use Rattle.wh_diagnostics.proofs.listing.all_inputs.Given as goal

-- the inputs so far are those of the paths so far
abbrev pub invariant-loop-path : goal.invariant-loop-path
invariant-loop-path g l = AreListed l.by_path (l.fn.first ∷ l.yielded) l.inputs.items l.left_out l.fn.console l.console
