-- How often the sources of several workers have failed.
use Rattle.std.specs.List.{fold}
use Rattle.std.specs.Prelude.{List}
use Rattle.wh_notes.specs.Tallies.{no_failures, sum_of}
use Rattle.wh_notes.specs.declared.tallies.Tally.{Tally}

-- how often all of them together
abbrev pub tallies_of : List Tally → Tally
tallies_of tallies = fold sum_of no_failures tallies
