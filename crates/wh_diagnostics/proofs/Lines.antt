-- What is written, one part after the other.
use Rattle.std.proofs.Common.{ℕ, List, [], None, Some, sym}
use Rattle.std.specs.Prelude.{Option}
use Rattle.std.specs.Io.KnownBytes.{Appends}
use Rattle.std.proofs.lemmas.List.{append-nil}

pub nothing_added : (a : Option (List ℕ)) → Appends a a []
nothing_added None = tt
nothing_added (Some x) = sym (append-nil x)
