-- What is reported, four parts one after the other.
use Rattle.std.proofs.Common.{ℕ, List, ◌++◌}
use Rattle.std.proofs.KnownBytes.{Appends-trans}
use Rattle.std.specs.Prelude.{Option, Result, Ok, Err, OnOk}
use Rattle.std.specs.Io.KnownBytes.{Appends}

-- four parts that are reported one after the other
pub four_reported : {X E : Type 0} (answer : Result X E) (a b c d e : Option (List ℕ)) (ps qs rs ss : List ℕ)
    → Appends a b ps → Appends b c qs → Appends c d rs → OnOk answer (Appends d e ss) → OnOk answer (Appends a e (ps ++ (qs ++ (rs ++ ss))))
four_reported (Ok x) a b c d e ps qs rs ss p q r s =
    Appends-trans a b e ps (qs ++ (rs ++ ss)) p (Appends-trans b c e qs (rs ++ ss) q (Appends-trans c d e rs ss r s))
four_reported (Err x) a b c d e ps qs rs ss p q r s = tt
