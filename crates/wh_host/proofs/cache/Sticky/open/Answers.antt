use Rattle.std.proofs.Common.{refl, arith}
use Rattle.wh_host.proofs.Runs.{none_alike}
use Rattle.wh_host.proofs.cache.Sticky.open.Goals as goal

pub invariant_of-result : goal.invariant_of-result
invariant_of-result g c =
    rw c.in_ok-new.ensures
    (let e = c.saturating_add-places.ensures in let most = c.requires.capacity in omega (arith, e, most), refl, record { fits = (omega arith, λ some. omega arith); distinct = none_alike; replayed = tt; capacity = c.requires.capacity; bound = c.requires.events })
