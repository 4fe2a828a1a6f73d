use Rattle.std.proofs.Common.{◌≡◌, ◌≤◌, ◌++◌, length, reverse, vec_capacity}
use Rattle.std.specs.Prelude.{map}
use Rattle.wh_host.specs.Cache.{entry_of, held_by}
use Rattle.wh_host.proofs.cache.push_out.Given as goal

abbrev pub invariant-loop-turn : goal.invariant-loop-turn
invariant-loop-turn g l =
    (l.runs.entries ++ reverse (map entry_of l.gone.items) ≡ l.initial.runs.entries)
    × (length l.gone.items ≡ l._turn)
    × (l.count ≤ vec_capacity l.gone)
    × (l.runs.cap ≡ l.initial.runs.cap)
    × (l.held ≡ held_by l.runs.entries)
