use Rattle.std.proofs.Common.{List, ℕ, Option, Result, Ok, Err, ◌↔◌}
use Rattle.std.specs.Prelude.{IfOk, IsSome}
use Rattle.wh_events.specs.declared.memory.OutOfMemory.{OutOfMemory}
use Rattle.wh_file_page.specs.declared.way.Way.{Way}
use Rattle.wh_file_page.specs.Ways.{IsWayOf}
use Rattle.wh_file_page.specs.Brought.{BringsTable}
use Rattle.wh_file_page.proofs.Bringing.{way_where}
use Rattle.wh_file_page.proofs.following.way_of.Goals as goal

there : (bytes : List ℕ) (found : Result (Option Way) OutOfMemory) → IfOk found (IsWayOf bytes)
    → IfOk found (λ way. IsSome way ↔ BringsTable bytes)
there bytes (Ok way) is = way_where bytes way is
there bytes (Err fault) is = is

pub returns-clause-there : goal.returns-clause-there
returns-clause-there c bytes own = there bytes c.follow.result (c.follow.ensures bytes own)
