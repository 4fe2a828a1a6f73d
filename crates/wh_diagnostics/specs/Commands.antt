-- Programs that have only some of the commands.
use Rattle.std.specs.Prelude.{◌≡◌, ◌++◌, ℕ, List, codes}
use Rattle.wh_console.specs.Consoles.{ConsoleView, Reported}
use Rattle.wh_diagnostics.specs.Diagnostics.{named_line}

-- `<name>: this program has only <commands>`
abbrev pub lacking_text : (commands : List ℕ) → List ℕ → List ℕ
lacking_text commands name = named_line (codes "this program has only " ++ commands) name

-- that the program has only these commands was reported, and the status is 2
pub record HasLacked (commands : List ℕ) (old new : ConsoleView) (status : ℕ) : Type 0 where
  pub reported : Reported old new (lacking_text commands)
  pub ends : status ≡ 2
