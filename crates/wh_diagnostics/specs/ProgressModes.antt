-- How progress is shown.
use Rattle.std.specs.Prelude.{◌||◌, ℕ, List, Bool, true, false, Option, Some, None, codes, eqb}
use Rattle.std.specs.List.{starts_with}
use Rattle.wh_diagnostics.specs.declared.progress_modes.ProgressMode.{ProgressMode}
use Rattle.wh_diagnostics.specs.declared.progress_modes.ProgressMode.TheVariants.{Hidden, Lines, InPlace}

-- in place on a terminal, and elsewhere in lines if it is asked for
abbrev pub mode_of : (terminal asked : Bool) → ProgressMode
mode_of true asked = InPlace
mode_of false true = Lines
mode_of false false = Hidden

-- the paths at which a system has its terminals
abbrev pub is_terminal_path : List ℕ → Bool
is_terminal_path path = starts_with eqb path (codes "/dev/pts/") || starts_with eqb path (codes "/dev/tty")

-- the link of the standard error leads to a terminal
abbrev pub is_terminal : Option (List ℕ) → Bool
is_terminal None = false
is_terminal (Some path) = is_terminal_path path

-- how progress is shown, by the link of the standard error, if there is one
abbrev pub mode_by : (link : Option (List ℕ)) → (asked : Bool) → ProgressMode
mode_by link asked = mode_of (is_terminal link) asked
