-- What `explain --recorded` shows of paths.
use Rattle.std.specs.Prelude.{◌≡◌, ◌⊎◌, ℕ, List, [], ◌∷◌, Bool, true, false, codes, Option, Some, None, if◌then◌else◌}
use Rattle.wh_console.specs.Consoles.{ConsoleView}
use Rattle.wh_console.specs.declared.files.Input.{Input}
use Rattle.wh_console.specs.declared.files.Origin.{Origin}
use Rattle.wh_console.specs.declared.files.Origin.TheVariants.{Entry}
use Rattle.wh_console.specs.declared.format.Format.{Format}
use Rattle.wh_console.specs.declared.selection.Selection.{Selection}
use Rattle.wh_diagnostics.specs.Failures.{IsReadFailure}
use Rattle.wh_diagnostics.specs.Printing.{IsRefused}
use Rattle.wh_diagnostics.specs.Readings.{Gives, IsReadAs}
use Rattle.wh_diagnostics.specs.Walks.{HasBrokenOff, HasWalked}
use Rattle.wh_diagnostics.specs.declared.failures.Failure.{Failure}
use Rattle.wh_diagnostics.specs.declared.failures.Failure.TheVariants.{BadLine, OutOfMemory}
use Rattle.wh_file_commands.specs.Overviews.{overviews}
use Rattle.wh_file_commands.specs.Refusals.{IsUnshown}
use Rattle.wh_file_commands.specs.Views.{HasViewed}
use Rattle.wh_file_faults.specs.Faults.{File}

-- the origin is a file of a folder
abbrev pub is_entry : Origin → Bool
is_entry (Entry dir name) = true
is_entry _ = false

-- the input of the only path, if that is no folder: there is none where files are called by their paths
abbrev pub only_input : (by_path : Bool) → List Input → Option Input
only_input true inputs = None
only_input false [] = None
only_input false (input ∷ []) = if is_entry input.origin then None else Some input
only_input false (input ∷ other ∷ more) = None

-- why the history in an input was not shown: it can't be read, or it was, and what it holds is not shown
abbrev pub HasNotShownInput : Gives → Input → (old new : ConsoleView) → Failure → Type 0
HasNotShownInput gives input old new failure =
    IsRefused old new failure
    × (IsReadFailure failure ⊎ ((file : File) × IsReadAs gives input file × IsUnshown file failure))

-- why tasks can't be selected in an overview, in the words of the command line; or there was no memory to say it
abbrev pub IsBadSelection : Failure → Type 0
IsBadSelection failure =
    (failure ≡ BadLine (codes "error: --all, --around and --last take one file\n")) ⊎ (failure ≡ OutOfMemory)

-- why there is no overview: tasks are selected, and the console is as it was; or none are, and it broke off
abbrev pub HasNotShownAll : Gives → Option Selection → Format → List Input → (old new : ConsoleView) → Failure → Type 0
HasNotShownAll gives (Some selection) format inputs old new failure = (new ≡ old) × IsBadSelection failure
HasNotShownAll gives None format inputs old new failure = HasBrokenOff (overviews format) gives inputs old new failure

-- what was shown of inputs: the history in the one of the only path, if that is no folder, with the tasks that are
-- selected, or else all; and otherwise an overview, where no tasks are selected
abbrev pub HasShown : Gives → (by_path : Bool) → Option Selection → Format → List Input → (left_out : Bool)
    → (old new : ConsoleView) → (status : ℕ) → Type 0
HasShown gives by_path selection format inputs left_out old new status =
    ((input : Input) × (only_input by_path inputs ≡ Some input)
    × ((file : File) × IsReadAs gives input file × HasViewed selection format file old new status))
    ⊎ ((only_input by_path inputs ≡ None)
    × ((selection ≡ None) × HasWalked (overviews format) gives inputs left_out old new status))

-- why inputs were not shown in full, and what is left
abbrev pub HasNotShown : Gives → (by_path : Bool) → Option Selection → Format → List Input → (old new : ConsoleView)
    → Failure → Type 0
HasNotShown gives by_path selection format inputs old new failure =
    ((input : Input) × (only_input by_path inputs ≡ Some input) × HasNotShownInput gives input old new failure)
    ⊎ ((only_input by_path inputs ≡ None) × HasNotShownAll gives selection format inputs old new failure)
