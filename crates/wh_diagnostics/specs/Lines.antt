-- What the words of a command line call the program, and why they give no plan.
use Rattle.std.specs.Path.{path_file_name}
use Rattle.std.specs.Prelude.{ℕ, List, [], ◌∷◌, codes, unwrap_or}
use Rattle.wh_command_line.specs.Plans.{HasFewSlots, IsBadLine}
use Rattle.wh_diagnostics.specs.declared.failures.Failure.{Failure}
use Rattle.wh_diagnostics.specs.declared.failures.Failure.TheVariants.{BadLine, FewSlots, OutOfMemory}

-- what a program at a path is called: the last part of the path, or `wfhost` if there is none
abbrev pub name_of : List ℕ → List ℕ
name_of path = unwrap_or (path_file_name path) (codes "wfhost")

-- what the program is called by its words: by the first of them, if there is one
abbrev pub called : List (List ℕ) → List ℕ
called [] = codes "wfhost"
called (word ∷ words) = name_of word

-- why there is no plan of these words: they are invalid, ask for fewer slots than workers, or there was no memory
abbrev pub IsRefusedLine : List (List ℕ) → Failure → Type 0
IsRefusedLine words (BadLine text) = IsBadLine words
IsRefusedLine words FewSlots = HasFewSlots words
IsRefusedLine words OutOfMemory = Unit {0}
IsRefusedLine words _ = ⊥
