-- The end of the program's help.
use Rattle.std.specs.Prelude.{◌==◌, ℕ, List, ◌++◌, length, codes, if◌then◌else◌}

-- the exit statuses
abbrev pub statuses : List ℕ
statuses = codes "Status:\n  0  each file was read, and no task of it has a fault\n"
    ++ (codes "  1  the report names a file or a task that has one\n"
    ++ (codes "  2  there is no report; standard error says why\n"
    ++ codes "  3  replay --strict-values: values of files differ, and none has a fault"))

-- the exit statuses, and the registered workflow types, unless they are empty
abbrev pub help_ending : List ℕ → List ℕ
help_ending types =
    if length types == 0 then statuses else statuses ++ (codes "\n\nWorkflow types: " ++ types)
