-- The lines of progress.
use Rattle.std.specs.Prelude.{◌==◌, ℕ, List, [], ◌∷◌, ◌++◌, length, codes, decimal, Bool, count_by, if◌then◌else◌}
use Rattle.wh_tester.specs.Report.{shown}
use Rattle.wh_diagnostics.specs.declared.progress.Progress.{Progress}
use Rattle.wh_diagnostics.specs.declared.progress_modes.ProgressMode.{ProgressMode}
use Rattle.wh_diagnostics.specs.declared.progress_modes.ProgressMode.TheVariants.{Hidden, Lines, InPlace}

-- the word for so many faults
abbrev pub fault_word : ℕ → List ℕ
fault_word faults = if faults == 1 then codes "fault" else codes "faults"

-- `<done> of <total> files, <faults> faults`
abbrev pub progress_words : Progress → List ℕ
progress_words progress =
    decimal progress.done ++ (codes " of " ++ (decimal progress.total ++ (codes " files, "
    ++ (decimal progress.faults ++ (codes " " ++ fault_word progress.faults)))))

-- what is written first of a line that is written over itself: a carriage return
abbrev pub line_start : List ℕ
line_start = 13 ∷ []

-- what erases the rest of a line on a terminal: `ESC [ K`
abbrev pub erasure : List ℕ
erasure = 27 ∷ codes "[K"

-- `<name>: <progress>`, as a line, or over the line that stands there
abbrev pub line_text : ProgressMode → Progress → List ℕ → List ℕ
line_text Hidden progress name = []
line_text Lines progress name = shown name ++ (codes ": " ++ (progress_words progress ++ codes "\n"))
line_text InPlace progress name = line_start ++ (shown name ++ (codes ": " ++ (progress_words progress ++ erasure)))

-- what is written last, if progress of all files has so many lines: in place, what erases a line
abbrev pub end_text : ProgressMode → (lines : ℕ) → List ℕ → List ℕ
end_text InPlace lines name = if lines == 0 then [] else line_start ++ erasure
end_text _ lines name = []

-- how far the work on so many files has come, where those that are done have a fault or not
abbrev pub progress_of : (total : ℕ) → (faulty : List Bool) → Progress
progress_of total faulty = record { done = length faulty; total = total; faults = count_by (λ own. own) faulty }
