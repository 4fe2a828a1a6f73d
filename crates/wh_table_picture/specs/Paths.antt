-- The rows that a run takes on the way to a broken promise.
use Rattle.std.specs.Prelude.{ℕ, ◌+◌, List, [], ◌∷◌, ◌++◌, codes, decimal, option_to_list}
use Rattle.wh_tester.specs.Report.{shown}
use Rattle.wh_row_rules.specs.declared.promises.WayStep.{WayStep}
use Rattle.wh_row_rules.specs.declared.promises.PromiseVerdict.TheVariants as verdicts
use Rattle.wh_row_rules.specs.declared.promises.PhraseFinding.{PhraseFinding}
use Rattle.wh_row_rules.specs.declared.promises.PhraseFinding.TheVariants as outcomes
use Rattle.wh_row_rules.specs.declared.promises.PromiseFinding.{PromiseFinding}
use Rattle.wh_row_rules.specs.declared.promises.PromiseFindings.{PromiseFindings}
use Rattle.wh_row_rules.specs.declared.promises.PromiseFindings.TheVariants as found
use Rattle.wh_table_picture.specs.declared.paths.RowPath.{RowPath}

-- the rows that a path takes
abbrev pub rows_of : List WayStep → List ℕ
rows_of [] = []
rows_of (step ∷ way) = option_to_list step.row ++ rows_of way

-- which promise it breaks
abbrev pub promise_text : ℕ → List ℕ → List ℕ
promise_text number phrase = codes "promise " ++ (decimal number ++ (codes ", " ++ shown phrase))

-- the rows of the path that breaks a promise, if it is broken
abbrev pub path_of : ℕ → List ℕ → PhraseFinding → List RowPath
path_of number phrase (outcomes.Decided (verdicts.Broken breach)) =
    record { text = promise_text number phrase; rows = rows_of breach.way.items } ∷ []
path_of number phrase _ = []

-- those of promises, of which the first has this number
abbrev pub paths_from : ℕ → List PromiseFinding → List RowPath
paths_from number [] = []
paths_from number (finding ∷ list) = path_of number finding.phrase finding.outcome ++ paths_from (number + 1) list

-- those of a table's promises
abbrev pub paths_of : PromiseFindings → List RowPath
paths_of (found.Each list) = paths_from 1 list
paths_of _ = []
