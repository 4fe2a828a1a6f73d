-- Where counts are kept, and what is in the way of that.
use Rattle.std.specs.Prelude.{◌≡◌, ◌⊎◌, ℕ, List, ◌++◌, codes, Option, Some, None}
use Rattle.wh_console.specs.Reasons.{reason_words}
use Rattle.wh_console.specs.declared.files.FolderFault.{FolderFault}
use Rattle.wh_console.specs.declared.files.FolderFault.TheVariants.{Unreadable, OutOfMemory}
use Rattle.wh_console.specs.declared.files.Reason.{Reason}
use Rattle.wh_console.specs.declared.files.Reason.TheVariants as reasons
use Rattle.wh_work.specs.declared.metrics_file.ReplaceFault.{ReplaceFault}
use Rattle.wh_work.specs.declared.metrics_file.ReplaceFault.TheVariants.{Obstructed, Unwritten}
use Rattle.wh_work.specs.declared.metrics_path.Obstacle.{Obstacle}
use Rattle.wh_work.specs.declared.metrics_path.Obstacle.TheVariants.{Link, Folder, NoFile}

abbrev pub obstacle_words : Obstacle → List ℕ
obstacle_words Link = codes "is a link"
obstacle_words Folder = codes "is a folder"
obstacle_words NoFile = codes "is no file"

-- why a file can't be written, for a reason: that of a file that can't be read, or that the system reports another error
abbrev pub unwritten_for : Reason → List ℕ
unwritten_for reasons.Other = codes "the system can't write it"
unwritten_for reason = reason_words reason

abbrev pub unwritten_words : FolderFault → List ℕ
unwritten_words (Unreadable reason) = unwritten_for reason
unwritten_words OutOfMemory = codes "out of memory"

abbrev pub replace_words : ReplaceFault → List ℕ
replace_words (Obstructed obstacle) = obstacle_words obstacle
replace_words (Unwritten fault) = unwritten_words fault

-- the path at which a file is written before it replaces that at another path
abbrev pub beside_text : (path : List ℕ) → List ℕ
beside_text path = path ++ codes ".tmp"

-- `error: --metrics: <path> <words of the obstacle>`
abbrev pub obstacle_text : (path : List ℕ) → Obstacle → List ℕ
obstacle_text path obstacle = codes "error: --metrics: " ++ (path ++ (codes " " ++ (obstacle_words obstacle ++ codes "\n")))

-- the text says that some obstacle is at a path
abbrev pub TellsObstacle : (path text : List ℕ) → Type 0
TellsObstacle path text = (obstacle : Obstacle) × (text ≡ obstacle_text path obstacle)

-- the text says that one is at a path, or beside it
abbrev pub TellsObstacleFor : (path text : List ℕ) → Type 0
TellsObstacleFor path text = TellsObstacle path text ⊎ TellsObstacle (beside_text path) text

-- the text says that one is at the path of a file of counts, or beside it, if there is such a file
abbrev pub IsMetricsText : Option (List ℕ) → (text : List ℕ) → Type 0
IsMetricsText None text = ⊥
IsMetricsText (Some path) text = TellsObstacleFor path text
