-- What is reported of a service beside its report.
use Rattle.std.specs.Prelude.{ℕ, List, [], ◌∷◌, ◌++◌, codes, Bool, false, not, Option, Some, None, if◌then◌else◌}
use Rattle.std.specs.List.{flat_map, list_any}
use Rattle.wh_diagnostics.specs.Diagnostics.{named_line}
use Rattle.wh_file_faults.specs.DetailTexts.{omitted_lines}
use Rattle.wh_service.specs.Repeats.{is_repeat, repeated_text, repeats}
use Rattle.wh_service.specs.declared.failures.FileFailure.{FileFailure}
use Rattle.wh_service.specs.declared.file_faults.FileFault.{FileFault}
use Rattle.wh_service.specs.declared.service.ServiceEnd.{ServiceEnd}
use Rattle.wh_tester.specs.UnknownTypes.{is_no_code}

-- the workflow type of a file with one of these faults is not registered
abbrev pub faults_lack_code : List FileFault → Bool
faults_lack_code faults = list_any (λ fault. is_no_code fault.line.verdict) faults

-- one line for each file that is not JSON, or whose workflow type is not registered
abbrev pub fault_lines : List FileFault → List ℕ → List ℕ
fault_lines faults name = flat_map (λ fault. omitted_lines fault.line fault.detail name) faults

-- a failed task repeats the one before it, if there is one
abbrev pub is_reported_before : Option FileFailure → FileFailure → Bool
is_reported_before None failure = false
is_reported_before (Some before) failure = is_repeat before failure

-- the line of a failed task and those after it that repeat it, unless it repeats the one before
abbrev pub failure_line : Option FileFailure → FileFailure → List FileFailure → List ℕ → List ℕ
failure_line before failure rest name =
    if is_reported_before before failure then [] else named_line (repeated_text failure (repeats failure rest)) name

-- a line for each failed task, after the one before, but for those that repeat one
abbrev pub failure_lines : Option FileFailure → List FileFailure → List ℕ → List ℕ
failure_lines before [] name = []
failure_lines before (failure ∷ rest) name =
    failure_line before failure rest name ++ failure_lines (Some failure) rest name

-- `<name>: <text>`, if there is reason for it
abbrev pub line_if : Bool → (text name : List ℕ) → List ℕ
line_if told text name = if told then named_line text name else []

-- what is reported of a service beside its report: the files that are not JSON, the failed tasks, a fault of a worker,
-- and whether a last task was not compared
abbrev pub service_lines : ServiceEnd → List ℕ → List ℕ
service_lines end name =
    fault_lines end.file_faults.items name ++ (failure_lines None end.failures.items name
    ++ (line_if (not end.faultless) (codes "a worker has a fault: a call of its source failed") name
    ++ line_if end.uncompared
    (codes "the last task of a recorded history is not compared with its record; replay does that") name))
