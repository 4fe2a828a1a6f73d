-- Rows and failed tasks of files, one by one.
use Rattle.std.proofs.Common.{◌≡◌, ◌∙◌, ℕ, suc, ◌+◌, ◌<◌, List, [], ◌∷◌, ◌++◌, length, map, refl, sym, ap, arith}
use Rattle.std.specs.Prelude.{◌%◌, get_or}
use Rattle.std.proofs.lemmas.List.{append-nil, append_assoc, get_or-map, length-map, map-append}
use Rattle.std.proofs.Math.Nat.{mod-lt}
use Rattle.wh_recorded.specs.Rounds.{Stage}
use Rattle.wh_service.specs.declared.assignment.AssignedFile.{AssignedFile}
use Rattle.wh_recorded.specs.declared.failed_task.FailedTask.{FailedTask}
use Rattle.wh_service.specs.declared.rows.FileRow.{FileRow}
use Rattle.wh_service.specs.declared.failures.FileFailure.{FileFailure}
use Rattle.wh_service.specs.Assignment.{no_source, source_at}
use Rattle.wh_service.specs.Rows.{row_from, rows_from, failures_in, failures_of, failures_from}

pub rows_length : (sources : List Stage) (before : ℕ) (files : List AssignedFile) → length (rows_from sources before files) ≡ length files
rows_length sources before [] = refl
rows_length sources before (f ∷ fs) = ap suc (rows_length sources (before + 1) fs)

more_rows : (sources : List Stage) (before : ℕ) (files : List AssignedFile) (file : AssignedFile) → rows_from sources before (files ++ (file ∷ [])) ≡ rows_from sources before files ++ (row_from (source_at sources (before + length files)) file ∷ [])
more_rows sources before [] file = let none : before ≡ before + 0 = omega arith in ap (λ n. row_from (source_at sources n) file ∷ []) none
more_rows sources before (f ∷ fs) file =
    let one : before + 1 + length fs ≡ before + length (f ∷ fs) = omega arith in
    ap (λ l. row_from (source_at sources before) f ∷ l) (more_rows sources (before + 1) fs file ∙ ap (λ n. rows_from sources (before + 1) fs ++ (row_from (source_at sources n) file ∷ [])) one)

-- the source of the worker whose turn it is
own_source : {W : Type 0} (source : W → Stage) (workers : List W) (files : List AssignedFile) (rows : List FileRow) (worker : W)
    → rows ≡ rows_from (map source workers) 0 files → 0 < length workers → worker ≡ get_or workers (length rows % length workers) worker
    → source_at (map source workers) (0 + length files) ≡ source worker
own_source source workers files rows worker is some at =
    let all = map source workers in
    let long : length rows ≡ length files = ap length is ∙ rows_length all 0 files in
    let turn : 0 + length files ≡ length rows = omega (arith, long) in
    let place : (0 + length files) % length all ≡ length rows % length workers = ap (λ n. n % length all) turn ∙ ap (λ n. length rows % n) (length-map workers source) in
    ap (λ n. get_or all n no_source) place ∙ get_or-map source workers (length rows % length workers) worker no_source (mod-lt (length rows) some) ∙ ap source (sym at)

-- the row of one more file, by the source of the worker whose turn it is
pub rows_push : {W : Type 0} (source : W → Stage) (workers : List W) (files : List AssignedFile) (file : AssignedFile) (rows : List FileRow) (row : FileRow) (worker : W)
    → rows ≡ rows_from (map source workers) 0 files → 0 < length workers → worker ≡ get_or workers (length rows % length workers) worker → row ≡ row_from (source worker) file
    → rows ++ (row ∷ []) ≡ rows_from (map source workers) 0 (files ++ (file ∷ []))
rows_push source workers files file rows row worker is some at given =
    let all = map source workers in
    let own = own_source source workers files rows worker is some at in
    ap (λ l. l ++ (row ∷ [])) is ∙ ap (λ r. rows_from all 0 files ++ (r ∷ [])) (given ∙ ap (λ s. row_from s file) (sym own)) ∙ sym (more_rows all 0 files file)

-- one more failed task of a file
pub more_failures : (first : List FileFailure) (name : List ℕ) (tasks : List FailedTask) (task : FailedTask) → (first ++ failures_in name tasks) ++ (record { name = name; task = task } ∷ []) ≡ first ++ failures_in name (tasks ++ (task ∷ []))
more_failures first name tasks task =
    let failure : FailedTask → FileFailure = λ t. record { name = name; task = t } in
    append_assoc first (map failure tasks) (failure task ∷ []) ∙ ap (λ l. first ++ l) (sym (map-append failure tasks (task ∷ [])))

more_failed : (sources : List Stage) (before : ℕ) (files : List AssignedFile) (file : AssignedFile) → failures_from sources before (files ++ (file ∷ [])) ≡ failures_from sources before files ++ failures_of (source_at sources (before + length files)) file
more_failed sources before [] file =
    let none : before ≡ before + 0 = omega arith in
    append-nil (failures_of (source_at sources before) file) ∙ ap (λ n. failures_of (source_at sources n) file) none
more_failed sources before (f ∷ fs) file =
    let one : before + 1 + length fs ≡ before + length (f ∷ fs) = omega arith in
    let own : List FileFailure = failures_of (source_at sources before) f in
    ap (λ l. own ++ l) (more_failed sources (before + 1) fs file ∙ ap (λ n. failures_from sources (before + 1) fs ++ failures_of (source_at sources n) file) one)
    ∙ sym (append_assoc own (failures_from sources (before + 1) fs) (failures_of (source_at sources (before + length (f ∷ fs))) file))

-- the failed tasks of one more file, by the source of the worker whose turn it is
pub failures_push : {W : Type 0} (source : W → Stage) (workers : List W) (files : List AssignedFile) (file : AssignedFile) (rows : List FileRow) (failures more : List FileFailure) (worker : W)
    → rows ≡ rows_from (map source workers) 0 files → failures ≡ failures_from (map source workers) 0 files → 0 < length workers → worker ≡ get_or workers (length rows % length workers) worker
    → more ≡ failures ++ failures_of (source worker) file
    → more ≡ failures_from (map source workers) 0 (files ++ (file ∷ []))
failures_push source workers files file rows failures more worker is known some at given =
    let all = map source workers in
    let own = own_source source workers files rows worker is some at in
    given ∙ ap (λ l. l ++ failures_of (source worker) file) known ∙ ap (λ s. failures_from all 0 files ++ failures_of s file) (sym own) ∙ sym (more_failed all 0 files file)
