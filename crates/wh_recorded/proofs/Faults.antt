-- How one more answer changes the fault under a name, and the tasks that failed.
use Rattle.std.proofs.Common.{◌≡◌, ◌∙◌, ℕ, suc, ◌+◌, ◌||◌, Bool, true, false, List, [], ◌∷◌, ◌++◌, Option, Some, None, refl, sym, ap, append-nil, arith}
use Rattle.std.specs.Prelude.{Result, Ok, Err, OnOk, if◌then◌else◌}
use Rattle.std.specs.Option.{option_or}
use Rattle.std.specs.Result.{is_err}
use Rattle.std.proofs.lemmas.Grind.{flat_map-append}
use Rattle.wh_slots.specs.declared.TaskName.{TaskName}
use Rattle.wh_tasks.specs.declared.source.Sent.{Sent}
use Rattle.wh_tasks.specs.Numbers.{last_number}
use Rattle.wh_recorded.specs.declared.failed_task.FailedTask.{FailedTask}
use Rattle.wh_recorded.specs.Rounds.{Scripted, task_of, events_of, first_tasks, completes, is_completed, fault_by, fault_under, failed_as, failed_of}

-- what holds of a success, where there is no error
pub on_ok : {X E P : Type 0} (r : Result X E) → is_err r ≡ false → OnOk r P → P
on_ok (Ok x) none holds = holds
on_ok (Err e) none holds = let wrong : true ≡ false = none in cc

or_false : (b : Bool) → (b || false) ≡ b
or_false true = refl
or_false false = refl

any_later : (a b c : Bool) → (a || (b || c)) ≡ ((a || b) || c)
any_later true b c = refl
any_later false b c = refl

-- one more answer: a task is completed by it or by those before it
pub completed_pushed : (answers : List (TaskName × Sent)) (sent : TaskName × Sent) (name : TaskName) → is_completed (answers ++ (sent ∷ [])) name ≡ (is_completed answers name || completes name sent)
completed_pushed [] sent name = or_false (completes name sent)
completed_pushed (a ∷ rest) sent name =
    ap (λ b. completes name a || b) (completed_pushed rest sent name)
    ∙ any_later (completes name a) (is_completed rest name) (completes name sent)

or_none : {T : Type 0} (o : Option T) → option_or o None ≡ o
or_none None = refl
or_none (Some x) = refl

or_later : {T : Type 0} (a b c : Option T) → option_or (option_or a b) c ≡ option_or a (option_or b c)
or_later None b c = refl
or_later (Some x) b c = refl

-- one more answer: its fault, or else the last one before it
pub fault_pushed : (answers : List (TaskName × Sent)) (sent : TaskName × Sent) (name : TaskName) → fault_under (answers ++ (sent ∷ [])) name ≡ option_or (fault_by name sent) (fault_under answers name)
fault_pushed [] sent name = sym (or_none (fault_by name sent))
fault_pushed (a ∷ rest) sent name =
    ap (λ o. option_or o (fault_by name a)) (fault_pushed rest sent name)
    ∙ or_later (fault_by name sent) (fault_under rest name) (fault_by name a)

one_more : (answers : List (TaskName × Sent)) (history : Scripted) (n : ℕ) → failed_of answers (first_tasks history (n + 1)) ≡ failed_of answers (first_tasks history n) ++ failed_as answers (task_of history n)
one_more answers history n =
    let one : n + 1 ≡ suc n = omega arith in
    let before = failed_of answers (first_tasks history n) in
    ap (λ k. failed_of answers (first_tasks history k)) one
    ∙ flat_map-append (failed_as answers) (first_tasks history n) (task_of history n ∷ [])
    ∙ ap (λ l. before ++ l) (append-nil (failed_as answers (task_of history n)))

-- a completed task adds nothing
pub failed_same : (answers : List (TaskName × Sent)) (history : Scripted) (n : ℕ) → is_completed answers (task_of history n).name ≡ true → failed_of answers (first_tasks history (n + 1)) ≡ failed_of answers (first_tasks history n)
failed_same answers history n done =
    let before = failed_of answers (first_tasks history n) in
    let at = last_number (task_of history n).events in
    let fault = fault_under answers (task_of history n).name in
    let more : Bool → List FailedTask = λ b. if b then [] else (record { at = at; fault = fault } ∷ []) in
    one_more answers history n ∙ ap (λ b. before ++ more b) done ∙ append-nil before

-- another one comes after those before it
pub failed_push : (answers : List (TaskName × Sent)) (history : Scripted) (n : ℕ) → is_completed answers (task_of history n).name ≡ false → failed_of answers (first_tasks history (n + 1)) ≡ failed_of answers (first_tasks history n) ++ (record { at = last_number (events_of history.events n); fault = fault_under answers (task_of history n).name } ∷ [])
failed_push answers history n undone =
    let before = failed_of answers (first_tasks history n) in
    let at = last_number (task_of history n).events in
    let fault = fault_under answers (task_of history n).name in
    let more : Bool → List FailedTask = λ b. if b then [] else (record { at = at; fault = fault } ∷ []) in
    one_more answers history n ∙ ap (λ b. before ++ more b) undone
