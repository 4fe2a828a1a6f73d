-- Texts are written item by item.
use Rattle.std.proofs.Common.{◌≡◌, ◌≢◌, ◌∙◌, ℕ, ◌+◌, ◌-◌, ◌<◌, ◌≤◌, Bool, true, false, cond, zero, suc, List, [], ◌∷◌, ◌++◌, length, get_or, drop, add-one, refl, sym, ap, subst, append_assoc, append-nil, drop_of_length-le, arith, ne_eqb}
use Rattle.std.proofs.Math.Seq.{drop-cons}
use Rattle.std.proofs.KnownBytes.{Appends-trans}
use Rattle.std.specs.Io.KnownBytes.{Appends}
use Rattle.std.specs.List.{flat_map, filter}
use Rattle.std.specs.Prelude.{Option}
use Rattle.wh_workflow.specs.ActivationScripts.{Step}
use Rattle.wh_explain.specs.Numbers.{left_after, number_of}
use Rattle.wh_explained_tasks.specs.declared.ExplainedTask.{ExplainedTask}
use Rattle.wh_explain_report.specs.Texts.{steps_as, task_text}
use Rattle.wh_explain_report.specs.Alike.{alike_tasks}
use Rattle.wh_explain_report.specs.Sharing.{shares}
use Rattle.wh_explain_report.specs.Selections.{sharing}
use Rattle.wh_explain_report.specs.TaskTexts.{fold_line, folded_from, next_count, text_unless, unlike_text}

item_at : {A : Type 0} (xs : List A) (i : ℕ) (x : A) → i < length xs → x ≡ get_or xs i x → drop i xs ≡ x ∷ drop (i + 1) xs
item_at xs i x below is =
    let e : drop i xs ≡ get_or xs i x ∷ drop (i + 1) xs = rw (add-one, drop-cons xs i x) refl in
    e ∙ ap (λ y. y ∷ drop (i + 1) xs) (sym is)

-- what is written, and what is to be written from a place on, where the item there has this text
moved : (done text rest whole front : List ℕ) → front ≡ text ++ rest → done ++ front ≡ whole → (done ++ text) ++ rest ≡ whole
moved done text rest whole front is all = append_assoc done text rest ∙ (ap (λ l. done ++ l) (sym is) ∙ all)

-- ---- steps

-- the steps before a place are written: with what is to be written of the rest it is the whole
abbrev pub AreWritten : (one : Option ℕ → Step → List ℕ) (steps : List Step) (i : ℕ) (left whole : List ℕ) (a b : Option (List ℕ)) → Type 0
AreWritten one steps i left whole a b = (done : List ℕ) × Appends a b done × (done ++ steps_as one left (drop i steps) ≡ whole)

-- one step more is written
pub step_written : (one : Option ℕ → Step → List ℕ) (steps : List Step) (i : ℕ) (step : Step) (left after : List ℕ) (number : Option ℕ) (whole : List ℕ) (a b c : Option (List ℕ))
    → i < length steps → step ≡ get_or steps i step
    → number ≡ number_of step.job left → after ≡ left_after step.job left
    → Appends b c (one number step)
    → AreWritten one steps i left whole a b
    → AreWritten one steps (i + 1) after whole a c
unfolding steps_as
step_written one steps i step left after number whole a b c below is from later own so_far =
    let done = so_far.0 in
    let text = one (number_of step.job left) step in
    let rest = steps_as one (left_after step.job left) (drop (i + 1) steps) in
    let written = subst (λ n. Appends b c (one n step)) from own in
    let all = moved done text rest whole (steps_as one left (drop i steps)) (ap (steps_as one left) (item_at steps i step below is)) so_far.2 in (
      done ++ text,
      Appends-trans a b c done text so_far.1 written,
      subst (λ l. (done ++ text) ++ steps_as one l (drop (i + 1) steps) ≡ whole) (sym later) all,
    )

-- and all are in the end
pub steps_written : (one : Option ℕ → Step → List ℕ) (steps : List Step) (i : ℕ) (left whole : List ℕ) (a b : Option (List ℕ))
    → length steps ≤ i → AreWritten one steps i left whole a b → Appends a b whole
unfolding steps_as
steps_written one steps i left whole a b past so_far =
    let same : so_far.0 ≡ whole = sym (append-nil so_far.0) ∙ (ap (λ rest. so_far.0 ++ steps_as one left rest) (sym (drop_of_length-le steps past)) ∙ so_far.2) in
    subst (Appends a b) same so_far.1

-- ---- tasks that share things with the task that has a fault

sharing_at : (fault : ExplainedTask) (tasks : List ExplainedTask) (i : ℕ) (task : ExplainedTask) → i < length tasks → task ≡ get_or tasks i task
    → sharing fault (drop i tasks) ≡ cond (shares fault task) (task ∷ sharing fault (drop (i + 1) tasks)) (sharing fault (drop (i + 1) tasks))
sharing_at fault tasks i task below is = ap (sharing fault) (item_at tasks i task below is)

-- one that is not about them
pub other_passed : (fault : ExplainedTask) (tasks : List ExplainedTask) (i : ℕ) (task : ExplainedTask) (left : ℕ) (done whole : List ℕ) → i < length tasks → task ≡ get_or tasks i task → shares fault task ≡ false
    → done ++ flat_map task_text (drop left (sharing fault (drop i tasks))) ≡ whole → done ++ flat_map task_text (drop left (sharing fault (drop (i + 1) tasks))) ≡ whole
other_passed fault tasks i task left done whole below is apart all =
    let e = sharing_at fault tasks i task below is ∙ ap (λ t. cond t (task ∷ sharing fault (drop (i + 1) tasks)) (sharing fault (drop (i + 1) tasks))) apart in
    ap (λ l. done ++ flat_map task_text (drop left l)) (sym e) ∙ all

own_at : (fault : ExplainedTask) (tasks : List ExplainedTask) (i : ℕ) (task : ExplainedTask) → i < length tasks → task ≡ get_or tasks i task → shares fault task ≡ true
    → sharing fault (drop i tasks) ≡ task ∷ sharing fault (drop (i + 1) tasks)
own_at fault tasks i task below is here =
    sharing_at fault tasks i task below is ∙ ap (λ t. cond t (task ∷ sharing fault (drop (i + 1) tasks)) (sharing fault (drop (i + 1) tasks))) here

-- one that is: it is left out, or written
pub one_passed : (fault : ExplainedTask) (tasks : List ExplainedTask) (i : ℕ) (task : ExplainedTask) (left : ℕ) (done whole : List ℕ) → i < length tasks → task ≡ get_or tasks i task → shares fault task ≡ true
    → done ++ flat_map task_text (drop left (sharing fault (drop i tasks))) ≡ whole → (done ++ text_unless left task) ++ flat_map task_text (drop (left - 1) (sharing fault (drop (i + 1) tasks))) ≡ whole
one_passed fault tasks i task zero done whole below is here all =
    moved done (task_text task) (flat_map task_text (sharing fault (drop (i + 1) tasks))) whole (flat_map task_text (sharing fault (drop i tasks))) (ap (flat_map task_text) (own_at fault tasks i task below is here)) all
one_passed fault tasks i task (suc left) done whole below is here all =
    let rest = sharing fault (drop (i + 1) tasks) in
    let e : suc left - 1 ≡ left = omega arith in
    let P : ℕ → Type 0 = λ n. (done ++ text_unless (suc left) task) ++ flat_map task_text (drop n rest) ≡ whole in
    let apart : suc left ≢ 0 = omega arith in
    let none : text_unless (suc left) task ≡ [] = ap (λ t. cond t (task_text task) []) (ne_eqb (suc left) 0 apart) in
    subst P (sym e)
    (ap (λ l. (done ++ l) ++ flat_map task_text (drop left rest)) none
    ∙ (ap (λ l. l ++ flat_map task_text (drop left rest)) (append-nil done)
    ∙ (ap (λ l. done ++ flat_map task_text (drop (suc left) l)) (sym (own_at fault tasks i task below is here)) ∙ all)))

pub tasks_written : (fault : ExplainedTask) (tasks : List ExplainedTask) (i left : ℕ) (done whole : List ℕ) → length tasks ≤ i → done ++ flat_map task_text (drop left (sharing fault (drop i tasks))) ≡ whole → done ≡ whole
tasks_written fault tasks i left done whole past all =
    sym (append-nil done) ∙ (ap (λ l. done ++ flat_map task_text l) (sym (none left)) ∙ (ap (λ rest. done ++ flat_map task_text (drop left (sharing fault rest))) (sym (drop_of_length-le tasks past)) ∙ all))
  where
    none : (n : ℕ) → drop n (sharing fault []) ≡ []
    none zero = refl
    none (suc n) = refl

-- ---- tasks that are folded

fold_at : (before : ExplainedTask) (count : ℕ) (tasks : List ExplainedTask) (i : ℕ) (task : ExplainedTask) → i < length tasks → task ≡ get_or tasks i task
    → folded_from before count (drop i tasks)
    ≡ cond (alike_tasks before task) (folded_from task (count + 1) (drop (i + 1) tasks)) (fold_line count before ++ (task_text task ++ folded_from task 0 (drop (i + 1) tasks)))
unfolding folded_from
fold_at before count tasks i task below is = ap (folded_from before count) (item_at tasks i task below is)

-- one more is folded, or written
pub fold_more : (before : ExplainedTask) (count : ℕ) (tasks : List ExplainedTask) (i : ℕ) (task : ExplainedTask) (done whole : List ℕ) → i < length tasks → task ≡ get_or tasks i task
    → done ++ folded_from before count (drop i tasks) ≡ whole
    → (done ++ unlike_text (alike_tasks before task) count before task) ++ folded_from task (next_count (alike_tasks before task) count) (drop (i + 1) tasks) ≡ whole
fold_more before count tasks i task done whole below is all =
    moved done (unlike_text (alike_tasks before task) count before task) (folded_from task (next_count (alike_tasks before task) count) rest) whole (folded_from before count (drop i tasks)) (fold_at before count tasks i task below is ∙ by (alike_tasks before task)) all
  where
    rest : List ExplainedTask
    rest = drop (i + 1) tasks

    by : (t : Bool) → cond t (folded_from task (count + 1) rest) (fold_line count before ++ (task_text task ++ folded_from task 0 rest)) ≡ unlike_text t count before task ++ folded_from task (next_count t count) rest
    by true = refl
    by false = sym (append_assoc (fold_line count before) (task_text task) (folded_from task 0 rest))

-- no more tasks are alike than there are
pub counts_below : (alike : Bool) (count i : ℕ) → count ≤ i → next_count alike count ≤ i + 1
counts_below true count i below = omega (arith, below)
counts_below false count i below = omega arith

pub folds_end : (before : ExplainedTask) (count : ℕ) (tasks : List ExplainedTask) (i : ℕ) (done whole : List ℕ) → length tasks ≤ i → done ++ folded_from before count (drop i tasks) ≡ whole → done ++ fold_line count before ≡ whole
unfolding folded_from
folds_end before count tasks i done whole past all = ap (λ rest. done ++ folded_from before count rest) (sym (drop_of_length-le tasks past)) ∙ all
