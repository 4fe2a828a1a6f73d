-- The jobs that a pattern matches.
use Rattle.std.proofs.Common.{◌≡◌, ℕ, ℤ, Bool, true, false, not, ◌&&◌, ◌||◌, List, [], ◌∷◌, refl, sym, subst, ◌∙◌, inl, inr}
use Rattle.std.specs.Prelude.{nat_eq, bytes_eq, codes}
use Rattle.std.specs.Ordering.{int_eq}
use Rattle.std.proofs.lemmas.Bool.{both_ways, and_parts, or_cases, not-true, eq-eqb}
use Rattle.std.proofs.lemmas.Slice.Eq.{bytes_eq-Decides}
use Rattle.std.proofs.lemmas.Bool.Decides.{Decides-int_eq}
use Rattle.wh_workflow.specs.declared.job.Job.{Job}
use Rattle.wh_workflow.specs.declared.job.Job.TheVariants as jobs
use Rattle.wh_workflow.specs.declared.job.ActivityEnd.TheVariants as ends
use Rattle.wh_workflow.specs.declared.job.ChildEnd.TheVariants as child_ends
use Rattle.wh_rows.specs.declared.row.JobPattern.TheVariants as patterns
use Rattle.wh_rows.specs.declared.row.RowsState.{RowsState}
use Rattle.wh_rows.specs.Tables.{JobPattern}
use Rattle.wh_rows.specs.Rows.{is_for_job, named}
use Rattle.wh_rows.specs.Rules.{covers}
use Rattle.wh_rows.proofs.Hiding.{covered}
use Rattle.wh_rows.specs.Deciding.{number_of, text_of, texts_apart, versions_apart, apart, is_among}

same : (a b : List ℕ) → bytes_eq a b ≡ true → b ≡ a
same a b is = sym ((bytes_eq-Decides a b).0 is)

-- the number of the patterns that may match the job
abbrev job_number : Job → ℕ
job_number (jobs.Start _ _) = 1
job_number (jobs.Signal _ _) = 2
job_number jobs.CancelRequested = 3
job_number (jobs.Activity _ (ends.Completed _)) = 4
job_number (jobs.Activity _ _) = 5
job_number (jobs.TimerFired _) = 6
job_number (jobs.ChildStarted _) = 7
job_number (jobs.Child _ (child_ends.Completed _)) = 8
job_number (jobs.Child _ _) = 9
job_number (jobs.Version _ _) = 10
job_number _ = 0

-- and their text
abbrev job_text : Job → List ℕ
job_text (jobs.Signal name _) = name
job_text (jobs.Activity id _) = id
job_text (jobs.TimerFired id) = id
job_text (jobs.ChildStarted id) = id
job_text (jobs.Child id _) = id
job_text (jobs.Version id _) = id
job_text _ = []

-- what holds of a job that a pattern matches
abbrev Known : JobPattern → RowsState → Job → Type 0
Known one state job = (number_of one ≡ job_number job) × (named (text_of one) state ≡ job_text job)

known : (one : JobPattern) (state : RowsState) (job : Job) → is_for_job one state job ≡ true → Known one state job
unfolding named
known patterns.Start state (jobs.Start _ _) is = (refl, refl)
known patterns.CancelRequested state jobs.CancelRequested is = (refl, refl)
known (patterns.Signal wanted) state (jobs.Signal name _) is = (refl, same _ _ is)
known (patterns.Done wanted) state (jobs.Activity id (ends.Completed _)) is = (refl, same _ _ is)
known (patterns.NotDone wanted) state (jobs.Activity id ends.Failed) is = (refl, same _ _ is)
known (patterns.NotDone wanted) state (jobs.Activity id ends.TimedOut) is = (refl, same _ _ is)
known (patterns.NotDone wanted) state (jobs.Activity id ends.Canceled) is = (refl, same _ _ is)
known (patterns.Fired wanted) state (jobs.TimerFired id) is = (refl, same _ _ is)
known (patterns.ChildStarted wanted) state (jobs.ChildStarted id) is = (refl, same _ _ is)
known (patterns.ChildDone wanted) state (jobs.Child id (child_ends.Completed _)) is = (refl, same _ _ is)
known (patterns.ChildCanceled wanted) state (jobs.Child id child_ends.Canceled) is = (refl, same _ _ is)
known (patterns.ChildNotDone wanted) state (jobs.Child id child_ends.Canceled) is = (refl, same _ _ is)
known (patterns.ChildNotDone wanted) state (jobs.Child id child_ends.Failed) is = (refl, same _ _ is)
known (patterns.ChildNotDone wanted) state (jobs.Child id child_ends.TimedOut) is = (refl, same _ _ is)
known (patterns.ChildNotDone wanted) state (jobs.Child id child_ends.Terminated) is = (refl, same _ _ is)
known (patterns.ChildNotDone wanted) state (jobs.Child id child_ends.StartFailed) is = (refl, same _ _ is)
known (patterns.Version wanted number) state (jobs.Version id version) is = (refl, same _ _ (and_parts _ _ is).0)
known (patterns.AnyVersion wanted) state (jobs.Version id version) is = (refl, same _ _ is)
known _ state _ is = cc

plainly : (name : List ℕ) (state : RowsState) → bytes_eq name (codes "@") ≡ false → named name state ≡ name
unfolding named
plainly name state other = rw other refl

texts_both : (a b : List ℕ) (state : RowsState) → texts_apart a b ≡ true → named a state ≡ named b state → ⊥
texts_both a b state differ alike =
    let first : (not (bytes_eq a b) ≡ true) × ((not (bytes_eq a (codes "@")) && not (bytes_eq b (codes "@"))) ≡ true) =
    and_parts (not (bytes_eq a b)) (not (bytes_eq a (codes "@")) && not (bytes_eq b (codes "@"))) differ in
    let names : (not (bytes_eq a (codes "@")) ≡ true) × (not (bytes_eq b (codes "@")) ≡ true) =
    and_parts (not (bytes_eq a (codes "@"))) (not (bytes_eq b (codes "@"))) first.1 in
    both_ways (bytes_eq a b) (not-true (bytes_eq a b) first.0)
    ((bytes_eq-Decides a b).1
    (sym (plainly a state (not-true (bytes_eq a (codes "@")) names.0))
    ∙ alike ∙ plainly b state (not-true (bytes_eq b (codes "@")) names.1)))

versions_both : (one other : JobPattern) (state : RowsState) (job : Job) → versions_apart one other ≡ true
    → is_for_job one state job ≡ true → is_for_job other state job ≡ true → ⊥
versions_both (patterns.Version a m) (patterns.Version b n) state (jobs.Version change version) differ first second =
    let of_one : version ≡ m = (Decides-int_eq version m).0 (and_parts (bytes_eq change (named a state)) (int_eq version m) first).1 in
    let of_other : version ≡ n = (Decides-int_eq version n).0 (and_parts (bytes_eq change (named b state)) (int_eq version n) second).1 in
    both_ways (int_eq m n) (not-true (int_eq m n) differ) ((Decides-int_eq m n).1 (sym of_one ∙ of_other))
versions_both (patterns.Version a m) (patterns.Version b n) state _ differ first second = cc
versions_both _ _ state job differ first second = cc

-- no job matches two patterns that are apart
pub none_is_both : (one other : JobPattern) (state : RowsState) (job : Job) → apart one other ≡ true
    → is_for_job one state job ≡ true → is_for_job other state job ≡ true → ⊥
none_is_both one other state job differ first second =
    by (nat_eq (number_of one) (number_of other)) refl differ
  where
    of_one : Known one state job
    of_one = known one state job first

    of_other : Known other state job
    of_other = known other state job second

    by : (t : Bool) → nat_eq (number_of one) (number_of other) ≡ t
        → ◌≡◌ {A = Bool} (elim t [
          | true ↦ texts_apart (text_of one) (text_of other) || versions_apart one other
          | false ↦ true
        ]) true → ⊥
    by true p differ =
        elim (or_cases (texts_apart (text_of one) (text_of other)) (versions_apart one other) differ) [
          | inl texts ↦ texts_both (text_of one) (text_of other) state texts (of_one.1 ∙ sym of_other.1)
          | inr versions ↦ versions_both one other state job versions first second
        ]
    by false p differ =
        both_ways (nat_eq (number_of one) (number_of other)) p
        (eq-eqb (number_of one) (number_of other) (of_one.0 ∙ sym of_other.0))

-- the job matches none of these
abbrev pub is_none : List JobPattern → RowsState → Job → Bool
is_none [] state job = true
is_none (one ∷ rest) state job = not (is_for_job one state job) && is_none rest state job

-- so it does not match a pattern that is among them
pub not_among : (one : JobPattern) (passed : List JobPattern) (state : RowsState) (job : Job)
    → is_none passed state job ≡ true → is_among one passed ≡ true → is_for_job one state job ≡ true → ⊥
not_among one [] state job none it is = cc
not_among one (other ∷ rest) state job none it is =
    let parts : (not (is_for_job other state job) ≡ true) × (is_none rest state job ≡ true) =
    and_parts (not (is_for_job other state job)) (is_none rest state job) none in
    by parts (not_among one rest state job parts.1) (covers other one) refl it
  where
    by : (not (is_for_job other state job) ≡ true) × (is_none rest state job ≡ true)
        → (is_among one rest ≡ true → is_for_job one state job ≡ true → ⊥)
        → (t : Bool) → covers other one ≡ t → ◌≡◌ {A = Bool} (elim t [ true ↦ true | false ↦ is_among one rest ]) true → ⊥
    by parts later true over it =
        both_ways (is_for_job other state job) (not-true (is_for_job other state job) parts.0) (covered other one state job over is)
    by parts later false over it = later it is
