-- A row that an earlier one hides never applies.
use Rattle.std.specs.Prelude.{◌≡◌, ℕ, ℤ, Bool, true, false, not, ◌&&◌, ◌||◌, List, [], ◌∷◌, ◌++◌, Option, Some, bytes_eq, codes, refl, if◌then◌else◌}
use Rattle.std.specs.Ordering.{int_eq}
use Rattle.std.proofs.Common.{ap, sym, subst}
use Rattle.std.proofs.lemmas.Bool.{le-leb}
use Rattle.std.proofs.lemmas.Bool.Decides.{Decides-int_eq}
use Rattle.std.proofs.lemmas.Slice.Eq.{bytes_eq-Decides}
use Rattle.wh_workflow.specs.declared.job.Job.{Job}
use Rattle.wh_workflow.specs.declared.job.Job.TheVariants as jobs
use Rattle.wh_workflow.specs.declared.job.ChildEnd.TheVariants as child_ends
use Rattle.wh_rows.specs.declared.row.JobPattern.TheVariants as patterns
use Rattle.wh_rows.specs.declared.row.Condition.{Condition}
use Rattle.wh_rows.specs.declared.row.Condition.TheVariants as conditions
use Rattle.wh_rows.specs.declared.row.Counters.{Counters}
use Rattle.wh_rows.specs.declared.row.RowsState.{RowsState}
use Rattle.wh_rows.specs.Tables.{JobPattern, Row}
use Rattle.wh_rows.specs.Rows.{named, is_signal, is_done, is_not_done, is_fired, is_child_started, is_child_done, is_child_canceled, is_child_not_done, is_version, is_any_version, is_for_job, holds, all_hold, is_for_state, fits, row_for}
use Rattle.wh_rows.specs.Rules.{covers, implies, follows, all_follow, hides}
use Rattle.wh_rows.specs.Lawful.{first_of, second_of, both}
use Rattle.wh_rows.specs.Laws.{HiddenIsNeverTaken}
use Rattle.wh_rows.proofs.AtMost.{either_holds, implied_holds}
use Rattle.wh_rows.proofs.Followed.{least_holds}

-- a text in place of one that is the same
same_text : (one other : List ℕ) (state : RowsState) (test : List ℕ → Bool) → bytes_eq one other ≡ true
    → test (named other state) ≡ true → test (named one state) ≡ true
same_text one other state test is fit =
    subst (λ text. test (named text state) ≡ true) (sym ((bytes_eq-Decides one other).0 is)) fit

canceled_is_not_done : (wanted : List ℕ) (job : Job) → is_child_canceled wanted job ≡ true → is_child_not_done wanted job ≡ true
canceled_is_not_done wanted (jobs.Child id child_ends.Canceled) is = is
canceled_is_not_done wanted _ is = cc

version_is_any : (wanted : List ℕ) (number : ℤ) (job : Job) → is_version wanted number job ≡ true → is_any_version wanted job ≡ true
version_is_any wanted number (jobs.Version change version) is = first_of (bytes_eq change wanted) (int_eq version number) is
version_is_any wanted number _ is = cc

-- a pattern that covers another one is for each job that this is for
pub covered : (one other : JobPattern) (state : RowsState) (job : Job) → covers one other ≡ true
    → is_for_job other state job ≡ true → is_for_job one state job ≡ true
covered patterns.Start patterns.Start state job is fit = fit
covered (patterns.Signal name) (patterns.Signal other) state job is fit = same_text name other state (λ text. is_signal text job) is fit
covered patterns.CancelRequested patterns.CancelRequested state job is fit = fit
covered (patterns.Done id) (patterns.Done other) state job is fit = same_text id other state (λ text. is_done text job) is fit
covered (patterns.NotDone id) (patterns.NotDone other) state job is fit = same_text id other state (λ text. is_not_done text job) is fit
covered (patterns.Fired id) (patterns.Fired other) state job is fit = same_text id other state (λ text. is_fired text job) is fit
covered (patterns.ChildStarted id) (patterns.ChildStarted other) state job is fit =
    same_text id other state (λ text. is_child_started text job) is fit
covered (patterns.ChildDone id) (patterns.ChildDone other) state job is fit = same_text id other state (λ text. is_child_done text job) is fit
covered (patterns.ChildCanceled id) (patterns.ChildCanceled other) state job is fit =
    same_text id other state (λ text. is_child_canceled text job) is fit
covered (patterns.ChildNotDone id) (patterns.ChildNotDone other) state job is fit =
    same_text id other state (λ text. is_child_not_done text job) is fit
covered (patterns.ChildNotDone id) (patterns.ChildCanceled other) state job is fit =
    same_text id other state (λ text. is_child_not_done text job) is (canceled_is_not_done (named other state) job fit)
covered (patterns.Version change number) (patterns.Version other version) state job is fit =
    same_text change other state (λ text. is_version text number job) (first_of (bytes_eq change other) (int_eq number version) is)
    (subst (λ one. is_version (named other state) one job ≡ true)
    (sym ((Decides-int_eq number version).0 (second_of (bytes_eq change other) (int_eq number version) is))) fit)
covered (patterns.AnyVersion change) (patterns.AnyVersion other) state job is fit =
    same_text change other state (λ text. is_any_version text job) is fit
covered (patterns.AnyVersion change) (patterns.Version other version) state job is fit =
    same_text change other state (λ text. is_any_version text job) is (version_is_any (named other state) version job fit)
covered _ _ state job is fit = cc

-- a condition that another one implies holds whenever that one does
implied : (one wanted : Condition) (counts : Counters) → implies one wanted ≡ true → holds one counts ≡ true → holds wanted counts ≡ true
implied one (conditions.Below counter most) counts is hold = implied_holds one counter most counts is hold
implied one (conditions.AtLeast counter least) counts is hold = le-leb _ _ (least_holds one counter least counts is hold)

followed : (given : List Condition) (wanted : Condition) (counts : Counters) → follows given wanted ≡ true
    → all_hold given counts ≡ true → holds wanted counts ≡ true
followed [] wanted counts is hold = cc
followed (one ∷ rest) wanted counts is hold =
    either_holds (implies one wanted) (follows rest wanted) _ is
    (λ first. implied one wanted counts first (first_of (holds one counts) (all_hold rest counts) hold))
    (λ later. followed rest wanted counts later (second_of (holds one counts) (all_hold rest counts) hold))

all_followed : (given wanted : List Condition) (counts : Counters) → all_follow given wanted ≡ true
    → all_hold given counts ≡ true → all_hold wanted counts ≡ true
all_followed given [] counts is hold = refl
all_followed given (one ∷ rest) counts is hold =
    both (holds one counts) (all_hold rest counts)
    (followed given one counts (first_of (follows given one) (all_follow given rest) is) hold)
    (all_followed given rest counts (second_of (follows given one) (all_follow given rest) is) hold)

or_first : (a b : Bool) → a ≡ true → (a || b) ≡ true
or_first true b is = refl
or_first false b is = cc

or_second : (a b : Bool) → b ≡ true → (a || b) ≡ true
or_second true b is = refl
or_second false b is = is

-- a row that hides another one is for each state that this is for
state_hidden : (earlier later : List ℕ) (state : RowsState) → (bytes_eq earlier (codes "any") || bytes_eq earlier later) ≡ true
    → is_for_state later state ≡ true → is_for_state earlier state ≡ true
state_hidden earlier later state is fit =
    both (not state.closed) (bytes_eq earlier (codes "any") || bytes_eq earlier state.at)
    (first_of (not state.closed) (bytes_eq later (codes "any") || bytes_eq later state.at) fit)
    (either_holds (bytes_eq earlier (codes "any")) (bytes_eq earlier later) _ is
    (λ any. or_first (bytes_eq earlier (codes "any")) (bytes_eq earlier state.at) any)
    (λ same. subst (λ name. (bytes_eq name (codes "any") || bytes_eq name state.at) ≡ true)
    (sym ((bytes_eq-Decides earlier later).0 same))
    (second_of (not state.closed) (bytes_eq later (codes "any") || bytes_eq later state.at) fit)))

parts_of_hides : (states jobs follow : Bool) → elim states [ true ↦ jobs && follow | false ↦ false ] ≡ true
    → (states ≡ true) × (jobs ≡ true) × (follow ≡ true)
parts_of_hides true true true is = (refl, refl, refl)
parts_of_hides true true false is = cc
parts_of_hides true false follow is = cc
parts_of_hides false jobs follow is = cc

-- a row that hides another one fits whenever this does
hidden_fits : (earlier later : Row) (state : RowsState) (job : Job) → hides earlier later ≡ true
    → fits later state job ≡ true → fits earlier state job ≡ true
hidden_fits earlier later state job is fit =
    let parts = parts_of_hides (bytes_eq earlier.state (codes "any") || bytes_eq earlier.state later.state)
    (covers earlier.job later.job) (all_follow later.conditions earlier.conditions) is in
    let first : (is_for_state later.state state && is_for_job later.job state job) ≡ true =
    first_of (is_for_state later.state state && is_for_job later.job state job) (all_hold later.conditions state.counts) fit in
    both (is_for_state earlier.state state && is_for_job earlier.job state job) (all_hold earlier.conditions state.counts)
    (both (is_for_state earlier.state state) (is_for_job earlier.job state job)
    (state_hidden earlier.state later.state state parts.0 (first_of (is_for_state later.state state) (is_for_job later.job state job) first))
    (covered earlier.job later.job state job parts.1 (second_of (is_for_state later.state state) (is_for_job later.job state job) first)))
    (all_followed later.conditions earlier.conditions state.counts parts.2
    (second_of (is_for_state later.state state && is_for_job later.job state job) (all_hold later.conditions state.counts) fit))

-- rows give the same without one that doesn't fit
without : (between : List Row) (later : Row) (behind : List Row) (state : RowsState) (job : Job) → fits later state job ≡ false
    → row_for (between ++ later ∷ behind) state job ≡ row_for (between ++ behind) state job
unfolding row_for
without [] later behind state job fails = rw fails refl
without (row ∷ rest) later behind state job fails =
    ap (λ found. if fits row state job then Some row else found) (without rest later behind state job fails)

-- rows give the same without a row that fits no more often than an earlier one
behind_earlier : (fit : Bool) (earlier : Row) (one other : Option Row) → (fit ≡ false → one ≡ other)
    → (if fit then Some earlier else one) ≡ (if fit then Some earlier else other)
behind_earlier true earlier one other same = refl
behind_earlier false earlier one other same = same refl

fails_too : (one other : Bool) → (other ≡ true → one ≡ true) → one ≡ false → other ≡ false
fails_too one true implied fails = let yes : one ≡ true = implied refl in cc
fails_too one false implied fails = refl

pub hidden_is_never_taken : HiddenIsNeverTaken
unfolding row_for
hidden_is_never_taken [] earlier between later behind state job is =
    behind_earlier (fits earlier state job) earlier _ _
    (λ fails. without between later behind state job
    (fails_too (fits earlier state job) (fits later state job) (hidden_fits earlier later state job is) fails))
hidden_is_never_taken (row ∷ rest) earlier between later behind state job is =
    ap (λ found. if fits row state job then Some row else found)
    (hidden_is_never_taken rest earlier between later behind state job is)
