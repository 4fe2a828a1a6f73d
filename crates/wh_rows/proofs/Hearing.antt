-- For each version that a row asks for, a row of the next state fits.
use Rattle.std.specs.Prelude.{◌≡◌, ℕ, zero, suc, ◌+◌, ◌<◌, ◌≤◌, ℤ, pos, negsuc, int_lt, Bool, true, false, not, ◌&&◌, ◌||◌, List, [], ◌∷◌, ◌++◌, length, None, bytes_eq, codes, leb, refl}
use Rattle.std.specs.Ordering.{int_eq}
use Rattle.std.proofs.Common.{sym, subst, arith, inl, inr}
use Rattle.std.proofs.lemmas.Bool.{cases_lt, ltb-false}
use Rattle.std.proofs.lemmas.Bool.Decides.{Decides-int_eq}
use Rattle.std.proofs.lemmas.Slice.Eq.{bytes_eq-Decides}
use Rattle.wh_workflow.specs.declared.job.Job.{Job}
use Rattle.wh_workflow.specs.declared.job.Job.TheVariants as jobs
use Rattle.wh_rows.specs.declared.row.JobPattern.TheVariants as patterns
use Rattle.wh_rows.specs.declared.row.Condition.{Condition}
use Rattle.wh_rows.specs.declared.row.CommandTemplate.TheVariants as templates
use Rattle.wh_rows.specs.declared.row.Counters.{Counters}
use Rattle.wh_rows.specs.declared.row.RowsState.{RowsState}
use Rattle.wh_rows.specs.Tables.{JobPattern, CommandTemplate, Row, Definition}
use Rattle.wh_rows.specs.Rows.{named, is_for_job, all_hold, is_for_state, fits}
use Rattle.wh_rows.specs.Rules.{TooManyCommands, CommandAfterLast, OpensTwice, BadRange, NoState, LeadsNowhere, NeverReached, AsksInVain, ends_well, opens_once, is_range, are_ranges, has_state, leads_on, is_reached, covers, is_unconditional, hears, version_place, version_at, hears_each, hears_versions, state_after, are_heard, row_rule, in_row, rows_fault, table_fault}
use Rattle.wh_rows.specs.Lawful.{first_of, second_of, both, passes, goes_on, none_broken, none_first, none_second, begins}
use Rattle.wh_rows.specs.Laws.{none_fits, AnswersAreHeard}
use Rattle.wh_rows.proofs.AtMost.{either_holds}
use Rattle.wh_rows.proofs.Hiding.{covered}

not_true : (test : Bool) → not test ≡ true → test ≡ false
not_true true is = cc
not_true false is = refl

neither : (a b : Bool) → (a || b) ≡ false → (a ≡ false) × (b ≡ false)
neither true b is = cc
neither false b is = (refl, is)

and_false : (a b : Bool) → b ≡ false → (a && b) ≡ false
and_false true b is = is
and_false false b is = refl

unconditional : (all : List Condition) (counts : Counters) → is_unconditional all ≡ true → all_hold all counts ≡ true
unconditional [] counts is = refl
unconditional (one ∷ rest) counts is = cc

open_run : (closed : Bool) → closed ≡ false → not closed ≡ true
open_run true is = cc
open_run false is = refl

-- if rows cover a pattern in the state of a run, a row fits each job that the pattern matches
heard_fits : (wanted : JobPattern) (name : List ℕ) (rows : List Row) (state : RowsState) (job : Job)
    → hears wanted name rows ≡ true → state.closed ≡ false → state.at ≡ name → is_for_job wanted state job ≡ true
    → none_fits rows state job ≡ false
heard_fits wanted name [] state job heard runs at for = cc
heard_fits wanted name (row ∷ rest) state job heard runs at for =
    let states : Bool = bytes_eq row.state (codes "any") || bytes_eq row.state name in
    let others : Bool = is_unconditional row.conditions && covers row.job wanted in
    either_holds (states && others) (hears wanted name rest) _ heard
    (λ here.
    let other : others ≡ true = second_of states others here in
    let state_fits : is_for_state row.state state ≡ true =
    both (not state.closed) (bytes_eq row.state (codes "any") || bytes_eq row.state state.at) (open_run state.closed runs)
    (subst (λ one. (bytes_eq row.state (codes "any") || bytes_eq row.state one) ≡ true) (sym at) (first_of states others here)) in
    let job_fits : is_for_job row.job state job ≡ true =
    covered row.job wanted state job (second_of (is_unconditional row.conditions) (covers row.job wanted) other) for in
    let fit : fits row state job ≡ true =
    both (is_for_state row.state state && is_for_job row.job state job) (all_hold row.conditions state.counts)
    (both (is_for_state row.state state) (is_for_job row.job state job) state_fits job_fits)
    (unconditional row.conditions state.counts (first_of (is_unconditional row.conditions) (covers row.job wanted) other)) in
    rw fit refl)
    (λ later. and_false (not (fits row state job)) (none_fits rest state job) (heard_fits wanted name rest state job later runs at for))

-- a version that may be the answer is one at a place
at_place : (least version : ℤ) → int_lt least (negsuc 0) ≡ false → int_lt version least ≡ false
    → (version_at (version_place version) ≡ version) × (version_place least ≤ version_place version)
at_place (pos least) (pos version) low within =
    let more : least ≤ version = ltb-false version least within in (refl, omega (arith, more))
at_place (pos least) (negsuc version) low within = cc
at_place (negsuc least) (pos version) low within = (refl, omega arith)
at_place (negsuc zero) (negsuc zero) low within = (refl, omega arith)
at_place (negsuc zero) (negsuc (suc version)) low within = absurd (omega (arith, ltb-false 0 (suc version) within))
at_place (negsuc (suc least)) (negsuc version) low within = absurd (omega (arith, ltb-false 0 (suc least) low))

place_below : (version greatest : ℤ) → int_lt greatest version ≡ false → version_place version ≤ version_place greatest
place_below (pos version) (pos greatest) within =
    let more : version ≤ greatest = ltb-false greatest version within in omega (arith, more)
place_below (pos version) (negsuc greatest) within = cc
place_below (negsuc version) greatest within = omega arith

-- if so many versions are covered, so is the one at each place among them
each_heard : (change : List ℕ) (count place target : ℕ) (name : List ℕ) (rows : List Row)
    → hears_each change count place name rows ≡ true → place ≤ target → target < place + count
    → hears (patterns.Version change (version_at target)) name rows ≡ true
each_heard change zero place target name rows heard from to = absurd (omega arith)
each_heard change (suc more) place target name rows heard from to =
    let here : Bool = hears (patterns.Version change (version_at place)) name rows in
    elim (cases_lt place target) [
      | inl later ↦ each_heard change more (suc place) target name rows
          (second_of here (hears_each change more (suc place) name rows) heard) later (omega arith)
      | inr earlier ↦
          let same : place ≡ target = omega arith in
          subst (λ one. hears (patterns.Version change (version_at one)) name rows ≡ true) same
          (first_of here (hears_each change more (suc place) name rows) heard)
    ]

text_itself : (text : List ℕ) → bytes_eq text text ≡ true
text_itself text = (bytes_eq-Decides text text).1 refl

number_itself : (number : ℤ) → int_eq number number ≡ true
number_itself number = (Decides-int_eq number number).1 refl

-- from all commands of a row that ask to one of them
ask_heard : (name : List ℕ) (rows : List Row) (first : List CommandTemplate) (change : List ℕ) (least greatest : ℤ)
    (last : List CommandTemplate) → are_heard name rows (first ++ templates.Ask change least greatest ∷ last) ≡ true
    → hears_versions change least greatest name rows ≡ true
ask_heard name rows [] change least greatest last heard =
    first_of (hears_versions change least greatest name rows) (are_heard name rows last) heard
ask_heard name rows (templates.Ask other low high ∷ first) change least greatest last heard =
    ask_heard name rows first change least greatest last
    (second_of (hears_versions other low high name rows) (are_heard name rows (first ++ templates.Ask change least greatest ∷ last)) heard)
ask_heard name rows (_ ∷ first) change least greatest last heard = ask_heard name rows first change least greatest last heard

ask_ranged : (first : List CommandTemplate) (change : List ℕ) (least greatest : ℤ) (last : List CommandTemplate)
    → are_ranges (first ++ templates.Ask change least greatest ∷ last) ≡ true → is_range least greatest ≡ true
ask_ranged [] change least greatest last ranged = first_of (is_range least greatest) (are_ranges last) ranged
ask_ranged (templates.Ask other low high ∷ first) change least greatest last ranged =
    ask_ranged first change least greatest last
    (second_of (is_range low high) (are_ranges (first ++ templates.Ask change least greatest ∷ last)) ranged)
ask_ranged (_ ∷ first) change least greatest last ranged = ask_ranged first change least greatest last ranged

-- a row that breaks no rule asks for valid ranges, and the rows cover their versions
row_asks : (table : Definition) (before : ℕ) (row : Row) → row_rule table before row ≡ None
    → (are_ranges row.gives ≡ true) × (are_heard (state_after row) table.rows row.gives ≡ true)
row_asks table before row none =
    let after_many = goes_on (leb (length row.gives) 64) TooManyCommands _ none in
    let after_last = goes_on (ends_well row.gives) CommandAfterLast _ after_many in
    let after_twice = goes_on (opens_once row.gives) OpensTwice _ after_last in
    let after_range = goes_on (are_ranges row.gives) BadRange _ after_twice in
    let after_same = goes_on (not (bytes_eq row.state (codes "same"))) NoState _ after_range in
    let after_leads = goes_on (leads_on table.rows row) LeadsNowhere _ after_same in
    let after_reached = goes_on (is_reached table.first row.state table.rows) NeverReached _ after_leads in (
      passes (are_ranges row.gives) BadRange _ after_twice,
      passes (are_heard (state_after row) table.rows row.gives) AsksInVain _ after_reached,
    )

-- each row of a table without a fault breaks no rule
row_of : (table : Definition) (number : ℕ) (before : List Row) (row : Row) (behind : List Row)
    → rows_fault table number (before ++ row ∷ behind) ≡ None → (place : ℕ) × (row_rule table place row ≡ None)
row_of table number [] row behind none = (
  number,
  none_broken (suc number) (row_rule table number row)
      (none_first (in_row (suc number) (row_rule table number row)) (rows_fault table (suc number) behind) none),
)
row_of table number (one ∷ before) row behind none =
    row_of table (suc number) before row behind
    (none_second (in_row (suc number) (row_rule table number one)) (rows_fault table (suc number) (before ++ row ∷ behind)) none)

-- if the rows cover the versions of a change, a row fits each that may be the answer
version_heard : (rows : List Row) (change : List ℕ) (least greatest version : ℤ) (name : List ℕ) (state : RowsState)
    → hears_versions change least greatest name rows ≡ true → is_range least greatest ≡ true
    → state.closed ≡ false → state.at ≡ name → int_lt version least ≡ false → int_lt greatest version ≡ false
    → none_fits rows state (jobs.Version (named change state) version) ≡ false
version_heard rows change least greatest version name state heard ranged runs at from to =
    let job : Job = jobs.Version (named change state) version in
    let parts = neither (int_lt greatest least) (int_lt least (negsuc 0) || int_lt greatest (pos 0))
    (not_true (int_lt greatest least || (int_lt least (negsuc 0) || int_lt greatest (pos 0))) ranged) in
    let low : int_lt least (negsuc 0) ≡ false = (neither (int_lt least (negsuc 0)) (int_lt greatest (pos 0)) parts.1).0 in
    let place = at_place least version low from in
    let below : version_place version ≤ version_place greatest = place_below version greatest to in
    let above : version_place least ≤ version_place version = place.1 in
    either_holds (hears (patterns.AnyVersion change) name rows) _ _ heard
    (λ any. heard_fits (patterns.AnyVersion change) name rows state job any runs at (text_itself (named change state)))
    (λ each. heard_fits (patterns.Version change version) name rows state job
    (subst (λ one. hears (patterns.Version change one) name rows ≡ true) place.0
    (each_heard change _ (version_place least) (version_place version) name rows each above (omega (arith, below, above))))
    runs at (both (bytes_eq (named change state) (named change state)) (int_eq version version)
    (text_itself (named change state)) (number_itself version)))

pub answers_are_heard : (table : Definition) → table_fault table ≡ None → AnswersAreHeard table
answers_are_heard table faultless before row behind first change least greatest version last state split asks runs at from to =
    let none = row_of table 0 before row behind
    (subst (λ rows. rows_fault table 0 rows ≡ None) split (begins (has_state table.first table.rows) (rows_fault table 0 table.rows) faultless)) in
    let good = row_asks table none.0 row none.1 in
    version_heard table.rows change least greatest version (state_after row) state
    (ask_heard (state_after row) table.rows first change least greatest last
    (subst (λ gives. are_heard (state_after row) table.rows gives ≡ true) asks good.1))
    (ask_ranged first change least greatest last (subst (λ gives. are_ranges gives ≡ true) asks good.0))
    runs at (not_true (int_lt version least) from) (not_true (int_lt greatest version) to)
