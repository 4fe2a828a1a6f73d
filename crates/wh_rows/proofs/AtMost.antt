-- If a counter counts the commands of a kind, a run gives no more of them than the counter's bound.
use Rattle.std.specs.Prelude.{◌≡◌, ℕ, suc, ◌+◌, ◌≤◌, ◌<◌, Bool, true, false, not, ◌&&◌, ◌||◌, List, [], ◌∷◌, ◌++◌, Option, Some, nat_eq, ltb, leb, refl, if◌then◌else◌}
use Rattle.std.proofs.Common.{sym, subst, arith}
use Rattle.std.proofs.Math.Nat.{le_refl}
use Rattle.std.proofs.lemmas.Bool.{ltb-true, lt-ltb, leb-true, eqb-true}
use Rattle.wh_workflow.specs.declared.job.Job.{Job}
use Rattle.wh_workflow.specs.declared.command.Command.{Command}
use Rattle.wh_rows.specs.declared.row.CommandTemplate.TheVariants as templates
use Rattle.wh_rows.specs.declared.row.Condition.{Condition}
use Rattle.wh_rows.specs.declared.row.Condition.TheVariants as conditions
use Rattle.wh_rows.specs.declared.row.Counter.{Counter}
use Rattle.wh_rows.specs.declared.row.Counter.TheVariants as counters
use Rattle.wh_rows.specs.declared.row.RowEffect.{RowEffect}
use Rattle.wh_rows.specs.declared.row.RowEffect.TheVariants as effects
use Rattle.wh_rows.specs.declared.row.Counters.{Counters}
use Rattle.wh_rows.specs.declared.row.RowsState.{RowsState}
use Rattle.wh_rows.specs.Naming.{name_by}
use Rattle.wh_rows.specs.Tables.{CommandTemplate, Row, Definition}
use Rattle.wh_rows.specs.Rows.{count_of, with_count, raised, holds, all_hold, is_for_state, is_for_job, fits, row_for, command_of, commands_of, row_gives, gives, after_one, after_effects, after_found, seen_by, after, initial}
use Rattle.wh_rows.specs.Rules.{place_of, implies, follows}
use Rattle.wh_rows.specs.Lawful.{first_of, second_of}
use Rattle.wh_rows.specs.Laws.{IsWithin, after_all}
use Rattle.wh_rows.specs.Properties.{CommandKind, kind_of, kind_by, count_kind, count_templates, given_to_all, raises, resets, row_counts, rows_count, is_counted, AtMost}
use Rattle.wh_rows.proofs.Counting.{one_within, start_counts, job_within, within_bounds}

-- counters in one place are the same
pub place_same : (one other : Counter) → nat_eq (place_of one) (place_of other) ≡ true → one ≡ other
place_same counters.A counters.A is = refl
place_same counters.A counters.B is = cc
place_same counters.A counters.C is = cc
place_same counters.A counters.D is = cc
place_same counters.B counters.A is = cc
place_same counters.B counters.B is = refl
place_same counters.B counters.C is = cc
place_same counters.B counters.D is = cc
place_same counters.C counters.A is = cc
place_same counters.C counters.B is = cc
place_same counters.C counters.C is = refl
place_same counters.C counters.D is = cc
place_same counters.D counters.A is = cc
place_same counters.D counters.B is = cc
place_same counters.D counters.C is = cc
place_same counters.D counters.D is = refl

-- the number of another counter does not change it
pub other_stays : (other counter : Counter) (counts : Counters) (value : ℕ) → nat_eq (place_of other) (place_of counter) ≡ false
    → count_of counter (with_count other counts value) ≡ count_of counter counts
other_stays counters.A counters.A counts value is = cc
other_stays counters.A counters.B counts value is = refl
other_stays counters.A counters.C counts value is = refl
other_stays counters.A counters.D counts value is = refl
other_stays counters.B counters.A counts value is = refl
other_stays counters.B counters.B counts value is = cc
other_stays counters.B counters.C counts value is = refl
other_stays counters.B counters.D counts value is = refl
other_stays counters.C counters.A counts value is = refl
other_stays counters.C counters.B counts value is = refl
other_stays counters.C counters.C counts value is = cc
other_stays counters.C counters.D counts value is = refl
other_stays counters.D counters.A counts value is = refl
other_stays counters.D counters.B counts value is = refl
other_stays counters.D counters.C counts value is = refl
other_stays counters.D counters.D counts value is = cc

pub own_is : (counter : Counter) (counts : Counters) (value : ℕ) → count_of counter (with_count counter counts value) ≡ value
own_is counters.A counts value = refl
own_is counters.B counts value = refl
own_is counters.C counts value = refl
own_is counters.D counts value = refl

within_of : (counter : Counter) (bounds counts : Counters) → IsWithin bounds counts → count_of counter counts ≤ count_of counter bounds
within_of counters.A bounds counts within = within.0
within_of counters.B bounds counts within = within.1
within_of counters.C bounds counts within = within.2
within_of counters.D bounds counts within = within.3

pub kind_alike : (one : CommandTemplate) (state : RowsState) (job : Job) → kind_of (command_of one state job) ≡ kind_by one
kind_alike templates.Cancel state job = refl
kind_alike _ state job = refl

-- a row gives as many as its templates do
count_alike : (kind : CommandKind) (all : List CommandTemplate) (state : RowsState) (job : Job)
    → count_kind kind (commands_of all state job) ≡ count_templates kind all
unfolding commands_of
count_alike kind [] state job = refl
count_alike kind (one ∷ rest) state job = rw (kind_alike one state job, count_alike kind rest state job) refl

count_both : (kind : CommandKind) (first second : List Command)
    → count_kind kind (first ++ second) ≡ count_kind kind first + count_kind kind second
count_both kind [] second = omega arith
count_both kind (command ∷ rest) second =
    let later : count_kind kind (rest ++ second) ≡ count_kind kind rest + count_kind kind second = count_both kind rest second in
    omega (arith, later)

-- a condition that follows from others holds if they do
pub implied_holds : (one : Condition) (counter : Counter) (bound : ℕ) (counts : Counters)
    → implies one (conditions.Below counter bound) ≡ true → holds one counts ≡ true
    → holds (conditions.Below counter bound) counts ≡ true
implied_holds (conditions.Below other number) counter bound counts follow hold =
    let same : other ≡ counter = place_same other counter (first_of (nat_eq (place_of other) (place_of counter)) (leb number bound) follow) in
    let least : number ≤ bound = leb-true number bound (second_of (nat_eq (place_of other) (place_of counter)) (leb number bound) follow) in
    let below : count_of other counts < number = ltb-true (count_of other counts) number hold in
    subst (λ one. ltb (count_of one counts) bound ≡ true) same (lt-ltb (count_of other counts) bound (omega (arith, least, below)))
implied_holds (conditions.AtLeast other number) counter bound counts follow hold = cc

pub either_holds : (a b : Bool) (P : Type 0) → (a || b) ≡ true → (a ≡ true → P) → (b ≡ true → P) → P
either_holds true b P holds first second = first refl
either_holds false b P holds first second = second holds

pub following_holds : (all : List Condition) (counter : Counter) (bound : ℕ) (counts : Counters)
    → follows all (conditions.Below counter bound) ≡ true → all_hold all counts ≡ true → count_of counter counts < bound
following_holds [] counter bound counts follow hold = cc
following_holds (one ∷ rest) counter bound counts follow hold =
    either_holds (implies one (conditions.Below counter bound)) (follows rest (conditions.Below counter bound)) _ follow
    (λ first. ltb-true (count_of counter counts) bound
    (implied_holds one counter bound counts first (first_of (holds one counts) (all_hold rest counts) hold)))
    (λ later. following_holds rest counter bound counts later (second_of (holds one counts) (all_hold rest counts) hold))

-- one more is no less
raised_least : (count bound : ℕ) → count ≤ bound → count ≤ raised count bound
raised_least count bound within = by_test (ltb count bound)
  where
    by_test : (test : Bool) → count ≤ (if test then suc count else bound)
    by_test true = omega arith
    by_test false = within

-- and below the bound it is more
raised_more : (count bound : ℕ) → count < bound → count < raised count bound
raised_more count bound below = rw (lt-ltb count bound below) (le_refl (suc count))

not_true : (test : Bool) → not test ≡ true → test ≡ false
not_true true is = cc
not_true false is = refl

or_none : (a b : Bool) → (a || b) ≡ false → (a ≡ false) × (b ≡ false)
or_none true b is = cc
or_none false b is = (refl, is)

-- an effect that does not set the counter to 0 does not lower it
one_grows : (one : RowEffect) (counter : Counter) (bounds : Counters) (state : RowsState) (job : Job) → IsWithin bounds state.counts
    → resets counter (one ∷ []) ≡ false
    → count_of counter state.counts ≤ count_of counter (after_one one bounds state job).counts
one_grows (effects.Up other) counter bounds state job within kept =
    by_test (nat_eq (place_of other) (place_of counter)) refl
  where
    value : ℕ
    value = raised (count_of other state.counts) (count_of other bounds)

    by_test : (test : Bool) → nat_eq (place_of other) (place_of counter) ≡ test
        → count_of counter state.counts ≤ count_of counter (with_count other state.counts value)
    by_test true is =
        subst (λ one. count_of one state.counts ≤ count_of one (with_count other state.counts value)) (place_same other counter is)
        (subst (λ number. count_of other state.counts ≤ number) (sym (own_is other state.counts value))
        (raised_least (count_of other state.counts) (count_of other bounds) (within_of other bounds state.counts within)))
    by_test false is =
        subst (λ number. count_of counter state.counts ≤ number) (sym (other_stays other counter state.counts value is))
        (le_refl (count_of counter state.counts))
one_grows (effects.Zero other) counter bounds state job within kept =
    subst (λ number. count_of counter state.counts ≤ number)
    (sym (other_stays other counter state.counts 0 (or_none (nat_eq (place_of other) (place_of counter)) false kept).0))
    (le_refl (count_of counter state.counts))
one_grows effects.Keep counter bounds state job within kept = le_refl (count_of counter state.counts)

resets_none : (one : RowEffect) (rest : List RowEffect) (counter : Counter) → resets counter (one ∷ rest) ≡ false
    → (resets counter (one ∷ []) ≡ false) × (resets counter rest ≡ false)
resets_none (effects.Up other) rest counter kept = (refl, kept)
resets_none (effects.Zero other) rest counter kept =
    let both : (nat_eq (place_of other) (place_of counter) ≡ false) × (resets counter rest ≡ false) =
    or_none (nat_eq (place_of other) (place_of counter)) (resets counter rest) kept in
    (rw both.0 refl, both.1)
resets_none effects.Keep rest counter kept = (refl, kept)

all_grow : (all : List RowEffect) (counter : Counter) (bounds : Counters) (state : RowsState) (job : Job) → IsWithin bounds state.counts
    → resets counter all ≡ false
    → count_of counter state.counts ≤ count_of counter (after_effects all bounds state job).counts
unfolding after_effects
all_grow [] counter bounds state job within kept = le_refl (count_of counter state.counts)
all_grow (one ∷ rest) counter bounds state job within kept =
    let parts = resets_none one rest counter kept in
    let first = one_grows one counter bounds state job within parts.0 in
    let later = all_grow rest counter bounds (after_one one bounds state job) job (one_within one bounds state job within) parts.1 in
    omega (arith, first, later)

-- an effect that raises some counter, before effects that do what `later` says
up_rises : (other counter : Counter) (rest : List RowEffect) (bounds : Counters) (state : RowsState) (job : Job)
    → IsWithin bounds state.counts → count_of counter state.counts < count_of counter bounds → resets counter rest ≡ false
    → raises counter (effects.Up other ∷ rest) ≡ true
    → (count_of counter (after_one (effects.Up other) bounds state job).counts < count_of counter bounds
    → raises counter rest ≡ true
    → count_of counter (after_one (effects.Up other) bounds state job).counts
    < count_of counter (after_effects rest bounds (after_one (effects.Up other) bounds state job) job).counts)
    → count_of counter state.counts
    < count_of counter (after_effects rest bounds (after_one (effects.Up other) bounds state job) job).counts
up_rises other counter rest bounds state job within below kept up later =
    by_test (nat_eq (place_of other) (place_of counter)) refl
  where
    value : ℕ
    value = raised (count_of other state.counts) (count_of other bounds)

    next : RowsState
    next = after_one (effects.Up other) bounds state job

    by_test : (test : Bool) → nat_eq (place_of other) (place_of counter) ≡ test
        → count_of counter state.counts < count_of counter (after_effects rest bounds next job).counts
    by_test true is =
        let same : other ≡ counter = place_same other counter is in
        let first : count_of counter state.counts < count_of counter next.counts =
        subst (λ one. count_of one state.counts < count_of one next.counts) same
        (subst (λ number. count_of other state.counts < number) (sym (own_is other state.counts value))
        (raised_more (count_of other state.counts) (count_of other bounds)
        (subst (λ one. count_of one state.counts < count_of one bounds) (sym same) below))) in
        let grown : count_of counter next.counts ≤ count_of counter (after_effects rest bounds next job).counts =
        all_grow rest counter bounds next job (one_within (effects.Up other) bounds state job within) kept in
        omega (arith, first, grown)
    by_test false is =
        let stays : count_of counter next.counts ≡ count_of counter state.counts = other_stays other counter state.counts value is in
        let rest_up : raises counter rest ≡ true = subst (λ test. (test || raises counter rest) ≡ true) is up in
        subst (λ number. number < count_of counter (after_effects rest bounds next job).counts) stays
        (later (subst (λ number. number < count_of counter bounds) (sym stays) below) rest_up)

-- effects that raise the counter leave a greater number, if it is below its bound
all_rise : (all : List RowEffect) (counter : Counter) (bounds : Counters) (state : RowsState) (job : Job) → IsWithin bounds state.counts
    → count_of counter state.counts < count_of counter bounds → resets counter all ≡ false → raises counter all ≡ true
    → count_of counter state.counts < count_of counter (after_effects all bounds state job).counts
unfolding after_effects
all_rise [] counter bounds state job within below kept up = cc
all_rise (effects.Up other ∷ rest) counter bounds state job within below kept up =
    up_rises other counter rest bounds state job within below kept up
    (λ next_below rest_up. all_rise rest counter bounds (after_one (effects.Up other) bounds state job) job
    (one_within (effects.Up other) bounds state job within) next_below kept rest_up)
all_rise (effects.Zero other ∷ rest) counter bounds state job within below kept up =
    let parts = or_none (nat_eq (place_of other) (place_of counter)) (resets counter rest) kept in
    let next : RowsState = after_one (effects.Zero other) bounds state job in
    let stays : count_of counter next.counts ≡ count_of counter state.counts = other_stays other counter state.counts 0 parts.0 in
    subst (λ number. number < count_of counter (after_effects rest bounds next job).counts) stays
    (all_rise rest counter bounds next job (one_within (effects.Zero other) bounds state job within)
    (subst (λ number. number < count_of counter bounds) (sym stays) below) parts.1 up)
all_rise (effects.Keep ∷ rest) counter bounds state job within below kept up =
    all_rise rest counter bounds (after_one effects.Keep bounds state job) job within below kept up

-- a row gives no more commands of the kind than it raises the counter
row_within : (kind : CommandKind) (counter : Counter) (bounds : Counters) (row : Row) (state : RowsState) (job : Job)
    → IsWithin bounds state.counts → row_counts kind counter (count_of counter bounds) row ≡ true → fits row state job ≡ true
    → count_kind kind (row_gives (Some row) state job) + count_of counter state.counts
    ≤ count_of counter (after_found (Some row) bounds state job).counts
row_within kind counter bounds row state job within counts fit =
    let bound : ℕ = count_of counter bounds in
    let number : ℕ = count_templates kind row.gives in
    let up : Bool = raises counter row.effects && follows row.conditions (conditions.Below counter bound) in
    let kept : resets counter row.effects ≡ false =
    not_true (resets counter row.effects) (first_of (not (resets counter row.effects)) (nat_eq number 0 || (nat_eq number 1 && up)) counts) in
    let alike : count_kind kind (row_gives (Some row) state job) ≡ number = count_alike kind row.gives state job in
    either_holds (nat_eq number 0) (nat_eq number 1 && up) _
    (second_of (not (resets counter row.effects)) (nat_eq number 0 || (nat_eq number 1 && up)) counts)
    (λ none.
    let zero_given : number ≡ 0 = eqb-true number 0 none in
    let grown = all_grow row.effects counter bounds state job within kept in
    omega (arith, alike, zero_given, grown))
    (λ once.
    let one_given : number ≡ 1 = eqb-true number 1 (first_of (nat_eq number 1) up once) in
    let raised_once : up ≡ true = second_of (nat_eq number 1) up once in
    let hold : all_hold row.conditions state.counts ≡ true =
    second_of (is_for_state row.state state && is_for_job row.job state job) (all_hold row.conditions state.counts) fit in
    let below : count_of counter state.counts < bound =
    following_holds row.conditions counter bound state.counts
    (second_of (raises counter row.effects) (follows row.conditions (conditions.Below counter bound)) raised_once) hold in
    let grown = all_rise row.effects counter bounds state job within below kept
    (first_of (raises counter row.effects) (follows row.conditions (conditions.Below counter bound)) raised_once) in
    omega (arith, alike, one_given, grown))

either : (test : Bool) (one other : Option Row) (P : Option Row → Type 0) → (test ≡ true → P one) → P other
    → P (if test then one else other)
either true one other P first second = first refl
either false one other P first second = second

-- nor do rows
rows_within : (kind : CommandKind) (counter : Counter) (bounds : Counters) (rows : List Row) (state : RowsState) (job : Job)
    → IsWithin bounds state.counts → rows_count kind counter (count_of counter bounds) rows ≡ true
    → count_kind kind (row_gives (row_for rows state job) state job) + count_of counter state.counts
    ≤ count_of counter (after_found (row_for rows state job) bounds state job).counts
unfolding row_for
rows_within kind counter bounds [] state job within counts = omega arith
rows_within kind counter bounds (row ∷ rest) state job within counts =
    either (fits row state job) (Some row) (row_for rest state job)
    (λ one. count_kind kind (row_gives one state job) + count_of counter state.counts ≤ count_of counter (after_found one bounds state job).counts)
    (λ fit. row_within kind counter bounds row state job within
    (first_of (row_counts kind counter (count_of counter bounds) row) (rows_count kind counter (count_of counter bounds) rest) counts) fit)
    (rows_within kind counter bounds rest state job within
    (second_of (row_counts kind counter (count_of counter bounds) row) (rows_count kind counter (count_of counter bounds) rest) counts))

-- nor does a job
job_counts : (table : Definition) (kind : CommandKind) (counter : Counter) (state : RowsState) (job : Job)
    → is_counted table kind counter ≡ true → IsWithin table.bounds state.counts
    → count_kind kind (gives table state job) + count_of counter state.counts ≤ count_of counter (after table state job).counts
job_counts table kind counter state job counted within =
    let now : RowsState = seen_by table state job in
    let same : now.counts ≡ state.counts = start_counts (name_by table.name) state job in
    subst (λ counts. count_kind kind (gives table state job) + count_of counter counts ≤ count_of counter (after table state job).counts)
    same
    (rows_within kind counter table.bounds table.rows now job (subst (IsWithin table.bounds) (sym same) within) counted)

jobs_count : (table : Definition) (kind : CommandKind) (counter : Counter) (state : RowsState) (jobs : List Job)
    → is_counted table kind counter ≡ true → IsWithin table.bounds state.counts
    → count_kind kind (given_to_all table state jobs) + count_of counter state.counts
    ≤ count_of counter (after_all table state jobs).counts
jobs_count table kind counter state [] counted within = omega arith
jobs_count table kind counter state (job ∷ later) counted within =
    let next : RowsState = after table state job in
    let first = job_counts table kind counter state job counted within in
    let rest = jobs_count table kind counter next later counted (job_within table state job within) in
    let parts = count_both kind (gives table state job) (given_to_all table next later) in
    omega (arith, first, rest, parts)

-- a run gives no more commands of a kind than the bound of the counter that counts them
pub at_most : (table : Definition) (kind : CommandKind) (counter : Counter) → is_counted table kind counter ≡ true
    → AtMost table kind (count_of counter table.bounds)
at_most table kind counter counted jobs =
    let last : RowsState = after_all table (initial table) jobs in
    let given = jobs_count table kind counter (initial table) jobs counted (within_bounds table []) in
    let bounded = within_of counter table.bounds last.counts (within_bounds table jobs) in
    omega (arith, given, bounded)
