-- If a counter says whether a command is owed, each command of a kind is followed by one of another kind.
use Rattle.std.specs.Prelude.{◌≡◌, ℕ, suc, ◌≤◌, ◌<◌, Bool, true, false, not, ◌&&◌, ◌||◌, List, [], ◌∷◌, ◌++◌, Option, Some, None, nat_eq, ltb, leb, refl, if◌then◌else◌}
use Rattle.std.proofs.Common.{ap, sym, subst, ◌∙◌, arith}
use Rattle.std.proofs.lemmas.Bool.{leb-true, le-leb, lt-leb}
use Rattle.wh_workflow.specs.declared.job.Job.{Job}
use Rattle.wh_workflow.specs.declared.command.Command.{Command}
use Rattle.wh_rows.specs.declared.row.CommandTemplate.TheVariants as templates
use Rattle.wh_rows.specs.declared.row.Condition.{Condition}
use Rattle.wh_rows.specs.declared.row.Condition.TheVariants as conditions
use Rattle.wh_rows.specs.declared.row.Counter.{Counter}
use Rattle.wh_rows.specs.declared.row.Counter.TheVariants as counters
use Rattle.wh_rows.specs.declared.row.RowEffect.{RowEffect}
use Rattle.wh_rows.specs.declared.row.RowEffect.TheVariants as effects
use Rattle.wh_rows.specs.declared.row.Counters.{Counters}
use Rattle.wh_rows.specs.declared.row.RowsState.{RowsState}
use Rattle.wh_rows.specs.Naming.{name_by}
use Rattle.wh_rows.specs.Tables.{CommandTemplate, Row, Definition}
use Rattle.wh_rows.specs.Rows.{count_of, with_count, raised, holds, all_hold, is_for_state, is_for_job, fits, row_for, some_closes, command_of, commands_of, row_gives, after_one, after_effects, after_found, seen_by, initial}
use Rattle.wh_rows.specs.Rules.{place_of, implies, follows}
use Rattle.wh_rows.specs.Lawful.{first_of, second_of}
use Rattle.wh_rows.specs.Properties.{CommandKind, kind_by, same_kind, given_to_all}
use Rattle.wh_rows.specs.Followed.{Closing, closing_of, closing_by, closes_so, is_followed, EachFollowed, owed_behind, flag_by, flag_after, keeps_flag, row_keeps, row_follows, rows_follow, is_tracked}
use Rattle.wh_rows.proofs.Counting.{start_counts}
use Rattle.wh_rows.proofs.Closing.{none_counts, start_leaves}
use Rattle.wh_rows.proofs.AtMost.{place_same, other_stays, own_is, kind_alike, either_holds, following_holds}

closing_alike : (one : CommandTemplate) (state : RowsState) (job : Job) → closing_of (command_of one state job) ≡ closing_by one
closing_alike templates.Cancel state job = refl
closing_alike _ state job = refl

-- the counter is above 0
abbrev flag_of : Counter → RowsState → Bool
flag_of counter state = leb 1 (count_of counter state.counts)

raised_some : (count bound : ℕ) → leb 1 bound ≡ true → leb 1 (raised count bound) ≡ true
raised_some count bound some = by_test (ltb count bound)
  where
    by_test : (test : Bool) → leb 1 (if test then suc count else bound) ≡ true
    by_test true = le-leb 1 (suc count) (omega arith)
    by_test false = some

flag_one : (one : RowEffect) (counter : Counter) (bounds : Counters) (state : RowsState) (job : Job)
    → leb 1 (count_of counter bounds) ≡ true
    → flag_of counter (after_one one bounds state job) ≡ flag_by counter one (flag_of counter state)
flag_one (effects.Up other) counter bounds state job some = by_test (nat_eq (place_of other) (place_of counter)) refl
  where
    value : ℕ
    value = raised (count_of other state.counts) (count_of other bounds)

    by_test : (test : Bool) → nat_eq (place_of other) (place_of counter) ≡ test
        → leb 1 (count_of counter (with_count other state.counts value)) ≡ (test || flag_of counter state)
    by_test true is =
        let same : other ≡ counter = place_same other counter is in
        subst (λ one. leb 1 (count_of one (with_count other state.counts value)) ≡ true) same
        (subst (λ number. leb 1 number ≡ true) (sym (own_is other state.counts value))
        (raised_some (count_of other state.counts) (count_of other bounds)
        (subst (λ one. leb 1 (count_of one bounds) ≡ true) (sym same) some)))
    by_test false is = ap (leb 1) (other_stays other counter state.counts value is)
flag_one (effects.Zero other) counter bounds state job some = by_test (nat_eq (place_of other) (place_of counter)) refl
  where
    by_test : (test : Bool) → nat_eq (place_of other) (place_of counter) ≡ test
        → leb 1 (count_of counter (with_count other state.counts 0)) ≡ (not test && flag_of counter state)
    by_test true is =
        subst (λ one. leb 1 (count_of one (with_count other state.counts 0)) ≡ false) (place_same other counter is)
        (ap (leb 1) (own_is other state.counts 0))
    by_test false is = ap (leb 1) (other_stays other counter state.counts 0 is)
flag_one effects.Keep counter bounds state job some = refl

flags : (all : List RowEffect) (counter : Counter) (bounds : Counters) (state : RowsState) (job : Job)
    → leb 1 (count_of counter bounds) ≡ true
    → flag_of counter (after_effects all bounds state job) ≡ flag_after counter all (flag_of counter state)
unfolding after_effects
flags [] counter bounds state job some = refl
flags (one ∷ rest) counter bounds state job some =
    flags rest counter bounds (after_one one bounds state job) job some
    ∙ ap (flag_after counter rest) (flag_one one counter bounds state job some)

-- a condition that follows from others holds if they do
pub least_holds : (one : Condition) (counter : Counter) (least : ℕ) (counts : Counters)
    → implies one (conditions.AtLeast counter least) ≡ true → holds one counts ≡ true → least ≤ count_of counter counts
least_holds (conditions.AtLeast other number) counter least counts follow hold =
    let same : other ≡ counter = place_same other counter (first_of (nat_eq (place_of other) (place_of counter)) (leb least number) follow) in
    let more : least ≤ number = leb-true least number (second_of (nat_eq (place_of other) (place_of counter)) (leb least number) follow) in
    let above : number ≤ count_of other counts = leb-true number (count_of other counts) hold in
    subst (λ one. least ≤ count_of one counts) same (omega (arith, more, above))
least_holds (conditions.Below other number) counter least counts follow hold = cc

least_follows : (all : List Condition) (counter : Counter) (least : ℕ) (counts : Counters)
    → follows all (conditions.AtLeast counter least) ≡ true → all_hold all counts ≡ true → least ≤ count_of counter counts
least_follows [] counter least counts follow hold = cc
least_follows (one ∷ rest) counter least counts follow hold =
    either_holds (implies one (conditions.AtLeast counter least)) (follows rest (conditions.AtLeast counter least)) _ follow
    (λ first. least_holds one counter least counts first (first_of (holds one counts) (all_hold rest counts) hold))
    (λ later. least_follows rest counter least counts later (second_of (holds one counts) (all_hold rest counts) hold))

-- a row that applies keeps the promise
row_kept : (first second : CommandKind) (ways : Closing → Bool) (counter : Counter) (row : Row) (state : RowsState)
    → row_follows first second ways counter row ≡ true → all_hold row.conditions state.counts ≡ true
    → row_keeps first second ways counter row (flag_of counter state) ≡ true
row_kept first second ways counter row state follow hold = by_flag (flag_of counter state) refl
  where
    none : Bool
    none = follows row.conditions (conditions.AtLeast counter 1) || row_keeps first second ways counter row false

    some : Bool
    some = follows row.conditions (conditions.Below counter 1) || row_keeps first second ways counter row true

    by_flag : (flag : Bool) → flag_of counter state ≡ flag → row_keeps first second ways counter row flag ≡ true
    by_flag false is =
        either_holds (follows row.conditions (conditions.AtLeast counter 1)) (row_keeps first second ways counter row false) _
        (first_of none some follow)
        (λ asks. let least : 1 ≤ count_of counter state.counts = least_follows row.conditions counter 1 state.counts asks hold in
        let yes : leb 1 (count_of counter state.counts) ≡ true = le-leb 1 (count_of counter state.counts) least in cc)
        (λ keeps. keeps)
    by_flag true is =
        either_holds (follows row.conditions (conditions.Below counter 1)) (row_keeps first second ways counter row true) _
        (second_of none some follow)
        (λ asks. let below : count_of counter state.counts < 1 = following_holds row.conditions counter 1 state.counts asks hold in
        let no : leb 1 (count_of counter state.counts) ≡ false = lt-leb 1 (count_of counter state.counts) below in cc)
        (λ keeps. keeps)

-- one command more
more : (is_first is_second so owed behind : Bool) (owes : Bool → Option Bool) (good : Bool → Bool)
    → ((now : Bool) → owes now ≡ Some behind → good now ≡ true)
    → elim is_first [
      | true ↦ elim owed [ true ↦ None | false ↦ owes true ]
      | false ↦ elim is_second [ true ↦ owes false | false ↦ elim (owed && so) [ true ↦ None | false ↦ owes owed ] ]
    ] ≡ Some behind
    → (if is_first then not owed && good true
    else (if is_second then good false else (not (owed && so) && good owed))) ≡ true
more true is_second so true behind owes good later is = cc
more true is_second so false behind owes good later is = later true is
more false true so owed behind owes good later is = later false is
more false false true true behind owes good later is = cc
more false false false true behind owes good later is = later true is
more false false so false behind owes good later is = later false is

-- after the commands of a row that keep the promise, what comes later may keep it too
row_then : (first second : CommandKind) (ways : Closing → Bool) (all : List CommandTemplate) (state : RowsState) (job : Job)
    (owed behind : Bool) (later : List Command) → owed_behind first second ways owed all ≡ Some behind
    → is_followed first second ways behind later ≡ true
    → is_followed first second ways owed (commands_of all state job ++ later) ≡ true
unfolding commands_of
row_then first second ways [] state job owed behind later is good =
    let same : owed ≡ behind = cc in subst (λ now. is_followed first second ways now later ≡ true) (sym same) good
row_then first second ways (one ∷ rest) state job owed behind later is good =
    rw (kind_alike one state job, closing_alike one state job)
    (more (same_kind first (kind_by one)) (same_kind second (kind_by one)) (closes_so ways (closing_by one)) owed behind
    (λ now. owed_behind first second ways now rest)
    (λ now. is_followed first second ways now (commands_of rest state job ++ later))
    (λ now known. row_then first second ways rest state job now behind later known good) is)

-- if the flag is kept, the run ends, or the flag says whether a command is owed
kept : (ends flag : Bool) (owes : Option Bool) (P : Type 0) → keeps_flag ends flag owes ≡ true
    → ((behind : Bool) → owes ≡ Some behind → ends ≡ true → P)
    → ((behind : Bool) → owes ≡ Some behind → flag ≡ behind → P) → P
kept ends flag None P is ended told = cc
kept true flag (Some behind) P is ended told = ended behind refl refl
kept false true (Some true) P is ended told = told true refl refl
kept false true (Some false) P is ended told = cc
kept false false (Some true) P is ended told = cc
kept false false (Some false) P is ended told = told false refl refl

nothing_behind : (list : List Command) → list ++ [] ≡ list
nothing_behind [] = refl
nothing_behind (one ∷ rest) = ap (λ list. one ∷ list) (nothing_behind rest)

either : (test : Bool) (one other : Option Row) (P : Option Row → Type 0) → (test ≡ true → P one) → P other
    → P (if test then one else other)
either true one other P first second = first refl
either false one other P first second = second

module _ (first second : CommandKind) (ways : Closing → Bool) (counter : Counter) (bounds : Counters) (job : Job)
    (rest : RowsState → List Command) where
  -- what comes after a job keeps the promise, and nothing comes in a run that is closed
  abbrev IsGood : Type 0
  IsGood = ((state : RowsState) → is_followed first second ways (flag_of counter state) (rest state) ≡ true)
      × ((state : RowsState) → state.closed ≡ true → rest state ≡ [])

  row_good : (row : Row) (state : RowsState) → IsGood → leb 1 (count_of counter bounds) ≡ true
      → row_follows first second ways counter row ≡ true → fits row state job ≡ true
      → is_followed first second ways (flag_of counter state)
      (row_gives (Some row) state job ++ rest (after_found (Some row) bounds state job)) ≡ true
  row_good row state good some follow fit =
      let left : RowsState = after_found (Some row) bounds state job in
      let hold : all_hold row.conditions state.counts ≡ true =
      second_of (is_for_state row.state state && is_for_job row.job state job) (all_hold row.conditions state.counts) fit in
      kept (some_closes row.gives) (flag_after counter row.effects (flag_of counter state))
      (owed_behind first second ways (flag_of counter state) row.gives) _
      (row_kept first second ways counter row state follow hold)
      (λ behind owes ends. subst (λ later. is_followed first second ways (flag_of counter state) (row_gives (Some row) state job ++ later) ≡ true)
      (sym (good.1 left ends))
      (row_then first second ways row.gives state job (flag_of counter state) behind [] owes refl))
      (λ behind owes told. row_then first second ways row.gives state job (flag_of counter state) behind (rest left) owes
      (subst (λ now. is_followed first second ways now (rest left) ≡ true)
      (flags row.effects counter bounds state job some ∙ told) (good.0 left)))

  rows_good : (rows : List Row) (state : RowsState) → IsGood → leb 1 (count_of counter bounds) ≡ true
      → rows_follow first second ways counter rows ≡ true
      → is_followed first second ways (flag_of counter state)
      (row_gives (row_for rows state job) state job ++ rest (after_found (row_for rows state job) bounds state job)) ≡ true
  unfolding row_for
  rows_good [] state good some follow = good.0 state
  rows_good (row ∷ others) state good some follow =
      either (fits row state job) (Some row) (row_for others state job)
      (λ one. is_followed first second ways (flag_of counter state)
      (row_gives one state job ++ rest (after_found one bounds state job)) ≡ true)
      (row_good row state good some
      (first_of (row_follows first second ways counter row) (rows_follow first second ways counter others) follow))
      (rows_good others state good some
      (second_of (row_follows first second ways counter row) (rows_follow first second ways counter others) follow))

-- a run that is closed gives nothing
given_none : (table : Definition) (jobs : List Job) (state : RowsState) → state.closed ≡ true → given_to_all table state jobs ≡ []
given_none table [] state closed = refl
given_none table (job ∷ later) state closed =
    let now : RowsState = seen_by table state job in
    subst (λ row. row_gives row now job ++ given_to_all table (after_found row table.bounds now job) later ≡ [])
    (sym (none_counts table state job closed))
    (given_none table later now (start_leaves (name_by table.name) state job ∙ closed))

jobs_good : (table : Definition) (first second : CommandKind) (ways : Closing → Bool) (counter : Counter) (jobs : List Job)
    (state : RowsState) → is_tracked table first second ways counter ≡ true
    → is_followed first second ways (flag_of counter state) (given_to_all table state jobs) ≡ true
jobs_good table first second ways counter [] state tracked = refl
jobs_good table first second ways counter (job ∷ later) state tracked =
    let now : RowsState = seen_by table state job in
    let same : now.counts ≡ state.counts = start_counts (name_by table.name) state job in
    subst (λ counts. is_followed first second ways (leb 1 (count_of counter counts)) (given_to_all table state (job ∷ later)) ≡ true)
    same
    (rows_good first second ways counter table.bounds job (λ left. given_to_all table left later) table.rows now
    (λ left. jobs_good table first second ways counter later left tracked, λ left closed. given_none table later left closed)
    (first_of (leb 1 (count_of counter table.bounds)) (rows_follow first second ways counter table.rows) tracked)
    (second_of (leb 1 (count_of counter table.bounds)) (rows_follow first second ways counter table.rows) tracked))

-- nothing is owed at the beginning of a run
no_flag : (table : Definition) (counter : Counter) → flag_of counter (initial table) ≡ false
no_flag table counters.A = refl
no_flag table counters.B = refl
no_flag table counters.C = refl
no_flag table counters.D = refl

-- if a counter says whether one is owed, each command of the first kind is followed by one of the second
pub each_followed : (table : Definition) (first second : CommandKind) (ways : Closing → Bool) (counter : Counter)
    → is_tracked table first second ways counter ≡ true → EachFollowed table first second ways
each_followed table first second ways counter tracked jobs =
    subst (λ flag. is_followed first second ways flag (given_to_all table (initial table) jobs) ≡ true) (no_flag table counter)
    (jobs_good table first second ways counter jobs (initial table) tracked)
