-- How a watch changes, and how a job may change it.
use Rattle.std.proofs.Common.{◌≡◌, ℕ, ◌+◌, ◌≤◌, Bool, true, false, not, List, [], ◌∷◌, ◌++◌, Option, Some, None, refl, ap, ap₂, ◌∙◌, arith}
use Rattle.std.proofs.Math.Nat.{le_refl, le_trans}
use Rattle.std.specs.Prelude.{nat_eq}
use Rattle.std.proofs.lemmas.Bool.{both_ways}
use Rattle.wh_workflow.specs.declared.job.Job.{Job}
use Rattle.wh_rows.specs.declared.row.RowsState.{RowsState}
use Rattle.wh_rows.specs.declared.row.CommandTemplate.TheVariants as templates
use Rattle.wh_rows.specs.Tables.{JobPattern, CommandTemplate}
use Rattle.wh_rows.specs.Rows.{is_for_job, command_of, commands_of}
use Rattle.wh_rows.specs.Properties.{kind_of, kind_by, same_kind}
use Rattle.wh_rows.proofs.Closing.{closes_alike}
use Rattle.wh_rows.specs.Courses.{Happening, Comes, Gives, Completes, Fails, Cancels, ContinuesAsNew, Closes, Entry, comes, is_given, is_at, gave}
use Rattle.wh_rows.specs.Watches.{Turn, Standing, took, moved, turn_for, turned, watched}
use Rattle.wh_rows.specs.Deciding.{Config, is_by, given, apart, is_among, may_be, may_happen, must_happen, job_turns, each}
use Rattle.wh_rows.proofs.Hiding.{covered}
use Rattle.wh_rows.proofs.Patterns.{none_is_both, is_none, not_among}

-- a test and what passes then
pub both_of : (a b : Bool) → ◌≡◌ {A = Bool} (elim a [ true ↦ b | false ↦ false ]) true → (a ≡ true) × (b ≡ true)
both_of true b is = (refl, is)
both_of false b is = cc

-- each of two lists passes if the joined list does
pub each_append : (test : Config → Bool) (first second : List Config) → each test (first ++ second) ≡ true
    → (each test first ≡ true) × (each test second ≡ true)
each_append test [] second pass = (refl, pass)
each_append test (one ∷ rest) second pass = by (test one) (each_append test rest second) pass
  where
    by : (t : Bool) → (each test (rest ++ second) ≡ true → (each test rest ≡ true) × (each test second ≡ true))
        → ◌≡◌ {A = Bool} (elim t [ true ↦ each test (rest ++ second) | false ↦ false ]) true
        → (◌≡◌ {A = Bool} (elim t [ true ↦ each test rest | false ↦ false ]) true) × (each test second ≡ true)
    by true later pass = later pass
    by false later pass = cc

-- two tests that agree find one turn
turn_for_same : (turns : List Turn) (first second : Happening → Bool) (at : ℕ) → ((what : Happening) → first what ≡ second what)
    → turn_for turns first at ≡ turn_for turns second at
turn_for_same [] first second at agree = refl
turn_for_same (turn ∷ rest) first second at agree =
    ap₂ (λ (t : Bool) (later : Option Turn). elim (nat_eq turn.from at) [
      | true ↦ elim t [ true ↦ Some turn | false ↦ later ]
      | false ↦ later
    ]) (agree turn.what) (turn_for_same rest first second at agree)

pub turned_same : (turns : List Turn) (first second : Happening → Bool) (now : Standing)
    → ((what : Happening) → first what ≡ second what) → turned turns first now ≡ turned turns second now
turned_same turns first second now agree = ap (λ turn. moved turn now) (turn_for_same turns first second now.at agree)

pub watched_append : (turns : List Turn) (now : Standing) (first second : List Entry)
    → watched turns now (first ++ second) ≡ watched turns (watched turns now first) second
watched_append turns now [] second = refl
watched_append turns now (entry ∷ rest) second = watched_append turns (turned turns (λ what. is_at what entry) now) rest second

kind_is_by_row : (one : CommandTemplate) (state : RowsState) (job : Job) → kind_of (command_of one state job) ≡ kind_by one
kind_is_by_row (templates.StartActivity _ _ _) state job = refl
kind_is_by_row (templates.StartChild _ _ _) state job = refl
kind_is_by_row _ state job = refl

-- a command is the happening that its row says
is_by_row : (what : Happening) (one : CommandTemplate) (state : RowsState) (job : Job)
    → is_given what (command_of one state job) ≡ is_by what one
is_by_row (Comes pattern) one state job = refl
is_by_row (Gives kind) one state job = ap (same_kind kind) (kind_is_by_row one state job)
is_by_row Completes (templates.Complete _) state job = refl
is_by_row Completes _ state job = refl
is_by_row Fails (templates.Fail _) state job = refl
is_by_row Fails _ state job = refl
is_by_row Cancels templates.Cancel state job = refl
is_by_row Cancels _ state job = refl
is_by_row ContinuesAsNew (templates.ContinueAsNew _ _) state job = refl
is_by_row ContinuesAsNew _ state job = refl
is_by_row Closes one state job = closes_alike one state job

-- the commands of a row change a watch as the row says
pub given_is : (turns : List Turn) (gives : List CommandTemplate) (state : RowsState) (job : Job) (now : Standing)
    → watched turns now (gave (commands_of gives state job)) ≡ given turns gives now
unfolding commands_of
given_is turns [] state job now = refl
given_is turns (one ∷ rest) state job now =
    given_is turns rest state job (turned turns (λ what. is_given what (command_of one state job)) now)
    ∙ ap (given turns rest)
    (turned_same turns (λ what. is_given what (command_of one state job)) (λ what. is_by what one) now
    (λ what. is_by_row what one state job))

moved_grows : (found : Option Turn) (now : Standing) → now.spent ≤ (moved found now).spent
moved_grows None now = le_refl now.spent
moved_grows (Some turn) now = omega arith

-- a watch never spends less than before
pub grows : (turns : List Turn) (now : Standing) (entries : List Entry) → now.spent ≤ (watched turns now entries).spent
grows turns now [] = le_refl now.spent
grows turns now (entry ∷ rest) =
    let next : Standing = turned turns (λ what. is_at what entry) now in
    let first : now.spent ≤ next.spent = moved_grows (turn_for turns (λ what. is_at what entry) now.at) now in
    let later : next.spent ≤ (watched turns next rest).spent = grows turns next rest in
    le_trans first later

-- a watch that has spent more
abbrev pub ahead : ℕ → Standing → Standing
ahead more now = record { at = now.at; spent = now.spent + more }

moved_ahead : (found : Option Turn) (more : ℕ) (now : Standing) → moved found (ahead more now) ≡ ahead more (moved found now)
moved_ahead None more now = refl
moved_ahead (Some turn) more now =
    let swap : (now.spent + more) + turn.cost ≡ (now.spent + turn.cost) + more = omega arith in
    ap (λ (n : ℕ). let there : Standing = record { at = turn.to; spent = n } in there) swap

-- it changes as one that has spent less
pub watched_ahead : (turns : List Turn) (more : ℕ) (now : Standing) (entries : List Entry)
    → watched turns (ahead more now) entries ≡ ahead more (watched turns now entries)
watched_ahead turns more now [] = refl
watched_ahead turns more now (entry ∷ rest) =
    ap (λ there. watched turns there rest) (moved_ahead (turn_for turns (λ what. is_at what entry) now.at) more now)
    ∙ watched_ahead turns more (turned turns (λ what. is_at what entry) now) rest

-- what is known of a job that matches the pattern, if there is one
abbrev pub IsKnown : Option JobPattern → RowsState → Job → Type 0
IsKnown None state job = Unit {0}
IsKnown (Some one) state job = is_for_job one state job ≡ true

-- what may not happen does not
may_not : (what : Happening) (known : Option JobPattern) (passed : List JobPattern) (state : RowsState) (job : Job)
    → IsKnown known state job → is_none passed state job ≡ true → may_happen known passed what ≡ false
    → comes what state job ≡ false
may_not (Comes wanted) known passed state job is none may =
    by (is_for_job wanted state job) refl (is_among wanted passed) refl may
  where
    of_known : (known : Option JobPattern) → IsKnown known state job → is_for_job wanted state job ≡ true
        → may_be known wanted ≡ false → ⊥
    of_known None is here may = cc
    of_known (Some one) is here may = by_apart (apart one wanted) refl may
      where
        by_apart : (t : Bool) → apart one wanted ≡ t → not t ≡ false → ⊥
        by_apart true differ may = none_is_both one wanted state job differ is here
        by_apart false differ may = cc

    by : (t : Bool) → is_for_job wanted state job ≡ t → (u : Bool) → is_among wanted passed ≡ u
        → ◌≡◌ {A = Bool} (elim u [ true ↦ false | false ↦ may_be known wanted ]) false → t ≡ false
    by false here u p may = refl
    by true here true p may = absurd (not_among wanted passed state job none p here)
    by true here false p may = absurd (of_known known is here may)
may_not (Gives kind) known passed state job is none may = refl
may_not Completes known passed state job is none may = refl
may_not Fails known passed state job is none may = refl
may_not Cancels known passed state job is none may = refl
may_not ContinuesAsNew known passed state job is none may = refl
may_not Closes known passed state job is none may = refl

-- what must happen does
must : (what : Happening) (known : Option JobPattern) (state : RowsState) (job : Job)
    → IsKnown known state job → must_happen known what ≡ true → comes what state job ≡ true
must (Comes wanted) (Some one) state job is over = covered wanted one state job over is
must (Comes wanted) None state job is over = cc
must (Gives kind) None state job is over = cc
must (Gives kind) (Some one) state job is over = cc
must Completes None state job is over = cc
must Completes (Some one) state job is over = cc
must Fails None state job is over = cc
must Fails (Some one) state job is over = cc
must Cancels None state job is over = cc
must Cancels (Some one) state job is over = cc
must ContinuesAsNew None state job is over = cc
must ContinuesAsNew (Some one) state job is over = cc
must Closes None state job is over = cc
must Closes (Some one) state job is over = cc

-- the configuration after a job changes the watch is among those that are computed
pub turns_sound : (test : Config → Bool) (stand : Standing → Config) (turns : List Turn) (known : Option JobPattern)
    (passed : List JobPattern) (state : RowsState) (job : Job) (now : Standing)
    → IsKnown known state job → is_none passed state job ≡ true
    → each test (job_turns stand turns known passed now) ≡ true
    → test (stand (turned turns (λ what. comes what state job) now)) ≡ true
turns_sound test stand [] known passed state job now is none pass = (both_of (test (stand now)) true pass).0
turns_sound test stand (turn ∷ rest) known passed state job now is none pass =
    by (nat_eq turn.from now.at) (may_happen known passed turn.what) refl (must_happen known turn.what) refl
    (comes turn.what state job) refl pass (turns_sound test stand rest known passed state job now is none)
  where
    by : (from may : Bool) → may_happen known passed turn.what ≡ may → (has_to : Bool) → must_happen known turn.what ≡ has_to
        → (come : Bool) → comes turn.what state job ≡ come
        → each test (elim from [
          | true ↦ elim may [
            | true ↦ elim has_to [
              | true ↦ stand (took turn now) ∷ []
              | false ↦ stand (took turn now) ∷ job_turns stand rest known passed now
            ]
            | false ↦ job_turns stand rest known passed now
          ]
          | false ↦ job_turns stand rest known passed now
        ]) ≡ true
        → (each test (job_turns stand rest known passed now) ≡ true
        → test (stand (moved (turn_for rest (λ what. comes what state job) now.at) now)) ≡ true)
        → test (stand (moved (elim from [
          | true ↦ elim come [ true ↦ Some turn | false ↦ turn_for rest (λ what. comes what state job) now.at ]
          | false ↦ turn_for rest (λ what. comes what state job) now.at
        ]) now)) ≡ true
    by false may p has_to q come r pass later = later pass
    by true false p has_to q true r pass later =
        absurd (both_ways (comes turn.what state job) (may_not turn.what known passed state job is none p) r)
    by true false p has_to q false r pass later = later pass
    by true true p true q false r pass later =
        absurd (both_ways (comes turn.what state job) r (must turn.what known state job is q))
    by true true p true q true r pass later = (both_of (test (stand (took turn now))) true pass).0
    by true true p false q true r pass later =
        (both_of (test (stand (took turn now))) (each test (job_turns stand rest known passed now)) pass).0
    by true true p false q false r pass later =
        later (both_of (test (stand (took turn now))) (each test (job_turns stand rest known passed now)) pass).1
