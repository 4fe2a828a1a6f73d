-- Runs are kept beside a sticky queue.
use Rattle.std.proofs.Common.{◌≡◌, ◌∙◌, ℕ, ◌<◌, ◌≤◌, Bool, true, false, None, Some, refl, sym, ap, subst, arith}
use Rattle.std.specs.Prelude.{◌&&◌, IsSome, if◌then◌else◌, leb}
use Rattle.std.proofs.lemmas.Bool.{leb-false, leb-true, le-leb}
use Rattle.wh_command_line.specs.declared.work.WorkOptions.{WorkOptions}
use Rattle.wh_work.specs.Plans.{keeps_runs, RunsAreKeptBesideAStickyQueue, StickyQueueKeepsRuns, TwoKeepWhatIsAskedFor}

-- if a number is left, the test held
held : (b : Bool) (n : ℕ) → 0 < (if b then n else 0) → b ≡ true
held true n h = refl
held false n h = absurd (omega (arith, h))

-- so it did if there is a value
held_where_some : (b : Bool) (n : ℕ) → IsSome (if b then Some n else None) → b ≡ true
held_where_some true n h = refl
held_where_some false n h = h

first_held : (a b : Bool) → (a && b) ≡ true → a ≡ true
first_held true b h = refl
first_held false b h = h

second_held : (a b : Bool) → (a && b) ≡ true → b ≡ true
second_held true b h = h
second_held false true h = refl
second_held false false h = h

-- with runs kept there is a cache, and a second worker
two : (options : WorkOptions) → keeps_runs options ≡ true → 2 ≤ options.workers
two options h = leb-true 2 options.workers (second_held (leb 1 options.cache) (leb 2 options.workers) h)

some : (options : WorkOptions) → keeps_runs options ≡ true → 1 ≤ options.cache
some options h = leb-true 1 options.cache (first_held (leb 1 options.cache) (leb 2 options.workers) h)

pub kept_beside_sticky : RunsAreKeptBesideAStickyQueue
kept_beside_sticky options h =
    let kept : keeps_runs options ≡ true = held (keeps_runs options) options.cache h in (
      two options kept,
      subst (λ b. IsSome (if b then Some options.sticky_timeout else None)) (sym kept) refl,
      ap (λ b. if b then options.cache else 0) kept,
    )

pub sticky_keeps : StickyQueueKeepsRuns
sticky_keeps options h =
    let kept : keeps_runs options ≡ true = held_where_some (keeps_runs options) options.sticky_timeout h in
    let more : 1 ≤ options.cache = some options kept in
    let full : 0 < options.cache = omega (arith, more) in
    subst (λ b. 0 < (if b then options.cache else 0)) (sym kept) full

-- a second worker is there: the cache is what is asked for, whether there is to be one or not
asked_for : (b : Bool) (cache : ℕ) → leb 1 cache ≡ b → (if (b && true) then cache else 0) ≡ cache
asked_for true cache h = refl
asked_for false cache h = none cache h
  where
    none : (n : ℕ) → leb 1 n ≡ false → 0 ≡ n
    none n e = let below : n < 1 = leb-false 1 n e in omega (arith, below)

pub two_keep_asked : TwoKeepWhatIsAskedFor
two_keep_asked options h =
    let second : leb 2 options.workers ≡ true = le-leb 2 options.workers h in
    ap (λ b. if (leb 1 options.cache && b) then options.cache else 0) second
    ∙ asked_for (leb 1 options.cache) options.cache refl
