-- A cache of runs, the most recently used first, and the rule of `put`.
use Rattle.std.specs.Prelude.{◌≡◌, ◌≢◌, ◌⊎◌, ℕ, ◌+◌, ◌-◌, ◌<◌, ◌≤◌, ◌==◌, ◌||◌, nat_lt, cond, List, [], ◌∷◌, ◌++◌, length, map, take, reverse, None, Some}
use Rattle.std.specs.List.{IsDistinct}
use Rattle.std.specs.Map.{keys_of, lookup, remove_entry}
use Rattle.wh_events.specs.declared.key.RunKey.{RunKey}
use Rattle.wh_events.specs.Keys.{same_key}
use Rattle.wh_workflow.specs.Law.{Program}
use Rattle.wh_replay.specs.Runs.{HistoryView, Held, history_of, run_under, IsReplayed}
use Rattle.wh_host.specs.Weights.{weight_of}
use Rattle.wh_host.specs.declared.cache.Put.{Put}
use Rattle.wh_host.specs.declared.cache.Put.TheVariants.{Kept, PushedOut, Off, Shorter, TooLarge, NoMemory}

-- a cached run: its key and its replayed history
abbrev pub Entry : Type 0
Entry = RunKey × HistoryView

-- a run as the cache keeps it
abbrev pub entry_of : Held → Entry
entry_of run = (run.key, history_of run)

-- a cached run as the cache returns it
abbrev pub held_of : Entry → Held
held_of entry = run_under entry.0 entry.1

-- the runs, the most recently used first, with the bounds on their number and on their weight together, where a `bound`
-- of 0 is none
pub record CacheView : Type 0 where
  pub runs : List Entry
  pub capacity : ℕ
  pub bound : ℕ

abbrev pub cache_view : List Entry → ℕ → ℕ → CacheView
cache_view runs capacity bound = record { runs = runs; capacity = capacity; bound = bound }

-- the weight of the runs together
abbrev pub held_by : List Entry → ℕ
held_by [] = 0
held_by (r ∷ rs) = weight_of r.1.events + held_by rs

-- each run has the machines, versions and unsent commands that replay of its held events from the first gives
abbrev pub AllReplayed : {S : Type 0} → Program S → List Entry → Type 0
AllReplayed program [] = Unit {0}
AllReplayed program (r ∷ rs) = IsReplayed program r.1 × AllReplayed program rs

-- both bounds hold
abbrev pub Fits : ℕ → ℕ → List Entry → Type 0
Fits capacity bound runs = (length runs ≤ capacity) × (bound ≢ 0 → held_by runs ≤ bound)

-- both bounds hold, no two runs have the same key, and each run is what replay of its held events from the first gives
pub record IsSound {S : Type 0} (program : Program S) (c : CacheView) : Type 0 where
  pub fits : Fits c.capacity c.bound c.runs
  pub distinct : IsDistinct same_key (keys_of c.runs)
  pub replayed : AllReplayed program c.runs
  pub capacity : c.capacity ≤ 10000
  pub bound : c.bound ≤ 512000000

-- the run in front, where it replaces the one of its key
abbrev pub with_first : Entry → List Entry → List Entry
with_first run runs = run ∷ remove_entry (same_key run.0) runs

-- how many runs fit, from the front on, if there is room for so many runs and so much weight
abbrev pub fitting : ℕ → ℕ → List Entry → ℕ
fitting room left [] = 0
fitting room left (r ∷ rs) =
    cond (room == 0 || nat_lt left (weight_of r.1.events)) 0 (fitting (room - 1) (left - weight_of r.1.events) rs + 1)

-- the first n runs fit, and no longer beginning of the list fits
pub record FitMost (c : CacheView) (runs : List Entry) (n : ℕ) : Type 0 where
  pub within : n ≤ length runs
  pub fits : Fits c.capacity c.bound (take n runs)
  pub most : (m : ℕ) → n < m → m ≤ length runs → Fits c.capacity c.bound (take m runs) → ⊥

-- the kept runs are the longest beginning that fits, and the others are evicted, the last first
pub record KeepsMost (c : CacheView) (all kept gone : List Entry) : Type 0 where
  pub parts : all ≡ kept ++ reverse gone
  pub most : FitMost c all (length kept)

-- the cached run of the key holds at least as many events
abbrev pub IsShorter : CacheView → Held → Type 0
IsShorter c run =
    (held : HistoryView)
    × (lookup (same_key run.key) c.runs ≡ Some held)
    × (length run.events ≤ length held.events)

-- there is a bound on the weight, and the run alone weighs more
abbrev pub IsTooLarge : CacheView → Held → Type 0
IsTooLarge c run = (c.bound ≢ 0) × (c.bound < weight_of run.events)

-- the cache keeps runs, and this one is neither shorter than the cached one nor too large
abbrev pub MayEnter : CacheView → Held → Type 0
MayEnter c run = (c.capacity ≢ 0) × (¬ IsShorter c run) × (¬ IsTooLarge c run)

-- the run becomes the first and replaces the one of its key, and runs are evicted from the back until both bounds hold
pub record Enters (old : CacheView) (run : Held) (new : CacheView) (gone : List Held) : Type 0 where
  pub may : MayEnter old run
  pub same : new ≡ record old { runs = new.runs }
  pub keeps : KeepsMost old (with_first (entry_of run) old.runs) new.runs (map entry_of gone)

-- the key is not cached, or a run has to be evicted
abbrev pub NeedsMemory : CacheView → Held → Type 0
NeedsMemory old run =
    (lookup (same_key run.key) old.runs ≡ None) ⊎ (¬ Fits old.capacity old.bound (with_first (entry_of run) old.runs))

-- a result of `put`, with the runs that it returns
pub data PutReply : Type 0 where
  IsKept : PutReply
  HasPushedOut : List Held → PutReply
  IsOff : Held → PutReply
  IsShort : Held → PutReply
  IsLarge : Held → PutReply
  HasNoMemory : Held → PutReply

abbrev pub put_reply_of : {W S : Type 0} → Put W S → PutReply
put_reply_of Kept = IsKept
put_reply_of (PushedOut gone) = HasPushedOut gone
put_reply_of (Off back) = IsOff back
put_reply_of (Shorter back) = IsShort back
put_reply_of (TooLarge back) = IsLarge back
put_reply_of (NoMemory back) = HasNoMemory back

-- what `put` does, by its result: a run is refused for the first reason that applies, and as `NoMemory` only if memory
-- is needed
abbrev pub Puts : CacheView → Held → CacheView → PutReply → Type 0
Puts old run new IsKept = Enters old run new []
Puts old run new (HasPushedOut gone) = Enters old run new gone × (gone ≢ [])
Puts old run new (IsOff back) = (old.capacity ≡ 0) × (back ≡ run) × (new ≡ old)
Puts old run new (IsShort back) = (old.capacity ≢ 0) × IsShorter old run × (back ≡ run) × (new ≡ old)
Puts old run new (IsLarge back) =
    (old.capacity ≢ 0) × (¬ IsShorter old run) × IsTooLarge old run × (back ≡ run) × (new ≡ old)
Puts old run new (HasNoMemory back) =
    MayEnter old run × NeedsMemory old run × (back ≡ run) × (new ≡ old)
