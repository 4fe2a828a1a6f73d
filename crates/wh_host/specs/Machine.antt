-- The host as a machine: its state, its calls with their results, and the step of each call.
use Rattle.std.specs.Prelude.{◌||◌, cond, map, ◌≡◌, ℕ, ◌+◌, ◌-◌, ◌≤◌, Bool, true, false, List, [], ◌∷◌, length, replicate, Option, Some, None, is_some, Result, Ok, MatchResult, slice_get, slice_set, option_map}
use Rattle.std.specs.declared.sync.ledger.Blank.{Blank}
use Rattle.std.specs.Map.{lookup, lookup_entry, remove_entry}
use Rattle.wh_slots.specs.declared.SlotKind.{SlotKind}
use Rattle.wh_slots.specs.declared.SlotKind.TheVariants.{Workflow, Activity}
use Rattle.wh_slots.specs.declared.TaskName.{TaskName}
use Rattle.wh_slots.specs.declared.Place.{Place}
use Rattle.wh_slots.specs.declared.Place.TheVariants.{Free, Reserved, InHand}
use Rattle.wh_slots.specs.declared.ReserveFault.{ReserveFault}
use Rattle.wh_slots.specs.declared.UseFault.{UseFault}
use Rattle.wh_slots.specs.declared.NotHeld.{NotHeld}
use Rattle.wh_slots.specs.declared.NotReserved.{NotReserved}
use Rattle.wh_slots.specs.Table.{Table, table, IsTable, Reserves, Uses, Releases, IsReserved, IsHeld, IsNamed, is_any_held, count_of, reserved_count, held_count, IsReserveFault, IsUseFault}
use Rattle.wh_events.specs.declared.key.RunKey.{RunKey}
use Rattle.wh_events.specs.Keys.{same_key}
use Rattle.wh_workflow.specs.Law.{Program}
use Rattle.wh_replay.specs.Runs.{Held as HeldRun, history_of, IsReplayed}
use Rattle.wh_host.specs.Cache.{CacheView, cache_view, held_of, held_by, IsSound, Puts, PutReply, put_reply_of}
use Rattle.wh_host.specs.declared.ledger.Shares.{Shares}
use Rattle.wh_host.specs.Shares.{no_shares}
use Rattle.wh_slots.specs.Sizes.{IsConfig}
use Rattle.wh_slots.specs.declared.sizes.Config.{Config}
use Rattle.wh_host.specs.declared.reply.Totals.{Totals}
use Rattle.wh_host.specs.declared.state.Mark.{Mark}
use Rattle.wh_host.specs.declared.reply.Counts.{Counts}
use Rattle.wh_host.specs.declared.reply.Evict.{Evict}
use Rattle.wh_host.specs.declared.reply.Evict.TheVariants.{Evicted, NotCached}
use Rattle.wh_host.specs.declared.reply.Evict.TheVariants.{Marked as OnlyMarked}
use Rattle.wh_host.specs.declared.reply.Given.{Given}
use Rattle.wh_host.specs.declared.reply.Given.TheVariants.{Put, Marked, NotHeld as NoPlace}
use Rattle.wh_host.specs.declared.reply.Outcome.{Outcome}
use Rattle.wh_host.specs.declared.reply.Outcome.TheVariants.{Completed, Failed}

-- a permit, or a held place: its kind and its number
abbrev pub Claim : Type 0
Claim = SlotKind × ℕ

-- the places of both kinds, the mark of each workflow place, the cached runs, and the books
pub record HostView : Type 0 where
  pub workflow : Table
  pub activity : Table
  pub marks : List (Option Mark)
  pub cache : CacheView
  pub books : Shares

abbrev pub host_view : Table → Table → List (Option Mark) → CacheView → Shares → HostView
host_view workflow activity marks cache books =
    record { workflow = workflow; activity = activity; marks = marks; cache = cache; books = books }

-- all places free, nothing cached and nothing counted
abbrev pub opening : ℕ → ℕ → ℕ → ℕ → HostView
opening workflow_slots activity_slots capacity bound =
    record {
      workflow = table Workflow (replicate workflow_slots Free) 1 false;
      activity = table Activity (replicate activity_slots Free) 1 false;
      marks = replicate workflow_slots None;
      cache = cache_view [] capacity bound;
      books = no_shares;
    }

-- a new ledger of this name with as many parts, one for each seat of a host of these sizes
abbrev pub IsBlankOf : Config → Blank → ℕ → ℕ → Type 0
IsBlankOf config blank name parts =
    (blank.name ≡ name) × (blank.parts ≡ parts) × (IsConfig config → blank.parts ≡ config.seats)

-- the state that a host of these sizes opens with
abbrev pub opening_of : Config → HostView
opening_of config = opening config.workflow_slots config.activity_slots config.cache config.cache_events

-- each held place has a mark, and no other place has one
abbrev pub AllMarked : List Place → List (Option Mark) → Type 0
AllMarked [] [] = Unit {0}
AllMarked [] (m ∷ ms) = ⊥
AllMarked (p ∷ ps) [] = ⊥
AllMarked (p ∷ ps) (m ∷ ms) = (is_any_held p ≡ is_some m) × AllMarked ps ms

-- how many tasks are being processed
abbrev pub in_hand : HostView → ℕ
in_hand v = held_count v.workflow + held_count v.activity

-- what all seats counted, with the tasks taken that were neither completed nor failed
abbrev pub totals_of : Shares → Totals
totals_of s =
    record { taken = s.taken; completed = s.completed; failed = s.failed; in_hand = s.taken - s.completed - s.failed }

-- what holds for every state
pub record IsHost {S : Type 0} (program : Program S) (v : HostView) : Type 0 where
  -- each place is free, reserved under a number, or held under a number and a name, and no number or name occurs twice
  pub workflow : IsTable v.workflow
  pub activity : IsTable v.activity
  pub kinds : (v.workflow.kind ≡ Workflow) × (v.activity.kind ≡ Activity)
  pub draining : v.workflow.draining ≡ v.activity.draining
  pub marked : AllMarked v.workflow.places v.marks
  -- each task taken is completed, failed or being processed
  pub counted : v.books.taken ≡ v.books.completed + v.books.failed + in_hand v
  -- each number given out was used at most once, and not while it is reserved
  pub numbered :
      v.books.taken + reserved_count v.workflow + reserved_count v.activity + 2 ≤ v.workflow.next + v.activity.next
  -- both bounds of the cache hold, no two runs have the same key, and each run has the machines, versions and unsent
  -- commands that replay of its held events from the first gives
  pub cached : IsSound program v.cache

-- the places of a kind
abbrev pub table_of : HostView → SlotKind → Table
table_of v Workflow = v.workflow
table_of v Activity = v.activity

-- the result of giving a run back
pub data GiveReply : Type 0 where
  IsPut : PutReply → GiveReply
  IsMarked : HeldRun → GiveReply
  IsNotHeld : HeldRun → GiveReply

-- what contracts see of a result of `give_run`
abbrev pub give_reply_of : {W S : Type 0} → Given W S → GiveReply
give_reply_of (Put put) = IsPut (put_reply_of put)
give_reply_of (Marked back) = IsMarked back
give_reply_of (NoPlace back) = IsNotHeld back

-- a call under the lock, with its arguments and its result
pub data Call : Type 0 where
  Reserve : SlotKind → Result Claim ReserveFault → Call
  Release : Claim → Result (Unit {0}) (Claim × NotReserved) → Call
  UseWorkflow : Claim → TaskName → RunKey → Result (Claim × Option HeldRun) (Claim × RunKey × UseFault) → Call
  UseActivity : Claim → TaskName → Result Claim (Claim × UseFault) → Call
  GiveRun : Claim → HeldRun → GiveReply → Call
  Finish : Claim → Outcome → Result (Unit {0}) (Claim × NotHeld) → Call
  EvictRun : RunKey → Evict → Call
  Drain : Call
  ReadCounts : Counts → Call

-- the table with this place at an index
abbrev pub with_place : Table → ℕ → Place → Table
with_place t i place = record t { places = slice_set t.places i place }

-- the cache without the run of the key
abbrev pub without_run : CacheView → RunKey → CacheView
without_run cache key = record cache { runs = remove_entry (same_key key) cache.runs }

-- the books after one more task was taken
abbrev pub with_taken : Shares → Shares
with_taken books = record books { taken = books.taken + 1 }

-- a free place is reserved under the next number, or the call fails for the first reason that applies
abbrev pub reserve_step : HostView → SlotKind → Result Claim ReserveFault → HostView → Type 0
reserve_step old Workflow reply new =
    MatchResult reply
    (λ permit. Reserves old.workflow new.workflow permit × (new ≡ record old { workflow = new.workflow }))
    (λ fault. IsReserveFault old.workflow fault × (new ≡ old))
reserve_step old Activity reply new =
    MatchResult reply
    (λ permit. Reserves old.activity new.activity permit × (new ≡ record old { activity = new.activity }))
    (λ fault. IsReserveFault old.activity fault × (new ≡ old))

-- the place that was reserved under the permit is free, or no place is reserved under it and the permit comes back
abbrev pub release_step : HostView → SlotKind → Claim → Result (Unit {0}) (Claim × NotReserved) → HostView → Type 0
release_step old Workflow permit reply new =
    MatchResult reply
    (λ _. Releases old.workflow new.workflow permit × (new ≡ record old { workflow = new.workflow }))
    (λ refused. (refused.0 ≡ permit) × (¬ IsReserved old.workflow permit) × (new ≡ old))
release_step old Activity permit reply new =
    MatchResult reply
    (λ _. Releases old.activity new.activity permit × (new ≡ record old { activity = new.activity }))
    (λ refused. (refused.0 ≡ permit) × (¬ IsReserved old.activity permit) × (new ≡ old))

-- the task holds the workflow place that was reserved under the permit, with the key and no mark for eviction; the
-- cached run of the key leaves the cache and is returned, and the task is counted as taken
pub record UsesWorkflow (old : HostView) (permit : Claim) (name : TaskName) (key : RunKey) (held : Claim)
    (run : Option HeldRun) (new : HostView) : Type 0 where
  pub own_kind : permit.0 ≡ Workflow
  pub same_number : held ≡ permit
  pub unnamed : ¬ IsNamed old.workflow name
  pub handed_out : run ≡ option_map held_of (lookup_entry (same_key key) old.cache.runs)
  pub place : ℕ
  pub was_reserved : slice_get old.workflow.places place ≡ Some (Reserved permit.1)
  pub changed :
      new
      ≡ record old {
        workflow = with_place old.workflow place (InHand permit.1 name);
        marks = slice_set old.marks place (Some (record { key = key; evicted = false }));
        cache = without_run old.cache key;
        books = with_taken old.books;
      }

-- the task holds the activity place that was reserved under the permit, and is counted as taken
abbrev pub UsesActivity : HostView → Claim → TaskName → Claim → HostView → Type 0
UsesActivity old permit name held new =
    Uses old.activity new.activity permit name held
    × (new ≡ record old { activity = new.activity; books = with_taken old.books })

-- the place has this key, and is marked for eviction or not
abbrev pub is_marked_at : List (Option Mark) → ℕ → RunKey → Bool → Type 0
is_marked_at marks i key evicted = slice_get marks i ≡ Some (Some (record { key = key; evicted = evicted }))

-- a workflow place is held under the number, with this key, and marked for eviction or not
abbrev pub HoldsRun : HostView → Claim → RunKey → Bool → Type 0
HoldsRun v held key evicted =
    (held.0 ≡ Workflow)
    × ((i : ℕ)
    × (name : TaskName)
    × (slice_get v.workflow.places i ≡ Some (InHand held.1 name))
    × is_marked_at v.marks i key evicted)

-- the run comes back if no workflow place is held under the number with the run's key, or if that place is marked for
-- eviction; else it is put into the cache
abbrev pub give_step : HostView → Claim → HeldRun → GiveReply → HostView → Type 0
give_step old held run (IsNotHeld back) new =
    ((evicted : Bool) → ¬ HoldsRun old held run.key evicted) × (back ≡ run) × (new ≡ old)
give_step old held run (IsMarked back) new = HoldsRun old held run.key true × (back ≡ run) × (new ≡ old)
give_step old held run (IsPut reply) new =
    HoldsRun old held run.key false × Puts old.cache run new.cache reply × (new ≡ record old { cache = new.cache })

-- the place has the key
abbrev pub has_key : RunKey → Option Mark → Bool
has_key key None = false
has_key key (Some mark) = same_key key mark.key

-- some place has the key
abbrev pub has_mark : RunKey → List (Option Mark) → Bool
has_mark key [] = false
has_mark key (m ∷ ms) = has_key key m || has_mark key ms

-- the mark of a place after the key is evicted
abbrev pub evicted_for : RunKey → Option Mark → Option Mark
evicted_for key None = None
evicted_for key (Some mark) = Some (record mark { evicted = same_key key mark.key || mark.evicted })

-- the result of evicting a key: whether its run was cached, or else whether some held place has the key
abbrev pub evict_reply : HostView → RunKey → Evict
evict_reply v key =
    cond (is_some (lookup (same_key key) v.cache.runs)) Evicted (cond (has_mark key v.marks) OnlyMarked NotCached)

-- the counts of a state
abbrev pub counts_of : HostView → Counts
counts_of v =
    record {
      taken = v.books.taken;
      completed = v.books.completed;
      failed = v.books.failed;
      in_hand = in_hand v;
      cached = length v.cache.runs;
      cached_events = held_by v.cache.runs;
      workflow = count_of v.workflow;
      activity = count_of v.activity;
    }

-- the three books among the counts
abbrev pub books_of : Counts → Shares
books_of counts = record { taken = counts.taken; completed = counts.completed; failed = counts.failed }

-- the books after one more task was finished with this outcome
abbrev pub with_outcome : Outcome → Shares → Shares
with_outcome Completed books = record books { completed = books.completed + 1 }
with_outcome Failed books = record books { failed = books.failed + 1 }

-- the held place is free and has no mark, and the outcome is counted
abbrev pub finishes : HostView → SlotKind → ℕ → Outcome → HostView → Type 0
finishes old Workflow number outcome new =
    (i : ℕ) × (name : TaskName) × (slice_get old.workflow.places i ≡ Some (InHand number name))
    × (new
    ≡ record old {
      workflow = with_place old.workflow i Free;
      marks = slice_set old.marks i None;
      books = with_outcome outcome old.books;
    })
finishes old Activity number outcome new =
    (i : ℕ) × (name : TaskName) × (slice_get old.activity.places i ≡ Some (InHand number name))
    × (new ≡ record old { activity = with_place old.activity i Free; books = with_outcome outcome old.books })

-- the call leads from the old state to the new one; a refused call returns what was moved in, and changes nothing
abbrev pub step : HostView → Call → HostView → Type 0
step old (Reserve kind reply) new = reserve_step old kind reply new
step old (Release permit reply) new = release_step old permit.0 permit reply new
step old (UseWorkflow permit name key reply) new =
    MatchResult reply
    (λ r. UsesWorkflow old permit name key r.0 r.1 new)
    (λ refused. (refused.0 ≡ permit) × (refused.1 ≡ key) × IsUseFault old.workflow permit name refused.2 × (new ≡ old))
step old (UseActivity permit name reply) new =
    MatchResult reply
    (λ held. UsesActivity old permit name held new)
    (λ refused. (refused.0 ≡ permit) × IsUseFault old.activity permit name refused.1 × (new ≡ old))
step old (GiveRun held run reply) new = give_step old held run reply new
step old (EvictRun key reply) new =
    (reply ≡ evict_reply old key)
    × (new ≡ record old { marks = map (evicted_for key) old.marks; cache = without_run old.cache key })
step old (ReadCounts reply) new = (reply ≡ counts_of old) × (new ≡ old)
step old (Finish held outcome reply) new =
    MatchResult reply
    (λ _. finishes old held.0 held.1 outcome new)
    (λ refused. (refused.0 ≡ held) × (¬ IsHeld (table_of old held.0) held) × (new ≡ old))
step old Drain new =
    new
    ≡ record old {
      workflow = record old.workflow { draining = true };
      activity = record old.activity { draining = true };
    }

-- the list of calls leads from the old state to the new one
abbrev pub Steps : HostView → List Call → HostView → Type 0
Steps old [] new = new ≡ old
Steps old (e ∷ es) new = (next : HostView) × step old e next × Steps next es new

-- if the call gives a run back, the run is what replay of its held events from the first gives
abbrev pub GivesReplayed : {S : Type 0} → Program S → Call → Type 0
GivesReplayed program (GiveRun held run reply) = IsReplayed program (history_of run)
GivesReplayed program _ = Unit {0}

-- each run that the calls give back is what replay of its held events from the first gives
abbrev pub AllReplayedGiven : {S : Type 0} → Program S → List Call → Type 0
AllReplayedGiven program [] = Unit {0}
AllReplayedGiven program (e ∷ es) = GivesReplayed program e × AllReplayedGiven program es

-- the books after a call: an accepted use is a task taken, and an accepted finish a task completed or failed
abbrev pub tallied : Call → Shares → Shares
tallied (UseWorkflow permit name key (Ok r)) s = with_taken s
tallied (UseActivity permit name (Ok r)) s = with_taken s
tallied (Finish held outcome (Ok u)) s = with_outcome outcome s
tallied _ s = s

-- the books after a list of calls
abbrev pub tally_from : Shares → List Call → Shares
tally_from s [] = s
tally_from s (e ∷ es) = tally_from (tallied e s) es

-- after every list of steps from an opening state that gives back only replayed runs, `IsHost` holds
abbrev pub StepsKeepHosts : {S : Type 0} → Program S → Type 0
StepsKeepHosts program =
    (config : Config) (calls : List Call) (end : HostView) → IsConfig config → AllReplayedGiven program calls
    → Steps (opening_of config) calls end → IsHost program end

-- the books of a state that steps from an opening state lead to are what those steps count
abbrev pub StepsAreCounted : Type 0
StepsAreCounted =
    (config : Config) (calls : List Call) (end : HostView) → Steps (opening_of config) calls end
    → end.books ≡ tally_from no_shares calls
