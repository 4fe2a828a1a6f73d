-- The cache cannot be seen in the answers.
use Rattle.std.proofs.Common.{◌≡◌, ℕ, suc, ◌+◌, ◌<◌, Bool, true, false, cond, List, [], ◌∷◌, ◌++◌, length, take, drop, reverse, Option, Some, None, refl, sym, ap, ◌∙◌, subst, arith, length-append, append_assoc, length-drop, ◌-◌}
use Rattle.std.specs.Prelude.{Result, Ok, Err, IsOkAnd, if◌then◌else◌, slice_get, option_map, map}
use Rattle.std.specs.Map.{lookup_entry, remove_entry}
use Rattle.std.proofs.Math.Seq.{take-append_seam}
use Rattle.std.proofs.lemmas.List.{take-append-drop, length-take-le}
use Rattle.std.proofs.lemmas.Bool.{eqb-true}
use Rattle.wh_events.specs.declared.event.Event.{Event}
use Rattle.wh_replay.specs.declared.fault.Fault.{Fault}
use Rattle.wh_events.specs.declared.key.RunKey.{RunKey}
use Rattle.wh_replay.specs.declared.run.Answer.{Answer}
use Rattle.wh_replay.specs.declared.run.Answer.TheVariants.{Complete}
use Rattle.wh_replay.specs.Replays.{Replayed, ends_in_task}
use Rattle.wh_tasks.specs.Numbers.{number_or_zero, last_number}
use Rattle.wh_events.specs.Keys.{same_key, same_key-true}
use Rattle.wh_workflow.specs.Law.{Program}
use Rattle.wh_tasks.specs.Tasks.{answer_to}
use Rattle.wh_replay.specs.Runs.{HistoryView, Held, history_of, Shows, run_of, follows, steps, advance_steps}
use Rattle.wh_replay.specs.Advances.{answered}
use Rattle.wh_tasks.specs.Tasks.{Own, Nothing, Joined, Told, later_basis, Replays, ReplaysFetched, StepsFrom, Steps, IsAnswer}
use Rattle.wh_slots.specs.declared.SlotKind.{SlotKind}
use Rattle.wh_slots.specs.declared.SlotKind.TheVariants.{Workflow, Activity}
use Rattle.wh_slots.specs.declared.ReserveFault.{ReserveFault}
use Rattle.wh_slots.specs.declared.NotReserved.{NotReserved}
use Rattle.wh_host.specs.Cache.{Entry, CacheView, entry_of, held_of, Enters, PutReply, IsKept, HasPushedOut, IsOff, IsShort, IsLarge, HasNoMemory, Puts}
use Rattle.wh_host.specs.declared.reply.Outcome.{Outcome}
use Rattle.wh_host.specs.Machine.{Claim, HostView, Call, Reserve, Release, UseWorkflow, UseActivity, GiveRun, EvictRun, Finish, Drain, ReadCounts, IsPut, IsMarked, IsNotHeld, step, reserve_step, release_step, give_step, finishes}
use Rattle.wh_host.specs.Machine.{GiveReply}
use Rattle.wh_poll.specs.Steady.{Table, IsTable, IsNumbered, told_by, HoldsBeginning, AllHoldBeginnings, Steady, Use, with_run, IsUse, BringsNoRun, Move, Uses, Gives, Happens, move, Moves, IsAnswered, AllAnswered, IsSteady}

IsNumbered-append : (n : ℕ) (xs ys : List Event) → IsNumbered n (xs ++ ys) → IsNumbered (n + length xs) ys
IsNumbered-append n [] ys h = let same : n ≡ n + length {A = Event} [] = omega arith in subst (λ (k : ℕ). IsNumbered k ys) same h
IsNumbered-append n (x ∷ xs) ys h =
    let same : (n + 1) + length xs ≡ n + length (x ∷ xs) = omega arith in
    subst (λ (k : ℕ). IsNumbered k ys) same (IsNumbered-append (n + 1) xs ys h.1)

-- the last of numbered events has the number of their place
last-numbered : (n : ℕ) (e : Event) (es rest : List Event) → IsNumbered n ((e ∷ es) ++ rest) → last_number (e ∷ es) + 1 ≡ n + length (e ∷ es)
last-numbered n e [] rest h =
    let one : length (e ∷ []) - 1 ≡ 0 = omega arith in
    let here : last_number (e ∷ []) ≡ e.number = ap (λ (i : ℕ). number_or_zero (slice_get (e ∷ []) i)) one in
    let first = h.0 in omega (arith, here, first)
last-numbered n e (f ∷ es) rest h =
    let one : length (e ∷ f ∷ es) - 1 ≡ suc (length (f ∷ es) - 1) = omega arith in
    let here : last_number (e ∷ f ∷ es) ≡ last_number (f ∷ es) = ap (λ (i : ℕ). number_or_zero (slice_get (e ∷ f ∷ es) i)) one in
    let more = last-numbered (n + 1) f es rest h.1 in omega (arith, here, more)

-- how a list ends does not depend on what is before its last part
ends-append : (xs : List Event) (e : Event) (es : List Event) → ends_in_task (xs ++ (e ∷ es)) ≡ ends_in_task (e ∷ es)
ends-append [] e es = refl
ends-append (x ∷ []) e es = refl
ends-append (x ∷ y ∷ ys) e es = ends-append (y ∷ ys) e es

length-zero : {A : Type 0} (xs : List A) → length xs ≡ 0 → xs ≡ []
length-zero [] h = refl
length-zero (x ∷ xs) h = absurd (omega (arith, h))

-- what a delivery gives is right: its answer is that of the history, and a run that it gives holds the history
abbrev pub IsRunOf : RunKey → List Event → Option Held → Type 0
IsRunOf key history None = Unit {0}
IsRunOf key history (Some run) = (run.key ≡ key) × (run.events ≡ history)

abbrev pub IsCached : Table → RunKey → Option Held → Type 0
IsCached table key None = Unit {0}
IsCached table key (Some run) = (key ≡ run.key) × HoldsBeginning table (entry_of run)

pub record IsRight {S : Type 0} (program : Program S) (key : RunKey) (history : List Event) (stepped : Option Held) (fault : Option Fault) : Type 0 where
  pub answer : (answer : Answer) → IsAnswer stepped fault answer → answer ≡ answer_to program history
  pub run : IsRunOf key history stepped

-- what a replayed history shows as unsent is what its replay is answered by
shown_answer : {S : Type 0} (result : Result (Replayed S) Fault) (history : HistoryView) → IsOkAnd result (Shows history) → Complete history.unsent ≡ answered result
shown_answer (Ok replayed) history shows = ap Complete shows.unsent
shown_answer (Err fault) history shows = absurd shows

module _ {S : Type 0} (program : Program S) (key : RunKey) where
  Replays-right : (history : List Event) (steps : ℕ) (stepped : Option Held) (fault : Option Fault) (before after : ℕ) → Replays program key history steps stepped fault before after → IsRight program key history stepped fault
  Replays-right history steps (Some run) None before after r =
      let holds = r.0 in
      record {
        answer = λ answer a. a ∙ shown_answer (run_of program run.events) (history_of run) holds.2.replays ∙ ap (answer_to program) holds.1;
        run = (holds.0, holds.1);
      }
  Replays-right history steps None (Some fault) before after r = record { answer = λ answer a. a ∙ sym r; run = tt }
  Replays-right history steps (Some run) (Some fault) before after r = absurd r
  Replays-right history steps None None before after r = absurd r

  module _ (table : Table) (numbered : IsTable table) (front : List Event) (e : Event) (es rest : List Event)
      (is : table key ≡ front ++ ((e ∷ es) ++ rest)) (ends : ends_in_task (front ++ (e ∷ es)) ≡ true)
      (stepped : Option Held) (fault : Option Fault) (hit : Bool) (before after : ℕ) where
    counted : IsNumbered (1 + length front) ((e ∷ es) ++ rest)
    counted = IsNumbered-append 1 front ((e ∷ es) ++ rest) (subst (λ (l : List Event). IsNumbered 1 l) is (numbered key))

    number : e.number ≡ 1 + length front
    number = counted.0

    split : table key ≡ (front ++ (e ∷ es)) ++ rest
    split = is ∙ sym (append_assoc front (e ∷ es) rest)

    told : ReplaysFetched program (told_by table) key (last_number (e ∷ es)) stepped fault before after → IsRight program key (front ++ (e ∷ es)) stepped fault
    told t =
        let more = last-numbered (1 + length front) e es rest counted in
        let all = length-append front (e ∷ es) in
        let up_to : last_number (e ∷ es) ≡ length (front ++ (e ∷ es)) = omega (arith, more, all) in
        let same : t.0 ≡ front ++ (e ∷ es) =
        t.1 ∙ ap (λ (n : ℕ). take n (table key)) up_to ∙ ap (λ (l : List Event). take (length (front ++ (e ∷ es))) l) split ∙ take-append_seam (front ++ (e ∷ es)) rest
        in
        subst (λ (history : List Event). IsRight program key history stepped fault) same (Replays-right t.0 (steps program t.0) stepped fault before after t.2)

    joined : (run : Held) (b c : Bool) → IsCached table key (Some run) → b ≡ true → (c ≡ true → e.number ≡ length run.events + 1)
        → StepsFrom program (if b then (if c then Joined run.events else Told) else Nothing) (told_by table) (Some run) key (e ∷ es) stepped fault hit before after
        → IsRight program key (front ++ (e ∷ es)) stepped fault
    joined run true true cached b c s =
        let n = c refl in
        let long : length run.events ≡ length front = omega (arith, n, number) in
        let held : run.events ≡ front =
        sym (take-append_seam run.events cached.1.0) ∙ ap (λ (l : List Event). take (length run.events) l) (sym cached.1.1 ∙ ap table (sym cached.0) ∙ is)
        ∙ ap (λ (n : ℕ). take n (front ++ ((e ∷ es) ++ rest))) long ∙ take-append_seam front ((e ∷ es) ++ rest)
        in
        subst (λ (l : List Event). IsRight program key (l ++ (e ∷ es)) stepped fault) held
        (Replays-right (run.events ++ (e ∷ es)) (advance_steps program run.events (e ∷ es)) stepped fault before after s.0)
    joined run true false cached b c s = told s.0
    joined run false c cached b d s = absurd (cc)

    later : (run : Option Held) → IsCached table key run → StepsFrom program (later_basis run (e ∷ es)) (told_by table) run key (e ∷ es) stepped fault hit before after → IsRight program key (front ++ (e ∷ es)) stepped fault
    later None cached s = told s.0
    later (Some run) cached s =
        joined run (ends_in_task (e ∷ es)) (follows (length run.events) (e ∷ es)) cached (sym (ends-append front e es) ∙ ends) (λ c. eqb-true e.number (length run.events + 1) c) s

    own : (b : Bool) (run : Option Held) → IsCached table key run → (b ≡ true → e.number ≡ 1) → StepsFrom program (if b then Own else later_basis run (e ∷ es)) (told_by table) run key (e ∷ es) stepped fault hit before after → IsRight program key (front ++ (e ∷ es)) stepped fault
    own true run cached b s =
        let n = b refl in
        let none : [] ≡ front = sym (length-zero front (omega (arith, n, number))) in
        subst (λ (l : List Event). IsRight program key (l ++ (e ∷ es)) stepped fault) none
        (Replays-right (e ∷ es) (steps program (e ∷ es)) stepped fault before after s.0)
    own false run cached b s = later run cached s

    -- a task that continues the history is answered by replay of all of it
    pub Steps-right : (run : Option Held) → IsCached table key run → Steps program (told_by table) run key (e ∷ es) stepped fault hit before after → IsRight program key (front ++ (e ∷ es)) stepped fault
    Steps-right run cached s = own (follows 0 (e ∷ es)) run cached (λ b. eqb-true e.number 1 b) s

module _ (table : Table) where
  AllHold-front : (xs ys : List Entry) → AllHoldBeginnings table (xs ++ ys) → AllHoldBeginnings table xs
  AllHold-front [] ys all = tt
  AllHold-front (x ∷ xs) ys all = (all.0, AllHold-front xs ys all.1)

  -- one run, and the others
  AllHold-one : (xs : List Entry) (run : Entry) (ys : List Entry) → AllHoldBeginnings table (xs ++ run ∷ ys) → HoldsBeginning table run × AllHoldBeginnings table (xs ++ ys)
  AllHold-one [] run ys all = all
  AllHold-one (x ∷ xs) run ys all = let rest = AllHold-one xs run ys all.1 in (rest.0, (all.0, rest.1))

  AllHold-remove : (t : RunKey → Bool) (runs : List Entry) → AllHoldBeginnings table runs → AllHoldBeginnings table (remove_entry t runs)
  AllHold-remove t [] all = all
  AllHold-remove t (x ∷ xs) all = elim (t x.0) as (λ b. AllHoldBeginnings table (cond b xs (x ∷ remove_entry t xs))) [
    | true ↦ all.1
    | false ↦ (all.0, AllHold-remove t xs all.1)
  ]

  cached-of : (key : RunKey) (runs : List Entry) → AllHoldBeginnings table runs → IsCached table key (option_map held_of (lookup_entry (same_key key) runs))
  cached-of key [] all = tt
  cached-of key (x ∷ xs) all = (elim (same_key key x.0) as (λ b. same_key key x.0 ≡ b → IsCached table key (option_map held_of (cond b (Some x) (lookup_entry (same_key key) xs)))) [
    | true ↦ λ same. (same_key-true key x.0 same, all.0)
    | false ↦ λ other. cached-of key xs all.1
  ]) refl

  reserve-cache : (old new : HostView) (kind : SlotKind) (reply : Result (Claim) ReserveFault) → reserve_step old kind reply new → new.cache ≡ old.cache
  reserve-cache old new Workflow (Ok permit) r = ap (λ (v : HostView). v.cache) r.1
  reserve-cache old new Workflow (Err fault) r = ap (λ (v : HostView). v.cache) r.1
  reserve-cache old new Activity (Ok permit) r = ap (λ (v : HostView). v.cache) r.1
  reserve-cache old new Activity (Err fault) r = ap (λ (v : HostView). v.cache) r.1

  release-cache : (old new : HostView) (kind : SlotKind) (permit : Claim) (reply : Result (Unit {0}) ((Claim) × NotReserved)) → release_step old kind permit reply new → new.cache ≡ old.cache
  release-cache old new Workflow permit (Ok done) r = ap (λ (v : HostView). v.cache) r.1
  release-cache old new Workflow permit (Err refused) r = ap (λ (v : HostView). v.cache) r.2
  release-cache old new Activity permit (Ok done) r = ap (λ (v : HostView). v.cache) r.1
  release-cache old new Activity permit (Err refused) r = ap (λ (v : HostView). v.cache) r.2

  finishes-cache : (old new : HostView) (kind : SlotKind) (number : ℕ) (outcome : Outcome) → finishes old kind number outcome new → new.cache ≡ old.cache
  finishes-cache old new Workflow count outcome r = ap (λ (v : HostView). v.cache) r.3
  finishes-cache old new Activity count outcome r = ap (λ (v : HostView). v.cache) r.3

  kept : (old new : HostView) → new.cache ≡ old.cache → AllHoldBeginnings table old.cache.runs → AllHoldBeginnings table new.cache.runs
  kept old new same all = subst (λ (c : CacheView). AllHoldBeginnings table c.runs) (sym same) all

  removed : (old new : HostView) (key : RunKey) → new.cache.runs ≡ remove_entry (same_key key) old.cache.runs → AllHoldBeginnings table old.cache.runs → AllHoldBeginnings table new.cache.runs
  removed old new key same all = subst (AllHoldBeginnings table) (sym same) (AllHold-remove (same_key key) old.cache.runs all)

  -- no call of the host but a give puts a run into the cache that was not there
  happens-keeps : (old new : HostView) (call : Call) → BringsNoRun call → step old call new → AllHoldBeginnings table old.cache.runs → AllHoldBeginnings table new.cache.runs
  happens-keeps old new (Reserve kind reply) none r all = kept old new (reserve-cache old new kind reply r) all
  happens-keeps old new (Release permit reply) none r all = kept old new (release-cache old new permit.0 permit reply r) all
  happens-keeps old new (UseWorkflow permit name key (Ok used)) none r all = removed old new key (ap (λ (v : HostView). v.cache.runs) r.changed) all
  happens-keeps old new (UseWorkflow permit name key (Err refused)) none r all = kept old new (ap (λ (v : HostView). v.cache) r.3) all
  happens-keeps old new (UseActivity permit name (Ok held)) none r all = kept old new (ap (λ (v : HostView). v.cache) r.1) all
  happens-keeps old new (UseActivity permit name (Err refused)) none r all = kept old new (ap (λ (v : HostView). v.cache) r.2) all
  happens-keeps old new (GiveRun held run reply) none r all = absurd none
  happens-keeps old new (EvictRun key reply) none r all = removed old new key (ap (λ (v : HostView). v.cache.runs) r.1) all
  happens-keeps old new (ReadCounts reply) none r all = kept old new (ap (λ (v : HostView). v.cache) r.1) all
  happens-keeps old new (Finish held outcome (Ok done)) none r all = kept old new (finishes-cache old new held.0 held.1 outcome r) all
  happens-keeps old new (Finish held outcome (Err refused)) none r all = kept old new (ap (λ (v : HostView). v.cache) r.2) all
  happens-keeps old new Drain none r all = kept old new (ap (λ (v : HostView). v.cache) r) all

  enters-keeps : (old : CacheView) (run : Held) (new : CacheView) (gone : List Held) → Enters old run new gone → HoldsBeginning table (entry_of run) → AllHoldBeginnings table old.runs → AllHoldBeginnings table new.runs
  enters-keeps old run new gone e holds all =
      AllHold-front new.runs (reverse (map entry_of gone)) (subst (AllHoldBeginnings table) e.keeps.parts (holds, AllHold-remove (same_key run.key) old.runs all))

  same-cache : (old new : CacheView) → new ≡ old → AllHoldBeginnings table old.runs → AllHoldBeginnings table new.runs
  same-cache old new same all = subst (λ (c : CacheView). AllHoldBeginnings table c.runs) (sym same) all

  puts-keeps : (old : CacheView) (run : Held) (new : CacheView) (reply : PutReply) → Puts old run new reply → HoldsBeginning table (entry_of run) → AllHoldBeginnings table old.runs → AllHoldBeginnings table new.runs
  puts-keeps old run new IsKept p holds all = enters-keeps old run new [] p holds all
  puts-keeps old run new (HasPushedOut gone) p holds all = enters-keeps old run new gone p.0 holds all
  puts-keeps old run new (IsOff back) p holds all = same-cache old new p.2 all
  puts-keeps old run new (IsShort back) p holds all = same-cache old new p.3 all
  puts-keeps old run new (IsLarge back) p holds all = same-cache old new p.4 all
  puts-keeps old run new (HasNoMemory back) p holds all = same-cache old new p.3 all

  give-keeps : (old new : HostView) (held : Claim) (run : Held) (reply : GiveReply) → give_step old held run reply new → HoldsBeginning table (entry_of run) → AllHoldBeginnings table old.cache.runs → AllHoldBeginnings table new.cache.runs
  give-keeps old new held run (IsNotHeld back) r holds all = kept old new (ap (λ (v : HostView). v.cache) r.2) all
  give-keeps old new held run (IsMarked back) r holds all = kept old new (ap (λ (v : HostView). v.cache) r.2) all
  give-keeps old new held run (IsPut reply) r holds all = puts-keeps old.cache run new.cache reply r.1 holds all

  gained : (key : RunKey) (history rest : List Event) (stepped : Option Held) (runs : List Entry) → table key ≡ history ++ rest → IsRunOf key history stepped → AllHoldBeginnings table runs → AllHoldBeginnings table (with_run stepped runs)
  gained key history rest None runs is right all = all
  gained key history rest (Some run) runs is right all = ((rest, ap table right.0 ∙ is ∙ ap (λ (l : List Event). l ++ rest) (sym right.1)), all)

  module _ {S : Type 0} (program : Program S) (numbered : IsTable table) where
    some-right : (key : RunKey) (front events rest : List Event) → table key ≡ front ++ (events ++ rest) → 0 < length events → ends_in_task (front ++ events) ≡ true
        → (stepped : Option Held) (fault : Option Fault) (hit : Bool) (before after : ℕ) (run : Option Held)
        → IsCached table key run → Steps program (told_by table) run key events stepped fault hit before after → IsRight program key (front ++ events) stepped fault
    some-right key front [] rest is some ends stepped fault hit before after run cached s = absurd (omega (arith, some))
    some-right key front (e ∷ es) rest is some ends stepped fault hit before after run cached s =
        Steps-right program key table numbered front e es rest is ends stepped fault hit before after run cached s

    use-right : (old : Steady) (u : Use) (new : Steady) → IsUse program table old u new → AllHoldBeginnings table old.host.cache.runs → IsRight program u.key (take u.up_to (table u.key)) u.stepped u.fault
    use-right old u new r all =
        let history = take u.up_to (table u.key) in
        let parts : take u.after history ++ drop u.after history ≡ history = take-append-drop u.after history in
        let is : table u.key ≡ take u.after history ++ (drop u.after history ++ drop u.up_to (table u.key)) =
        sym (take-append-drop u.up_to (table u.key)) ∙ ap (λ (l : List Event). l ++ drop u.up_to (table u.key)) (sym parts) ∙ append_assoc (take u.after history) (drop u.after history) (drop u.up_to (table u.key))
        in
        let long = length-take-le u.up_to (table u.key) r.within in
        let left = length-drop u.after history in
        let some : 0 < length (drop u.after history) = let less = r.some in omega (arith, long, left, less) in
        let cached : IsCached table u.key u.cached = subst (IsCached table u.key) (sym r.accepted.handed_out) (cached-of u.key old.host.cache.runs all) in
        subst (λ (l : List Event). IsRight program u.key l u.stepped u.fault) parts
        (some-right u.key (take u.after history) (drop u.after history) (drop u.up_to (table u.key)) is some (ap ends_in_task parts ∙ r.starts) u.stepped u.fault u.hit r.before r.meter u.cached cached r.replayed)

    move-right : (old : Steady) (m : Move) (new : Steady) → IsSteady table old → move program table old m new → IsAnswered program table m × IsSteady table new
    move-right old (Uses u) new all r =
        let right = use-right old u new r all.0 in (
          right.answer u.answer r.answered,
          (
            removed old.host new.host u.key (ap (λ (v : HostView). v.cache.runs) r.accepted.changed) all.0,
            subst (AllHoldBeginnings table) (sym r.in_hand)
                (gained u.key (take u.up_to (table u.key)) (drop u.up_to (table u.key)) u.stepped old.in_hand (sym (take-append-drop u.up_to (table u.key))) right.run all.1),
          ),
        )
    move-right old (Gives held before run after reply) new all r =
        let parts = AllHold-one before (entry_of run) after (subst (AllHoldBeginnings table) r.0 all.1) in
        (tt, (give-keeps old.host new.host held run reply r.1 parts.0 all.0, subst (AllHoldBeginnings table) (sym r.2) parts.1))
    move-right old (Happens call) new all r =
        (tt, (happens-keeps old.host new.host call r.0 r.1 all.0, subst (AllHoldBeginnings table) (sym r.2) all.1))

    pub Moves-right : (old : Steady) (moves : List Move) (new : Steady) → IsSteady table old → Moves program table old moves new → AllAnswered program table moves × IsSteady table new
    Moves-right old [] new all r = (tt, subst (IsSteady table) (sym r) all)
    Moves-right old (m ∷ ms) new all r =
        let one = move-right old m r.0 all r.1 in
        let rest = Moves-right r.0 ms new one.1 r.2 in ((one.0, rest.0), rest.1)
