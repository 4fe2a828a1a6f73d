-- Each step keeps what holds for every state.
use Rattle.std.proofs.Common.{◌≡◌, ℕ, zero, suc, ◌+◌, ◌<◌, ◌≤◌, Bool, true, false, List, [], ◌∷◌, length, Option, Some, None, replicate, lit≤, refl, sym, ap, ◌∙◌, subst, arith}
use Rattle.std.specs.Prelude.{map, count_by, cond, is_some, Result, Ok, Err, IfOk, IfErr, OnOk, OnErr, slice_get, slice_set}
use Rattle.std.specs.Map.{remove_entry}
use Rattle.std.proofs.lemmas.List.{length-replicate}
use Rattle.std.proofs.lemmas.List.Sums.{sum_by-cons}
use Rattle.std.proofs.lemmas.Option.{same_Some, none-some}
use Rattle.wh_slots.specs.declared.SlotKind.{SlotKind}
use Rattle.wh_slots.specs.declared.SlotKind.TheVariants.{Workflow, Activity}
use Rattle.wh_slots.specs.declared.TaskName.{TaskName}
use Rattle.wh_slots.specs.declared.Place.{Place}
use Rattle.wh_slots.specs.declared.Place.TheVariants.{Free, Reserved, InHand}
use Rattle.wh_slots.specs.declared.ReserveFault.{ReserveFault}
use Rattle.wh_slots.specs.declared.NotReserved.{NotReserved}
use Rattle.wh_slots.specs.Table.{Table, table, IsTable, Reserves, Uses, Frees, Releases, IsReserved, IsPlaceOf, IsHeld, IsNamed, number_of, name_of, is_any_held, is_any_reserved, held_count, reserved_count, IsReserveFault}
use Rattle.wh_slots.proofs.Places.{IsTable-free, IsTable-use}
use Rattle.wh_slots.proofs.Steps.{count_by-set_at, Reserves-keeps, Releases-keeps}
use Rattle.wh_events.specs.declared.key.RunKey.{RunKey}
use Rattle.wh_events.specs.Keys.{same_key}
use Rattle.wh_workflow.specs.Law.{Program}
use Rattle.wh_replay.specs.Runs.{Held as HeldRun, history_of, IsReplayed}
use Rattle.wh_host.specs.Cache.{CacheView, IsSound}
use Rattle.wh_host.proofs.Runs.{IsSound-remove, none_alike}
use Rattle.wh_host.proofs.Fitting.{Puts-keeps}
use Rattle.wh_host.specs.declared.ledger.Shares.{Shares}
use Rattle.wh_host.specs.declared.state.Mark.{Mark}
use Rattle.wh_host.specs.declared.reply.Outcome.{Outcome}
use Rattle.wh_host.specs.declared.reply.Outcome.TheVariants.{Completed, Failed}
use Rattle.wh_host.specs.Machine.{Claim, HostView, host_view, opening, AllMarked, IsHost, Call, Reserve, Release, UseWorkflow, UseActivity, GiveRun, EvictRun, Finish, Drain, ReadCounts, GiveReply, IsPut, IsMarked, IsNotHeld, GivesReplayed, AllReplayedGiven, tallied, tally_from, evicted_for, step, Steps, with_outcome, finishes, reserve_step, release_step, give_step}

pub AllMarked-set : (places : List Place) (marks : List (Option Mark)) (i : ℕ) (p : Place) (m : Option Mark) → AllMarked places marks → is_any_held p ≡ is_some m → AllMarked (slice_set places i p) (slice_set marks i m)
AllMarked-set [] [] i p m all same = all
AllMarked-set [] (n ∷ ms) i p m all same = absurd all
AllMarked-set (q ∷ ps) [] i p m all same = absurd all
AllMarked-set (q ∷ ps) (n ∷ ms) zero p m all same = (same, all.1)
AllMarked-set (q ∷ ps) (n ∷ ms) (suc i) p m all same = (all.0, AllMarked-set ps ms i p m all.1 same)

-- the place keeps what its mark says
pub AllMarked-set_place : (places : List Place) (marks : List (Option Mark)) (i : ℕ) (old new : Place) → slice_get places i ≡ Some old → is_any_held old ≡ is_any_held new → AllMarked places marks → AllMarked (slice_set places i new) marks
AllMarked-set_place [] marks i old new at same all = all
AllMarked-set_place (q ∷ ps) [] i old new at same all = absurd all
AllMarked-set_place (q ∷ ps) (n ∷ ms) zero old new at same all = (sym same ∙ sym (ap is_any_held (same_Some q old at)) ∙ all.0, all.1)
AllMarked-set_place (q ∷ ps) (n ∷ ms) (suc i) old new at same all = (all.0, AllMarked-set_place ps ms i old new at same all.1)

-- an evicted key leaves every mark where it is
pub AllMarked-evicted : (key : RunKey) (places : List Place) (marks : List (Option Mark)) → AllMarked places marks → AllMarked places (map (evicted_for key) marks)
AllMarked-evicted key [] [] all = all
AllMarked-evicted key [] (m ∷ ms) all = absurd all
AllMarked-evicted key (p ∷ ps) [] all = absurd all
AllMarked-evicted key (p ∷ ps) (None ∷ ms) all = (all.0, AllMarked-evicted key ps ms all.1)
AllMarked-evicted key (p ∷ ps) (Some m ∷ ms) all = (all.0, AllMarked-evicted key ps ms all.1)

outcome_taken : (outcome : Outcome) (books : Shares) → (with_outcome outcome books).taken ≡ books.taken
outcome_taken Completed books = refl
outcome_taken Failed books = refl

outcome_ended : (outcome : Outcome) (books : Shares) → (with_outcome outcome books).completed + (with_outcome outcome books).failed ≡ books.completed + books.failed + 1
outcome_ended Completed books = omega arith
outcome_ended Failed books = omega arith

-- as many places are held, as the marks say, and each place that is reserved since has a number that was given out since
record KeepsHeld (old new : Table) : Type 0 where
  kind : new.kind ≡ old.kind
  draining : new.draining ≡ old.draining
  held : held_count new ≡ held_count old
  reserved : reserved_count new + old.next ≤ reserved_count old + new.next
  marked : (marks : List (Option Mark)) → AllMarked old.places marks → AllMarked new.places marks

Reserves-held : (old new : Table) (permit : Claim) → Reserves old new permit → KeepsHeld old new
Reserves-held old new permit r =
    let held = count_by-set_at is_any_held old.places r.place Free (Reserved old.next) r.was_free in
    let reserved = count_by-set_at is_any_reserved old.places r.place Free (Reserved old.next) r.was_free in
    subst (KeepsHeld old) (sym r.changed)
    (record {
      kind = refl;
      draining = refl;
      held = omega (arith, held);
      reserved = omega (arith, reserved);
      marked = λ marks. AllMarked-set_place old.places marks r.place Free (Reserved old.next) r.was_free refl;
    })

Releases-held : (old new : Table) (permit : Claim) → Releases old new permit → KeepsHeld old new
Releases-held old new permit r =
    let held = count_by-set_at is_any_held old.places r.place (Reserved permit.1) Free r.was_reserved in
    let reserved = count_by-set_at is_any_reserved old.places r.place (Reserved permit.1) Free r.was_reserved in
    subst (KeepsHeld old) (sym r.changed)
    (record {
      kind = refl;
      draining = refl;
      held = omega (arith, held);
      reserved = omega (arith, reserved);
      marked = λ marks. AllMarked-set_place old.places marks r.place (Reserved permit.1) Free r.was_reserved refl;
    })

module _ {S : Type 0} (program : Program S) (old : HostView) (h : IsHost program old) where
  change_workflow : (t : Table) → IsTable t → KeepsHeld old.workflow t → IsHost program (record old { workflow = t })
  change_workflow t table keeps =
      let held = keeps.held in
      let reserved = keeps.reserved in
      let counted = h.counted in
      let numbered = h.numbered in
      record {
        workflow = table;
        activity = h.activity;
        kinds = (keeps.kind ∙ h.kinds.0, h.kinds.1);
        draining = keeps.draining ∙ h.draining;
        marked = keeps.marked old.marks h.marked;
        counted = omega (arith, held, counted);
        numbered = omega (arith, reserved, numbered);
        cached = h.cached;
      }

  change_activity : (t : Table) → IsTable t → KeepsHeld old.activity t → IsHost program (record old { activity = t })
  change_activity t table keeps =
      let held = keeps.held in
      let reserved = keeps.reserved in
      let counted = h.counted in
      let numbered = h.numbered in
      record {
        workflow = h.workflow;
        activity = table;
        kinds = (h.kinds.0, keeps.kind ∙ h.kinds.1);
        draining = h.draining ∙ sym keeps.draining;
        marked = h.marked;
        counted = omega (arith, held, counted);
        numbered = omega (arith, reserved, numbered);
        cached = h.cached;
      }

  pub reserve_workflow : (t : Table) (permit : Claim) → Reserves old.workflow t permit → IsHost program (record old { workflow = t })
  reserve_workflow t permit r = change_workflow t (Reserves-keeps old.workflow t permit h.workflow r) (Reserves-held old.workflow t permit r)

  pub reserve_activity : (t : Table) (permit : Claim) → Reserves old.activity t permit → IsHost program (record old { activity = t })
  reserve_activity t permit r = change_activity t (Reserves-keeps old.activity t permit h.activity r) (Reserves-held old.activity t permit r)

  pub reserve_either : (t : Table) (r : Result Claim ReserveFault) → IfOk r (Reserves old.workflow t) → OnErr r (t ≡ old.workflow) → IsHost program (record old { workflow = t })
  reserve_either t (Ok permit) s same = reserve_workflow t permit s
  reserve_either t (Err fault) s same = subst (λ (x : Table). IsHost program (record old { workflow = x })) (sym same) h

  pub reserve_either_activity : (t : Table) (r : Result Claim ReserveFault) → IfOk r (Reserves old.activity t) → OnErr r (t ≡ old.activity) → IsHost program (record old { activity = t })
  reserve_either_activity t (Ok permit) s same = reserve_activity t permit s
  reserve_either_activity t (Err fault) s same = subst (λ (x : Table). IsHost program (record old { activity = x })) (sym same) h

  pub use_place : (i number : ℕ) (name : TaskName) (key : RunKey) → slice_get old.workflow.places i ≡ Some (Reserved number) → (IsNamed old.workflow name → ⊥)
      → IsHost program (host_view (record old.workflow { places = slice_set old.workflow.places i (InHand number name) }) old.activity (slice_set old.marks i (Some (record { key = key; evicted = false }))) (record old.cache { runs = remove_entry (same_key key) old.cache.runs }) (record old.books { taken = old.books.taken + 1 }))
  use_place i number name key at fresh =
      let held = count_by-set_at is_any_held old.workflow.places i (Reserved number) (InHand number name) at in
      let reserved = count_by-set_at is_any_reserved old.workflow.places i (Reserved number) (InHand number name) at in
      let counted = h.counted in
      let numbered = h.numbered in
      record {
        workflow = IsTable-use old.workflow.kind old.workflow.places old.workflow.next old.workflow.draining i number name at fresh h.workflow;
        activity = h.activity;
        kinds = h.kinds;
        draining = h.draining;
        marked = AllMarked-set old.workflow.places old.marks i (InHand number name) (Some (record { key = key; evicted = false })) h.marked refl;
        counted = omega (arith, held, counted);
        numbered = omega (arith, reserved, numbered);
        cached = IsSound-remove (same_key key) program old.cache.runs old.cache.capacity old.cache.bound h.cached;
      }

  pub free_place : (i number : ℕ) (name : TaskName) (outcome : Outcome) → slice_get old.workflow.places i ≡ Some (InHand number name)
      → IsHost program (host_view (record old.workflow { places = slice_set old.workflow.places i Free }) old.activity (slice_set old.marks i None) old.cache (with_outcome outcome old.books))
  free_place i number name outcome at =
      let held = count_by-set_at is_any_held old.workflow.places i (InHand number name) Free at in
      let reserved = count_by-set_at is_any_reserved old.workflow.places i (InHand number name) Free at in
      let counted = h.counted in
      let numbered = h.numbered in
      let taken = outcome_taken outcome old.books in
      let ended = outcome_ended outcome old.books in
      record {
        workflow = IsTable-free old.workflow.kind old.workflow.places old.workflow.next old.workflow.draining i h.workflow;
        activity = h.activity;
        kinds = h.kinds;
        draining = h.draining;
        marked = AllMarked-set old.workflow.places old.marks i Free None h.marked refl;
        counted = omega (arith, held, counted, taken, ended);
        numbered = omega (arith, reserved, numbered, taken);
        cached = h.cached;
      }

  pub free_activity : (i number : ℕ) (name : TaskName) (outcome : Outcome) → slice_get old.activity.places i ≡ Some (InHand number name)
      → IsHost program (host_view old.workflow (record old.activity { places = slice_set old.activity.places i Free }) old.marks old.cache (with_outcome outcome old.books))
  free_activity i number name outcome at =
      let held = count_by-set_at is_any_held old.activity.places i (InHand number name) Free at in
      let reserved = count_by-set_at is_any_reserved old.activity.places i (InHand number name) Free at in
      let counted = h.counted in
      let numbered = h.numbered in
      let taken = outcome_taken outcome old.books in
      let ended = outcome_ended outcome old.books in
      record {
        workflow = h.workflow;
        activity = IsTable-free old.activity.kind old.activity.places old.activity.next old.activity.draining i h.activity;
        kinds = h.kinds;
        draining = h.draining;
        marked = h.marked;
        counted = omega (arith, held, counted, taken, ended);
        numbered = omega (arith, reserved, numbered, taken);
        cached = h.cached;
      }

  pub release_workflow : (t : Table) (permit : Claim) → Releases old.workflow t permit → IsHost program (record old { workflow = t })
  release_workflow t permit r = change_workflow t (Releases-keeps old.workflow t permit h.workflow r) (Releases-held old.workflow t permit r)

  pub release_activity : (t : Table) (permit : Claim) → Releases old.activity t permit → IsHost program (record old { activity = t })
  release_activity t permit r = change_activity t (Releases-keeps old.activity t permit h.activity r) (Releases-held old.activity t permit r)

  -- a table after a release that was done or refused
  pub release_either : (t : Table) (permit : Claim) (r : Result (Unit {0}) (Claim × NotReserved)) → OnOk r (Releases old.workflow t permit) → OnErr r (t ≡ old.workflow) → IsHost program (record old { workflow = t })
  release_either t permit (Ok u) s same = release_workflow t permit s
  release_either t permit (Err refused) s same = subst (λ (x : Table). IsHost program (record old { workflow = x })) (sym same) h

  pub release_either_activity : (t : Table) (permit : Claim) (r : Result (Unit {0}) (Claim × NotReserved)) → OnOk r (Releases old.activity t permit) → OnErr r (t ≡ old.activity) → IsHost program (record old { activity = t })
  release_either_activity t permit (Ok u) s same = release_activity t permit s
  release_either_activity t permit (Err refused) s same = subst (λ (x : Table). IsHost program (record old { activity = x })) (sym same) h

  release_kind : (kind : SlotKind) (permit : Claim) (r : Result (Unit {0}) (Claim × NotReserved)) (new : HostView) → release_step old kind permit r new → IsHost program new
  release_kind Workflow permit (Ok u) new s = subst (IsHost program) (sym s.1) (release_workflow new.workflow permit s.0)
  release_kind Workflow permit (Err refused) new s = subst (IsHost program) (sym s.2) h
  release_kind Activity permit (Ok u) new s = subst (IsHost program) (sym s.1) (release_activity new.activity permit s.0)
  release_kind Activity permit (Err refused) new s = subst (IsHost program) (sym s.2) h

  drain_both : IsHost program (record old { workflow = record old.workflow { draining = true }; activity = record old.activity { draining = true } })
  drain_both =
      record {
        workflow = record { numbers = h.workflow.numbers; names = h.workflow.names; below = h.workflow.below; next = h.workflow.next; some = h.workflow.some; few = h.workflow.few };
        activity = record { numbers = h.activity.numbers; names = h.activity.names; below = h.activity.below; next = h.activity.next; some = h.activity.some; few = h.activity.few };
        kinds = h.kinds;
        draining = refl;
        marked = h.marked;
        counted = h.counted;
        numbered = h.numbered;
        cached = h.cached;
      }

  finish_either : (kind : SlotKind) (number : ℕ) (outcome : Outcome) (new : HostView) → finishes old kind number outcome new → IsHost program new
  finish_either Workflow number outcome new s = subst (IsHost program) (sym s.3) (free_place s.0 number s.1 outcome s.2)
  finish_either Activity number outcome new s = subst (IsHost program) (sym s.3) (free_activity s.0 number s.1 outcome s.2)

  pub use_activity : (t : Table) (permit : Claim) (name : TaskName) (held : Claim) → Uses old.activity t permit name held → IsHost program (record old { activity = t; books = record old.books { taken = old.books.taken + 1 } })
  use_activity t permit name held u =
      let i = u.place in
      let more = count_by-set_at is_any_held old.activity.places i (Reserved permit.1) (InHand permit.1 name) u.was_reserved in
      let reserved = count_by-set_at is_any_reserved old.activity.places i (Reserved permit.1) (InHand permit.1 name) u.was_reserved in
      let counted = h.counted in
      let numbered = h.numbered in
      subst (λ (x : Table). IsHost program (record old { activity = x; books = record old.books { taken = old.books.taken + 1 } })) (sym u.changed)
      (record {
        workflow = h.workflow;
        activity = IsTable-use old.activity.kind old.activity.places old.activity.next old.activity.draining i permit.1 name u.was_reserved u.unnamed h.activity;
        kinds = h.kinds;
        draining = h.draining;
        marked = h.marked;
        counted = omega (arith, more, counted);
        numbered = omega (arith, reserved, numbered);
        cached = h.cached;
      })

  -- a cache that stays sound
  pub with_cache : (cache : CacheView) → IsSound program cache → IsHost program (record old { cache = cache })
  with_cache cache sound =
      record {
        workflow = h.workflow;
        activity = h.activity;
        kinds = h.kinds;
        draining = h.draining;
        marked = h.marked;
        counted = h.counted;
        numbered = h.numbered;
        cached = sound;
      }

  pub evict_run : (key : RunKey) → IsHost program (record old { marks = map (evicted_for key) old.marks; cache = record old.cache { runs = remove_entry (same_key key) old.cache.runs } })
  evict_run key =
      record {
        workflow = h.workflow;
        activity = h.activity;
        kinds = h.kinds;
        draining = h.draining;
        marked = AllMarked-evicted key old.workflow.places old.marks h.marked;
        counted = h.counted;
        numbered = h.numbered;
        cached = IsSound-remove (same_key key) program old.cache.runs old.cache.capacity old.cache.bound h.cached;
      }

  give_run : (held : Claim) (run : HeldRun) (answer : GiveReply) (new : HostView) → IsReplayed program (history_of run) → give_step old held run answer new → IsHost program new
  give_run held run (IsNotHeld back) new replayed s = subst (IsHost program) (sym s.2) h
  give_run held run (IsMarked back) new replayed s = subst (IsHost program) (sym s.2) h
  give_run held run (IsPut reply) new replayed s = subst (IsHost program) (sym s.2) (with_cache new.cache (Puts-keeps program old.cache run new.cache reply h.cached replayed s.1))

  -- each step keeps what holds of every state
  pub step-keeps : (e : Call) (new : HostView) → GivesReplayed program e → step old e new → IsHost program new
  step-keeps (Reserve Workflow (Ok permit)) new given s = subst (IsHost program) (sym s.1) (reserve_workflow new.workflow permit s.0)
  step-keeps (Reserve Workflow (Err fault)) new given s = subst (IsHost program) (sym s.1) h
  step-keeps (Reserve Activity (Ok permit)) new given s = subst (IsHost program) (sym s.1) (reserve_activity new.activity permit s.0)
  step-keeps (Reserve Activity (Err fault)) new given s = subst (IsHost program) (sym s.1) h
  step-keeps (Release permit reply) new given s = release_kind permit.0 permit reply new s
  step-keeps (UseWorkflow permit name key (Ok r)) new given s = subst (IsHost program) (sym s.changed) (use_place s.place permit.1 name key s.was_reserved s.unnamed)
  step-keeps (UseWorkflow permit name key (Err refused)) new given s = subst (IsHost program) (sym s.3) h
  step-keeps (Finish held outcome (Ok u)) new given s = finish_either held.0 held.1 outcome new s
  step-keeps (Finish held outcome (Err refused)) new given s = subst (IsHost program) (sym s.2) h
  step-keeps Drain new given s = subst (IsHost program) (sym s) drain_both
  step-keeps (UseActivity permit name (Ok held)) new given s = subst (IsHost program) (sym s.1) (use_activity new.activity permit name held s.0)
  step-keeps (UseActivity permit name (Err refused)) new given s = subst (IsHost program) (sym s.2) h
  step-keeps (GiveRun held run answer) new given s = give_run held run answer new given s
  step-keeps (EvictRun key reply) new given s = subst (IsHost program) (sym s.1) (evict_run key)
  step-keeps (ReadCounts reply) new given s = subst (IsHost program) (sym s.1) h

-- so does a list of steps
pub Steps-keep : {S : Type 0} (program : Program S) (old : HostView) (es : List Call) (new : HostView) → IsHost program old → AllReplayedGiven program es → Steps old es new → IsHost program new
Steps-keep program old [] new h given s = subst (IsHost program) (sym s) h
Steps-keep program old (e ∷ es) new h given s = Steps-keep program s.0 es new (step-keeps program old h e s.0 given.0 s.1) given.1 s.2

-- each step counts what its call says
step-counts : (old : HostView) (e : Call) (new : HostView) → step old e new → new.books ≡ tallied e old.books
step-counts old (Reserve Workflow (Ok permit)) new s = ap (λ (v : HostView). v.books) s.1
step-counts old (Reserve Workflow (Err fault)) new s = ap (λ (v : HostView). v.books) s.1
step-counts old (Reserve Activity (Ok permit)) new s = ap (λ (v : HostView). v.books) s.1
step-counts old (Reserve Activity (Err fault)) new s = ap (λ (v : HostView). v.books) s.1
step-counts old (Release (Workflow, number) (Ok u)) new s = ap (λ (v : HostView). v.books) s.1
step-counts old (Release (Workflow, number) (Err refused)) new s = ap (λ (v : HostView). v.books) s.2
step-counts old (Release (Activity, number) (Ok u)) new s = ap (λ (v : HostView). v.books) s.1
step-counts old (Release (Activity, number) (Err refused)) new s = ap (λ (v : HostView). v.books) s.2
step-counts old (UseWorkflow permit name key (Ok r)) new s = ap (λ (v : HostView). v.books) s.changed
step-counts old (UseWorkflow permit name key (Err refused)) new s = ap (λ (v : HostView). v.books) s.3
step-counts old (UseActivity permit name (Ok held)) new s = ap (λ (v : HostView). v.books) s.1
step-counts old (UseActivity permit name (Err refused)) new s = ap (λ (v : HostView). v.books) s.2
step-counts old (GiveRun held run (IsNotHeld back)) new s = ap (λ (v : HostView). v.books) s.2
step-counts old (GiveRun held run (IsMarked back)) new s = ap (λ (v : HostView). v.books) s.2
step-counts old (GiveRun held run (IsPut reply)) new s = ap (λ (v : HostView). v.books) s.2
step-counts old (Finish (Workflow, number) outcome (Ok u)) new s = ap (λ (v : HostView). v.books) s.3
step-counts old (Finish (Activity, number) outcome (Ok u)) new s = ap (λ (v : HostView). v.books) s.3
step-counts old (Finish held outcome (Err refused)) new s = ap (λ (v : HostView). v.books) s.2
step-counts old (EvictRun key reply) new s = ap (λ (v : HostView). v.books) s.1
step-counts old Drain new s = ap (λ (v : HostView). v.books) s
step-counts old (ReadCounts reply) new s = ap (λ (v : HostView). v.books) s.1

-- a list of steps counts its accepted uses, and its accepted finishes by outcome
pub Steps-count : (old : HostView) (es : List Call) (new : HostView) → Steps old es new → new.books ≡ tally_from old.books es
Steps-count old [] new s = ap (λ (v : HostView). v.books) s
Steps-count old (e ∷ es) new s = Steps-count s.0 es new s.2 ∙ ap (λ (c : Shares). tally_from c es) (step-counts old e s.0 s.1)

pub AllMarked-length : (places : List Place) (marks : List (Option Mark)) → AllMarked places marks → length places ≡ length marks
AllMarked-length [] [] all = refl
AllMarked-length [] (m ∷ ms) all = absurd all
AllMarked-length (p ∷ ps) [] all = absurd all
AllMarked-length (p ∷ ps) (m ∷ ms) all = ap suc (AllMarked-length ps ms all.1)

pub slice_get-set_same : {X : Type 0} (xs : List X) (i : ℕ) (old new : X) → slice_get xs i ≡ Some old → slice_get (slice_set xs i new) i ≡ Some new
slice_get-set_same [] i old new at = absurd (none-some old at)
slice_get-set_same (x ∷ xs) zero old new at = refl
slice_get-set_same (x ∷ xs) (suc i) old new at = slice_get-set_same xs i old new at

-- the held place is the one that was reserved
pub used_place : (old t : Table) (permit : Claim) (name : TaskName) (held : Claim) (at : ℕ) → Uses old t permit name held → IsPlaceOf t held at
    → (slice_get old.places at ≡ Some (Reserved permit.1)) × (t ≡ record old { places = slice_set old.places at (InHand permit.1 name) })
used_place old t permit name held at u place =
    let i = u.place in
    let there : slice_get t.places i ≡ Some (InHand held.1 name) =
    ap (λ (x : Table). slice_get x.places i) u.changed ∙ slice_get-set_same old.places i (Reserved permit.1) (InHand permit.1 name) u.was_reserved ∙ ap (λ (h : Claim). Some (InHand h.1 name)) (sym u.same_number) in
    let same : i ≡ at = place.alone i name there in
    (subst (λ (k : ℕ). slice_get old.places k ≡ Some (Reserved permit.1)) same u.was_reserved, u.changed ∙ ap (λ (k : ℕ). record old { places = slice_set old.places k (InHand permit.1 name) }) same)

pub used_is_held : (old t : Table) (permit : Claim) (name : TaskName) (held : Claim) → Uses old t permit name held → IsHeld t held
used_is_held old t permit name held u =
    let i = u.place in (
      ap (λ (h : Claim). h.0) u.same_number ∙ u.own_kind ∙ sym (ap (λ (x : Table). x.kind) u.changed),
      (
        i,
        name,
        ap (λ (x : Table). slice_get x.places i) u.changed ∙ slice_get-set_same old.places i (Reserved permit.1) (InHand permit.1 name) u.was_reserved ∙ ap (λ (h : Claim). Some (InHand h.1 name)) (sym u.same_number),
      ),
    )

module _ {S : Type 0} (program : Program S) (old : HostView) (h : IsHost program old) where
  pub finish_at : (t : Table) (held : Claim) (at : ℕ) (outcome : Outcome) → Frees old.workflow t held → IsPlaceOf old.workflow held at
      → IsHost program (host_view t old.activity (slice_set old.marks at None) old.cache (with_outcome outcome old.books))
  finish_at t held at outcome f place =
      let same : f.place ≡ at = place.alone f.place f.name f.was_held in
      subst (λ (x : Table). IsHost program (host_view x old.activity (slice_set old.marks at None) old.cache (with_outcome outcome old.books))) (sym f.changed)
      (subst (λ (k : ℕ). IsHost program (host_view (record old.workflow { places = slice_set old.workflow.places f.place Free }) old.activity (slice_set old.marks k None) old.cache (with_outcome outcome old.books))) same
      (free_place program old h f.place held.1 f.name outcome f.was_held))

  pub finish_activity_at : (t : Table) (held : Claim) (outcome : Outcome) → Frees old.activity t held
      → IsHost program (host_view old.workflow t old.marks old.cache (with_outcome outcome old.books))
  finish_activity_at t held outcome f =
      subst (λ (x : Table). IsHost program (host_view old.workflow x old.marks old.cache (with_outcome outcome old.books))) (sym f.changed)
      (free_activity program old h f.place held.1 f.name outcome f.was_held)

  pub use_at : (t : Table) (permit : Claim) (name : TaskName) (held : Claim) (key : RunKey) (at : ℕ) → Uses old.workflow t permit name held → IsPlaceOf t held at
      → IsHost program (host_view t old.activity (slice_set old.marks at (Some (record { key = key; evicted = false }))) (record old.cache { runs = remove_entry (same_key key) old.cache.runs }) (record old.books { taken = old.books.taken + 1 }))
  use_at t permit name held key at u place =
      let used = used_place old.workflow t permit name held at u place in
      subst (λ (x : Table). IsHost program (host_view x old.activity (slice_set old.marks at (Some (record { key = key; evicted = false }))) (record old.cache { runs = remove_entry (same_key key) old.cache.runs }) (record old.books { taken = old.books.taken + 1 }))) (sym used.1)
      (use_place program old h at permit.1 name key used.0 u.unnamed)

free_only : (n i : ℕ) (p : Place) → slice_get (replicate n Free) i ≡ Some p → p ≡ Free
free_only zero i p at = absurd (none-some p at)
free_only (suc n) zero p at = sym (same_Some Free p at)
free_only (suc n) (suc i) p at = free_only n i p at

no_label : {X : Type 0} (label : Place → Option X) → label Free ≡ None → (n i : ℕ) (p : Place) (x : X) → slice_get (replicate n Free) i ≡ Some p → label p ≡ Some x → ⊥
no_label label none n i p x at of_p = none-some x (sym none ∙ sym (ap label (free_only n i p at)) ∙ of_p)

none_counted : (p : Place → Bool) → p Free ≡ false → (n : ℕ) → count_by p (replicate n Free) ≡ 0
none_counted p not zero = refl
none_counted p not (suc n) =
    let f : Place → ℕ = λ x. cond (p x) 1 0 in
    let head : f Free ≡ 0 = ap (λ (b : Bool). cond b 1 0) not in
    let rest = none_counted p not n in
    let sum = sum_by-cons f Free (replicate n Free) in omega (arith, head, rest, sum)

unmarked : (n : ℕ) → AllMarked (replicate n Free) (replicate n None)
unmarked zero = tt
unmarked (suc n) = (refl, unmarked n)

free_table : (kind : SlotKind) (n : ℕ) → 0 < n → n ≤ 1000 → IsTable (table kind (replicate n Free) 1 false)
free_table kind n some most =
    record {
      numbers = λ i j p q x at_i at_j of_p of_q. absurd (no_label number_of refl n i p x at_i of_p);
      names = λ i j p q x at_i at_j of_p of_q. absurd (no_label name_of refl n i p x at_i of_p);
      below = λ i x p at of_p. absurd (no_label number_of refl n i p x at of_p);
      next = lit≤ tt;
      some = let same = length-replicate n Free in omega (arith, same);
      few = let same = length-replicate n Free in omega (arith, same);
    }

-- what holds of every state holds of an opening one
pub opening-holds : {S : Type 0} (program : Program S) (workflow activity capacity bound : ℕ) → 0 < workflow → workflow ≤ 1000 → 0 < activity → activity ≤ 1000 → capacity ≤ 10000 → bound ≤ 512000000
    → IsHost program (opening workflow activity capacity bound)
opening-holds program workflow activity capacity bound some_workflow most_workflow some_activity most_activity most_runs most_events =
    let held_workflow = none_counted is_any_held refl workflow in
    let held_activity = none_counted is_any_held refl activity in
    let reserved_workflow = none_counted is_any_reserved refl workflow in
    let reserved_activity = none_counted is_any_reserved refl activity in
    record {
      workflow = free_table Workflow workflow some_workflow most_workflow;
      activity = free_table Activity activity some_activity most_activity;
      kinds = (refl, refl);
      draining = refl;
      marked = unmarked workflow;
      counted = omega (arith, held_workflow, held_activity);
      numbered = omega (arith, reserved_workflow, reserved_activity);
      cached = record { fits = (omega arith, λ some. omega arith); distinct = none_alike; replayed = tt; capacity = most_runs; bound = most_events };
    }

-- a step at one table is one of the host
module _ (old : HostView) (t : Table) where
  reserved_workflow : (r : Result Claim ReserveFault) → IfOk r (Reserves old.workflow t) → IfErr r (IsReserveFault old.workflow) → OnErr r (t ≡ old.workflow) → reserve_step old Workflow r (record old { workflow = t })
  reserved_workflow (Ok permit) done refused same = (done, refl)
  reserved_workflow (Err fault) done refused same = (refused, ap (λ (x : Table). record old { workflow = x }) same)

  pub reserved : (kind : SlotKind) (r : Result Claim ReserveFault) → kind ≡ Workflow → IfOk r (Reserves old.workflow t) → IfErr r (IsReserveFault old.workflow) → OnErr r (t ≡ old.workflow) → reserve_step old kind r (record old { workflow = t })
  reserved kind r is done refused same = subst (λ (k : SlotKind). reserve_step old k r (record old { workflow = t })) (sym is) (reserved_workflow r done refused same)

  reserved_at_activity : (r : Result Claim ReserveFault) → IfOk r (Reserves old.activity t) → IfErr r (IsReserveFault old.activity) → OnErr r (t ≡ old.activity) → reserve_step old Activity r (record old { activity = t })
  reserved_at_activity (Ok permit) done refused same = (done, refl)
  reserved_at_activity (Err fault) done refused same = (refused, ap (λ (x : Table). record old { activity = x }) same)

  pub reserved_activity : (kind : SlotKind) (r : Result Claim ReserveFault) → kind ≡ Activity → IfOk r (Reserves old.activity t) → IfErr r (IsReserveFault old.activity) → OnErr r (t ≡ old.activity) → reserve_step old kind r (record old { activity = t })
  reserved_activity kind r is done refused same = subst (λ (k : SlotKind). reserve_step old k r (record old { activity = t })) (sym is) (reserved_at_activity r done refused same)

  released_workflow : (permit : Claim) (r : Result (Unit {0}) (Claim × NotReserved)) → OnOk r (Releases old.workflow t permit) → OnErr r (¬ IsReserved old.workflow permit) → IfErr r (λ refused. refused.0 ≡ permit) → OnErr r (t ≡ old.workflow)
      → release_step old Workflow permit r (record old { workflow = t })
  released_workflow permit (Ok u) done refused back same = (done, refl)
  released_workflow permit (Err e) done refused back same = (back, refused, ap (λ (x : Table). record old { workflow = x }) same)

  pub released : (permit : Claim) (r : Result (Unit {0}) (Claim × NotReserved)) → permit.0 ≡ Workflow → OnOk r (Releases old.workflow t permit) → OnErr r (¬ IsReserved old.workflow permit) → IfErr r (λ refused. refused.0 ≡ permit) → OnErr r (t ≡ old.workflow)
      → release_step old permit.0 permit r (record old { workflow = t })
  released permit r is done refused back same = subst (λ (k : SlotKind). release_step old k permit r (record old { workflow = t })) (sym is) (released_workflow permit r done refused back same)

  released_at_activity : (permit : Claim) (r : Result (Unit {0}) (Claim × NotReserved)) → OnOk r (Releases old.activity t permit) → OnErr r (¬ IsReserved old.activity permit) → IfErr r (λ refused. refused.0 ≡ permit) → OnErr r (t ≡ old.activity)
      → release_step old Activity permit r (record old { activity = t })
  released_at_activity permit (Ok u) done refused back same = (done, refl)
  released_at_activity permit (Err e) done refused back same = (back, refused, ap (λ (x : Table). record old { activity = x }) same)

  pub released_activity : (permit : Claim) (r : Result (Unit {0}) (Claim × NotReserved)) → permit.0 ≡ Activity → OnOk r (Releases old.activity t permit) → OnErr r (¬ IsReserved old.activity permit) → IfErr r (λ refused. refused.0 ≡ permit) → OnErr r (t ≡ old.activity)
      → release_step old permit.0 permit r (record old { activity = t })
  released_activity permit r is done refused back same = subst (λ (k : SlotKind). release_step old k permit r (record old { activity = t })) (sym is) (released_at_activity permit r done refused back same)
