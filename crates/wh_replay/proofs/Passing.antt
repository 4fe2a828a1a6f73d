-- Replay of a whole history gives what its tasks leave if all of them pass, and else the fault of the first one that
-- fails.
use Rattle.std.proofs.Common.{◌≡◌, ℕ, ◌⊎◌, Bool, true, false, cond, List, [], ◌∷◌, ◌++◌, Option, Some, None, Result, Ok, Err, refl, sym, ap, subst, ◌∙◌, inl, inr, append_assoc, append-nil}
use Rattle.wh_events.specs.declared.event.Event.{Event}
use Rattle.wh_events.specs.Machines.{machines_of}
use Rattle.wh_events.specs.Cuts.{is_cut, is_recorded, record_of, cuts}
use Rattle.wh_workflow.specs.declared.fault.WorkflowFault.{WorkflowFault}
use Rattle.wh_workflow.specs.declared.fault.Mismatch.{Mismatch}
use Rattle.wh_workflow.specs.Law.{Program}
use Rattle.wh_workflow.specs.Names.{mismatch}
use Rattle.wh_workflow.specs.Scripts.{ActivationContext, reduced}
use Rattle.wh_workflow.specs.Activations.{and_then, Progress}
use Rattle.wh_split.specs.Splits.{first_of}
use Rattle.wh_replay.specs.declared.fault.Fault.{Fault}
use Rattle.wh_replay.specs.declared.fault.Fault.TheVariants.{Mismatch as Mismatched}
use Rattle.wh_replay.specs.Replays.{ReplayResult, Replayed, reached, close_task, task_after, task, unless_mismatch, replay_after, replay_known, replay_placed, workflow_of, with_machines, replay_tasks}
use Rattle.wh_replay.specs.Wholes.{HasNoCut, IsNextCut, PassedTask, events_through, left_by, cut_numbers, TaskAt, next_task, known_at, activated, TaskPasses, TaskFails, Passes, PassThrough, AllPass, FirstFails, IsKnown, start_of, PlaceFaultFirst, UnknownTypeNext, GivesWhereAllPass, FaultyWhereFirstFails, AllCutsPass, FirstCutsPass}
use Rattle.wh_replay.proofs.Settling.{ok_same}
use Rattle.wh_replay.proofs.Advancing.{task_parts}
use Rattle.wh_replay.proofs.Joining.{if_true, if_false, test_of}
use Rattle.wh_replay.proofs.Resuming.{err_same}
use Rattle.wh_replay.proofs.Stepping.{Passed, pass, no_cut}
use Rattle.wh_replay.proofs.Living.{never_both, not_true}

-- events without a cut, said by splits and event by event
passed_over : (events rest : List Event) → HasNoCut events rest → Passed events rest
passed_over [] rest none = tt
passed_over (event ∷ events) rest none = (
  not_true (is_cut event (events ++ rest)) (none [] event events refl),
  passed_over events rest (λ before other after e. none (event ∷ before) other after (ap (λ (l : List Event). event ∷ l) e)),
)

no_cut_at : (events rest : List Event) → Passed events rest → (before : List Event) (event : Event) (after : List Event) → events ≡ before ++ event ∷ after → is_cut event (after ++ rest) ≡ false
no_cut_at [] rest passed [] event after e = cc
no_cut_at [] rest passed (x ∷ before) event after e = cc
no_cut_at (y ∷ events) rest passed [] event after e =
    let same : y ≡ event = cc in
    let more : events ≡ after = cc in
    ap (λ (x : Event). is_cut x (after ++ rest)) (sym same) ∙ (ap (λ (l : List Event). is_cut y (l ++ rest)) (sym more) ∙ passed.0)
no_cut_at (y ∷ events) rest passed (x ∷ before) event after e = let more : events ≡ before ++ event ∷ after = cc in no_cut_at events rest passed.1 before event after more

has_no_cut : (events rest : List Event) → Passed events rest → HasNoCut events rest
has_no_cut events rest passed = λ before event after e. never_both (is_cut event (after ++ rest)) (no_cut_at events rest passed before event after e)

passed_one : (events : List Event) (event : Event) (rest : List Event) → Passed events (event ∷ rest) → is_cut event rest ≡ false → Passed (events ++ event ∷ []) rest
passed_one [] event rest passed none = (none, tt)
passed_one (x ∷ events) event rest passed none = (ap (is_cut x) (append_assoc events (event ∷ []) rest) ∙ passed.0, passed_one events event rest passed.1 none)

-- the cuts after such events
cuts_over : (events rest : List Event) → Passed events rest → cuts (events ++ rest) ≡ cuts rest
cuts_over [] rest passed = refl
cuts_over (event ∷ events) rest passed = if_false (is_cut event (events ++ rest)) (event.number ∷ cuts (events ++ rest)) (cuts (events ++ rest)) passed.0 ∙ cuts_over events rest passed.1

cuts_none : (rest : List Event) → Passed rest [] → cuts rest ≡ []
cuts_none rest passed = ap cuts (sym (append-nil rest)) ∙ cuts_over rest [] passed

cuts_next : (between : List Event) (cut : Event) (rest : List Event) → IsNextCut between cut rest → cuts (between ++ cut ∷ rest) ≡ cut.number ∷ cuts rest
cuts_next between cut rest next =
    cuts_over between (cut ∷ rest) (passed_over between (cut ∷ rest) next.none_between)
    ∙ if_true (is_cut cut rest) (cut.number ∷ cuts rest) (cuts rest) next.cuts_here

-- what stands up to the cut of one more task
along : (seen between : List Event) (cut : Event) (more : List Event) → (seen ++ (between ++ cut ∷ [])) ++ more ≡ seen ++ (between ++ cut ∷ more)
along seen between cut more = append_assoc seen (between ++ cut ∷ []) more ∙ ap (λ l. seen ++ l) (append_assoc between (cut ∷ []) more)

module _ {S : Type 0} where
  module _ (history : List Event) (context : ActivationContext) (at : ℕ) (progress : Progress S) (events : List Event) where
    abbrev differs : Option Mismatch
    differs = mismatch history (reduced context progress.script.issued) events

    matched : (difference : Option Mismatch) (x left : ReplayResult S) → unless_mismatch at difference x ≡ Ok left → (difference ≡ None) × (left ≡ x)
    matched None x left e = (refl, sym (ok_same x left e))
    matched (Some difference) x left e = cc

    closed : (test : Bool) (left : ReplayResult S) → close_task history context at (cond test (Some events) None) progress ≡ Ok left
        → (test ≡ true → (differs ≡ None) × (left ≡ reached progress [])) × (¬ (test ≡ true) → left ≡ reached progress (reduced context progress.script.issued))
    closed true left e = (λ _. matched differs (reached progress []) left e, λ no_way. absurd (no_way refl))
    closed false left e = (λ h. absurd (never_both false refl h), λ _. sym (ok_same (reached progress (reduced context progress.script.issued)) left e))

    closes : (test : Bool) (left : ReplayResult S) → (test ≡ true → (differs ≡ None) × (left ≡ reached progress [])) → (¬ (test ≡ true) → left ≡ reached progress (reduced context progress.script.issued))
        → close_task history context at (cond test (Some events) None) progress ≡ Ok left
    closes true left recorded live = let facts = recorded refl in ap (λ m. unless_mismatch at m (reached progress [])) facts.0 ∙ ap (λ (x : ReplayResult S). Ok x) (sym facts.1)
    closes false left recorded live = ap (λ (x : ReplayResult S). Ok x) (sym (live (never_both false refl)))

    differed : (difference : Option Mismatch) (x : ReplayResult S) (fault : Fault) → unless_mismatch at difference x ≡ Err fault → (d : Mismatch) × (difference ≡ Some d) × (fault ≡ Mismatched at d)
    differed None x fault e = cc
    differed (Some d) x fault e = (d, refl, sym (err_same e))

    closed_err : (test : Bool) (fault : Fault) → close_task history context at (cond test (Some events) None) progress ≡ Err fault
        → (test ≡ true) × ((d : Mismatch) × (differs ≡ Some d) × (fault ≡ Mismatched at d))
    closed_err true fault e = (refl, differed differs (reached progress []) fault e)
    closed_err false fault e = cc

    closes_err : (test : Bool) (fault : Fault) (d : Mismatch) → test ≡ true → differs ≡ Some d → fault ≡ Mismatched at d → close_task history context at (cond test (Some events) None) progress ≡ Err fault
    closes_err true fault d t e f = ap (λ m. unless_mismatch at m (reached progress [])) e ∙ ap (λ (x : Fault). Err x) (sym f)
    closes_err false fault d t e f = cc

  module _ (program : Program S) (here : TaskAt) (current : ReplayResult S) where
    abbrev history_here : List Event
    history_here = here.before ++ here.cut ∷ here.rest

    abbrev given : Result (Progress S) WorkflowFault
    given = activated program here current

    abbrev task_here : Result (ReplayResult S) Fault
    task_here = task program here.before here.between here.cut here.rest current

    task_passes : (left : ReplayResult S) → task_here ≡ Ok left → TaskPasses program here current left
    task_passes left e =
        let parts = task_parts history_here (known_at here) here.cut.number left given e in
        let facts = closed history_here (known_at here) here.cut.number parts.0 (record_of here.rest) (is_recorded here.rest) left parts.2 in
        record { progress = parts.0; succeeds = parts.1; recorded = facts.0; live = facts.1 }

    passing_task : (left : ReplayResult S) → TaskPasses program here current left → task_here ≡ Ok left
    passing_task left h =
        ap (task_after history_here (known_at here) here.cut.number) h.succeeds
        ∙ closes history_here (known_at here) here.cut.number h.progress (record_of here.rest) (is_recorded here.rest) left h.recorded h.live

    task_fails : (fault : Fault) → task_here ≡ Err fault → TaskFails program here current fault
    task_fails fault e = by given refl e
      where
        by : (result : Result (Progress S) WorkflowFault) → given ≡ result → task_after history_here (known_at here) here.cut.number result ≡ Err fault → TaskFails program here current fault
        by (Err reason) is e = inl (reason, is, sym (err_same e))
        by (Ok progress) is e =
            let facts = closed_err history_here (known_at here) here.cut.number progress (record_of here.rest) (is_recorded here.rest) fault e in
            inr (progress, facts.1.0, is, facts.0, facts.1.1, facts.1.2)

    failing_task : (fault : Fault) → TaskFails program here current fault → task_here ≡ Err fault
    failing_task fault h =
        elim h [
          | inl stops ↦ ap (task_after history_here (known_at here) here.cut.number) stops.1 ∙ ap (λ (x : Fault). Err x) (sym stops.2)
          | inr other ↦
              ap (task_after history_here (known_at here) here.cut.number) other.2
              ∙ closes_err history_here (known_at here) here.cut.number other.0 (record_of here.rest) (is_recorded here.rest) fault other.1 other.3 other.4 other.5
        ]

  -- tasks that pass, one after the other, after the events seen and what was left before
  Chain : Program S → List Event → ReplayResult S → List (PassedTask S) → List Event → Type 0
  Chain program seen current [] rest = Unit {0}
  Chain program seen current (one ∷ more) rest = Passes program seen current one (events_through more ++ rest) × Chain program (seen ++ (one.between ++ one.cut ∷ [])) one.left more rest

  each_of : (program : Program S) (seen : List Event) (current : ReplayResult S) (passed : List (PassedTask S)) (rest : List Event) → Chain program seen current passed rest
      → (earlier : List (PassedTask S)) (one : PassedTask S) (later : List (PassedTask S)) → passed ≡ earlier ++ one ∷ later
      → Passes program (seen ++ events_through earlier) (left_by current earlier) one (events_through later ++ rest)
  unfolding Chain
  each_of program seen current [] rest chain [] one later e = cc
  each_of program seen current [] rest chain (x ∷ earlier) one later e = cc
  each_of program seen current (p ∷ ps) rest chain [] one later e =
      let same : p ≡ one = cc in
      let more : ps ≡ later = cc in
      let here : Passes program seen current one (events_through ps ++ rest) = subst (λ (x : PassedTask S). Passes program seen current x (events_through ps ++ rest)) same chain.0 in
      let there : Passes program seen current one (events_through later ++ rest) = subst (λ (l : List (PassedTask S)). Passes program seen current one (events_through l ++ rest)) more here in
      subst (λ (l : List Event). Passes program l current one (events_through later ++ rest)) (sym (append-nil seen)) there
  each_of program seen current (p ∷ ps) rest chain (x ∷ earlier) one later e =
      let same : p ≡ x = cc in
      let more : ps ≡ earlier ++ one ∷ later = cc in
      let there = each_of program (seen ++ (p.between ++ p.cut ∷ [])) p.left ps rest chain.1 earlier one later more in
      let here : Passes program (seen ++ (p.between ++ p.cut ∷ events_through earlier)) (left_by p.left earlier) one (events_through later ++ rest)
      = subst (λ (l : List Event). Passes program l (left_by p.left earlier) one (events_through later ++ rest)) (along seen p.between p.cut (events_through earlier)) there in
      subst (λ (y : PassedTask S). Passes program (seen ++ (y.between ++ y.cut ∷ events_through earlier)) (left_by y.left earlier) one (events_through later ++ rest)) same here

  chain_of : (program : Program S) (seen : List Event) (current : ReplayResult S) (passed : List (PassedTask S)) (rest : List Event)
      → ((earlier : List (PassedTask S)) (one : PassedTask S) (later : List (PassedTask S)) → passed ≡ earlier ++ one ∷ later → Passes program (seen ++ events_through earlier) (left_by current earlier) one (events_through later ++ rest))
      → Chain program seen current passed rest
  unfolding Chain
  chain_of program seen current [] rest each = tt
  chain_of program seen current (p ∷ ps) rest each = (
    subst (λ (l : List Event). Passes program l current p (events_through ps ++ rest)) (append-nil seen) (each [] p ps refl),
    chain_of program (seen ++ (p.between ++ p.cut ∷ [])) p.left ps rest
        (λ earlier one later e.
        subst (λ (l : List Event). Passes program l (left_by p.left earlier) one (events_through later ++ rest)) (sym (along seen p.between p.cut (events_through earlier)))
        (each (p ∷ earlier) one later (ap (λ (l : List (PassedTask S)). p ∷ l) e))),
  )

  module _ (program : Program S) where
    -- the task of the next cut, and what follows it
    at_cut : (seen between : List Event) (cut : Event) (rest : List Event) (current : ReplayResult S) → IsNextCut between cut rest
        → replay_after program seen [] (between ++ cut ∷ rest) current ≡ and_then (task program (seen ++ between) between cut rest current) (replay_after program (seen ++ (between ++ cut ∷ [])) [] rest)
    at_cut seen between cut rest current next =
        let first = task program (seen ++ between) between cut rest current in
        pass program seen [] between cut rest current (passed_over between (cut ∷ rest) next.none_between)
        ∙ (if_true (is_cut cut rest) (and_then first (replay_after program ((seen ++ between) ++ cut ∷ []) [] rest)) (replay_after program ((seen ++ between) ++ cut ∷ []) (between ++ cut ∷ []) rest current) next.cuts_here
        ∙ ap (λ (l : List Event). and_then first (replay_after program l [] rest)) (append_assoc seen between (cut ∷ [])))

    -- over tasks that pass, replay goes on from what the last leaves
    followed : (seen : List Event) (current : ReplayResult S) (passed : List (PassedTask S)) (rest : List Event) → Chain program seen current passed rest
        → replay_after program seen [] (events_through passed ++ rest) current ≡ replay_after program (seen ++ events_through passed) [] rest (left_by current passed)
    unfolding Chain
    followed seen current [] rest chain = ap (λ (l : List Event). replay_after program l [] rest current) (sym (append-nil seen))
    followed seen current (one ∷ more) rest chain =
        let later = events_through more ++ rest in
        let next = seen ++ (one.between ++ one.cut ∷ []) in
        ap (λ (l : List Event). replay_after program seen [] l current) (append_assoc one.between (one.cut ∷ events_through more) rest)
        ∙ (at_cut seen one.between one.cut later current chain.0.next
        ∙ (ap (λ r. and_then r (replay_after program next [] later)) (passing_task program (next_task seen one.between one.cut later) current one.left chain.0.passes)
        ∙ (followed next one.left more rest chain.1
        ∙ ap (λ (l : List Event). replay_after program l [] rest (left_by one.left more)) (along seen one.between one.cut (events_through more)))))

    -- the cuts of tasks that pass
    numbered : (seen : List Event) (current : ReplayResult S) (passed : List (PassedTask S)) (rest : List Event) → Chain program seen current passed rest → cuts (events_through passed ++ rest) ≡ cut_numbers passed ++ cuts rest
    unfolding Chain
    numbered seen current [] rest chain = refl
    numbered seen current (one ∷ more) rest chain =
        ap cuts (append_assoc one.between (one.cut ∷ events_through more) rest)
        ∙ (cuts_next one.between one.cut (events_through more ++ rest) chain.0.next
        ∙ ap (λ (l : List ℕ). one.cut.number ∷ l) (numbered (seen ++ (one.between ++ one.cut ∷ [])) one.left more rest chain.1))

    -- the task of the next cut fails
    record Stops (seen : List Event) (current : ReplayResult S) (rest : List Event) : Type 0 where
      between : List Event
      cut : Event
      more : List Event
      fault : Fault
      whole : rest ≡ between ++ cut ∷ more
      next : IsNextCut between cut more
      fails : task program (seen ++ between) between cut more current ≡ Err fault

    -- the tasks of some events that pass, and why no more do
    record Parted (seen : List Event) (current : ReplayResult S) (events : List Event) : Type 0 where
      passed : List (PassedTask S)
      rest : List Event
      whole : events ≡ events_through passed ++ rest
      chain : Chain program seen current passed rest
      ends : HasNoCut rest [] ⊎ Stops (seen ++ events_through passed) (left_by current passed) rest

    -- one more task before them
    one_more : (seen : List Event) (current : ReplayResult S) (one : PassedTask S) (events : List Event) → Passes program seen current one events → Parted (seen ++ (one.between ++ one.cut ∷ [])) one.left events
        → Parted seen current (one.between ++ one.cut ∷ events)
    unfolding Chain
    one_more seen current one events passes parted = record {
      passed = one ∷ parted.passed;
      rest = parted.rest;
      whole = ap (λ (l : List Event). one.between ++ one.cut ∷ l) parted.whole ∙ sym (append_assoc one.between (one.cut ∷ events_through parted.passed) parted.rest);
      chain = (subst (λ (l : List Event). Passes program seen current one l) parted.whole passes, parted.chain);
      ends =
          subst (λ (l : List Event). HasNoCut parted.rest [] ⊎ Stops l (left_by one.left parted.passed) parted.rest) (along seen one.between one.cut (events_through parted.passed)) parted.ends;
    }

    part : (seen between rest : List Event) (current : ReplayResult S) → Passed between rest → Parted seen current (between ++ rest)
    unfolding Chain
    part seen between [] current passed =
        let all : between ≡ between ++ [] = sym (append-nil between) in
        record {
          passed = [];
          rest = between ++ [];
          whole = refl;
          chain = tt;
          ends = inl (subst (λ (l : List Event). HasNoCut l []) all (has_no_cut between [] passed));
        }
    part seen between (event ∷ rest) current passed =
        test_of (is_cut event rest)
        (λ cut.
        let next : IsNextCut between event rest = record { cuts_here = cut; none_between = has_no_cut between (event ∷ rest) passed } in
        by (λ left. part (seen ++ (between ++ event ∷ [])) [] rest left tt) next (task program (seen ++ between) between event rest current) refl)
        (λ none. subst (Parted seen current) (append_assoc between (event ∷ []) rest) (part seen (between ++ event ∷ []) rest current (passed_one between event rest passed none)))
      where
        by : ((left : ReplayResult S) → Parted (seen ++ (between ++ event ∷ [])) left rest) → IsNextCut between event rest → (result : Result (ReplayResult S) Fault) → task program (seen ++ between) between event rest current ≡ result → Parted seen current (between ++ event ∷ rest)
        by later next (Ok left) e =
            let one : PassedTask S = record { between = between; cut = event; left = left } in
            let passes : Passes program seen current one rest = record { next = next; passes = task_passes program (next_task seen between event rest) current left e } in
            one_more seen current one rest passes (later left)
        by later next (Err fault) e = record {
          passed = [];
          rest = between ++ event ∷ rest;
          whole = refl;
          chain = tt;
          ends = inr (record {
            between = between;
            cut = event;
            more = rest;
            fault = fault;
            whole = refl;
            next = next;
            fails = ap (λ (l : List Event). task program (l ++ between) between event rest current) (append-nil seen) ∙ e;
          });
        }

    module _ (history : List Event) (first : ReplayResult S) where
      -- the events after the last cut change nothing
      rests : (before rest : List Event) (current : ReplayResult S) → HasNoCut rest [] → replay_after program before [] rest current ≡ Ok current
      rests before rest current none = no_cut program before [] rest current (ap first_of (cuts_none rest (passed_over rest [] none)))

      through : (passed : List (PassedTask S)) (rest : List Event) → PassThrough program history first passed rest → replay_after program [] [] history first ≡ replay_after program (events_through passed) [] rest (left_by first passed)
      through passed rest h =
          ap (λ (l : List Event). replay_after program [] [] l first) h.whole ∙ followed [] first passed rest (chain_of program [] first passed rest h.each)

      all_pass : (left : ReplayResult S) → AllPass program history first left → replay_after program [] [] history first ≡ Ok left
      all_pass left h =
          through h.passed h.rest h.pass ∙ (rests (events_through h.passed) h.rest (left_by first h.passed) h.none_left ∙ ap (λ (x : ReplayResult S). Ok x) (sym h.leaves))

      first_fails : (fault : Fault) → FirstFails program history first fault → replay_after program [] [] history first ≡ Err fault
      first_fails fault h =
          let seen = events_through h.passed in
          through h.passed (h.between ++ h.cut ∷ h.rest) h.pass
          ∙ (at_cut seen h.between h.cut h.rest (left_by first h.passed) h.next
          ∙ ap (λ r. and_then r (replay_after program (seen ++ (h.between ++ h.cut ∷ [])) [] h.rest)) (failing_task program (next_task seen h.between h.cut h.rest) (left_by first h.passed) fault h.fails))

      -- one of the two is so
      either : ((left : ReplayResult S) × AllPass program history first left) ⊎ ((fault : Fault) × FirstFails program history first fault)
      either =
          let p = part [] [] history first tt in
          let pass : PassThrough program history first p.passed p.rest = record { whole = p.whole; each = each_of program [] first p.passed p.rest p.chain } in
          elim p.ends [
            | inl none ↦ inl (left_by first p.passed, record { passed = p.passed; rest = p.rest; pass = pass; none_left = none; leaves = refl })
            | inr stops ↦
                inr (
                  stops.fault,
                  record {
                    passed = p.passed;
                    between = stops.between;
                    cut = stops.cut;
                    rest = stops.more;
                    pass = subst (PassThrough program history first p.passed) stops.whole pass;
                    next = stops.next;
                    fails = task_fails program (next_task (events_through p.passed) stops.between stops.cut stops.more) (left_by first p.passed) stops.fault stops.fails;
                  },
                )
          ]

      gives_all : (left : ReplayResult S) → replay_after program [] [] history first ≡ Ok left → AllPass program history first left
      gives_all left e =
          elim either [
            | inl all ↦ subst (AllPass program history first) (ok_same all.0 left (sym (all_pass all.0 all.1) ∙ e)) all.1
            | inr fails ↦ absurd (let w = first_fails fails.0 fails.1 in cc)
          ]

      faulty_first : (fault : Fault) → replay_after program [] [] history first ≡ Err fault → FirstFails program history first fault
      faulty_first fault e =
          elim either [
            | inl all ↦ absurd (let w = all_pass all.0 all.1 in cc)
            | inr fails ↦ subst (FirstFails program history first) (err_same (sym (first_fails fails.0 fails.1) ∙ e)) fails.1
          ]

    known_tasks : (history : List Event) (meter : ℕ) → IsKnown program history → replay_tasks program history meter ≡ replay_after program [] [] history (start_of program history meter)
    unfolding replay_tasks
    known_tasks history meter h =
        let tasks = replay_after program [] [] history (start_of program history meter) in
        ap (λ fault. replay_placed fault (replay_known (program.knows (workflow_of history)) tasks)) h.in_place ∙ ap (λ known. replay_known known tasks) h.known

    given_back : (machines : List _) (tasks : Result (ReplayResult S) Fault) (replayed : Replayed S) → and_then tasks (λ left. Ok (with_machines machines left)) ≡ Ok replayed
        → (left : ReplayResult S) × (tasks ≡ Ok left) × (replayed ≡ with_machines machines left)
    given_back machines (Ok left) replayed e = (left, refl, sym (ok_same (with_machines machines left) replayed e))
    given_back machines (Err fault) replayed e = cc

    fault_back : (machines : List _) (tasks : Result (ReplayResult S) Fault) (fault : Fault) → and_then tasks (λ left. Ok (with_machines machines left)) ≡ Err fault → tasks ≡ Err fault
    fault_back machines (Ok left) fault e = cc
    fault_back machines (Err other) fault e = ap (λ (x : Fault). Err x) (err_same e)

    pub gives_where_all_pass : GivesWhereAllPass program
    gives_where_all_pass history meter replayed known =
        let same = known_tasks history meter known in
        let first = start_of program history meter in (
          λ e.
              let back = given_back (machines_of history) (replay_tasks program history meter) replayed e in
              (back.0, gives_all history first back.0 (sym same ∙ back.1), back.2),
          λ all.
              ap (λ r. and_then r (λ left. Ok (with_machines (machines_of history) left))) (same ∙ all_pass history first all.0 all.1)
              ∙ ap (λ (x : Replayed S). Ok x) (sym all.2),
        )

    pub faulty_where_first_fails : FaultyWhereFirstFails program
    faulty_where_first_fails history meter fault known =
        let same = known_tasks history meter known in
        let first = start_of program history meter in (
          λ e. faulty_first history first fault (sym same ∙ fault_back (machines_of history) (replay_tasks program history meter) fault e),
          λ fails. ap (λ r. and_then r (λ left. Ok (with_machines (machines_of history) left))) (same ∙ first_fails history first fault fails),
        )

    pub place_fault_first : PlaceFaultFirst program
    unfolding replay_tasks
    place_fault_first history meter place fault e =
        let tasks = replay_known (program.knows (workflow_of history)) (replay_after program [] [] history (start_of program history meter)) in
        ap (λ found. and_then (replay_placed found tasks) (λ left. Ok (with_machines (machines_of history) left))) e

    pub unknown_type_next : UnknownTypeNext program
    unfolding replay_tasks
    unknown_type_next history meter placed unknown =
        let tasks = replay_after program [] [] history (start_of program history meter) in
        ap (λ found. and_then (replay_placed found (replay_known (program.knows (workflow_of history)) tasks)) (λ left. Ok (with_machines (machines_of history) left))) placed
        ∙ ap (λ known. and_then (replay_known known tasks) (λ left. Ok (with_machines (machines_of history) left))) (not_true (program.knows (workflow_of history)) unknown)

    cuts_through : (history : List Event) (first : ReplayResult S) (passed : List (PassedTask S)) (rest : List Event) → PassThrough program history first passed rest → cuts history ≡ cut_numbers passed ++ cuts rest
    cuts_through history first passed rest h = ap cuts h.whole ∙ numbered [] first passed rest (chain_of program [] first passed rest h.each)

    pub all_cuts_pass : AllCutsPass program
    all_cuts_pass history first left all =
        cuts_through history first all.passed all.rest all.pass
        ∙ (ap (λ (l : List ℕ). cut_numbers all.passed ++ l) (cuts_none all.rest (passed_over all.rest [] all.none_left)) ∙ append-nil (cut_numbers all.passed))

    pub first_cuts_pass : FirstCutsPass program
    first_cuts_pass history first fault fails =
        cuts_through history first fails.passed (fails.between ++ fails.cut ∷ fails.rest) fails.pass
        ∙ ap (λ (l : List ℕ). cut_numbers fails.passed ++ l) (cuts_next fails.between fails.cut fails.rest fails.next)
