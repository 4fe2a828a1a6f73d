-- From one cut of a history to the next.
use Rattle.std.proofs.Common.{◌≡◌, ℕ, ◌+◌, ◌-◌, ◌<◌, ◌≤◌, Bool, true, false, cond, if◌then◌else◌, List, [], ◌∷◌, ◌++◌, length, take, drop, slice_get, Option, Some, None, Result, Ok, Err, refl, sym, ap, ◌∙◌, arith, append_assoc, append-nil, length-append, ◌||◌, is_none, option_map}
use Rattle.std.proofs.Math.Seq.{take-append_seam, drop-append_seam}
use Rattle.std.proofs.lemmas.List.{take-append-drop, length-take-le}
use Rattle.wh_events.specs.declared.event.Event.{Event}
use Rattle.wh_events.specs.declared.kind.EventKind.{EventKind}
use Rattle.wh_events.specs.declared.kind.EventKind.TheVariants.{WorkflowTaskCompleted}
use Rattle.wh_events.specs.Kinds.{class_of}
use Rattle.wh_events.specs.Cuts.{is_inert_class, is_task_completed_kind, is_inert, is_task_completed, until_completed, after_completed, is_cut, is_recorded, record_of, cuts}
use Rattle.wh_events.specs.Places.{fault_after}
use Rattle.wh_machines.specs.Lookups.{events_between}
use Rattle.wh_machines.proofs.Placed.{NumberedFrom, numbered_after}
use Rattle.wh_activation.specs.Cutting.{jobs_in, jobs_at}
use Rattle.wh_split.specs.Splits.{first_of}
use Rattle.wh_workflow.specs.Law.{Program}
use Rattle.wh_workflow.specs.Scripts.{ActivationContext}
use Rattle.wh_workflow.specs.Activations.{and_then, activate}
use Rattle.wh_replay.specs.declared.fault.Fault.{Fault}
use Rattle.wh_replay.specs.Replays.{ReplayResult, task, task_after, begin_at, replay_after}
use Rattle.wh_replay.specs.declared.cut.Cut.{Cut}
use Rattle.wh_replay.specs.Views.{context_of, context_after}
use Rattle.wh_replay.specs.Private.Views.{task_of}
use Rattle.wh_replay.specs.Activating.{IsCutAfter}
use Rattle.wh_replay.specs.Outcomes.{ends_live}

-- none of the first events is a cut, where the history goes on with the rest
abbrev pub Passed : List Event → List Event → Type 0
Passed [] rest = Unit {0}
Passed (event ∷ events) rest = (is_cut event (events ++ rest) ≡ false) × Passed events rest

-- the rest of a history up to its first cut, and after that
pub record Parts (rest : List Event) (number : ℕ) : Type 0 where
  pub front : List Event
  pub cut : Event
  pub more : List Event
  pub is : rest ≡ front ++ cut ∷ more
  pub passed : Passed front (cut ∷ more)
  pub cuts_here : is_cut cut more ≡ true
  pub named : cut.number ≡ number
  pub counts : cuts rest ≡ cut.number ∷ cuts more
  pub lives : ends_live rest ≡ cond (is_recorded more) (ends_live more) true

pub parts : (rest : List Event) (number : ℕ) → first_of (cuts rest) ≡ Some number → Parts rest number
parts [] number h = cc
parts (event ∷ rest) number h = by (is_cut event rest) refl (parts rest number)
  where
    by : (test : Bool) → is_cut event rest ≡ test → (first_of (cuts rest) ≡ Some number → Parts rest number) → Parts (event ∷ rest) number
    by true e later =
        let all : cuts (event ∷ rest) ≡ event.number ∷ cuts rest = rw e refl in
        let first : Some event.number ≡ Some number = sym (ap first_of all) ∙ h in
        record { front = []; cut = event; more = rest; is = refl; passed = tt; cuts_here = e; named = cc; counts = all; lives = rw e refl }
    by false e later =
        let same : cuts (event ∷ rest) ≡ cuts rest = rw e refl in
        let live : ends_live (event ∷ rest) ≡ ends_live rest = rw e refl in
        let p = later (sym (ap first_of same) ∙ h) in
        record {
          front = event ∷ p.front;
          cut = p.cut;
          more = p.more;
          is = ap (λ l. event ∷ l) p.is;
          passed = (sym (ap (is_cut event) p.is) ∙ e, p.passed);
          cuts_here = p.cuts_here;
          named = p.named;
          counts = same ∙ p.counts;
          lives = live ∙ p.lives;
        }

pub none_lives : (rest : List Event) → first_of (cuts rest) ≡ None → ends_live rest ≡ false
none_lives [] h = refl
none_lives (event ∷ rest) h = by (is_cut event rest) refl (none_lives rest)
  where
    by : (test : Bool) → is_cut event rest ≡ test → (first_of (cuts rest) ≡ None → ends_live rest ≡ false) → ends_live (event ∷ rest) ≡ false
    by true e later = let all : cuts (event ∷ rest) ≡ event.number ∷ cuts rest = rw e refl in let first : Some event.number ≡ None = sym (ap first_of all) ∙ h in cc
    by false e later =
        let same : cuts (event ∷ rest) ≡ cuts rest = rw e refl in
        let live : ends_live (event ∷ rest) ≡ ends_live rest = rw e refl in
        live ∙ later (sym (ap first_of same) ∙ h)

numbered_at : (n : ℕ) (front : List Event) (event : Event) (more : List Event) → NumberedFrom n (front ++ event ∷ more) → event.number ≡ n + (length front + 1)
numbered_at n [] event more h = h.0
numbered_at n (first ∷ front) event more h = let later = numbered_at (n + 1) front event more h.1 in omega (arith, later)

-- the next cut of a history in place
pub record IsNext (events : List Event) (last number : ℕ) : Type 0 where
  pub front : List Event
  pub cut : Event
  pub past : last < number
  pub within : number ≤ length events
  pub named : cut.number ≡ number
  pub before : take (number - 1) events ≡ take last events ++ front
  pub between : events_between events last number ≡ front
  pub at : slice_get events (number - 1) ≡ Some cut
  pub whole : events ≡ (take last events ++ front) ++ cut ∷ drop number events
  pub seen : take number events ≡ (take last events ++ front) ++ cut ∷ []
  pub rest : drop last events ≡ front ++ cut ∷ drop number events
  pub passed : Passed front (cut ∷ drop number events)
  pub cuts_here : is_cut cut (drop number events) ≡ true
  pub counts : cuts (drop last events) ≡ number ∷ cuts (drop number events)
  pub lives : ends_live (drop last events) ≡ cond (is_recorded (drop number events)) (ends_live (drop number events)) true

pub slice_get-seam : {A : Type 0} (xs : List A) (y : A) (ys : List A) → slice_get (xs ++ y ∷ ys) (length xs) ≡ Some y
slice_get-seam [] y ys = refl
slice_get-seam (x ∷ xs) y ys = slice_get-seam xs y ys

module _ (events : List Event) (last number : ℕ) (ys front : List Event) (cut : Event) (more : List Event) (all : events ≡ ys ++ cut ∷ more) (size : number ≡ length ys + 1) where
  front_here : take (number - 1) events ≡ ys
  front_here = let index : number - 1 ≡ length ys = omega arith in rw (all, index) (take-append_seam ys (cut ∷ more))

  cut_here : slice_get events (number - 1) ≡ Some cut
  cut_here = let index : number - 1 ≡ length ys = omega arith in rw (all, index) (slice_get-seam ys cut more)

  pushed : events ≡ (ys ++ cut ∷ []) ++ more
  pushed = all ∙ sym (append_assoc ys (cut ∷ []) more)

  longer : number ≡ length (ys ++ cut ∷ [])
  longer = omega (arith, length-append ys (cut ∷ []))

  seen_here : take number events ≡ ys ++ cut ∷ []
  seen_here = rw (pushed, longer) (take-append_seam (ys ++ cut ∷ []) more)

  rest_here : drop number events ≡ more
  rest_here = rw (pushed, longer) (drop-append_seam (ys ++ cut ∷ []) more)

pub next_is : (events : List Event) (last number : ℕ) → fault_after [] events ≡ None → last ≤ length events → first_of (cuts (drop last events)) ≡ Some number → IsNext events last number
next_is events last number placed low h =
    let p = parts (drop last events) number h in
    let before = take last events in
    let ys = before ++ p.front in
    let held = length-take-le last events low in
    let joined = length-append before p.front in
    let all : events ≡ ys ++ p.cut ∷ p.more = sym (take-append-drop last events) ∙ (ap (λ l. before ++ l) p.is ∙ sym (append_assoc before p.front (p.cut ∷ p.more))) in
    let numbers : NumberedFrom 0 (ys ++ p.cut ∷ p.more) = rw all at (numbered_after [] events placed) in
    let counted = numbered_at 0 ys p.cut p.more numbers in
    let named = p.named in
    let size : number ≡ length ys + 1 = omega arith in
    let total = ap length all ∙ length-append ys (p.cut ∷ p.more) in
    let more = rest_here events last number ys p.front p.cut p.more all size in
    let start : last ≡ length before = sym held in
    record {
      front = p.front;
      cut = p.cut;
      past = omega arith;
      within = omega arith;
      named = named;
      before = front_here events last number ys p.front p.cut p.more all size;
      between = ap (drop last) (front_here events last number ys p.front p.cut p.more all size) ∙ (ap (λ n. drop n ys) start ∙ drop-append_seam before p.front);
      at = cut_here events last number ys p.front p.cut p.more all size;
      whole = all ∙ ap (λ l. ys ++ p.cut ∷ l) (sym more);
      seen = seen_here events last number ys p.front p.cut p.more all size;
      rest = p.is ∙ ap (λ l. p.front ++ p.cut ∷ l) (sym more);
      passed = rw more p.passed;
      cuts_here = rw more p.cuts_here;
      counts = p.counts ∙ (ap (λ n. n ∷ cuts p.more) named ∙ ap (λ l. number ∷ cuts l) (sym more));
      lives = p.lives ∙ ap (λ l. cond (is_recorded l) (ends_live l) true) (sym more);
    }

first_none : (numbers : List ℕ) → first_of numbers ≡ None → numbers ≡ []
first_none [] e = refl
first_none (number ∷ rest) e = cc

-- there are no cuts where there is no first one
pub no_cuts : (rest : List Event) → first_of (cuts rest) ≡ None → length (cuts rest) ≡ 0
no_cuts rest e = ap length (first_none (cuts rest) e)

-- nor does a history then end live
pub no_lives : (rest : List Event) (live : Bool) → first_of (cuts rest) ≡ None → live ≡ (live || ends_live rest)
no_lives rest live e = by live ∙ ap (λ b. live || b) (sym (none_lives rest e))
  where
    by : (b : Bool) → b ≡ (b || false)
    by true = refl
    by false = refl

-- a completed task is not inert
pub completed_core : (kind : EventKind) → is_task_completed_kind kind ≡ true → is_inert_class (class_of kind) ≡ false
completed_core WorkflowTaskCompleted h = refl
completed_core _ h = cc

-- events that begin with a completed task
pub recorded_here : (event : Event) (rest : List Event) → is_task_completed event ≡ true → (is_recorded (event ∷ rest) ≡ true) × (after_completed (event ∷ rest) ≡ rest) × (until_completed (event ∷ rest) ≡ [])
recorded_here event rest h = let core : is_inert event ≡ false = completed_core event.body h in (rw core h, rw h refl, rw h refl)

-- whether the history ends live, by whether its next cut has a record
pub lives_span : (events : List Event) (last number : ℕ) (live : Bool) → IsNext events last number → {A B : Type 0} (seen : A → B) (span : Option A) (record_there : B) → option_map seen span ≡ cond (is_recorded (drop number events)) (Some record_there) None → (none : Bool) → none ≡ is_none span
    → ((live || none) || ends_live (drop number events)) ≡ (live || ends_live (drop last events))
lives_span events last number live n seen span record_there is none e = ap (λ b. (live || b) || ends_live (drop number events)) e ∙ (by span live (is_recorded (drop number events)) is ∙ ap (λ b. live || b) (sym n.lives))
  where
    by : (found : Option _) (before recorded : Bool) → option_map seen found ≡ cond recorded (Some record_there) None → ((before || is_none found) || ends_live (drop number events)) ≡ (before || cond recorded (ends_live (drop number events)) true)
    by (Some x) true true e = refl
    by (Some x) false true e = refl
    by (Some x) before false e = cc
    by None before true e = cc
    by None true false e = refl
    by None false false e = refl

module _ {S : Type 0} (program : Program S) where
  pub pass : (before between front : List Event) (cut : Event) (more : List Event) (current : ReplayResult S) → Passed front (cut ∷ more)
      → replay_after program before between (front ++ cut ∷ more) current ≡ replay_after program (before ++ front) (between ++ front) (cut ∷ more) current
  pass before between [] cut more current h = ap (λ l. replay_after program l between (cut ∷ more) current) (sym (append-nil before)) ∙ ap (λ l. replay_after program (before ++ []) l (cut ∷ more) current) (sym (append-nil between))
  pass before between (event ∷ front) cut more current h =
      let next = front ++ cut ∷ more in
      let rest : Result (ReplayResult S) Fault = and_then (task program before between event next current) (replay_after program (before ++ event ∷ []) [] next) in
      ap (λ test. cond test rest (replay_after program (before ++ event ∷ []) (between ++ event ∷ []) next current)) h.0
      ∙ (pass (before ++ event ∷ []) (between ++ event ∷ []) front cut more current h.1
      ∙ (ap (λ l. replay_after program l ((between ++ event ∷ []) ++ front) (cut ∷ more) current) (append_assoc before (event ∷ []) front)
      ∙ ap (λ l. replay_after program (before ++ event ∷ front) l (cut ∷ more) current) (append_assoc between (event ∷ []) front)))

  -- no cut is left
  pub no_cut : (before between rest : List Event) (current : ReplayResult S) → first_of (cuts rest) ≡ None → replay_after program before between rest current ≡ Ok current
  no_cut before between [] current h = refl
  no_cut before between (event ∷ rest) current h = by (is_cut event rest) refl (no_cut (before ++ event ∷ []) (between ++ event ∷ []) rest current)
    where
      by : (test : Bool) → is_cut event rest ≡ test → (first_of (cuts rest) ≡ None → replay_after program (before ++ event ∷ []) (between ++ event ∷ []) rest current ≡ Ok current) → replay_after program before between (event ∷ rest) current ≡ Ok current
      by true e later = let all : cuts (event ∷ rest) ≡ event.number ∷ cuts rest = rw e refl in let first : Some event.number ≡ None = sym (ap first_of all) ∙ h in cc
      by false e later =
          let same : cuts (event ∷ rest) ≡ cuts rest = rw e refl in
          let stop : Result (ReplayResult S) Fault = and_then (task program before between event rest current) (replay_after program (before ++ event ∷ []) [] rest) in
          ap (λ test. cond test stop (replay_after program (before ++ event ∷ []) (between ++ event ∷ []) rest current)) e ∙ later (sym (ap first_of same) ∙ h)

  -- the task of the cut of a number
  abbrev pub task_at : List Event → ℕ → ℕ → ReplayResult S → Result (ReplayResult S) Fault
  task_at events last number current = let context = context_after events last number in task_after events context number (activate program context (jobs_at events last number) (begin_at current))

  -- the task at a cut of the code is that at its number
  pub task_here : (events : List Event) (last : ℕ) (cut : Cut) (current : ReplayResult S) → IsCutAfter events last cut → task_of program cut current ≡ task_at events last cut.number current
  task_here events last cut current is =
      let F : List Event → ℕ → ActivationContext → Result (ReplayResult S) Fault
      = λ history previous context. task_after history context cut.number (activate program context (jobs_at history previous cut.number) (begin_at current)) in
      ap (λ history. F history cut.previous (context_of cut)) is.history ∙ (ap (λ previous. F events previous (context_of cut)) is.previous ∙ ap (F events last) is.context)

  -- the next cut of a history, and what follows it
  pub walk_next : (events : List Event) (last number : ℕ) (current : ReplayResult S) → IsNext events last number
      → replay_after program (take last events) [] (drop last events) current ≡ and_then (task_at events last number current) (replay_after program (take number events) [] (drop number events))
  walk_next events last number current n =
      let before = take last events in
      let more = drop number events in
      let ys = before ++ n.front in
      let there = n.cuts_here in
      let F : List Event → List Event → List Event → ℕ → Option Event → Result (ReplayResult S) Fault
      = λ whole seen between at got.
      let context : ActivationContext = record { seen = seen; between = between; recorded = if is_recorded more then Some (record_of more) else None } in task_after whole context at (activate program context (jobs_in seen between got) (begin_at current)) in
      let next : List Event → Result (ReplayResult S) Fault → Result (ReplayResult S) Fault = λ seen r. and_then r (replay_after program seen [] more) in
      let here : F (ys ++ n.cut ∷ more) (ys ++ n.cut ∷ []) n.front n.cut.number (Some n.cut) ≡ task_at events last number current
      = ap (λ l. F l (ys ++ n.cut ∷ []) n.front n.cut.number (Some n.cut)) (sym n.whole)
      ∙ (ap (λ l. F events l n.front n.cut.number (Some n.cut)) (sym n.seen)
      ∙ (ap (λ l. F events (take number events) l n.cut.number (Some n.cut)) (sym n.between)
      ∙ (ap (λ k. F events (take number events) (events_between events last number) k (Some n.cut)) n.named
      ∙ ap (F events (take number events) (events_between events last number) number) (sym n.at)))) in
      ap (λ l. replay_after program before [] l current) n.rest
      ∙ (pass before [] n.front n.cut more current n.passed
      ∙ (ap (λ test. cond test (next (ys ++ n.cut ∷ []) (F (ys ++ n.cut ∷ more) (ys ++ n.cut ∷ []) n.front n.cut.number (Some n.cut))) (replay_after program (ys ++ n.cut ∷ []) (n.front ++ n.cut ∷ []) more current)) there
      ∙ (ap (next (ys ++ n.cut ∷ [])) here
      ∙ ap (λ l. next l (task_at events last number current)) (sym n.seen))))

  -- the task of the next cut leaves this
  pub walk_ok : (events : List Event) (last number : ℕ) (current left : ReplayResult S) → IsNext events last number → task_at events last number current ≡ Ok left
      → replay_after program (take number events) [] (drop number events) left ≡ replay_after program (take last events) [] (drop last events) current
  walk_ok events last number current left n e = sym (walk_next events last number current n ∙ ap (λ r. and_then r (replay_after program (take number events) [] (drop number events))) e)

  -- or has a fault
  pub walk_err : (events : List Event) (last number : ℕ) (current : ReplayResult S) (fault : Fault) → IsNext events last number → task_at events last number current ≡ Err fault → replay_after program (take last events) [] (drop last events) current ≡ Err fault
  walk_err events last number current fault n e = walk_next events last number current n ∙ ap (λ r. and_then r (replay_after program (take number events) [] (drop number events))) e
