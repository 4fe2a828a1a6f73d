-- What the turns of a worker did.
use Rattle.std.proofs.Common.{◌≡◌, ◌≤◌, inr, arith, ℕ, Bool, false, List, [], ◌∷◌, ◌++◌, Option, Some, None, ap, subst, sym, ◌∙◌, refl}
use Rattle.std.specs.Prelude.{Result, Ok, Err, ◌+◌, length}
use Rattle.std.proofs.lemmas.List.{length-append}
use Rattle.wh_slots.specs.declared.TaskName.{TaskName}
use Rattle.wh_events.specs.declared.event.Event.{Event}
use Rattle.wh_replay.specs.declared.fault.Fault.{Fault}
use Rattle.wh_events.specs.declared.key.RunKey.{RunKey}
use Rattle.wh_workflow.specs.Law.{Program}
use Rattle.wh_replay.specs.Runs.{Held}
use Rattle.wh_tasks.specs.declared.source.WorkflowTask.{WorkflowTask}
use Rattle.wh_tasks.specs.declared.source.SourceFault.{SourceFault}
use Rattle.wh_tasks.specs.declared.task.StepFault.{StepFault}
use Rattle.wh_tasks.specs.declared.task.StepFault.TheVariants.{Source, OutOfMemory}
use Rattle.wh_tasks.specs.declared.source.SourceFault.TheVariants.{Source as Failing, OutOfMemory as Unfed}
use Rattle.wh_host.specs.declared.ledger.Shares.{Shares}
use Rattle.wh_host.specs.declared.reply.Outcome.TheVariants.{Failed}
use Rattle.wh_poll.specs.declared.answer.Reply.{Reply}
use Rattle.wh_poll.specs.declared.serve.Served.{Served}
use Rattle.wh_tasks.specs.declared.source.Sent.TheVariants.{Workflow as OfWorkflow}
use Rattle.wh_tasks.specs.Source.{Answerable, Delivers, MayFetch, Answers, Workflow, SameFetching, FailsOnly, KeepsSource, RoseIfFailed, SameMay}
use Rattle.wh_tasks.specs.Tasks.{Basis, Own, Nothing, Joined, Told, basis_of, StepsFrom, FailsOnlySource}
use Rattle.wh_host.specs.Machine.{with_taken}
use Rattle.wh_poll.specs.Serve.{ServesWorkflow, Counts, MayCount}
use Rattle.wh_poll.specs.Private.Serve.{Sends, ended, served_workflow}
use Rattle.wh_slots.specs.declared.SlotKind.{SlotKind}
use Rattle.wh_poll.specs.declared.workers.Rota.{Rota}
use Rattle.wh_poll.specs.Workers.{first_fault, is_last, next_rota}
use Rattle.wh_poll.specs.declared.setup.WorkerSetup.{WorkerSetup}
use Rattle.wh_poll.specs.declared.setup.WorkerEnd.{WorkerEnd}
use Rattle.wh_poll.specs.Turns.{Turn, Hears, IsTurn, IsLedBy, GoesOn}
use Rattle.wh_poll.specs.Ends.{IsEndOf}

-- replay of a task gives the same from a source that fetches the same histories
StepsFrom-same : {S : Type 0} (program : Program S) (basis : Basis) (p q : MayFetch) (run : Option Held) (key : RunKey) (events : List Event) (stepped : Option Held) (fault : Option Fault) (hit : Bool) (before after : ℕ)
    → SameFetching p q → StepsFrom program basis q run key events stepped fault hit before after → StepsFrom program basis p run key events stepped fault hit before after
StepsFrom-same program Own p q run key events stepped fault hit before after same s = s
StepsFrom-same program Nothing p q run key events stepped fault hit before after same s = s
StepsFrom-same program (Joined held) p q run key events stepped fault hit before after same s = s
StepsFrom-same program Told p q run key events stepped fault hit before after same s = ((s.0.0, (same key _ s.0.0).1 s.0.1, s.0.2), s.1)

-- what was sent after a poll makes the turn
pub serves_sent : {S : Type 0} (program : Program S) (p q : MayFetch) (delivers : Delivers) (old between new : Answers) (task : WorkflowTask) (run : Option Held) (sent : Result Reply StepFault)
    → delivers (Workflow task) → between ≡ old → SameFetching p q → Sends program q run task between new sent
    → ServesWorkflow program p delivers old new (served_workflow task.name sent)
serves_sent program p q delivers old between new task run (Ok reply) delivered kept same sends =
    let said = sends.1 in
    record {
      task = task;
      delivered = delivered;
      named = refl;
      run = run;
      answer = sends.0;
      reply = record {
        own = said.own;
        real = said.real;
        stepped = said.stepped;
        fault = said.fault;
        replayed = StepsFrom-same program (basis_of run task.events) p q run task.run task.events said.stepped said.fault reply.hit 0 reply.steps same said.replayed;
        answered = said.answered;
        ends = said.ends;
      };
      sent = sends.2 ∙ ap (λ l. l ++ (task.name, OfWorkflow sends.0) ∷ []) kept;
    }
serves_sent program p q delivers old between new task run (Err OutOfMemory) delivered kept same sends = (sends ∙ kept, (task, delivered, refl))
serves_sent program p q delivers old between new task run (Err (Source fault)) delivered kept same sends = sends ∙ kept

-- what the seat counted of a workflow task that was taken
pub counts_sent : (old taken new : Shares) (name : TaskName) (sent : Result Reply StepFault) → taken ≡ with_taken old → MayCount taken new (ended sent) → Counts old new (served_workflow name sent)
counts_sent old taken new name (Ok reply) one counted = subst (λ s. MayCount s new reply.outcome) one counted
counts_sent old taken new name (Err OutOfMemory) one counted = inr (subst (λ s. MayCount s new Failed) one counted)
counts_sent old taken new name (Err (Source fault)) one counted = inr (subst (λ s. MayCount s new Failed) one counted)

-- the failures of the source, after a poll and an answer
pub fails_sent : (name : TaskName) (sent : Result Reply StepFault) (first second third : ℕ) → first ≤ second → FailsOnlySource sent second third → FailsOnly (served_workflow name sent) first third
fails_sent name (Ok reply) first second third below fails = omega (arith, fails)
fails_sent name (Err OutOfMemory) first second third below fails = omega (arith, fails)
fails_sent name (Err (Source Failing)) first second third below fails = omega (arith, fails)
fails_sent name (Err (Source Unfed)) first second third below fails = omega (arith, fails)

-- the fault that is kept after a turn came of a failure
pub rose_kept : (kept : Option SourceFault) (served : Result Served SourceFault) (first second third : ℕ) → RoseIfFailed kept first second → FailsOnly served second third → RoseIfFailed (first_fault kept served) first third
rose_kept None (Ok served) first second third rose fails = omega (arith, rose, fails)
rose_kept None (Err Failing) first second third rose fails = omega (arith, rose, fails)
rose_kept None (Err Unfed) first second third rose fails = omega (arith, rose, fails)
rose_kept (Some Failing) (Ok served) first second third rose fails = omega (arith, rose, fails)
rose_kept (Some Failing) (Err Failing) first second third rose fails = omega (arith, rose, fails)
rose_kept (Some Failing) (Err Unfed) first second third rose fails = omega (arith, rose, fails)
rose_kept (Some Unfed) (Ok served) first second third rose fails = omega (arith, rose, fails)
rose_kept (Some Unfed) (Err Failing) first second third rose fails = omega (arith, rose, fails)
rose_kept (Some Unfed) (Err Unfed) first second third rose fails = omega (arith, rose, fails)

-- one turn more, which lets another follow, leads on
pub goes_on_more : {X : Type 0} (step : SlotKind → X → Turn → X → Type 0) (rota next : Rota) (first last new : X) (turns : List Turn) (turn : Turn)
    → GoesOn step rota first turns next last → step next.kind last turn new → is_last next.other_closed turn ≡ false
    → GoesOn step rota first (turns ++ turn ∷ []) (next_rota next turn) new
goes_on_more step rota next first last new [] turn led went more =
    let at : step rota.kind first turn new = subst (λ x. step rota.kind x turn new) led.1 (subst (λ r. step r.kind last turn new) led.0 went) in
    (new, at, subst (λ r. is_last r.other_closed turn ≡ false) led.0 more, (ap (λ r. next_rota r turn) led.0, refl))
goes_on_more step rota next first last new (t ∷ ts) turn led went more =
    (led.0, led.1, led.2, goes_on_more step (next_rota rota t) next led.0 last new ts turn led.3 went more)

-- one turn more, and how many they are
pub turn_more : {T : Type 0} (turns : List T) (turn : T) (count : ℕ) → length turns ≡ count → length (turns ++ turn ∷ []) ≡ count + 1
turn_more turns turn count long = omega (arith, long, length-append turns (turn ∷ []))

-- what two calls keep of a source, one after the other
keeps_on : {S : Type 0} (delivers : S → Delivers) (fetches : S → MayFetch) (comes_from : S → S → Type 0) (old between new : S)
    → KeepsSource delivers fetches comes_from old between → KeepsSource delivers fetches comes_from between new → KeepsSource delivers fetches comes_from old new
keeps_on delivers fetches comes_from old between new before after = record {
  same = record {
    delivers = λ task. (λ gave. (after.same.delivers task).0 ((before.same.delivers task).0 gave), λ gives. (before.same.delivers task).1 ((after.same.delivers task).1 gives));
    fetches = λ key up_to history. (λ told. (after.same.fetches key up_to history).0 ((before.same.fetches key up_to history).0 told), λ fetches. (before.same.fetches key up_to history).1 ((after.same.fetches key up_to history).1 fetches));
  };
  origin = λ first came. after.origin first (before.origin first came);
}

-- which answers are allowed, after two calls
allows_on : (p q r : Answerable) → SameMay p q → SameMay q r → SameMay p r
allows_on p q r before after = λ task answer. (λ might. (after task answer).0 ((before task answer).0 might), λ may. (before task answer).1 ((after task answer).1 may))

module _ {S A O : Type 0} (fetches : S → MayFetch) (delivers : S → Delivers) (answers : S → Answers) (failures : S → ℕ) (comes_from : S → S → Type 0) (may : A → Answerable) where
  -- what a worker would leave of its setup after so many turns
  pub record IsSoFar (counted : Shares) (setup : WorkerSetup S A O) (count : ℕ) (end : WorkerEnd S A O) : Type 0 where
    pub taken : end.counted.taken ≤ counted.taken + count
    pub fault : RoseIfFailed end.fault (failures setup.source) (failures end.source)
    pub keeps : KeepsSource delivers fetches comes_from setup.source end.source
    pub allows : SameMay (may setup.handler) (may end.handler)
    pub answered : length (answers end.source) + counted.taken ≤ length (answers setup.source) + end.counted.taken

module _ {P S A O : Type 0} (program : Program P) (fetches : S → MayFetch) (delivers : S → Delivers) (answers : S → Answers) (failures : S → ℕ) (comes_from : S → S → Type 0) (may : A → Answerable) (hears : Hears O)
    (counted : Shares) (setup : WorkerSetup S A O) (count : ℕ) where
  -- one turn more
  pub one_more_so_far : (kind : SlotKind) (old : WorkerEnd S A O) (turn : Turn) (new : WorkerEnd S A O)
      → IsSoFar fetches delivers answers failures comes_from may counted setup count old → IsTurn program fetches delivers answers failures comes_from may hears kind old turn new
      → (seat later : Shares) → seat ≡ old.counted → later ≡ new.counted → later.taken ≤ seat.taken + 1
      → length (answers new.source) + seat.taken ≤ length (answers old.source) + later.taken
      → IsSoFar fetches delivers answers failures comes_from may counted setup (count + 1) new
  one_more_so_far kind old turn new before took seat later was is more answered =
      let had : seat.taken ≡ old.counted.taken = ap (λ shares. shares.taken) was in
      let has : later.taken ≡ new.counted.taken = ap (λ shares. shares.taken) is in
      record {
        taken = omega (arith, had, has, more, before.taken);
        fault = subst (λ fault. RoseIfFailed fault (failures setup.source) (failures new.source)) (sym took.kept) (rose_kept old.fault turn _ _ _ before.fault took.failed);
        keeps = keeps_on delivers fetches comes_from setup.source old.source new.source before.keeps took.keeps;
        allows = allows_on _ _ _ before.allows took.allows;
        answered = omega (arith, had, has, answered, before.answered);
      }

  -- no turn follows
  pub end_so_far : (end : WorkerEnd S A O) → count ≤ setup.turns → IsSoFar fetches delivers answers failures comes_from may counted setup count end
      → IsLedBy program fetches delivers answers failures comes_from may hears counted setup end → IsEndOf program fetches delivers answers failures comes_from may hears counted setup end
  end_so_far end within so_far led = record {
    taken = omega (arith, within, so_far.taken);
    fault = so_far.fault;
    keeps = so_far.keeps;
    allows = so_far.allows;
    answered = so_far.answered;
    told = led;
  }
