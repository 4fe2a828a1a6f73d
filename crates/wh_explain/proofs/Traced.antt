-- An activation that is stepped job by job, with what is shown of each step.
use Rattle.std.proofs.Common.{◌≡◌, is_some, false, ℕ, ◌+◌, ◌*◌, ◌<◌, List, [], ◌∷◌, ◌++◌, length, take, Option, Some, None, Result, Ok, Err, refl, sym, ap, subst, ◌∙◌, append_assoc, length-append, arith, IsTrue}
use Rattle.std.specs.Prelude.{option_to_list, IsSome}
use Rattle.std.proofs.Math.Seq.{take-append_seam}
use Rattle.wh_workflow.specs.declared.command.Command.{Command}
use Rattle.wh_workflow.specs.declared.job.Job.{Job}
use Rattle.wh_workflow.specs.declared.fault.WorkflowFault.{WorkflowFault}
use Rattle.wh_workflow.specs.Law.{Program, IsLawful}
use Rattle.wh_workflow.specs.Scripts.{ActivationContext, Settled, command_fault}
use Rattle.wh_workflow.specs.Activations.{Progress, Turn, activate, turn, follow, room}
use Rattle.wh_workflow.specs.ActivationScripts.{Step, IsLongest, first_fault, ok_unless}
use Rattle.wh_workflow.proofs.Judging.{up_to_fault, up_to_stood}
use Rattle.wh_workflow.proofs.Following.{no_versions, IsTraced, Completes, traced_none, traced_more, traced_fault, traced_end, whole_meets}
use Rattle.wh_workflow.proofs.Scripting.{longest_in_words}
use Rattle.wh_match.specs.declared.fault.ScriptFault.{ScriptFault}
use Rattle.wh_match.specs.declared.fault.ScriptFault.TheVariants.{Workflow, OutOfMemory}
use Rattle.wh_replay.specs.Views.{progress}
use Rattle.wh_replay.proofs.Settling.{settled_less, ok_same}
use Rattle.wh_replay.specs.Activating.{StopsBy}
use Rattle.wh_explain.specs.declared.explanation.DetailLevel.{DetailLevel}
use Rattle.wh_explain.specs.declared.explanation.DetailLevel.TheVariants.{Verdict, Steps}
use Rattle.wh_explain.specs.Private.Stepping.{AddsStep, Keeps, Shows, Leaves}

-- what is kept may be the whole
pub keeps_whole : {A : Type 0} (detail : DetailLevel) (kept whole : A) → kept ≡ whole → Keeps detail kept whole
keeps_whole Verdict kept whole is = tt
keeps_whole Steps kept whole is = is

-- the commands up to a place
pub up_to_place : (given front rest : List Command) (command : Command) (place : ℕ) → given ≡ front ++ command ∷ rest → place ≡ length front + 1 → take place given ≡ front ++ command ∷ []
up_to_place given front rest command place is size =
    let whole : given ≡ (front ++ command ∷ []) ++ rest = is ∙ sym (append_assoc front (command ∷ []) rest) in
    let long : place ≡ length (front ++ command ∷ []) = size ∙ sym (length-append front (command ∷ [])) in
    rw (whole, long) (take-append_seam (front ++ command ∷ []) rest)

-- what is shown of a step with an invalid command
pub shows_fault : {S : Type 0} (A : Type 0) (fault : ScriptFault) (program : Program S) (context : ActivationContext) (now : Progress S) (job : Job) (given shown issued : List Command) (settled : Settled) (place : ℕ) → given ≡ program.gives now.state job
    → settled ≡ now.script.settled → issued ≡ now.script.issued → shown ≡ take place given → StopsBy fault context settled issued given place → Shows {A = A} (Err fault) program context now job shown
shows_fault A (Workflow fault) program context now job given shown issued settled place gave settles issues is stop = (
  place,
  record {
    front = stop.front;
    command = stop.command;
    rest = stop.rest;
    parts = sym gave ∙ stop.parts;
    place_is = stop.place_is;
    stands = ap (λ n. first_fault context n now.script.issued stop.front) (sym settles) ∙ (ap (λ l. first_fault context settled l stop.front) (sym issues) ∙ stop.stands);
    faulty = ap (λ n. command_fault context n (now.script.issued ++ stop.front) stop.command) (sym settles) ∙ (ap (λ l. command_fault context settled (l ++ stop.front) stop.command) (sym issues) ∙ stop.faulty);
  },
  is ∙ up_to_place given stop.front stop.rest stop.command place stop.parts stop.place_is,
)
shows_fault A OutOfMemory program context now job given shown issued settled place gave settles issues is stop = tt

same_outcome : {A : Type 0} (one other : Option WorkflowFault) (a b : A) → ok_unless one a ≡ ok_unless other b → (one ≡ other) × (one ≡ None → a ≡ b)
same_outcome None None a b e = (refl, λ none. ok_same a b e)
same_outcome None (Some fault) a b e = cc
same_outcome (Some fault) None a b e = cc
same_outcome (Some fault) (Some other) a b e = (cc, λ none. cc)

module _ {S : Type 0} (program : Program S) (lawful : IsLawful program) (context : ActivationContext) (jobs : List Job) (state : S) (settled : Settled) where
  -- nothing is stepped yet
  pub begins : (next : Option Job) (rest : List Job) (begin : Progress S) → IsTrue (no_versions jobs) → jobs ≡ option_to_list next ++ rest → begin ≡ progress state settled [] 0 → IsTraced program lawful context jobs state settled 0 [] (option_to_list next ++ rest) begin
  begins next rest begin plain parts is =
      let P : List Job → Progress S → Type 0 = IsTraced program lawful context jobs state settled 0 [] in
      subst (λ b. P (option_to_list next ++ rest) b) (sym is) (subst (λ l. P l (progress state settled [] 0)) parts (traced_none program lawful context jobs state settled 0 plain (omega arith)))

  -- after a step without a fault the version job that has to be next comes first
  pub goes_on : {A : Type 0} (answer : A) (done steps : List Step) (next : Option Job) (job : Job) (rest : List Job) (now : Progress S) (turned : Turn S) → next ≡ Some job → IsTraced program lawful context jobs state settled 0 done (option_to_list next ++ rest) now
      → turn program context job now ≡ Ok turned → AddsStep (Ok answer) program context now job done steps → IsTraced program lawful context jobs state settled 0 steps (option_to_list turned.next ++ rest) turned.progress
  goes_on answer done steps next job rest now turned is left e added =
      let P : List Step → Type 0 = λ l. IsTraced program lawful context jobs state settled 0 l (option_to_list turned.next ++ rest) turned.progress in
      let here : IsTraced program lawful context jobs state settled 0 done (job ∷ rest) now = rw is at left in
      subst P (sym added) (traced_more program lawful context jobs state settled 0 done job rest now turned here e)

  -- a step with a fault is the last
  pub ends_faulty : (A : Type 0) (done steps : List Step) (next : Option Job) (job : Job) (rest : List Job) (now : Progress S) (fault : WorkflowFault) → next ≡ Some job → IsTraced program lawful context jobs state settled 0 done (option_to_list next ++ rest) now
      → turn program context job now ≡ Err fault → AddsStep {A = A} (Err (Workflow fault)) program context now job done steps → Completes program lawful context jobs state settled 0 steps (Err fault)
  ends_faulty A done steps next job rest now fault is left e added =
      let P : List Step → Type 0 = λ l. Completes program lawful context jobs state settled 0 l (Err fault) in
      let here : IsTraced program lawful context jobs state settled 0 done (job ∷ rest) now = rw is at left in
      let stop = added.2.1 in
      let shown = added.2.2
      ∙ sym (ap (up_to_fault context now.script.settled now.script.issued) stop.parts ∙ up_to_stood context now.script.settled now.script.issued stop.front stop.rest stop.command fault stop.stands stop.faulty) in
      subst P (sym added.1) (traced_fault program lawful context jobs state settled 0 done job rest now fault added.0 here e shown)

  -- where no job is left, the steps are all
  pub ends_well : (done : List Step) (next : Option Job) (rest : List Job) (now : Progress S) → next ≡ None → rest ≡ [] → IsTraced program lawful context jobs state settled 0 done (option_to_list next ++ rest) now → Completes program lawful context jobs state settled 0 done (Ok now)
  ends_well done next rest now is none left =
      let here : IsTraced program lawful context jobs state settled 0 done [] now = rw (is, none) at left in
      traced_end program lawful context jobs state settled 0 done now here

  -- the steps are the longest script
  pub is_longest : (steps : List Step) (result : Result (Progress S) WorkflowFault) → Completes program lawful context jobs state settled 0 steps result → IsLongest program context jobs state settled steps
  is_longest steps result all = longest_in_words program context jobs state settled steps all.0

  -- and they leave what the activation does
  pub leaves : (steps : List Step) (fault : Option WorkflowFault) (left : Progress S) → Completes program lawful context jobs state settled 0 steps (ok_unless fault left) → Leaves program context state settled steps fault left.state left.script.settled left.script.issued
  leaves steps fault left all =
      let same = same_outcome fault _ left _ all.2 in
      record {
        fault_is = same.0;
        left_is = λ none. ap (λ (p : Progress S). p.state) (same.1 none);
        versions_are = λ none. ap (λ (p : Progress S). p.script.settled) (same.1 none);
        issued_are = λ none. ap (λ (p : Progress S). p.script.issued) (same.1 none);
      }

  -- an activation that runs as that of a worker takes the steps of the longest script
  pub ran_as : (begin left : Progress S) (fault : Option WorkflowFault) → IsTrue (no_versions jobs) → begin ≡ progress state settled [] 0 → activate program context jobs begin ≡ ok_unless fault left
      → (steps : List Step) × IsLongest program context jobs state settled steps × Leaves program context state settled steps fault left.state left.script.settled left.script.issued
  ran_as begin left fault plain is ran =
      let meets = whole_meets program lawful context jobs state settled 0 plain (omega arith) in
      let own : activate program context jobs (progress state settled [] 0) ≡ ok_unless fault left = ap (activate program context jobs) (sym is) ∙ ran in
      let all : Completes program lawful context jobs state settled 0 meets.0 (ok_unless fault left) = (meets.1, meets.2, sym own ∙ meets.3) in
      (meets.0, is_longest meets.0 (ok_unless fault left) all, leaves meets.0 fault left all)

-- a version job leaves less room
pub less_room : {S : Type 0} (program : Program S) (context : ActivationContext) (next : Option Job) (job version : Job) (jobs : ℕ) (now after : Progress S) → next ≡ Some job
    → turn program context job now ≡ Ok (record { progress = after; next = Some version }) → 4099 * jobs + room after < 4099 * jobs + follow next 0 (λ _. room now)
less_room program context next job version jobs now after is e =
    let less : room after < room now = settled_less program context job now after (Some version) e in
    rw is (omega (arith, less))

-- where an iterator gives nothing, nothing is left of it
pub none_left : {A : Type 0} (count : ℕ) (next : Option A) (items rest : List A) → next ≡ None → count ≡ length items → (0 < count → IsSome next) → items ≡ option_to_list next ++ rest → rest ≡ []
none_left count next items [] is n some parts = refl
none_left count next items (x ∷ rest) is n some parts =
    let all : items ≡ x ∷ rest = rw is at parts in
    let more : length items ≡ length (x ∷ rest) = ap length all in
    let none : is_some next ≡ false = ap is_some is in
    let there = some (omega arith) in
    cc
