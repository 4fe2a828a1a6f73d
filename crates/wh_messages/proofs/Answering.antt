-- A written answer is read back.
use Rattle.std.proofs.Common.{◌≡◌, ◌≢◌, ℕ, Bool, true, false, List, [], ◌∷◌, ◌++◌, length, map, codes, Option, Some, None, option_map, option_and_then, Result, Ok, Err, refl, sym, ap, ◌∙◌, arith, append-nil, append_assoc}
use Rattle.std.specs.Result.{result_ok}
use Rattle.serde_json.specs.Data.{Data, Members, no_members, member}
use Rattle.serde_json.specs.Find.{get, as_array}
use Rattle.wh_events.specs.declared.event.Event.{Event}
use Rattle.wh_events.specs.declared.event.Payload.{Payload}
use Rattle.wh_json.specs.Fields.{list_of}
use Rattle.wh_workflow.specs.declared.command.Command.{Command}
use Rattle.wh_commands.specs.declared.fault.RequestFault.{RequestFault}
use Rattle.wh_policies.specs.declared.policies.Policies.{Policies}
use Rattle.wh_commands.specs.declared.names.WorkerNames.{WorkerNames}
use Rattle.wh_messages.specs.declared.request.FailedCause.{FailedCause}
use Rattle.wh_messages.specs.declared.request.FailedCause.TheVariants.{Nondeterministic, TooLarge, Unhandled}
use Rattle.wh_commands.specs.CarryingOver.{Carried}
use Rattle.wh_commands.specs.Commands.{written, written_after}
use Rattle.wh_commands.specs.Outcome.{on_written}
use Rattle.wh_commands.specs.Policies.{non_retryable}
use Rattle.wh_messages.specs.Requests.{activity_completed, activity_failed, completed_with, workflow_completed, workflow_failed, cause_name}
use Rattle.wh_commands.specs.ReadBack.{text_at, payloads_of, command_in, IsSent, HaveBytes, IsHistory}
use Rattle.wh_messages.specs.Apart.{AreSent}
use Rattle.wh_messages.specs.ServerReads.{results_in}
use Rattle.wh_commands.proofs.Lists.{list_back}
use Rattle.wh_commands.proofs.Reading.{command_back, payloads_back}

some_same : {A : Type 0} (a b : A) → Some a ≡ Some b → a ≡ b
some_same a b e = cc

-- ---- Lists of commands

map_append : {A B : Type 0} (f : A → B) (xs ys : List A) → map f (xs ++ ys) ≡ map f xs ++ map f ys
map_append f [] ys = refl
map_append f (x ∷ xs) ys = ap (λ rest. f x ∷ rest) (map_append f xs ys)

heads_same : {A : Type 0} (a b : A) (xs ys : List (Option A)) → Some a ∷ xs ≡ Some b ∷ ys → a ≡ b
heads_same a b xs ys e = cc

tails_same : {A : Type 0} (a b : A) (xs ys : List (Option A)) → Some a ∷ xs ≡ Some b ∷ ys → xs ≡ ys
tails_same a b xs ys e = cc

cons_same : {A : Type 0} (a b : A) (xs ys : List A) → a ≡ b → xs ≡ ys → a ∷ xs ≡ b ∷ ys
cons_same a b xs ys e f = cc

somes_same : (cs es : List Command) → map Some cs ≡ map Some es → cs ≡ es
somes_same [] [] e = refl
somes_same [] (c ∷ es) e = cc
somes_same (c ∷ cs) [] e = cc
somes_same (c ∷ cs) (x ∷ es) e =
    cons_same c x cs es (heads_same c x (map Some cs) (map Some es) e) (somes_same cs es (tails_same c x (map Some cs) (map Some es) e))

module _ (names : WorkerNames) (policies : Policies) (carried : Carried) (events : List Event) (history : IsHistory events) where
  lists_same : (r : Result (List Data) RequestFault) (a b : List Data) → r ≡ Ok a → r ≡ Ok b → a ≡ b
  lists_same r a b e f = cc

  abbrev write : Command → Result Data RequestFault
  write = written names policies carried events

  abbrev reads : List Data → List (Option Command)
  reads = map (command_in events)

  after_one : (c : Command) (cs : List Command) (before ds : List Data) → IsSent c
      → ((front : List Data) → written_after write front cs ≡ Ok ds → reads ds ≡ reads front ++ map Some cs)
      → (r : Result Data RequestFault) → write c ≡ r → on_written r (λ d. written_after write (before ++ d ∷ []) cs) ≡ Ok ds
      → reads ds ≡ reads before ++ map Some (c ∷ cs)
  after_one c cs before ds sent others (Err fault) e is = cc
  after_one c cs before ds sent others (Ok d) e is =
      others (before ++ d ∷ []) is
      ∙ ap (λ xs. xs ++ map Some cs) (map_append (command_in events) before (d ∷ []) ∙ ap (λ x. reads before ++ x ∷ []) (command_back names policies carried events c d history sent e))
      ∙ append_assoc (reads before) (Some c ∷ []) (map Some cs)

  -- commands that were written after others are read after them
  commands_back : (cs : List Command) (before ds : List Data) → AreSent cs → written_after write before cs ≡ Ok ds
      → reads ds ≡ reads before ++ map Some cs
  commands_back [] before ds sent is = ap reads (sym (lists_same (Ok before) before ds refl is)) ∙ sym (append-nil _)
  commands_back (c ∷ cs) before ds sent is =
      after_one c cs before ds sent.0 (λ front e. commands_back cs front ds sent.1 e) (write c) refl is

  -- the commands of a completion, each as it is read
  abbrev listed : Data → Option (List (Option Command))
  listed d = option_map (λ ds. map (command_in events) (list_of ds)) (option_and_then as_array (get (codes "commands") d))

  listed_with : (token : List ℕ) (results : Members) (sticky : Option ℕ) (ds : List Data)
      → listed (completed_with names token results sticky ds) ≡ Some (map (command_in events) ds)
  listed_with token no_members None ds = ap (λ xs. Some (map (command_in events) xs)) (list_back ds)
  listed_with token no_members (Some timeout) ds = ap (λ xs. Some (map (command_in events) xs)) (list_back ds)
  listed_with token (member id result results) None ds = ap (λ xs. Some (map (command_in events) xs)) (list_back ds)
  listed_with token (member id result results) (Some timeout) ds =
      ap (λ xs. Some (map (command_in events) xs)) (list_back ds)

  token_with : (token : List ℕ) (results : Members) (sticky : Option ℕ) (ds : List Data)
      → text_at (codes "taskToken") (completed_with names token results sticky ds) ≡ Some token
  token_with token no_members None ds = refl
  token_with token no_members (Some timeout) ds = refl
  token_with token (member id result results) None ds = refl
  token_with token (member id result results) (Some timeout) ds = refl

  results_with : (token : List ℕ) (results : Members) (sticky : Option ℕ) (ds : List Data)
      → results_in (completed_with names token results sticky ds) ≡ Some results
  results_with token no_members None ds = refl
  results_with token no_members (Some timeout) ds = refl
  results_with token (member id result results) None ds = refl
  results_with token (member id result results) (Some timeout) ds = refl

  answers_same : (r : Result Data RequestFault) (a b : Data) → r ≡ Ok a → r ≡ Ok b → a ≡ b
  answers_same r a b e f = cc

  completion_back : (token : List ℕ) (cs : List Command) (results : Members) (sticky : Option ℕ) (d : Data) → AreSent cs
      → workflow_completed names token cs events results sticky policies carried ≡ Ok d
      → (text_at (codes "taskToken") d ≡ Some token) × (listed d ≡ Some (map Some cs)) × (results_in d ≡ Some results)
  completion_back token cs results sticky d sent is = by (written_after (written names policies carried events) [] cs) refl is
    where
      by : (r : Result (List Data) RequestFault) → written_after (written names policies carried events) [] cs ≡ r
          → on_written r (λ ds. Ok (completed_with names token results sticky ds)) ≡ Ok d
          → (text_at (codes "taskToken") d ≡ Some token) × (listed d ≡ Some (map Some cs)) × (results_in d ≡ Some results)
      by (Err fault) e is = cc
      by (Ok ds) e is =
          let whole = completed_with names token results sticky ds in
          let same = answers_same (Ok whole) whole d refl is in (
            ap (text_at (codes "taskToken")) (sym same) ∙ token_with token results sticky ds,
            ap listed (sym same) ∙ listed_with token results sticky ds ∙ ap Some (commands_back cs [] ds sent e),
            ap results_in (sym same) ∙ results_with token results sticky ds,
          )

  pub completions_differ : (token other_token : List ℕ) (cs es : List Command) (results other_results : Members) (sticky other_sticky : Option ℕ)
      (d : Data) → AreSent cs → AreSent es
      → workflow_completed names token cs events results sticky policies carried ≡ Ok d
      → workflow_completed names other_token es events other_results other_sticky policies carried ≡ Ok d
      → (token ≡ other_token) × (cs ≡ es) × (results ≡ other_results)
  completions_differ token other_token cs es results other_results sticky other_sticky d sent other is other_is =
      let one = completion_back token cs results sticky d sent is in
      let two = completion_back other_token es other_results other_sticky d other other_is in (
        some_same token other_token (sym one.0 ∙ two.0),
        somes_same cs es (some_same (map Some cs) (map Some es) (sym one.1 ∙ two.1)),
        some_same results other_results (sym one.2 ∙ two.2),
      )

-- ---- Failures and results

abbrev failure_text : Data → Option (List ℕ)
failure_text d = option_and_then (text_at (codes "message")) (get (codes "failure") d)

causes_same : (cause other : FailedCause) → length (cause_name cause) ≡ length (cause_name other) → cause ≡ other
causes_same Nondeterministic Nondeterministic e = refl
causes_same Nondeterministic TooLarge e = absurd (omega (arith, e))
causes_same Nondeterministic Unhandled e = absurd (omega (arith, e))
causes_same TooLarge Nondeterministic e = absurd (omega (arith, e))
causes_same TooLarge TooLarge e = refl
causes_same TooLarge Unhandled e = absurd (omega (arith, e))
causes_same Unhandled Nondeterministic e = absurd (omega (arith, e))
causes_same Unhandled TooLarge e = absurd (omega (arith, e))
causes_same Unhandled Unhandled e = refl

pub failures_differ : (names : WorkerNames) (token other_token : List ℕ) (cause other_cause : FailedCause) (message other_message : List ℕ)
    → workflow_failed names token cause message ≡ workflow_failed names other_token other_cause other_message
    → (token ≡ other_token) × (cause ≡ other_cause) × (message ≡ other_message)
failures_differ names token other_token cause other_cause message other_message e = (
  some_same token other_token (ap (text_at (codes "taskToken")) e),
  causes_same cause other_cause (ap length (some_same (cause_name cause) (cause_name other_cause) (ap (text_at (codes "cause")) e))),
  some_same message other_message (ap failure_text e),
)

pub results_differ : (names : WorkerNames) (token other_token : List ℕ) (outcome other_outcome : List Payload)
    → HaveBytes outcome → HaveBytes other_outcome
    → activity_completed names token outcome ≡ activity_completed names other_token other_outcome
    → (token ≡ other_token) × (outcome ≡ other_outcome)
results_differ names token other_token outcome other_outcome bytes other_bytes e = (
  some_same token other_token (ap (text_at (codes "taskToken")) e),
  some_same outcome other_outcome (
      sym (ap result_ok (payloads_back outcome bytes)) ∙ ap (payloads_of (codes "result")) e ∙ ap result_ok (payloads_back other_outcome other_bytes)),
)

abbrev type_told : Data → Option (List ℕ)
type_told d = option_and_then (text_at (codes "type")) (option_and_then (get (codes "applicationFailureInfo")) (get (codes "failure") d))

abbrev mark_told : Data → Option Data
mark_told d = option_and_then (get (codes "nonRetryable")) (option_and_then (get (codes "applicationFailureInfo")) (get (codes "failure") d))

type_back : (names : WorkerNames) (token message : List ℕ) (failure_type : Option (List ℕ)) (retryable : Bool)
    → type_told (activity_failed names token message failure_type retryable) ≡ failure_type
type_back names token message None true = refl
type_back names token message None false = refl
type_back names token message (Some text) true = refl
type_back names token message (Some text) false = refl

mark_back : (names : WorkerNames) (token message : List ℕ) (failure_type : Option (List ℕ)) (retryable : Bool)
    → mark_told (activity_failed names token message failure_type retryable) ≡ non_retryable retryable
mark_back names token message None true = refl
mark_back names token message None false = refl
mark_back names token message (Some text) true = refl
mark_back names token message (Some text) false = refl

marks_same : (retryable other : Bool) → non_retryable retryable ≡ non_retryable other → retryable ≡ other
marks_same true true e = refl
marks_same true false e = cc
marks_same false true e = cc
marks_same false false e = refl

pub activity_failures_differ : (names : WorkerNames) (token other_token message other_message : List ℕ)
    (failure_type other_type : Option (List ℕ)) (retryable other_retryable : Bool)
    → activity_failed names token message failure_type retryable ≡ activity_failed names other_token other_message other_type other_retryable
    → (token ≡ other_token) × (message ≡ other_message) × (failure_type ≡ other_type) × (retryable ≡ other_retryable)
activity_failures_differ names token other_token message other_message failure_type other_type retryable other_retryable e = (
  some_same token other_token (ap (text_at (codes "taskToken")) e),
  some_same message other_message (ap failure_text e),
  sym (type_back names token message failure_type retryable) ∙ ap type_told e ∙ type_back names other_token other_message other_type other_retryable,
  marks_same retryable other_retryable (
      sym (mark_back names token message failure_type retryable) ∙ ap mark_told e ∙ mark_back names other_token other_message other_type other_retryable),
)

nothing_is_something : {A : Type 0} (a : A) → Some a ≡ None → ⊥
nothing_is_something a e = cc

pub failure_is_no_result : (names : WorkerNames) (token other_token message : List ℕ) (failure_type : Option (List ℕ)) (retryable : Bool)
    (outcome : List Payload) → activity_failed names token message failure_type retryable ≢ activity_completed names other_token outcome
failure_is_no_result names token other_token message failure_type retryable outcome e = nothing_is_something message (ap failure_text e)
