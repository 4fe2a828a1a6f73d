-- Reading a request by the names of its fields yields what was written.
use Rattle.std.proofs.Common.{◌≡◌, ◌⊎◌, ◌<◌, ◌==◌, ◌^◌, ℕ, ◌+◌, List, [], ◌∷◌, ◌++◌, get_or, length, codes, decimal, Bool, true, false, cond, nat_lt, Option, Some, None, option_map, Result, Ok, Err, refl, ap, subst, ◌∙◌, arith, inl, inr}
use Rattle.serde_json.specs.Data.{Data, Members, no_members, number, object, string, unsigned}
use Rattle.serde_json.specs.Find.{as_bool, as_number, as_str, as_u64, get, get_member}
use Rattle.std.proofs.lemmas.Fmt.{decimal_is_IsNumeral, first_decimal}
use Rattle.std.proofs.lemmas.Str.Parse.{digit_from_value}
use Rattle.std.specs.Str.Parse.{AllDigits}
use Rattle.wh_events.specs.declared.event.Payload.{Payload}
use Rattle.wh_workflow.specs.declared.command.Command.TheVariants as commands
use Rattle.wh_policies.specs.declared.policies.ActivityPolicy.{ActivityPolicy}
use Rattle.wh_policies.specs.declared.policies.ChildPolicy.{ChildPolicy}
use Rattle.wh_policies.specs.declared.policies.ContinuePolicy.{ContinuePolicy}
use Rattle.wh_policies.specs.declared.policies.FailurePolicy.{FailurePolicy}
use Rattle.wh_policies.specs.declared.policies.Policies.{Policies}
use Rattle.wh_policies.specs.declared.policies.RetryPolicy.{RetryPolicy}
use Rattle.wh_policies.specs.Tables.{policy_of}
use Rattle.wh_commands.specs.declared.fault.RequestFault.{RequestFault}
use Rattle.wh_commands.specs.declared.names.WorkerNames.{WorkerNames}
use Rattle.wh_commands.specs.CarryingOver.{Carried}
use Rattle.wh_commands.specs.Commands as spec
use Rattle.wh_commands.specs.Commands.{carried_asked}
use Rattle.wh_commands.specs.Durations.{delay_text, duration_text, longest_duration}
use Rattle.wh_commands.specs.Objects.{object_of, put_given, value_or}
use Rattle.wh_commands.specs.Options.{◌>>=◌}
use Rattle.wh_commands.specs.Policies.{activity_asked, attempts_asked, child_asked, continued_asked, failure_asked, failure_info, float_written, id_reuse_name, non_retryable, parent_close_name, retry_asked, retry_written, seconds_written, texts_given}
use Rattle.wh_commands.specs.ReadBack.{seconds_of, text_at}
use Rattle.wh_commands.specs.ServerReads.{Fits, HasAttempts, IsPositive, IsActivity, IsChild, IsContinued, IsFailure, IsRetry, HasRetry, HasSeconds, Queue, queue_at, Says, CommandsAreRead}
use Rattle.wh_commands.proofs.Members.{asked_at, given_at, or_none}
use Rattle.wh_commands.proofs.Reading.{seconds_of-duration}

-- ---- Commands

written_same : {A : Type 0} (r : Result A RequestFault) (a b : A) → r ≡ Ok a → r ≡ Ok b → a ≡ b
written_same r a b e f = cc

positive : (ds : List ℕ) → 0 < length ds → AllDigits 10 ds → 48 < get_or ds 0 0 → IsPositive (ds ++ 115 ∷ [])
positive [] some digits first = absurd (omega (arith, some))
positive (c ∷ cs) some digits first = (c, refl, omega (arith, first), (digit_from_value c digits.0).1)

positive_duration : (n : ℕ) → 0 < n → n < 2 ^ 64 → IsPositive (duration_text n)
positive_duration n some small =
    let is = decimal_is_IsNumeral n small in
    positive (decimal n) is.0.0 is.0.1 (first_decimal n some small)

timer_text : (n : ℕ) → n < 2 ^ 64 → (delay_text n ≡ codes "0.001s") ⊎ IsPositive (delay_text n)
timer_text n small = by (n == 0) refl
  where
    by : (b : Bool) → (n == 0) ≡ b → (cond b (codes "0.001s") (duration_text n) ≡ codes "0.001s") ⊎ IsPositive (cond b (codes "0.001s") (duration_text n))
    by true e = inl refl
    by false e = inr (positive_duration n (grind (arith, e)) small)

timer_read : (names : WorkerNames) (policies : Policies) (carried : Carried) (id : List ℕ) (n : ℕ) (d : Data)
    → spec.start_timer_within id n ≡ Ok d → Says names policies carried (commands.StartTimer id n) d
timer_read names policies carried id n d is = by (nat_lt longest_duration n) refl is
  where
    by : (b : Bool) → nat_lt longest_duration n ≡ b → cond b (Err (RequestFault.TooLong id)) (Ok (spec.start_timer id n)) ≡ Ok d
        → Says names policies carried (commands.StartTimer id n) d
    by true e is = cc
    by false e is =
        subst (Says names policies carried (commands.StartTimer id n)) (written_same (Ok (spec.start_timer id n)) (spec.start_timer id n) d refl is)
        (_, refl, (delay_text n, refl, timer_text n (grind (arith, e))))

-- ---- Policies

-- a queue in the object that names it
abbrev as_queue : Data → Option Queue
as_queue queue = do
  name ← text_at (codes "name") queue
  Some (record { name = name; kind = text_at (codes "kind") queue; normal_name = text_at (codes "normalName") queue })

seconds_read : (field : List ℕ) (seconds : Option ℕ) (d : Data) → get field d ≡ option_map seconds_written seconds → HasSeconds field seconds d
seconds_read field seconds d is fits = ap (λ o. option_map seconds_of (o >>= as_str)) is ∙ by seconds fits
  where
    by : (s : Option ℕ) → Fits s → option_map seconds_of (option_map seconds_written s >>= as_str) ≡ s
    by None fits = refl
    by (Some n) fits = ap Some (seconds_of-duration n (fits n refl))

text_read : {A : Type 0} (f : A → List ℕ) (field : List ℕ) (o : Option A) (d : Data)
    → get field d ≡ option_map (λ x. string (f x)) o → text_at field d ≡ option_map f o
text_read {A} f field o d is = ap (λ o. o >>= as_str) is ∙ by o
  where
    by : (o : Option A) → (option_map (λ x. string (f x)) o >>= as_str) ≡ option_map f o
    by None = refl
    by (Some x) = refl

type_read : (field : List ℕ) (o : Option (List ℕ)) (d : Data) → get field d ≡ option_map string o → text_at field d ≡ o
type_read field o d is = ap (λ o. o >>= as_str) is ∙ by o
  where
    by : (o : Option (List ℕ)) → (option_map string o >>= as_str) ≡ o
    by None = refl
    by (Some x) = refl

final_read : (retryable : Bool) (d : Data) → get (codes "nonRetryable") d ≡ non_retryable retryable
    → (get (codes "nonRetryable") d >>= as_bool) ≡ cond retryable None (Some true)
final_read retryable d is = ap (λ o. o >>= as_bool) is ∙ by retryable
  where
    by : (b : Bool) → (non_retryable b >>= as_bool) ≡ cond b None (Some true)
    by true = refl
    by false = refl

attempts_read : (attempts : ℕ) (d : Data) → get (codes "maximumAttempts") d ≡ attempts_asked attempts
    → HasAttempts (get (codes "maximumAttempts") d) attempts
attempts_read attempts d is = rw is (by (attempts == 0) refl)
  where
    by : (b : Bool) → (attempts == 0) ≡ b → HasAttempts (cond b None (Some (number (unsigned attempts)))) attempts
    by true e = grind (arith, e)
    by false e = refl

retry_read : (retry : RetryPolicy) → IsRetry retry (retry_written retry)
retry_read retry =
    let asked = retry_asked retry in
    let members = no_members in
    let d = retry_written retry in
    record {
      attempts = attempts_read retry.maximum_attempts d (asked_at (codes "maximumAttempts") asked members (attempts_asked retry.maximum_attempts) refl);
      initial = seconds_read (codes "initialInterval") retry.initial_interval d (asked_at (codes "initialInterval") asked members (option_map seconds_written retry.initial_interval) refl);
      maximum = seconds_read (codes "maximumInterval") retry.maximum_interval d (asked_at (codes "maximumInterval") asked members (option_map seconds_written retry.maximum_interval) refl);
      coefficient = asked_at (codes "backoffCoefficient") asked members (option_map float_written retry.backoff_coefficient) refl;
      final_types = asked_at (codes "nonRetryableErrorTypes") asked members (texts_given retry.non_retryable) refl;
    }

retry_at : (retry : Option RetryPolicy) (before : Option Data) (d : Data)
    → get (codes "retryPolicy") d ≡ value_or (option_map retry_written retry) before → HasRetry retry before d
retry_at None before d is = is
retry_at (Some retry) before d is = (retry_written retry, is, retry_read retry)

-- a queue that stands among the members is read as there
queue_read : (field : List ℕ) (d : Data) (members : Members) → get field d ≡ get_member field members → queue_at field d ≡ queue_at field (object members)
queue_read field d members is = ap (λ o. o >>= as_queue) is

activity_read : (names : WorkerNames) (policy : ActivityPolicy) (id activity : List ℕ) (input : List Payload)
    → IsActivity names policy (object (put_given (activity_asked policy) (spec.activity_members names policy id activity input)))
activity_read names policy id activity input =
    let asked = activity_asked policy in
    let members = spec.activity_members names policy id activity input in
    let d = object (put_given asked members) in
    let seconds = λ (field : List ℕ) (value : Option ℕ) (is : get field d ≡ option_map seconds_written value). seconds_read field value d is in
    record {
      queue = queue_read (codes "taskQueue") d members (given_at (codes "taskQueue") asked members);
      to_start = seconds (codes "scheduleToStartTimeout") policy.schedule_to_start (asked_at (codes "scheduleToStartTimeout") asked members (option_map seconds_written policy.schedule_to_start) refl);
      attempt = seconds (codes "startToCloseTimeout") (Some policy.start_to_close) (given_at (codes "startToCloseTimeout") asked members);
      to_close = seconds (codes "scheduleToCloseTimeout") policy.schedule_to_close (asked_at (codes "scheduleToCloseTimeout") asked members (option_map seconds_written policy.schedule_to_close) refl);
      heartbeat = seconds (codes "heartbeatTimeout") policy.heartbeat (asked_at (codes "heartbeatTimeout") asked members (option_map seconds_written policy.heartbeat) refl);
      retry = retry_at (Some policy.retry) None d (given_at (codes "retryPolicy") asked members);
    }

child_read : (names : WorkerNames) (policy : ChildPolicy) (workflow_id workflow : List ℕ) (input : List Payload)
    → IsChild names policy (object (put_given (child_asked policy) (spec.child_members names policy workflow_id workflow input)))
child_read names policy workflow_id workflow input =
    let asked = child_asked policy in
    let members = spec.child_members names policy workflow_id workflow input in
    let d = object (put_given asked members) in
    record {
      namespace = ap (λ o. o >>= as_str) (given_at (codes "namespace") asked members);
      queue = queue_read (codes "taskQueue") d members (given_at (codes "taskQueue") asked members);
      execution = seconds_read (codes "workflowExecutionTimeout") policy.execution_timeout d (asked_at (codes "workflowExecutionTimeout") asked members (option_map seconds_written policy.execution_timeout) refl);
      run = seconds_read (codes "workflowRunTimeout") policy.run_timeout d (asked_at (codes "workflowRunTimeout") asked members (option_map seconds_written policy.run_timeout) refl);
      task = seconds_read (codes "workflowTaskTimeout") policy.task_timeout d (asked_at (codes "workflowTaskTimeout") asked members (option_map seconds_written policy.task_timeout) refl);
      parent_close = text_read parent_close_name (codes "parentClosePolicy") policy.parent_close d (asked_at (codes "parentClosePolicy") asked members (option_map (λ p. string (parent_close_name p)) policy.parent_close) refl);
      id_reuse = text_read id_reuse_name (codes "workflowIdReusePolicy") policy.id_reuse d (asked_at (codes "workflowIdReusePolicy") asked members (option_map (λ p. string (id_reuse_name p)) policy.id_reuse) refl);
      retry = retry_at policy.retry None d (given_at (codes "retryPolicy") asked members);
    }

failure_read : (policy : FailurePolicy) (message : List ℕ)
    → IsFailure policy (object_of ((codes "failure", spec.failure_with (failure_info policy) message) ∷ []))
failure_read policy message =
    let asked = failure_asked policy in
    let d = failure_info policy in
    record {
      info = d;
      told = refl;
      failure_type = type_read (codes "type") policy.failure_type d (asked_at (codes "type") asked no_members (option_map string policy.failure_type) refl);
      final = final_read policy.retryable d (asked_at (codes "nonRetryable") asked no_members (non_retryable policy.retryable) refl);
    }

continued_read : (names : WorkerNames) (policy : ContinuePolicy) (carried : Carried) (workflow : List ℕ) (input : List Payload)
    → IsContinued names policy carried (object (put_given (continued_asked policy) (put_given (carried_asked carried) (spec.continued_members names policy workflow input))))
continued_read names policy carried workflow input =
    let asked = continued_asked policy in
    let handed = carried_asked carried in
    let members = spec.continued_members names policy workflow input in
    let inner = put_given handed members in
    let d = object (put_given asked inner) in
    record {
      queue = queue_read (codes "taskQueue") d members (given_at (codes "taskQueue") asked inner ∙ given_at (codes "taskQueue") handed members);
      run = seconds_read (codes "workflowRunTimeout") policy.run_timeout d
          (given_at (codes "workflowRunTimeout") asked inner
          ∙ ap (value_or (option_map seconds_written policy.run_timeout)) (given_at (codes "workflowRunTimeout") handed members)
          ∙ or_none (option_map seconds_written policy.run_timeout));
      task = seconds_read (codes "workflowTaskTimeout") policy.task_timeout d
          (given_at (codes "workflowTaskTimeout") asked inner
          ∙ ap (value_or (option_map seconds_written policy.task_timeout)) (given_at (codes "workflowTaskTimeout") handed members)
          ∙ or_none (option_map seconds_written policy.task_timeout));
      memo = given_at (codes "memo") asked inner ∙ asked_at (codes "memo") handed members carried.memo refl;
      search_attributes = given_at (codes "searchAttributes") asked inner ∙ asked_at (codes "searchAttributes") handed members carried.search_attributes refl;
      retry = retry_at policy.retry carried.retry_policy d
          (given_at (codes "retryPolicy") asked inner
          ∙ ap (value_or (option_map retry_written policy.retry)) (asked_at (codes "retryPolicy") handed members carried.retry_policy refl));
    }

-- ---- All commands

abbrev whole : Data → Result Data RequestFault
whole d = Ok d

-- what holds of what is written holds of the command
of_written : (P : Data → Type 0) (a d : Data) → whole a ≡ whole d → P a → P d
of_written P a d is holds = subst P (written_same (Ok a) a d refl is) holds

pub commands_read : CommandsAreRead
commands_read names policies carried events (commands.StartActivity id activity input) d is =
    let policy = policy_of policies.activities activity in
    of_written (Says names policies carried (commands.StartActivity id activity input)) (spec.start_activity names policy id activity input) d is
    (_, refl, activity_read names policy id activity input)
commands_read names policies carried events (commands.CancelActivity id) d is = tt
commands_read names policies carried events (commands.StartTimer id seconds) d is = timer_read names policies carried id seconds d is
commands_read names policies carried events (commands.CancelTimer id) d is = tt
commands_read names policies carried events (commands.StartChild workflow_id workflow input) d is =
    let policy = policy_of policies.children workflow in
    of_written (Says names policies carried (commands.StartChild workflow_id workflow input)) (spec.start_child names policy workflow_id workflow input) d is
    (_, refl, child_read names policy workflow_id workflow input)
commands_read names policies carried events (commands.CancelChild workflow_id) d is =
    of_written (Says names policies carried (commands.CancelChild workflow_id)) (spec.cancel_child names workflow_id) d is
    (_, refl, record { namespace = refl; of_child = refl })
commands_read names policies carried events (commands.SignalExternal workflow_id signal input) d is =
    of_written (Says names policies carried (commands.SignalExternal workflow_id signal input)) (spec.signal_external names workflow_id signal input) d is
    (_, refl, refl)
commands_read names policies carried events (commands.Ask change_id min max) d is = tt
commands_read names policies carried events (commands.Marker change_id version) d is = tt
commands_read names policies carried events (commands.Complete outcome) d is = tt
commands_read names policies carried events (commands.Fail message) d is =
    let policy = policy_of policies.failures message in
    of_written (Says names policies carried (commands.Fail message)) (spec.fail policy message) d is
    (_, refl, failure_read policy message)
commands_read names policies carried events commands.Cancel d is = tt
commands_read names policies carried events (commands.ContinueAsNew workflow input) d is =
    let policy = policy_of policies.continued workflow in
    of_written (Says names policies carried (commands.ContinueAsNew workflow input)) (spec.continue_as_new names policy carried workflow input) d is
    (_, refl, continued_read names policy carried workflow input)
