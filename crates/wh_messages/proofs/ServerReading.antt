-- Reading a request by the names of its fields yields what was written.
use Rattle.std.proofs.Common.{◌≡◌, ℕ, List, [], ◌∷◌, Bool, true, false, Option, Some, None, Result, Ok, Err, refl, ap, subst}
use Rattle.serde_json.specs.Data.{Data, Members, no_members, member}
use Rattle.wh_commands.specs.declared.fault.RequestFault.{RequestFault}
use Rattle.wh_commands.specs.declared.names.WorkerNames.{WorkerNames}
use Rattle.wh_commands.specs.Commands.{written, written_after}
use Rattle.wh_commands.specs.Policies.{info_of}
use Rattle.wh_commands.specs.Outcome.{on_written}
use Rattle.wh_messages.specs.Requests as requests
use Rattle.wh_messages.specs.ServerReads.{PollsAreRead, EndIsRead, HistoryIsRead, IsHistory, FailuresAreRead, IsActivityFailed, QueryFailedIsRead}
use Rattle.wh_commands.specs.ServerReads.{Fits}
use Rattle.wh_messages.specs.ServerReads.{IsCompletion, CompletionIsRead, sticky}
use Rattle.wh_commands.proofs.Reading.{seconds_of-duration}

-- ---- Polls, histories, the end

pub polls_read : PollsAreRead
polls_read names = (
  record { namespace = refl; identity = refl; polled = refl },
  record { namespace = refl; identity = refl; polled = refl },
  record { namespace = refl; identity = refl; polled = refl },
)

pub end_read : EndIsRead
end_read names = record { namespace = refl; identity = refl; queue = refl }

history_with : (names : WorkerNames) (workflow_id run_id page : List ℕ)
    → IsHistory names workflow_id run_id page (requests.history names workflow_id run_id page)
history_with names workflow_id run_id [] = record { namespace = refl; workflow = refl; run = refl; next = refl }
history_with names workflow_id run_id (c ∷ cs) = record { namespace = refl; workflow = refl; run = refl; next = refl }

pub history_read : HistoryIsRead
history_read = history_with

-- ---- Answers

failure_read : (names : WorkerNames) (token message : List ℕ) (failure_type : Option (List ℕ)) (retryable : Bool)
    → IsActivityFailed message failure_type retryable (requests.activity_failed names token message failure_type retryable)
failure_read names token message None true = record { info = info_of None true; told = refl; reason = refl; of_type = refl; final = refl }
failure_read names token message None false = record { info = info_of None false; told = refl; reason = refl; of_type = refl; final = refl }
failure_read names token message (Some text) true = record { info = info_of (Some text) true; told = refl; reason = refl; of_type = refl; final = refl }
failure_read names token message (Some text) false = record { info = info_of (Some text) false; told = refl; reason = refl; of_type = refl; final = refl }

pub failures_read : FailuresAreRead
failures_read names token message cause failure_type retryable outcome = (
  record { namespace = refl; identity = refl; task = refl },
  record { namespace = refl; identity = refl; task = refl },
  failure_read names token message failure_type retryable,
  record { namespace = refl; identity = refl; task = refl },
)

pub query_failed_read : QueryFailedIsRead
query_failed_read names token message = record { namespace = refl; task = refl; kind = refl; reason = refl }

-- ---- Completions

completed_read : (names : WorkerNames) (token : List ℕ) (results : Members) (timeout : Option ℕ) (ds : List Data) → Fits timeout
    → IsCompletion names token results timeout (requests.completed_with names token results timeout ds)
completed_read names token no_members None ds fits =
    record { answer = record { namespace = refl; identity = refl; task = refl }; kept = refl; answered = refl }
completed_read names token (member id result results) None ds fits =
    record { answer = record { namespace = refl; identity = refl; task = refl }; kept = refl; answered = refl }
completed_read names token no_members (Some seconds) ds fits = record {
  answer = record { namespace = refl; identity = refl; task = refl };
  kept = ap (λ n. Some (record { queue = sticky names; seconds = n })) (seconds_of-duration seconds (fits seconds refl));
  answered = refl;
}
completed_read names token (member id result results) (Some seconds) ds fits = record {
  answer = record { namespace = refl; identity = refl; task = refl };
  kept = ap (λ n. Some (record { queue = sticky names; seconds = n })) (seconds_of-duration seconds (fits seconds refl));
  answered = refl;
}

written_same : {A : Type 0} (r : Result A RequestFault) (a b : A) → r ≡ Ok a → r ≡ Ok b → a ≡ b
written_same r a b e f = cc

pub completion_read : CompletionIsRead
completion_read names token cs events results timeout policies carried d fits is = by (written_after (written names policies carried events) [] cs) is
  where
    by : (r : Result (List Data) RequestFault) → on_written r (λ ds. Ok (requests.completed_with names token results timeout ds)) ≡ Ok d
        → IsCompletion names token results timeout d
    by (Err fault) e = cc
    by (Ok ds) e =
        let whole = requests.completed_with names token results timeout ds in
        subst (IsCompletion names token results timeout) (written_same (Ok whole) whole d refl e) (completed_read names token results timeout ds fits)
