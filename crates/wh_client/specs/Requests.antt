-- The requests that answer tasks.
use Rattle.std.specs.Prelude.{◌≡◌, ◌≢◌, ℕ, List, Bool, false, Option, Some, None, Result, Ok, Err, codes, ⊤}
use Rattle.serde_json.specs.Data.{Data}
use Rattle.serde_json.specs.View.{view}
use Rattle.wh_client.specs.Calls.{Fails, Gives}
use Rattle.wh_client.specs.Refusals.{IsFaultBy}
use Rattle.wh_client.specs.declared.asking.AskFault.{AskFault}
use Rattle.wh_client.specs.declared.requests.Request.{Request}
use Rattle.wh_commands.specs.declared.fault.RequestFault.{RequestFault}
use Rattle.wh_commands.specs.declared.fault.RequestFault.TheVariants.{OutOfMemory}
use Rattle.wh_commands.specs.declared.names.WorkerNames.{WorkerNames}
use Rattle.wh_messages.specs.Requests.{shutdown}
use Rattle.wh_messages.specs.Completions.{is_discarded}

-- a call of this method with these parameters
pub record IsRequest (request : Request) (method : List ℕ) (params : Data) : Type 0 where
  pub calls : request.method.now ≡ method
  pub says : view request.params ≡ params

-- a call of this method with the written parameters, or the fault, unless memory ran out
abbrev pub WritesRequest : Result Request RequestFault → List ℕ → Result Data RequestFault → Type 0
WritesRequest (Ok request) method written = (request.method.now ≡ method) × (written ≡ Ok (view request.params))
WritesRequest (Err fault) method written = fault ≢ OutOfMemory → written ≡ Err fault

-- the server returned a result for the request, which says whether the task is discarded
pub record IsAnswered (gives : Gives) (request : Request) (discarded : Bool) : Type 0 where
  pub result : Data
  pub given : gives request.method.now (view request.params) result
  pub read : is_discarded result ≡ discarded

-- the server returned a result for the request, by which the task is not discarded
abbrev pub IsAcknowledged : Gives → Request → Type 0
IsAcknowledged gives request = IsAnswered gives request false

-- the server returned a result for a call of this method with these parameters
pub record IsTaken (gives : Gives) (method : List ℕ) (params : Data) : Type 0 where
  pub result : Data
  pub given : gives method params result

-- the sticky queue is given up, if there is one: the server returned a result for that
abbrev pub GivesUpQueue : Gives → WorkerNames → (sticky : Option ℕ) → Type 0
GivesUpQueue gives names None = ⊤
GivesUpQueue gives names (Some timeout) = IsTaken gives (codes "ShutdownWorker") (shutdown names)

-- why the sticky queue is not given up, if there is one
abbrev pub KeepsQueue : Fails → WorkerNames → (sticky : Option ℕ) → AskFault → Type 0
KeepsQueue fails names None fault = ⊥
KeepsQueue fails names (Some timeout) fault = IsFaultBy (fails (codes "ShutdownWorker") (shutdown names)) fault
