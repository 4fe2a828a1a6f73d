-- The pages of a history.
use Rattle.std.specs.Prelude.{◌≡◌, ◌≢◌, ℕ, List, [], ◌∷◌, ◌++◌, codes, length, Some, None}
use Rattle.serde_json.specs.Data.{Data}
use Rattle.wh_events.specs.declared.key.RunKey.{RunKey}
use Rattle.wh_commands.specs.declared.names.WorkerNames.{WorkerNames}
use Rattle.wh_messages.specs.Requests.{history}
use Rattle.wh_messages.specs.Responses.{Page, page_in}
use Rattle.wh_client.specs.Calls.{Fails, Gives}
use Rattle.wh_client.specs.Refusals.{IsFaultBy}
use Rattle.wh_client.specs.declared.asking.AskFault.{AskFault}
use Rattle.wh_client.specs.declared.asking.AskFault.TheVariants as asked

-- the server returns this page of the run's history for the token
pub record IsPaged (gives : Gives) (names : WorkerNames) (run : RunKey) (token : List ℕ) (page : Page) : Type 0 where
  pub result : Data
  pub given :
      gives (codes "GetWorkflowExecutionHistory") (history names run.workflow_id run.run_id token) result
  pub read : page_in result ≡ Some page

-- the pages lead from one token to another: each was returned for the token of the page before, and none is the last
abbrev pub Leads : Gives → WorkerNames → RunKey → List ℕ → List Page → List ℕ → Type 0
Leads gives names run token [] next = next ≡ token
Leads gives names run token (page ∷ pages) next =
    IsPaged gives names run token page × (page.next_page ≢ []) × Leads gives names run page.next_page pages next

-- the members of the pages, in their order
abbrev pub all_members : List Page → List Data
all_members [] = []
all_members (page ∷ pages) = page.members ++ all_members pages

-- the history of a run begins with this page: the pages before it, from the first one, have no event
pub record BeginsWith (gives : Gives) (names : WorkerNames) (run : RunKey) (page : Page) : Type 0 where
  pub before : List Page
  pub reached : List ℕ
  pub lead : Leads gives names run [] before reached
  pub empty : all_members before ≡ []
  pub given : IsPaged gives names run reached page

-- all pages from a token on: those that lead to the last one, and that one
pub record AreAllPages (gives : Gives) (names : WorkerNames) (run : RunKey) (token : List ℕ)
    (pages : List Page) : Type 0 where
  pub before : List Page
  pub last : Page
  pub reached : List ℕ
  pub are : pages ≡ before ++ last ∷ []
  pub lead : Leads gives names run token before reached
  pub given : IsPaged gives names run reached last
  pub ends : last.next_page ≡ []

-- the members of all pages from the token on were appended
pub record ReadsOn (gives : Gives) (names : WorkerNames) (run : RunKey) (token : List ℕ)
    (old new : List Data) : Type 0 where
  pub pages : List Page
  pub all : AreAllPages gives names run token pages
  pub appended : new ≡ old ++ all_members pages

-- ---- Pages that could not be fetched

-- the server returns a result for the token that is no page
pub record IsNoPage (gives : Gives) (names : WorkerNames) (run : RunKey) (token : List ℕ) : Type 0 where
  pub result : Data
  pub given :
      gives (codes "GetWorkflowExecutionHistory") (history names run.workflow_id run.run_id token) result
  pub read : page_in result ≡ None

-- why the page for a token could not be fetched: its request got no result, or one that is no page
abbrev pub IsPageFault : Gives → Fails → WorkerNames → RunKey → List ℕ → AskFault → Type 0
IsPageFault gives fails names run token asked.Unreadable = IsNoPage gives names run token
IsPageFault gives fails names run token fault =
    IsFaultBy (fails (codes "GetWorkflowExecutionHistory") (history names run.workflow_id run.run_id token)) fault

-- why no page follows these: the one for the token that they lead to could not be fetched, or they are 1,000,000
abbrev pub EndsPages : Gives → Fails → WorkerNames → RunKey → List Page → List ℕ → AskFault → Type 0
EndsPages gives fails names run pages reached asked.TooManyPages = length pages ≡ 1000000
EndsPages gives fails names run pages reached fault = IsPageFault gives fails names run reached fault

-- why not all pages from a token on could be fetched
pub record ReadsNotOn (gives : Gives) (fails : Fails) (names : WorkerNames) (run : RunKey) (token : List ℕ)
    (fault : AskFault) : Type 0 where
  pub before : List Page
  pub reached : List ℕ
  pub lead : Leads gives names run token before reached
  pub ends : EndsPages gives fails names run before reached fault

-- why the page with which the history of a run begins could not be fetched: the pages before have no event
pub record BeginsNot (gives : Gives) (fails : Fails) (names : WorkerNames) (run : RunKey)
    (fault : AskFault) : Type 0 where
  pub before : List Page
  pub reached : List ℕ
  pub lead : Leads gives names run [] before reached
  pub empty : all_members before ≡ []
  pub ends : EndsPages gives fails names run before reached fault
