-- The histories that a server returns, page by page.
use Rattle.std.specs.Prelude.{◌≡◌, ◌⊎◌, ℕ, List, [], Some, None, Ok, Err, ⊤}
use Rattle.serde_json.specs.Data.{Data}
use Rattle.wh_events.specs.declared.event.Event.{Event}
use Rattle.wh_events.specs.declared.key.RunKey.{RunKey}
use Rattle.wh_json.specs.Events.{members_from}
use Rattle.wh_json.specs.Outcome.{all_of}
use Rattle.wh_commands.specs.declared.names.WorkerNames.{WorkerNames}
use Rattle.wh_client.specs.Calls.{Fails, Gives}
use Rattle.wh_client.specs.Pages.{BeginsNot, BeginsWith, ReadsOn}
use Rattle.wh_client.specs.declared.asking.AskFault.{AskFault}
use Rattle.wh_client.specs.declared.asking.AskFault.TheVariants as asked
use Rattle.wh_commands.specs.CarryingOver.{Carried, carried_in}
use Rattle.wh_messages.specs.Responses.{Page}

-- the members of a history are read as these events
abbrev pub ReadsEvents : List Data → List Event → Type 0
ReadsEvents members events = all_of (members_from 1 None members) ≡ Ok events

-- why the members of a history can't be read: the first fault of a member, or there was no memory
abbrev pub CanNotBeRead : List Data → AskFault → Type 0
CanNotBeRead members asked.Closed = ⊥
CanNotBeRead members asked.Output = ⊥
CanNotBeRead members (asked.Refused status code message) = ⊥
CanNotBeRead members asked.Unreadable = ⊥
CanNotBeRead members asked.TooManyPages = ⊥
CanNotBeRead members (asked.History fault) = all_of (members_from 1 None members) ≡ Err fault
CanNotBeRead members asked.OutOfMemory = ⊤

-- all members are those given and those of the pages from the token on, if there is a token
abbrev pub HasAllMembers : Gives → WorkerNames → RunKey → List ℕ → List Data → List Data → Type 0
HasAllMembers gives names run token members all =
    ((token ≡ []) × (all ≡ members)) ⊎ ReadsOn gives names run token members all

-- the members of all pages of the run's history, from the first one
abbrev pub IsWhole : Gives → WorkerNames → RunKey → List Data → Type 0
IsWhole gives names run members = ReadsOn gives names run [] [] members

-- a run carries this over: it is what the first event of its history says
pub record HandsOn (gives : Gives) (names : WorkerNames) (run : RunKey) (carried : Carried) : Type 0 where
  pub page : Page
  pub begins : BeginsWith gives names run page
  pub read : carried_in page.members ≡ Some carried

-- why the members of a page do not say what a run carries over
abbrev pub CarriesNothing : List Data → AskFault → Type 0
CarriesNothing members asked.Closed = ⊥
CarriesNothing members asked.Output = ⊥
CarriesNothing members (asked.Refused status code message) = ⊥
CarriesNothing members asked.Unreadable = carried_in members ≡ None
CarriesNothing members asked.TooManyPages = ⊥
CarriesNothing members (asked.History fault) = ⊥
CarriesNothing members asked.OutOfMemory = ⊤

-- the first event of a run's history does not say what it carries over
pub record HandsNothingOn (gives : Gives) (names : WorkerNames) (run : RunKey) : Type 0 where
  pub page : Page
  pub begins : BeginsWith gives names run page
  pub read : carried_in page.members ≡ None

-- why it is not known what a run carries over: its first event could not be fetched, or does not say it
abbrev pub CarriesUnknown : Gives → Fails → WorkerNames → RunKey → AskFault → Type 0
CarriesUnknown gives fails names run fault =
    BeginsNot gives fails names run fault ⊎ ((fault ≡ asked.Unreadable) × HandsNothingOn gives names run)
