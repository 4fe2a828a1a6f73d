-- What holds of each request that is handed on.
use Rattle.std.specs.Prelude.{◌≡◌, ◌≢◌, ◌<◌, ◌≤◌, ℕ, List, [], ◌∷◌, ◌++◌, map, IsSome, Bool, true, false, Option, Some, None, Result, String, option_map, codes, if◌then◌else◌}
use Rattle.std.specs.List.{AllByRecursion}
use Rattle.std.specs.declared.alloc.Global.{Global}
use Rattle.serde_json.specs.Data.{Data, null, boolean, number, string, array, object, Items, no_items, item, Members, no_members, member}
use Rattle.serde_json.specs.Find.{as_object, get_member}
use Rattle.wh_json.specs.Fields.{field}
use Rattle.wh_rpc.specs.declared.call_fault.CallFault.{CallFault}
use Rattle.wh_rpc.specs.declared.response.CallResult.{CallResult}
use Rattle.wh_payload_metadata.specs.Kept.{runs_after}
use Rattle.wh_payload_metadata.specs.Messages.{closes_run, end_after, is_taken}
use Rattle.wh_payload_metadata.specs.Payloads.{is_payloads, data_of, metadata_of, encoding_in, have_more, payloads_of}
use Rattle.wh_payload_metadata.specs.Header.{brought, number_in, no_fields, fields_after, value_in}
use Rattle.wh_payload_metadata.specs.Seen.{all_noted, fields_seen, header_seen}
use Rattle.wh_payload_metadata.specs.declared.seen.SeenPayloads.{SeenPayloads}
use Rattle.wh_payload_metadata.specs.Handed.{with_member, with_metadata, takes_header, handed_on}

-- a payload that has all of these metadata was seen, and none with its data came after it; one with its data and its encoding goes out with all of them
abbrev pub MetadataGoOn : Type 0
MetadataGoOn =
    (seen : Members) (before after : List Data) (came goes metadata : Data)
    → metadata_of came ≡ Some metadata → have_more metadata ≡ true → AllByRecursion (λ later. data_of later ≢ data_of came) after
    → IsSome (as_object goes) → data_of goes ≡ data_of came → encoding_in (metadata_of goes) ≡ encoding_in (Some metadata)
    → metadata_of (with_metadata (all_noted (before ++ came ∷ after) seen) goes) ≡ Some metadata

-- each payload of a request goes out with the metadata that were seen, and no payload is added or left out
abbrev pub EachPayloadGoesOn : Type 0
EachPayloadGoesOn =
    (seen : Members) (request : Data)
    → payloads_of (handed_on seen None request) ≡ map (with_metadata seen) (payloads_of request)

-- the header in the attributes of a command, if they are an object: None if it has none
abbrev pub header_in : Data → List (Option Data)
header_in null = []
header_in (boolean b) = []
header_in (number n) = []
header_in (string text) = []
header_in (array items) = []
header_in (object ms) = get_member (codes "header") ms ∷ []

-- the headers of all commands of a request that take one, in their order
abbrev mutual
  pub headers_of : Data → List (Option Data)
  headers_of null = []
  headers_of (boolean b) = []
  headers_of (number n) = []
  headers_of (string text) = []
  headers_of (array items) = headers_of_items items
  headers_of (object ms) = headers_of_members ms

  pub headers_of_items : Items → List (Option Data)
  headers_of_items no_items = []
  headers_of_items (item d rest) = headers_of d ++ headers_of_items rest

  pub headers_of_members : Members → List (Option Data)
  headers_of_members no_members = []
  headers_of_members (member name d rest) =
      (if is_payloads name then [] else (if takes_header name then header_in d else headers_of d))
      ++ headers_of_members rest

-- of the events that came, however often and in whatever order, the last one in the history that brings a field sets it
abbrev pub LastEventSets : Type 0
LastEventSets =
    (name : List ℕ) (before after : List Data) (event value : Data)
    → brought name event ≡ Some value
    → AllByRecursion (λ other. IsSome (brought name other) → number_in other ≤ number_in event) before
    → AllByRecursion (λ other. IsSome (brought name other) → number_in other < number_in event) after
    → fields_after (before ++ event ∷ after) no_fields name ≡ Some (number_in event, value)

-- a field that no event brings is not set
abbrev pub NothingElseSets : Type 0
NothingElseSets =
    (name : List ℕ) (events : List Data) → AllByRecursion (λ event. brought name event ≡ None) events → fields_after events no_fields name ≡ None

-- the header that goes out has each field that is set, with its value, and no other
abbrev pub EachFieldGoesOn : Type 0
EachFieldGoesOn =
    (seen : SeenPayloads) (name : List ℕ) → value_in name (header_seen seen) ≡ option_map (λ kept. kept.1) (fields_seen seen name)

-- each command of a request that takes a header goes out with that of the run
abbrev pub HeaderGoesOn : Type 0
HeaderGoesOn =
    (seen : Members) (header request : Data)
    → headers_of (handed_on seen (Some header) request) ≡ map (λ _. Some header) (headers_of request)

-- a request that is handed on with a header is that which is handed on without it, and then gets the header alone
abbrev pub HeaderGoesOnLast : Type 0
HeaderGoesOnLast =
    (seen : Members) (header : Option Data) (request : Data)
    → handed_on seen header request ≡ handed_on no_members header (handed_on seen None request)

-- a payload with its encoding in place of its metadata
abbrev pub payload_erased : Data → Data
payload_erased payload = with_member (codes "metadata") (Some (string (encoding_in (metadata_of payload)))) payload

abbrev pub each_erased : Items → Items
each_erased no_items = no_items
each_erased (item payload rest) = item (payload_erased payload) (each_erased rest)

-- a list of payloads, each with its encoding in place of its metadata
abbrev pub list_erased : Data → Data
list_erased null = null
list_erased (boolean b) = boolean b
list_erased (number n) = number n
list_erased (string text) = string text
list_erased (array payloads) = array (each_erased payloads)
list_erased (object ms) = object ms

-- the value of a member, with null for the header if its name is one that takes it
abbrev pub header_erased : List ℕ → Data → Data
header_erased name d = if takes_header name then with_member (codes "header") (Some null) d else d

-- a request in which each payload has its encoding in place of its metadata, and the commands have null for the header
abbrev mutual
  pub erased : Data → Data
  erased null = null
  erased (boolean b) = boolean b
  erased (number n) = number n
  erased (string text) = string text
  erased (array items) = array (items_erased items)
  erased (object ms) = object (members_erased ms)

  pub items_erased : Items → Items
  items_erased no_items = no_items
  items_erased (item d rest) = item (erased d) (items_erased rest)

  pub members_erased : Members → Members
  members_erased no_members = no_members
  members_erased (member name d rest) =
      member name (if is_payloads name then list_erased d else header_erased name (erased d)) (members_erased rest)

-- a request that is handed on differs from what it was only in metadata beside the encoding, and in headers
abbrev pub NothingElseChanges : Type 0
NothingElseChanges = (seen : Members) (header : Option Data) (request : Data) → erased (handed_on seen header request) ≡ erased request

-- the runs that are kept
abbrev Runs : Type 0
Runs = List (String Global × SeenPayloads)

-- an answer whose last command does not close its run leaves what is kept of all runs
abbrev pub OpenRunsStay : Type 0
OpenRunsStay =
    (method name : List ℕ) (params : Data) (response : Result (ℕ × CallResult) CallFault) (runs : Runs)
    → closes_run params ≡ false → runs_after (end_after method (closes_run params) response) name runs ≡ runs

-- so does one that the server did not take
abbrev pub RunsStayUntilTaken : Type 0
RunsStayUntilTaken =
    (method name : List ℕ) (closes : Bool) (response : Result (ℕ × CallResult) CallFault) (runs : Runs)
    → is_taken response ≡ false → runs_after (end_after method closes response) name runs ≡ runs

-- an answer without commands, as one that fails its task, closes no run
abbrev pub FailuresEndNoRun : Type 0
FailuresEndNoRun = (params : Data) → field (codes "commands") (Some params) ≡ None → closes_run params ≡ false
