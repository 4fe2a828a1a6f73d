-- What goes on with a request: the metadata of its payloads that were seen, and the header of the run.
use Rattle.std.specs.Prelude.{ℕ, List, Bool, ◌||◌, bytes_eq, codes, Option, Some, None, if◌then◌else◌}
use Rattle.serde_json.specs.Data.{Data, null, boolean, number, string, array, object, Items, no_items, item, Members, no_members, member, put}
use Rattle.serde_json.specs.Find.{get_member}
use Rattle.wh_payload_metadata.specs.Payloads.{is_payloads, data_of, metadata_of, encoding_in}

-- metadata that name this encoding
abbrev pub of_encoding : List ℕ → Option Data → Option Data
of_encoding encoding None = None
of_encoding encoding (Some metadata) = if bytes_eq (encoding_in (Some metadata)) encoding then Some metadata else None

-- the metadata that were seen last at the data of a payload, if they name its encoding
abbrev pub metadata_for : Members → Data → Option Data
metadata_for seen payload = of_encoding (encoding_in (metadata_of payload)) (get_member (data_of payload) seen)

-- an object with this member, if there is a value for it
abbrev pub with_member : List ℕ → Option Data → Data → Data
with_member name None d = d
with_member name (Some value) null = null
with_member name (Some value) (boolean b) = boolean b
with_member name (Some value) (number n) = number n
with_member name (Some value) (string text) = string text
with_member name (Some value) (array items) = array items
with_member name (Some value) (object ms) = object (put name value ms)

-- a payload with the metadata that were seen
abbrev pub with_metadata : Members → Data → Data
with_metadata seen payload = with_member (codes "metadata") (metadata_for seen payload) payload

abbrev pub each_with_metadata : Members → Items → Items
each_with_metadata seen no_items = no_items
each_with_metadata seen (item payload rest) = item (with_metadata seen payload) (each_with_metadata seen rest)

-- a list of payloads with the metadata that were seen
abbrev pub list_with_metadata : Members → Data → Data
list_with_metadata seen null = null
list_with_metadata seen (boolean b) = boolean b
list_with_metadata seen (number n) = number n
list_with_metadata seen (string text) = string text
list_with_metadata seen (array payloads) = array (each_with_metadata seen payloads)
list_with_metadata seen (object ms) = object ms

-- the attributes of the commands that take the header of the run: those that schedule an activity, and start a child
abbrev pub takes_header : List ℕ → Bool
takes_header name =
    bytes_eq name (codes "scheduleActivityTaskCommandAttributes") || bytes_eq name (codes "startChildWorkflowExecutionCommandAttributes")

-- the value of a member, with the header if its name is one that takes it
abbrev pub with_header : Option Data → List ℕ → Data → Data
with_header header name d = if takes_header name then with_member (codes "header") header d else d

-- a request in which each payload has the metadata that were seen, and the commands have the header
abbrev mutual
  pub handed_on : Members → Option Data → Data → Data
  handed_on seen header null = null
  handed_on seen header (boolean b) = boolean b
  handed_on seen header (number n) = number n
  handed_on seen header (string text) = string text
  handed_on seen header (array items) = array (items_handed_on seen header items)
  handed_on seen header (object ms) = object (members_handed_on seen header ms)

  pub items_handed_on : Members → Option Data → Items → Items
  items_handed_on seen header no_items = no_items
  items_handed_on seen header (item d rest) = item (handed_on seen header d) (items_handed_on seen header rest)

  pub members_handed_on : Members → Option Data → Members → Members
  members_handed_on seen header no_members = no_members
  members_handed_on seen header (member name d rest) =
      member name (if is_payloads name then list_with_metadata seen d else with_header header name (handed_on seen header d))
      (members_handed_on seen header rest)

-- the value of a member that is handed on
abbrev pub member_handed_on : Members → Option Data → List ℕ → Data → Data
member_handed_on seen header name d =
    if is_payloads name then list_with_metadata seen d else with_header header name (handed_on seen header d)
