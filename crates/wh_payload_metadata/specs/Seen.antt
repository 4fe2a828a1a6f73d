-- What was seen of a run: metadata with more than an encoding, under the data of their payload, and the fields of the header.
use Rattle.std.specs.Prelude.{◌≡◌, ℕ, ◌==◌, ◌&&◌, Bool, is_none, List, [], ◌∷◌, ◌++◌, Option, Some, None, if◌then◌else◌}
use Rattle.serde_json.specs.Data.{Data, Members, put}
use Rattle.serde_json.specs.Events.{members_len}
use Rattle.serde_json.specs.View.{members_view}
use Rattle.wh_payload_metadata.specs.Payloads.{data_of, metadata_of, have_more}
use Rattle.wh_payload_metadata.specs.Header.{Fields, fields_of, header_of}
use Rattle.wh_payload_metadata.specs.declared.seen.SeenPayloads.{SeenPayloads}

-- metadata are noted under the data of their payload, if they have more than an encoding
abbrev pub noted_metadata : List ℕ → Option Data → Members → Members
noted_metadata content None seen = seen
noted_metadata content (Some metadata) seen = if have_more metadata then put content metadata seen else seen

-- a payload is noted
abbrev pub noted : Data → Members → Members
noted payload seen = noted_metadata (data_of payload) (metadata_of payload) seen

-- payloads are noted one after another, so that of the same data the last metadata are kept
abbrev pub all_noted : List Data → Members → Members
all_noted [] seen = seen
all_noted (payload ∷ rest) seen = all_noted rest (noted payload seen)

-- of these payloads some were noted, from the first one on, and nothing else
pub record AreNotedFirst (payloads : List Data) (old new : Members) : Type 0 where
  pub first : List Data
  pub rest : List Data
  pub are : payloads ≡ first ++ rest
  pub noted : new ≡ all_noted first old

-- the metadata that were seen, each under the data of its payload
abbrev pub metadata_seen : SeenPayloads → Members
metadata_seen seen = members_view seen.metadata.entries

-- the fields of the run's header that were seen
abbrev pub fields_seen : SeenPayloads → Fields
fields_seen seen = fields_of seen.header

-- the run's header of these fields, if there are any
abbrev pub header_seen : SeenPayloads → Option Data
header_seen seen = header_of seen.header

-- nothing was seen
abbrev pub is_nothing : Members → Option Data → Bool
is_nothing metadata header = is_none header && (members_len metadata == 0)
