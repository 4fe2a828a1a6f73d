-- What is kept of runs.
use Rattle.std.specs.Prelude.{◌≡◌, ◌⊎◌, true, IsSomeAnd, ℕ, List, [], ◌∷◌, Bool, false, ◌||◌, string_bytes, bytes_eq, Option, Some, None, option_map}
use Rattle.std.specs.declared.alloc.Global.{Global}
use Rattle.std.specs.declared.string.String.{String}
use Rattle.std.specs.Map.{lookup, remove_entry}
use Rattle.serde_json.specs.Data.{Data, Members, no_members}
use Rattle.wh_payload_metadata.specs.declared.seen.SeenPayloads.{SeenPayloads}
use Rattle.wh_payload_metadata.specs.Payloads.{payloads_of}
use Rattle.wh_payload_metadata.specs.Header.{Fields, no_fields}
use Rattle.wh_payload_metadata.specs.Seen.{all_noted, metadata_seen, fields_seen, header_seen}
use Rattle.wh_payload_metadata.specs.Handed.{handed_on}
use Rattle.wh_payload_metadata.specs.declared.ends.TaskEnd.{TaskEnd}
use Rattle.wh_payload_metadata.specs.declared.ends.TaskEnd.TheVariants.{GoesOn, Answered, Closed}
use Rattle.wh_payload_metadata.specs.declared.kept.KeptRuns.{KeptRuns}
use Rattle.wh_payload_metadata.specs.declared.open_tasks.OpenTasks.{OpenTasks}

-- a text that is held
abbrev Text : Type 0
Text = String Global

-- what was seen of the run of this name, if it is kept
abbrev pub kept_run : KeptRuns → List ℕ → Option SeenPayloads
kept_run kept name = lookup (λ key. bytes_eq name (string_bytes key)) kept.runs.entries

abbrev pub metadata_in : Option SeenPayloads → Members
metadata_in None = no_members
metadata_in (Some seen) = metadata_seen seen

abbrev pub fields_in : Option SeenPayloads → Fields
fields_in None = no_fields
fields_in (Some seen) = fields_seen seen

-- the name under which it is kept what came with a task, by the token of the task, if it is open
abbrev pub place_of : OpenTasks → List ℕ → Option (List ℕ)
place_of tasks token =
    option_map (λ place. string_bytes place) (lookup (λ key. bytes_eq token (string_bytes key)) tasks.tasks.entries)

-- whether one of these tasks, each a token and a place, has this place
abbrev pub leads_to : List ℕ → List (Text × Text) → Bool
leads_to place [] = false
leads_to place (task ∷ rest) = bytes_eq (string_bytes task.1) place || leads_to place rest

-- the metadata of payloads that were seen of a run
abbrev pub kept_metadata : KeptRuns → List ℕ → Members
kept_metadata kept name = metadata_in (kept_run kept name)

-- the fields of the header that were seen of a run
abbrev pub kept_fields : KeptRuns → List ℕ → Fields
kept_fields kept name = fields_in (kept_run kept name)

-- the metadata of a run after something came, all of whose payloads are noted
abbrev pub metadata_after : Data → Members → Members
metadata_after came seen = all_noted (payloads_of came) seen

-- what is kept under each other name stays, or is what is returned because there is no room for it
abbrev pub OthersStay : KeptRuns → KeptRuns → List ℕ → Option (Text × SeenPayloads) → Type 0
OthersStay before after name displaced =
    (other : List ℕ) → bytes_eq name other ≡ false
    → (kept_run after other ≡ kept_run before other) ⊎ IsSomeAnd displaced (λ run. bytes_eq other (string_bytes run.0) ≡ true)

-- the runs that are kept after a task of the run of this name has come to this: without the run, if it is closed; otherwise
-- all as they were, since a task that came later may be in hand
abbrev pub runs_after : TaskEnd → List ℕ → List (Text × SeenPayloads) → List (Text × SeenPayloads)
runs_after GoesOn name runs = runs
runs_after Answered name runs = runs
runs_after Closed name runs = remove_entry (λ key. bytes_eq name (string_bytes key)) runs

-- a request with what was seen of its run, if that is kept
abbrev pub handed_by : Option SeenPayloads → Data → Data
handed_by None request = request
handed_by (Some seen) request = handed_on (metadata_seen seen) (header_seen seen) request
