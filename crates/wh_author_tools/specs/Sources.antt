-- Random numbers and ids, the same in each replay.
use Rattle.std.specs.Prelude.{◌≡◌, ℕ, ◌+◌, ◌*◌, ◌%◌, ◌^◌, ℤ, List, [], ◌∷◌, ◌++◌, Option, Some, None, bit_xor}
use Rattle.std.specs.Int.{w128, cast_unsigned, to_le_bytes, to_be_bytes}
use Rattle.std.specs.List.{fold}
use Rattle.rand_xoshiro.specs.SplitMix64.{mix_u64}
use Rattle.uuid.specs.Parts.{with_variant, with_version}
use Rattle.uuid.specs.Text.{hyphenated_text, lower}
use Rattle.uuid.specs.declared.Variant.TheVariants.{RFC4122}
use Rattle.uuid.specs.declared.Version.TheVariants.{Random}
use Rattle.wh_events.specs.declared.event.Payload.{Payload}
use Rattle.wh_workflow.specs.declared.job.Job.{Job}
use Rattle.wh_workflow.specs.declared.job.Job.TheVariants.{Time, Start}

-- ---- The seed

-- the hash extended by a byte, by FNV-1a in 64 bits
abbrev pub mix_byte : ℕ → ℕ → ℕ
mix_byte hash byte = bit_xor hash byte * 0x100000001b3 % 2 ^ 64

abbrev pub mixed : ℕ → List ℕ → ℕ
mixed hash bytes = fold mix_byte hash bytes

-- the hash extended by the contents of payloads, one after another
abbrev pub contents_mixed : ℕ → List Payload → ℕ
contents_mixed hash input = fold (λ hash payload. mixed hash payload.content) hash input

-- the seed of a run with this first time, workflow type and input
abbrev pub seed : ℤ → List ℕ → List Payload → ℕ
seed time workflow input =
    contents_mixed (mixed (mixed 0xcbf29ce484222325 (to_le_bytes w128 (cast_unsigned w128 time))) workflow) input

-- ---- Numbers and ids

-- the next number below a bound
abbrev pub below : ℕ → ℕ → ℕ
below bound state = (mix_u64 state).0 % bound

-- the state after the two numbers of an id
abbrev pub after_id : ℕ → ℕ
after_id state = (mix_u64 (mix_u64 state).1).1

-- the bytes of the next two numbers, from the highest on
abbrev pub two_words : ℕ → List ℕ
two_words state = to_be_bytes w128 ((mix_u64 state).0 * 2 ^ 64 + (mix_u64 (mix_u64 state).1).0)

-- a UUID of version 4 with these bytes elsewhere (RFC 9562, section 5.4)
abbrev pub id_text : ℕ → List ℕ
id_text state = hyphenated_text lower (with_version (with_variant (two_words state) RFC4122) Random)

-- ---- Replay

-- the source of a run after these jobs: that of the first start, and of the time before it
abbrev pub source_after : ℤ → List Job → Option ℕ
source_after time [] = None
source_after time (Time now ∷ jobs) = source_after now jobs
source_after time (Start workflow input ∷ jobs) = Some (seed time workflow input)
source_after time (_ ∷ jobs) = source_after time jobs

-- later jobs do not change a source that is made
abbrev pub JobsKeepTheSource : Type 0
JobsKeepTheSource = (time : ℤ) (jobs later : List Job) (state : ℕ) → source_after time jobs ≡ Some state
    → source_after time (jobs ++ later) ≡ Some state
