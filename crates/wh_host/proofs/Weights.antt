-- How much a run can weigh.
use Rattle.std.proofs.Common.{◌≡◌, ℕ, ◌+◌, ◌≤◌, ◌/◌, ◌*◌, List, length, ap, ◌∙◌, arith}
use Rattle.std.specs.Prelude.{min, sum_by}
use Rattle.std.proofs.Math.Nat.{div-le_of_le-mul}
use Rattle.std.proofs.lemmas.Grind.{common_steps}
use Rattle.wh_events.specs.declared.event.Event.{Event}
use Rattle.wh_host.specs.Weights.{weight_of, payload_bytes, input_of}

most_input : (bytes : ℕ) → min bytes 4_294_967_296 ≤ 1024 * 4_194_304
most_input bytes = grind (arith, common_steps)

pub weight_of-most : (events : List Event) → length events ≤ 51200 → weight_of events ≤ 4245504
unfolding weight_of
weight_of-most events few =
    let input = div-le_of_le-mul 1024 {n = 4_194_304} (most_input (sum_by payload_bytes (input_of events))) in
    omega (arith, few, input)

-- what is counted up to 2^64 - 1 counts as well up to 4 GiB
least : (bytes : ℕ) → min (min bytes 0xffff_ffff_ffff_ffff) 4_294_967_296 ≡ min bytes 4_294_967_296
least bytes = grind (arith, common_steps)

pub weighs : (events : List Event) (len bytes counted : ℕ) → len ≡ length events
    → bytes ≡ min (sum_by payload_bytes (input_of events)) 0xffff_ffff_ffff_ffff → counted ≡ min bytes 4_294_967_296
    → len + counted / 1024 ≡ weight_of events
unfolding weight_of
weighs events len bytes counted long all some =
    let same = some ∙ ap (λ n. min n 4_294_967_296) all ∙ least (sum_by payload_bytes (input_of events)) in
    ap (λ n. n + counted / 1024) long ∙ ap (λ n. length events + n / 1024) same
