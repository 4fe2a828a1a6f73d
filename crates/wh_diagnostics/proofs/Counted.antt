-- How many batches there are.
use Rattle.std.proofs.Common.{ℕ, suc, ◌*◌, ◌+◌, ◌-◌, ◌/◌, ◌≤◌, ◌<◌, refl, arith}
use Rattle.std.specs.Prelude.{max}
use Rattle.std.proofs.Math.Nat.{div-mul-le_self, div-lt_iff_lt-mul, lt-div-mul-add}
use Rattle.wh_diagnostics.specs.Batches.{batch_size}
use Rattle.wh_diagnostics.specs.Laws.{BatchesHoldAllFiles, ReportsAreFew, ReportsEndEarly}
use Rattle.wh_diagnostics.specs.declared.progress_modes.ProgressMode.TheVariants.{Hidden, Lines, InPlace}

-- a batch has files
some_files : (tenths : ℕ) → 0 < max 64 tenths
some_files tenths = omega arith

before_end : (total files : ℕ) → 0 < total → files ≤ total - 1 → files < total
before_end total files some few = omega (arith, some, few)

early : (total size : ℕ) → 0 < total → (total - 1) / size * size < total
early total size some = before_end total ((total - 1) / size * size) some (div-mul-le_self (total - 1) size)

pub reports_end_early : ReportsEndEarly
reports_end_early Hidden total some = omega (arith, some)
reports_end_early Lines total some = early total (batch_size total) some
reports_end_early InPlace total some = early total (batch_size total) some

with_last : (total size batches : ℕ) → total - 1 < batches * size + size → total ≤ suc batches * size
with_last total size batches less = omega (arith, less)

all_files : (total size : ℕ) → 0 < size → total ≤ suc ((total - 1) / size) * size
all_files total size some = with_last total size ((total - 1) / size) (lt-div-mul-add {a = total - 1} {b = size} some)

pub batches_hold_all_files : BatchesHoldAllFiles
batches_hold_all_files Hidden total shown = absurd (shown refl)
batches_hold_all_files Lines total shown = all_files total (batch_size total) (some_files (total / 20))
batches_hold_all_files InPlace total shown = all_files total (batch_size total) (some_files (total / 20))

-- 21 batches hold more than all files
many_batches : (total twentieth : ℕ) → total < twentieth * 20 + 20 → total - 1 < 21 * max 64 twentieth
many_batches total twentieth less = omega (arith, less)

below : (batches : ℕ) → batches < 21 → batches ≤ 20
below batches less = omega (arith, less)

few : (total : ℕ) → (total - 1) / batch_size total ≤ 20
few total =
    let within = many_batches total (total / 20) (lt-div-mul-add {a = total} {b = 20} (omega arith)) in
    below ((total - 1) / batch_size total)
    ((div-lt_iff_lt-mul {k = batch_size total} {x = total - 1} {y = 21} (some_files (total / 20))).1 within)

pub reports_are_few : ReportsAreFew
reports_are_few Hidden total = omega arith
reports_are_few Lines total = few total
reports_are_few InPlace total = few total
