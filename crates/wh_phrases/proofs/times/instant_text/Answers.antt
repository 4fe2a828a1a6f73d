use Rattle.std.proofs.Common.{◌∙◌, refl, ap, sym, arith, pos, FitsSigned, to_z, of_z, to_z-of_z, unsigned_abs}
use Rattle.std.specs.Int.{w128, int_rem_euclid}
use Rattle.jiff_core.proofs.SignedLemmas.{back_small, signed_arith}
use Rattle.wh_json.specs.Fields.{time_of}
use Rattle.wh_phrases.specs.Times.{places_of}
use Rattle.wh_phrases.proofs.TimesRead.{instant_read}
use Rattle.wh_phrases.proofs.Calendar.{instant_found, fraction_found}
use Rattle.wh_phrases.proofs.times.instant_text.Goals as goal

-- the printer's text of the datetime is the instant's
pub returns-clause-text : goal.returns-clause-text
returns-clause-text c =
    let time = c.args.time.nanosecond in
    let shown = c.timestamp_text.ensures in
    let dt = shown.0 in
    let options = c.precision-printer.ensures in
    let plain = c.new.ensures in
    let lower = ap (λ x. x.0) options ∙ ap (λ x. x.0) plain in
    let separator = ap (λ x. x.1) options ∙ ap (λ x. x.1) plain in
    let precision = ap (λ x. x.2) options in
    let left = fraction_found dt time shown.1 in
    let fits : FitsSigned w128 time = omega (arith, signed_arith, c.args.time.in_range) in
    let rest = c.rem_euclid-fraction.ensures.value ∙ ap (λ z. int_rem_euclid z (pos 1_000_000_000)) (to_z-of_z fits) ∙ left in
    let fraction = ap (λ z. unsigned_abs (to_z w128 (of_z w128 z))) rest
    ∙ ap unsigned_abs (back_small w128 (pos dt.time.subsec_nanosecond) (omega (arith, dt.time.subsec_in))) in
    let places = c.places_of.ensures ∙ ap places_of fraction in
    shown.2 ∙ rw (lower, separator, precision, places) (sym (instant_found dt time shown.1))

-- and it reads as the instant
pub returns-clause-reads : goal.returns-clause-reads
unfolding time_of
returns-clause-reads c =
    let shown = c.timestamp_text.ensures in
    rw (returns-clause-text c, instant_found shown.0 c.args.time.nanosecond shown.1, instant_read shown.0 c.args.time shown.1) refl
