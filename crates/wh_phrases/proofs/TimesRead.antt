-- The text of an instant is read as the instant.
use Rattle.std.proofs.Common.{◌≡◌, ℕ, ◌-◌, ◌%◌, ◌^◌, ◌<◌, ◌≤◌, ◌==◌, ◌||◌, min, take_at, drop_at, Bool, true, false, cond, List, [], ◌∷◌, ◌++◌, Option, Some, None, Ok, refl, sym, arith, pos, ◌-ℤ◌}
use Rattle.std.proofs.lemmas.Bool.Decides.{nat_tests}
use Rattle.std.proofs.lemmas.Bool.{eqb-true}
use Rattle.std.proofs.lemmas.List.{append_assoc}
use Rattle.std.specs.Char.{is_ascii_digit}
use Rattle.std.specs.List.{prefix_len}
use Rattle.jiff_core.specs.declared.civil.time.Time.{Time}
use Rattle.jiff_core.specs.declared.civil.datetime.DateTime.{DateTime}
use Rattle.jiff_core.specs.declared.timestamp.Timestamp.{Timestamp}
use Rattle.jiff_core.specs.declared.error.Syntax.TheVariants as Syntax
use Rattle.jiff_core.specs.declared.error.Bound.TheVariants as Bd
use Rattle.jiff_core.specs.DateTime.{civil_nanos}
use Rattle.jiff_core.specs.Timestamp.{nanos_of_seconds}
use Rattle.jiff_core.proofs.SignedLemmas.{signed_arith}
use Rattle.jiff_fmt.specs.Reader.{nanoseconds, temporal_fraction, fraction_value}
use Rattle.jiff_fmt.specs.Text.{pad2, date_text, time_text, datetime_text, zulu_text, places, fraction_part}
use Rattle.jiff_fmt.specs.Temporal.{date_spec, date_parts, temporal_datetime, time_spec, time_parts, fraction_or_zero, parse_timestamp}
use Rattle.jiff_fmt.specs.Temporal as spec
use Rattle.jiff_fmt.proofs.TemporalLemmas.{instant-ok}
use Rattle.jiff_fmt.proofs.TextLemmas.{places-read}
use Rattle.jiff_fmt.proofs.RoundTrip.{Stops, field-pad2, date_spec-text, annotations-empty, offset-zulu}
use Rattle.wh_phrases.specs.Times.{places_of}

stops_digits : (rest : List ℕ) → Stops rest → prefix_len is_ascii_digit rest ≡ 0
stops_digits [] s = refl
stops_digits (c ∷ rest) s =
    let not_digit : is_ascii_digit c ≡ false = grind (arith, nat_tests, s) in
    rw not_digit refl

-- where no fraction stands none is read
none_read : (rest : List ℕ) → Stops rest → temporal_fraction rest ≡ Ok (None, rest)
unfolding temporal_fraction
none_read [] s = refl
none_read (c ∷ rest) s =
    let no_dot : ((c == 46) || (c == 44)) ≡ false = grind (arith, nat_tests, s) in
    rw no_dot refl

-- k places read as the fraction where the others are 0
some_read : (k n : ℕ) (rest : List ℕ) → 0 < k → k ≤ 9 → n % 10 ^ (9 - k) ≡ 0 → n < 1_000_000_000 → Stops rest
    → temporal_fraction ((46 ∷ places k 1_000_000_000 n) ++ rest) ≡ Ok (Some n, rest)
unfolding temporal_fraction nanoseconds
some_read k n rest low few multiple high s =
    let facts = places-read k 9 n rest few high in
    let count : min (prefix_len is_ascii_digit (places k 1_000_000_000 n ++ rest)) 9 ≡ k = omega (arith, facts.0, stops_digits rest s) in
    let value : fraction_value 9 (places k 1_000_000_000 n) ≡ n = omega (arith, facts.2, multiple) in
    let some : (k == 0) ≡ false = grind (arith, nat_tests) in
    rw (count, some, take_at (places k 1_000_000_000 n) rest k facts.1, drop_at (places k 1_000_000_000 n) rest k facts.1, value) refl

-- a fraction that is written with the places that it needs reads as it is
abbrev IsRead : ℕ → List ℕ → ℕ → Type 0
IsRead k rest n = (o : Option ℕ) × (temporal_fraction (fraction_part (Some k) n ++ rest) ≡ Ok (o, rest)) × (fraction_or_zero o ≡ n)

fraction_read : (n : ℕ) (rest : List ℕ) → n < 1_000_000_000 → Stops rest → IsRead (places_of n) rest n
fraction_read n rest high s = none (n == 0) refl
  where
    micro : (b : Bool) → (n % 1_000 == 0) ≡ b → IsRead (cond b 6 9) rest n
    micro true e = (Some n, some_read 6 n rest (omega arith) (omega arith) (eqb-true (n % 1_000) 0 e) high s, refl)
    micro false e = (Some n, some_read 9 n rest (omega arith) (omega arith) (omega arith) high s, refl)

    milli : (b : Bool) → (n % 1_000_000 == 0) ≡ b → IsRead (cond b 3 (cond (n % 1_000 == 0) 6 9)) rest n
    milli true e = (Some n, some_read 3 n rest (omega arith) (omega arith) (eqb-true (n % 1_000_000) 0 e) high s, refl)
    milli false e = micro (n % 1_000 == 0) refl

    none : (b : Bool) → (n == 0) ≡ b → IsRead (cond b 0 (cond (n % 1_000_000 == 0) 3 (cond (n % 1_000 == 0) 6 9))) rest n
    none true e = (None, none_read rest s, sym (eqb-true n 0 e))
    none false e = milli (n % 1_000_000 == 0) refl

time_read : (k : ℕ) (t : Time) (rest : List ℕ) → Stops rest → IsRead k rest t.subsec_nanosecond → time_spec (time_text (Some k) t ++ rest) ≡ Ok ((time_parts t, true), rest)
unfolding time_spec
time_read k t rest s read =
    let fraction_text = fraction_part (Some k) t.subsec_nanosecond ++ rest in
    let after_minute = 58 ∷ pad2 t.second ++ fraction_text in
    let after_hour = 58 ∷ pad2 t.minute ++ after_minute in
    let shape : time_text (Some k) t ++ rest ≡ pad2 t.hour ++ after_hour = simp append_assoc refl in
    let hour = field-pad2 Syntax.Hour 0 23 Bd.Hour t.hour after_hour (omega arith) (omega (arith, t.hour_in)) (omega (arith, t.hour_in)) in
    let minute = field-pad2 Syntax.Minute 0 59 Bd.Minute t.minute after_minute (omega arith) (omega (arith, t.minute_in)) (omega (arith, t.minute_in)) in
    let second = field-pad2 Syntax.Second 0 60 Bd.LeapSecond t.second fraction_text (omega arith) (omega (arith, t.second_in)) (omega (arith, t.second_in)) in
    let no_leap : (t.second == 60) ≡ false = grind (arith, nat_tests, t.second_in) in
    rw (shape, hour, minute, second, no_leap, read.1, read.2) refl

date_read : (k : ℕ) (dt : DateTime) (rest : List ℕ) → date_spec (datetime_text false 84 (Some k) dt ++ rest) ≡ Ok (date_parts dt.date, 84 ∷ time_text (Some k) dt.time ++ rest)
date_read k dt rest =
    let shape : datetime_text false 84 (Some k) dt ++ rest ≡ date_text dt.date ++ (84 ∷ time_text (Some k) dt.time ++ rest) = append_assoc (date_text dt.date) (84 ∷ time_text (Some k) dt.time) rest in
    rw shape (date_spec-text dt.date (84 ∷ time_text (Some k) dt.time ++ rest))

-- what a clock shows at an instant reads as the instant
pub instant_read : (dt : DateTime) (t : Timestamp) → civil_nanos dt ≡ t.nanosecond
    → parse_timestamp (datetime_text false 84 (Some (places_of dt.time.subsec_nanosecond)) dt ++ zulu_text false) ≡ Ok t.nanosecond
unfolding temporal_datetime civil_nanos
instant_read dt t e =
    let k = places_of dt.time.subsec_nanosecond in
    let stop : Stops (90 ∷ []) = refl in
    let read = date_read k dt (90 ∷ []) in
    let fraction = fraction_read dt.time.subsec_nanosecond (90 ∷ []) dt.time.subsec_in stop in
    let clock = time_read k dt.time (90 ∷ []) stop fraction in
    let value : spec.parts_nanos (date_parts dt.date) (time_parts dt.time) -ℤ nanos_of_seconds (pos 0) ≡ t.nanosecond = omega (arith, signed_arith, e) in
    rw (read, clock, offset-zulu, annotations-empty, value) (instant-ok t.nanosecond t.in_range)
