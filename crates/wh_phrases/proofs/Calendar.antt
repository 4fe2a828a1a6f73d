-- The text of an instant is what a clock shows at it.
use Rattle.std.proofs.Common.{inl, inr, ◌≡◌, ◌∙◌, ℕ, zero, suc, ◌+◌, ◌-◌, ◌/◌, ◌%◌, ◌<◌, ◌≤◌, nat_lt, Bool, true, false, cond, [], ◌∷◌, ◌++◌, Some, refl, sym, ap, arith, ℤ, pos, neg_ℤ, ◌+ℤ◌, ◌<ℤ◌, ◌≤ℤ◌, unsigned_abs}
use Rattle.std.proofs.lemmas.Bool.{cases_order}
use Rattle.std.proofs.lemmas.Bool.Decides.{nat_tests}
use Rattle.std.proofs.lemmas.Int.{by_lt_z}
use Rattle.std.proofs.lemmas.List.{append_assoc}
use Rattle.std.specs.Int.{int_div_euclid, int_rem_euclid}
use Rattle.jiff_core.specs.declared.civil.date.Date.{Date}
use Rattle.jiff_core.specs.declared.civil.time.Time.{Time}
use Rattle.jiff_core.specs.declared.civil.datetime.DateTime.{DateTime}
use Rattle.jiff_core.specs.Calendar.{day_count, days_in_year, days_of_months, day_of_year, IsCivilDate}
use Rattle.jiff_core.specs.Time.{time_nanos}
use Rattle.jiff_core.specs.DateTime.{civil_nanos}
use Rattle.jiff_core.proofs.SignedLemmas.{signed_arith}
use Rattle.jiff_core.proofs.CalendarLemmas.{day_count-day_of_year, day_of_year_bound, day_count-next_year, day_count-later_year, day_count-day, days_of_months_mono, days_of_months_more, days_from_civil-day_count}
use Rattle.jiff_core.proofs.DateLemmas.{civil}
use Rattle.jiff_core.proofs.DateTimeLemmas.{civil_nanos-parts, civil_nanos-civil_seconds, time_nanos_bound}
use Rattle.jiff_fmt.specs.Text.{time_text, datetime_text, zulu_text}
use Rattle.jiff_fmt.specs.Text as texts
use Rattle.wh_phrases.specs.Times.{year_at, month_at, year_of, date_text, places_of, clock_text, days_before, since_midnight, instant_text}

-- the year of a date is found among those from one on that is not later
year_found : (left : ℕ) (start : ℤ) (y : ℤ) (m d : ℕ) → IsCivilDate y m d → neg_ℤ (pos 9999) ≤ℤ start → start ≤ℤ y → y ≤ℤ (start +ℤ pos left)
    → year_at left start (day_count y m d) ≡ y
unfolding year_at
year_found zero start y m d is low here far = omega (arith, signed_arith)
year_found (suc left) start y m d is low here far =
    by (nat_lt (day_count y m d) (day_count (start +ℤ pos 1) 1 1)) refl (λ lt. year_found left (start +ℤ pos 1) y m d is (omega (arith, signed_arith)) (omega (arith, signed_arith)) (omega (arith, signed_arith)))
  where
    above : neg_ℤ (pos 10000) ≤ℤ start
    above = omega (arith, signed_arith)

    next : day_count (start +ℤ pos 1) 1 1 ≡ day_count start 1 1 + days_in_year start
    next = day_count-next_year start (start +ℤ pos 1) above refl

    place : day_count y m d + 1 ≡ day_count y 1 1 + day_of_year y m d
    place = day_count-day_of_year y m d is.2.0

    by : (b : Bool) → nat_lt (day_count y m d) (day_count (start +ℤ pos 1) 1 1) ≡ b → (start <ℤ y → year_at left (start +ℤ pos 1) (day_count y m d) ≡ y) → cond b start (year_at left (start +ℤ pos 1) (day_count y m d)) ≡ y
    by true e on =
        by_lt_z start y (λ lt. let later = day_count-later_year start y above lt in absurd (grind (arith, nat_tests, next, place)))
        (λ ge. omega (arith, signed_arith))
    by false e on =
        by_lt_z start y (λ lt. on lt)
        (λ ge. let same : start ≡ y = omega (arith, signed_arith) in
        let after : day_count (start +ℤ pos 1) 1 1 ≡ day_count y 1 1 + days_in_year y = next ∙ ap (λ x. day_count x 1 1 + days_in_year x) same in
        let within = day_of_year_bound y m d is in
        absurd (grind (arith, nat_tests, place)))

-- and its month among those from one on that is not later
month_found : (left start : ℕ) (y : ℤ) (m d : ℕ) → IsCivilDate y m d → 1 ≤ start → start ≤ m → m ≤ start + left
    → month_at left y start (day_count y m d) ≡ m
unfolding month_at
month_found zero start y m d is low here far = omega arith
month_found (suc left) start y m d is low here far =
    by (nat_lt (day_count y m d) (day_count y (start + 1) 1)) refl (λ lt. month_found left (start + 1) y m d is (omega arith) (omega arith) (omega arith))
  where
    back : start + 1 - 1 ≡ start
    back = omega arith

    next : day_count y (start + 1) 1 + 1 ≡ day_count y 1 1 + (days_of_months y start + 1)
    next = rw back at (day_count-day_of_year y (start + 1) 1 (omega arith))

    place : day_count y m d + 1 ≡ day_count y 1 1 + (days_of_months y (m - 1) + d)
    place = day_count-day_of_year y m d is.2.0

    by : (b : Bool) → nat_lt (day_count y m d) (day_count y (start + 1) 1) ≡ b → (start < m → month_at left y (start + 1) (day_count y m d) ≡ m) → cond b start (month_at left y (start + 1) (day_count y m d)) ≡ m
    by true e on =
        elim (cases_order start m) [
          | inl same ↦ same
          | inr (inl lt) ↦ absurd (grind (arith, nat_tests, next, place, is.2.0, days_of_months_mono y start (m - 1) (omega arith)))
          | inr (inr gt) ↦ absurd (omega arith)
        ]
    by false e on =
        elim (cases_order start m) [
          | inl same ↦ absurd (grind (arith, nat_tests, next, place, is.2.1, days_of_months_more y m (omega arith), ap (days_of_months y) same))
          | inr (inl lt) ↦ on lt
          | inr (inr gt) ↦ absurd (omega arith)
        ]

-- the text of a date is that of its day
date_found : (d : Date) → date_text (day_count d.year d.month d.day) ≡ texts.date_text d
date_found d =
    let is = civil d in
    let low = is.0 in
    let first = is.1 in
    let year : year_of (day_count d.year d.month d.day) ≡ d.year =
    year_found 20_000 (neg_ℤ (pos 9999)) d.year d.month d.day is (omega (arith, signed_arith)) (omega (arith, signed_arith)) (omega (arith, signed_arith)) in
    let month : month_at 12 d.year 1 (day_count d.year d.month d.day) ≡ d.month =
    month_found 12 1 d.year d.month d.day is (omega arith) (omega arith) (omega arith) in
    let from = day_count-day d.year d.month d.day 1 is.2.0 (omega arith) in
    let day : day_count d.year d.month d.day - day_count d.year d.month 1 + 1 ≡ d.day = omega (arith, is.2.0) in
    rw (year, month, day) refl

-- that of a time of day is that of its nanoseconds
clock_found : (t : Time) → clock_text (time_nanos t) ≡ time_text (Some (places_of t.subsec_nanosecond)) t
clock_found t =
    let hour : time_nanos t / 3_600_000_000_000 ≡ t.hour = omega arith in
    let minute : time_nanos t / 60_000_000_000 % 60 ≡ t.minute = omega arith in
    let second : time_nanos t / 1_000_000_000 % 60 ≡ t.second = omega arith in
    let rest : time_nanos t % 1_000_000_000 ≡ t.subsec_nanosecond = omega arith in
    rw (hour, minute, second, rest) refl

-- and that of an instant what a clock shows at it
pub instant_found : (dt : DateTime) (time : ℤ) → civil_nanos dt ≡ time
    → instant_text time ≡ datetime_text false 84 (Some (places_of dt.time.subsec_nanosecond)) dt ++ zulu_text false
unfolding instant_text
instant_found dt time is =
    let parts = civil_nanos-parts dt in
    let within = time_nanos_bound dt.time in
    let count = days_from_civil-day_count dt.date.year dt.date.month dt.date.day in
    let whole : int_div_euclid time (pos 86_400_000_000_000) +ℤ pos 4_371_953 ≡ pos (day_count dt.date.year dt.date.month dt.date.day) = omega (arith, signed_arith) in
    let left : int_rem_euclid time (pos 86_400_000_000_000) ≡ pos (time_nanos dt.time) = omega (arith, signed_arith) in
    let days : days_before time ≡ day_count dt.date.year dt.date.month dt.date.day = ap unsigned_abs whole in
    let since : since_midnight time ≡ time_nanos dt.time = ap unsigned_abs left in
    let shown = time_text (Some (places_of dt.time.subsec_nanosecond)) dt.time in
    let date : date_text (days_before time) ≡ texts.date_text dt.date = ap date_text days ∙ date_found dt.date in
    let clock : clock_text (since_midnight time) ≡ shown = ap clock_text since ∙ clock_found dt.time in
    ap (λ x. x ++ (84 ∷ (clock_text (since_midnight time) ++ 90 ∷ []))) date
    ∙ ap (λ x. texts.date_text dt.date ++ (84 ∷ (x ++ 90 ∷ []))) clock
    ∙ sym (append_assoc (texts.date_text dt.date) (84 ∷ shown) (90 ∷ []))

-- what is left of an instant's seconds is the clock's fraction
pub fraction_found : (dt : DateTime) (time : ℤ) → civil_nanos dt ≡ time → int_rem_euclid time (pos 1_000_000_000) ≡ pos dt.time.subsec_nanosecond
fraction_found dt time is =
    let parts = civil_nanos-civil_seconds dt in
    let below = dt.time.subsec_in in
    omega (arith, signed_arith)
