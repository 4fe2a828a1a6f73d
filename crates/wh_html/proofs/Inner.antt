-- Times have neither `<` nor `>`.
use Rattle.std.proofs.Common.{◌≡◌, ◌+◌, ◌-◌, ◌*◌, ◌/◌, ◌%◌, ℕ, Bool, true, false, cond, List, [], ◌∷◌, ◌++◌, min, refl}
use Rattle.std.specs.Prelude.{◌==◌, nat_lt, codes, decimal}
use Rattle.std.specs.List.{list_all}
use Rattle.wh_html.specs.Times.{last_time, two, year_of, month_of, day_of, fraction_text, clock_text, instant_text, stamp_text, pair_text, brief_text, units_text, long_text, span_text}
use Rattle.wh_html.specs.Html.{Html, ◌⊕◌, stamp, span}
use Rattle.wh_html.proofs.Harmless.{all-append}
use Rattle.wh_html.proofs.Alike.{Alike, is_inner, decimal-inner, both, words}

-- a text without `<` and `>`
abbrev IsInner : List ℕ → Type 0
IsInner text = list_all is_inner text ≡ true

join : (xs ys : List ℕ) → IsInner xs → IsInner ys → IsInner (xs ++ ys)
join xs ys p q = all-append is_inner xs ys p q

two-inner : (n : ℕ) → IsInner (two n)
two-inner n = join (decimal (n / 10)) (decimal (n % 10)) (decimal-inner (n / 10)) (decimal-inner (n % 10))

fraction-inner : (n : ℕ) → IsInner (fraction_text n)
fraction-inner n = by (n == 0)
  where
    by : (b : Bool) → IsInner (cond b [] (codes "." ++ (two (n / 10) ++ decimal (n % 10))))
    by true = refl
    by false = join (two (n / 10)) (decimal (n % 10)) (two-inner (n / 10)) (decimal-inner (n % 10))

-- a list that computes is inner where its parts are
abbrev colon : List ℕ
colon = codes ":"

abbrev dash : List ℕ
dash = codes "-"

seconds-inner : (n : ℕ) → IsInner (two (n / 1_000 % 60) ++ fraction_text (n % 1_000))
seconds-inner n = join (two (n / 1_000 % 60)) (fraction_text (n % 1_000)) (two-inner (n / 1_000 % 60)) (fraction-inner (n % 1_000))

minutes-inner : (n : ℕ) → IsInner (two (n / 60_000 % 60) ++ (colon ++ (two (n / 1_000 % 60) ++ fraction_text (n % 1_000))))
minutes-inner n =
    join (two (n / 60_000 % 60)) (colon ++ (two (n / 1_000 % 60) ++ fraction_text (n % 1_000))) (two-inner (n / 60_000 % 60))
    (join colon (two (n / 1_000 % 60) ++ fraction_text (n % 1_000)) refl (seconds-inner n))

clock-inner : (n : ℕ) → IsInner (clock_text n)
unfolding clock_text
clock-inner n =
    let rest = two (n / 60_000 % 60) ++ (colon ++ (two (n / 1_000 % 60) ++ fraction_text (n % 1_000))) in
    join (two (n / 3_600_000 % 24)) (colon ++ rest) (two-inner (n / 3_600_000 % 24)) (join colon rest refl (minutes-inner n))

instant-inner : (n : ℕ) → IsInner (instant_text n)
unfolding instant_text
instant-inner n =
    let day = n / 86_400_000 in
    let clock = codes "T" ++ (clock_text n ++ codes "Z") in
    let days = two (day_of day) ++ clock in
    let months = two (month_of day) ++ (dash ++ days) in
    let late : IsInner clock = join (codes "T") (clock_text n ++ codes "Z") refl (join (clock_text n) (codes "Z") (clock-inner n) refl) in
    let daily : IsInner days = join (two (day_of day)) clock (two-inner (day_of day)) late in
    let monthly : IsInner months = join (two (month_of day)) (dash ++ days) (two-inner (month_of day)) (join dash days refl daily) in
    join (decimal (year_of day)) (dash ++ months) (decimal-inner (year_of day)) (join dash months refl monthly)

-- a number with a unit
unit : (n : ℕ) (word : List ℕ) → IsInner word → IsInner (decimal n ++ word)
unit n word e = join (decimal n) word (decimal-inner n) e

-- two numbers with units
units : (m n : ℕ) (first second : List ℕ) → IsInner first → IsInner second → IsInner (decimal m ++ (first ++ (decimal n ++ second)))
units m n first second p q = unit m (first ++ (decimal n ++ second)) (join first (decimal n ++ second) p (unit n second q))

-- one of two texts
choose : (b : Bool) (xs ys : List ℕ) → IsInner xs → IsInner ys → IsInner (cond b xs ys)
choose true xs ys p q = p
choose false xs ys p q = q

pair-inner : (large small : ℕ) (word part : List ℕ) → IsInner word → IsInner part → IsInner (pair_text large word small part)
pair-inner large small word part p q =
    choose (small == 0) (decimal large ++ (codes " " ++ word)) (decimal large ++ (codes " " ++ (word ++ (codes " " ++ (decimal small ++ (codes " " ++ part))))))
    (unit large (codes " " ++ word) (join (codes " ") word refl p))
    (unit large (codes " " ++ (word ++ (codes " " ++ (decimal small ++ (codes " " ++ part)))))
    (join (codes " ") (word ++ (codes " " ++ (decimal small ++ (codes " " ++ part)))) refl
    (join word (codes " " ++ (decimal small ++ (codes " " ++ part))) p
    (join (codes " ") (decimal small ++ (codes " " ++ part)) refl (unit small (codes " " ++ part) (join (codes " ") part refl q))))))

brief-inner : (n : ℕ) → IsInner (brief_text n)
brief-inner n =
    choose (nat_lt n 100) (decimal n ++ codes " ms") (decimal (n / 1_000) ++ (codes "." ++ (decimal (n % 1_000 / 100) ++ codes " s")))
    (unit n (codes " ms") refl) (units (n / 1_000) (n % 1_000 / 100) (codes ".") (codes " s") refl refl)

units-inner : (n : ℕ) → IsInner (units_text n)
units-inner n =
    let minutes = pair_text (n / 60) (codes "min") (n % 60) (codes "s") in
    let hours = pair_text (n / 3_600) (codes "h") (n / 60 % 60) (codes "min") in
    let days = pair_text (n / 86_400) (codes "d") (n / 3_600 % 24) (codes "h") in
    choose (nat_lt n 3_600) minutes (cond (nat_lt n 86_400) hours days)
    (pair-inner (n / 60) (n % 60) (codes "min") (codes "s") refl refl)
    (choose (nat_lt n 86_400) hours days (pair-inner (n / 3_600) (n / 60 % 60) (codes "h") (codes "min") refl refl)
    (pair-inner (n / 86_400) (n / 3_600 % 24) (codes "d") (codes "h") refl refl))

span-inner : (n : ℕ) → IsInner (span_text n)
unfolding span_text
span-inner n =
    let seconds = n / 1_000 in
    choose (nat_lt n 10_000) (brief_text n) (long_text seconds) (brief-inner n)
    (choose (nat_lt seconds 60) (decimal seconds ++ codes " s") (units_text seconds) (unit seconds (codes " s") refl) (units-inner seconds))

-- a time, and then more
pub time : {s u : Bool} (n : ℕ) {a b : Html} → Alike s u a b → Alike s u (stamp n ⊕ a) (stamp n ⊕ b)
time n h = both (words (stamp_text n) (instant-inner (min n last_time))) h

-- a span of time, and then more
pub lapse : {s u : Bool} (n : ℕ) {a b : Html} → Alike s u a b → Alike s u (span n ⊕ a) (span n ⊕ b)
lapse n h = both (words (span_text n) (span-inner n)) h

pub last-time : {s : Bool} (n : ℕ) → Alike s s (stamp n) (stamp n)
last-time n = words (stamp_text n) (instant-inner (min n last_time))

pub last-lapse : {s : Bool} (n : ℕ) → Alike s s (span n) (span n)
last-lapse n = words (span_text n) (span-inner n)
