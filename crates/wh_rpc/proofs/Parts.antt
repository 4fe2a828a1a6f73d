-- The parts of a line, as they are read one after another.
use Rattle.std.proofs.Common.{◌≡◌, ℕ, zero, suc, ◌+◌, ◌-◌, ◌<◌, ◌≤◌, ◌==◌, ◌||◌, Bool, true, false, cond, List, [], ◌∷◌, ◌++◌, length, length-take-le, min, take, take-append-drop, drop, Option, Some, None, IfSome, refl, sym, ap, subst, ◌∙◌, arith, append_assoc}
use Rattle.std.proofs.lemmas.Bool.{true≢false}
use Rattle.std.proofs.lemmas.List.{length-append}
use Rattle.std.proofs.Math.Seq.{take-append-add}
use Rattle.std.specs.Io.BufRead.{take_through}
use Rattle.std.specs.Io.{StartsWith}
use Rattle.std.specs.Io.BufRead.{DropsConsumable}
use Rattle.std.specs.Io.KnownBytes.{Consumes, Keeps}
use Rattle.wh_rpc.specs.Responses.{longest}
use Rattle.wh_rpc.specs.Private.Input.{ReadsOn, after_read, has_end, read_of}

-- ---- What is taken out of an input

pub consumes_nothing : (known : Option (List ℕ)) → Consumes known known []
consumes_nothing None = tt
consumes_nothing (Some xs) = refl

pub consumes_both : (old middle new : Option (List ℕ)) (xs ys : List ℕ) → Consumes old middle xs → Consumes middle new ys → Consumes old new (xs ++ ys)
consumes_both None middle new xs ys h k = tt
consumes_both (Some us) None new xs ys h k = absurd h
consumes_both (Some us) (Some vs) None xs ys h k = absurd k
consumes_both (Some us) (Some vs) (Some ws) xs ys h k = h ∙ ap (λ l. xs ++ l) k ∙ sym (append_assoc xs ys ws)

pub keeps_consumes : (old new : Option (List ℕ)) → Keeps old new → Consumes old new []
keeps_consumes None new h = tt
keeps_consumes (Some xs) None h = absurd h
keeps_consumes (Some xs) (Some ys) h = sym h

-- ---- Bytes with and without a line end

or_false : (b c : Bool) → (b || c) ≡ false → (b ≡ false) × (c ≡ false)
or_false true c h = absurd (true≢false h)
or_false false c h = (refl, h)

pub has_end-append : (xs ys : List ℕ) → has_end xs ≡ false → has_end (xs ++ ys) ≡ has_end ys
has_end-append [] ys h = refl
has_end-append (x ∷ xs) ys h =
    let parts = or_false (x == 10) (has_end xs) h in
    ap (λ b. b || has_end (xs ++ ys)) parts.0 ∙ has_end-append xs ys parts.1

pub through-append : (xs ys : List ℕ) → has_end xs ≡ false → take_through 10 (xs ++ ys) ≡ xs ++ take_through 10 ys
through-append [] ys h = refl
through-append (x ∷ xs) ys h =
    let parts = or_false (x == 10) (has_end xs) h in
    ap (λ b. cond b (x ∷ []) (x ∷ take_through 10 (xs ++ ys))) parts.0 ∙ ap (λ l. x ∷ l) (through-append xs ys parts.1)

-- bytes without a line end are taken all
pub through-open : (xs : List ℕ) → has_end xs ≡ false → take_through 10 xs ≡ xs
through-open [] h = refl
through-open (x ∷ xs) h =
    let parts = or_false (x == 10) (has_end xs) h in
    ap (λ b. cond b (x ∷ []) (x ∷ take_through 10 xs)) parts.0 ∙ ap (λ l. x ∷ l) (through-open xs parts.1)

longer_step : (b : Bool) (y : ℕ) (xs ys : List ℕ) → (b || has_end xs) ≡ true → (has_end xs ≡ true → take_through 10 xs ≡ take_through 10 ys)
    → cond b (y ∷ []) (y ∷ take_through 10 xs) ≡ cond b (y ∷ []) (y ∷ take_through 10 ys)
longer_step true y xs ys h rest = refl
longer_step false y xs ys h rest = ap (λ l. y ∷ l) (rest h)

-- what stands after the first line end is not looked at
through-longer : (m n : ℕ) (ys : List ℕ) → has_end (take m ys) ≡ true → m ≤ n → take_through 10 (take m ys) ≡ take_through 10 (take n ys)
through-longer zero n ys h le = absurd (true≢false (sym h))
through-longer (suc m) n [] h le = absurd (true≢false (sym h))
through-longer (suc m) zero (y ∷ ys) h le = absurd (omega (arith, le))
through-longer (suc m) (suc n) (y ∷ ys) h le = longer_step (y == 10) y (take m ys) (take n ys) h (λ e. through-longer m n ys e (omega (arith, le)))

pub take-shorter : (m n : ℕ) (xs : List ℕ) → m ≤ n → take m (take n xs) ≡ take m xs
take-shorter zero n xs le = refl
take-shorter (suc m) zero xs le = absurd (omega (arith, le))
take-shorter (suc m) (suc n) [] le = refl
take-shorter (suc m) (suc n) (x ∷ xs) le = ap (λ l. x ∷ l) (take-shorter m n xs (omega (arith, le)))

length-within : (m : ℕ) (xs : List ℕ) → length (take m xs) ≤ m
length-within zero xs = omega arith
length-within (suc m) [] = omega arith
length-within (suc m) (x ∷ xs) = omega (arith, length-within m xs)

-- ---- One part

-- nothing is shown only at the end
none_shown : (m : ℕ) (ys : List ℕ) → (m ≡ 0 → ys ≡ []) → length (take m ys) ≡ 0 → ys ≡ []
none_shown m [] end none = refl
none_shown zero (y ∷ ys) end none = end refl
none_shown (suc m) (y ∷ ys) end none = absurd (omega (arith, none))

take-nil : (m : ℕ) → take_through 10 (take m []) ≡ []
take-nil zero = refl
take-nil (suc m) = refl

-- the part that was read is all that a line may have of the bytes, if it has its end, or is empty, or fills the room
pub part_is_last : (m room : ℕ) (ys part : List ℕ) → m ≤ room → (m ≡ 0 → ys ≡ []) → part ≡ take_through 10 (take m ys)
    → (has_end (take m ys) || ((length part == 0) || (length part == room))) ≡ true → part ≡ take_through 10 (take room ys)
part_is_last m room ys part within end is done = by (has_end (take m ys)) refl done
  where
    whole : has_end (take m ys) ≡ false → part ≡ take m ys
    whole none = is ∙ through-open (take m ys) none

    empty : has_end (take m ys) ≡ false → length part ≡ 0 → part ≡ take_through 10 (take room ys)
    empty none zero_long =
        let nothing : ys ≡ [] = none_shown m ys end (sym (ap length (whole none)) ∙ zero_long) in
        is ∙ ap (λ l. take_through 10 (take m l)) nothing ∙ take-nil m ∙ sym (take-nil room) ∙ sym (ap (λ l. take_through 10 (take room l)) nothing)

    full : has_end (take m ys) ≡ false → length part ≡ room → part ≡ take_through 10 (take room ys)
    full none long =
        let same : m ≡ room = omega (arith, within, length-within m ys, ap length (whole none), long) in
        is ∙ ap (λ k. take_through 10 (take k ys)) same

    or_full : (b : Bool) → (length part == 0) ≡ b → has_end (take m ys) ≡ false → (b || (length part == room)) ≡ true → part ≡ take_through 10 (take room ys)
    or_full true e none h = empty none (grind (arith, e))
    or_full false e none h = full none (grind (arith, h))

    by : (b : Bool) → has_end (take m ys) ≡ b → (b || ((length part == 0) || (length part == room))) ≡ true → part ≡ take_through 10 (take room ys)
    by true e h = is ∙ through-longer m room ys e within
    by false e h = or_full (length part == 0) refl e h

-- otherwise it has no end, and there is room for more
pub part_is_open : (m room : ℕ) (ys part : List ℕ) → m ≤ room → part ≡ take_through 10 (take m ys)
    → (has_end (take m ys) || ((length part == 0) || (length part == room))) ≡ false → (has_end part ≡ false) × (length part < room)
part_is_open m room ys part within is more =
    let parts = or_false (has_end (take m ys)) ((length part == 0) || (length part == room)) more in
    let other = or_false (length part == 0) (length part == room) parts.1 in
    let whole : part ≡ take m ys = is ∙ through-open (take m ys) parts.0 in
    (ap has_end whole ∙ parts.0, grind (arith, other.1, within, length-within m ys, ap length whole))

-- what is taken of what was shown is taken of the input
taken_shown : (old rested new : Option (List ℕ)) (buffered : Option ℕ) (shown : List ℕ) (n : ℕ) → n ≤ length shown → IfSome old (λ xs. StartsWith xs shown) → Keeps old rested
    → IfSome old (λ _. IfSome buffered (λ k. length shown ≤ k)) → DropsConsumable rested new buffered n → Consumes old new (take n shown)
taken_shown None rested new buffered shown n within front kept fits drops = tt
taken_shown (Some xs) None new buffered shown n within front kept fits drops = absurd kept
taken_shown (Some xs) (Some ys) new buffered shown n within front kept fits drops = at new (drops (room buffered fits))
  where
    room : (o : Option ℕ) → IfSome o (λ k. length shown ≤ k) → IfSome o (λ k. n ≤ k)
    room None h = tt
    room (Some k) h = omega (arith, h, within)

    at : (o : Option (List ℕ)) → o ≡ Some (drop n ys) → Consumes (Some xs) o (take n shown)
    at o e = rw (e, kept) (sym (take-append-drop n xs) ∙ ap (λ l. l ++ drop n xs) (sym (take-shorter n (length shown) xs within) ∙ ap (take n) front))

last_known : (old : Option (List ℕ)) (shown part : List ℕ) (m room : ℕ) → m ≤ room → m ≤ length shown → (m ≡ 0 → length shown ≡ 0)
    → IfSome old (λ xs. StartsWith xs shown) → IfSome old (λ xs. length shown ≡ 0 → xs ≡ []) → part ≡ take_through 10 (take m shown)
    → (has_end (take m shown) || ((length part == 0) || (length part == room))) ≡ true → IfSome old (λ bytes. part ≡ take_through 10 (take room bytes))
last_known None shown part m room within fits none front end is done = tt
last_known (Some ys) shown part m room within fits none front end is done =
    let same : take m ys ≡ take m shown = sym (take-shorter m (length shown) ys fits) ∙ ap (take m) front in
    part_is_last m room ys part within (λ zero_long. end (none zero_long)) (is ∙ ap (take_through 10) (sym same))
    (ap (λ l. has_end l || ((length part == 0) || (length part == room))) same ∙ done)

-- a part is read on
pub part_read : (old rested new : Option (List ℕ)) (buffered : Option ℕ) (shown front before after : List ℕ) (room count : ℕ) (found : Bool)
    → length before ≤ longest → room ≡ longest + 1 - length before
    → IfSome old (λ xs. StartsWith xs shown) → IfSome old (λ xs. length shown ≡ 0 → xs ≡ []) → Keeps old rested
    → IfSome old (λ _. IfSome buffered (λ k. length shown ≤ k)) → DropsConsumable rested new buffered count
    → front ≡ take (min room (length shown)) shown → count ≤ length front → take count front ≡ take_through 10 front → found ≡ has_end front
    → after ≡ before ++ take count front → ReadsOn old new before after (found || ((count == 0) || (count == room)))
part_read old rested new buffered shown front before after room count found short is_room starts end kept fits drops is_front within through has is =
    let m = min room (length shown) in
    let long : length (take count front) ≡ count = length-take-le count front within in
    let bound : count ≤ m = omega (arith, within, ap length is_front, length-within m shown) in
    let of_shown : take count front ≡ take count shown = ap (take count) is_front ∙ take-shorter count m shown bound in
    let part_is : take count front ≡ take_through 10 (take m shown) = through ∙ ap (take_through 10) is_front in
    let same : (has_end (take m shown) || ((length (take count front) == 0) || (length (take count front) == room))) ≡ (found || ((count == 0) || (count == room))) =
    ap (λ l. has_end l || ((length (take count front) == 0) || (length (take count front) == room))) (sym is_front)
    ∙ ap (λ k. has_end front || ((k == 0) || (k == room))) long ∙ ap (λ b. b || ((count == 0) || (count == room))) (sym has) in record {
      part = take count front;
      appended = is;
      taken = subst (Consumes old new) (sym of_shown) (taken_shown old rested new buffered shown count (omega (arith, bound)) starts kept fits drops);
      last = λ done. subst (λ r. IfSome old (λ bytes. take count front ≡ take_through 10 (take r bytes))) is_room
          (last_known old shown (take count front) m room (omega arith) (omega arith) (λ zero_long. omega (arith, zero_long, is_room, short)) starts end part_is (same ∙ done));
      open_still = λ more.
          let left = part_is_open m room shown (take count front) (omega arith) part_is (same ∙ more) in (left.0, omega (arith, left.1, is_room));
    }

-- ---- All parts

-- the beginning of a line was taken out of the input, and is open still
pub record Begun (old now : Option (List ℕ)) (line : List ℕ) : Type 0 where
  pub taken : Consumes old now line
  pub open_still : has_end line ≡ false
  pub short : length line ≤ longest

pub begun_first : (known : Option (List ℕ)) → Begun known known []
begun_first known = record { taken = consumes_nothing known; open_still = refl; short = omega arith }

pub begun_more : (old middle new : Option (List ℕ)) (before after : List ℕ) → Begun old middle before → ReadsOn middle new before after false → Begun old new after
begun_more old middle new before after h r =
    let more = r.open_still refl in record {
      taken = subst (Consumes old new) (sym r.appended) (consumes_both old middle new before r.part h.taken r.taken);
      open_still = ap has_end r.appended ∙ has_end-append before r.part h.open_still ∙ more.0;
      short = omega (arith, h.short, more.1, ap length r.appended, length-append before r.part);
    }

pub line_left : (old middle new : Option (List ℕ)) (before after : List ℕ) (done : Bool) → Begun old middle before → ReadsOn middle new before after done → Consumes old new after
line_left old middle new before after done h r = subst (Consumes old new) (sym r.appended) (consumes_both old middle new before r.part h.taken r.taken)

known_line : (old middle : Option (List ℕ)) (before part after : List ℕ) → Consumes old middle before → has_end before ≡ false → length before ≤ longest → after ≡ before ++ part
    → IfSome middle (λ bytes. part ≡ take_through 10 (take (longest + 1 - length before) bytes)) → IfSome old (λ bytes. after ≡ read_of bytes)
known_line None middle before part after h none short is last = tt
known_line (Some xs) None before part after h none short is last = absurd h
known_line (Some xs) (Some ys) before part after h none short is last =
    let room = longest + 1 - length before in
    let all : length before + room ≡ longest + 1 = omega (arith, short) in
    is ∙ ap (λ l. before ++ l) last ∙ sym (through-append before (take room ys) none)
    ∙ ap (take_through 10) (sym (take-append-add before ys room) ∙ ap (λ k. take k (before ++ ys)) all ∙ ap (take (longest + 1)) (sym h))

pub line_read : (old middle new : Option (List ℕ)) (before after : List ℕ) → Begun old middle before → ReadsOn middle new before after true → IfSome old (λ bytes. after ≡ read_of bytes)
line_read old middle new before after h r = known_line old middle before r.part after h.taken h.open_still h.short r.appended (r.last refl)

-- ---- What is left

drop-front : (xs ys : List ℕ) → drop (length xs) (xs ++ ys) ≡ ys
drop-front [] ys = refl
drop-front (x ∷ xs) ys = drop-front xs ys

pub left_after : (old new : Option (List ℕ)) (line : List ℕ) → Consumes old new line → IfSome old (λ bytes. line ≡ read_of bytes) → IfSome old (λ bytes. new ≡ Some (after_read bytes))
left_after None new line h is = tt
left_after (Some xs) None line h is = absurd h
left_after (Some xs) (Some ys) line h is =
    ap Some (sym (drop-front line ys) ∙ ap (drop (length line)) (sym h) ∙ ap (λ l. drop (length l) xs) is)
