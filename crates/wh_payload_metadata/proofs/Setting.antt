-- What setting a field of a header leaves, and which of the events that came sets it.
use Rattle.std.proofs.Common.{◌≡◌, ◌⊎◌, ◌<◌, ◌≤◌, ℕ, List, [], ◌∷◌, ◌++◌, length, Bool, true, false, cond, IsSome, is_some, is_none, Option, Some, None, option_map, option_and_then, Ordering, Less, Equal, Greater, is_eq, eqb, ne_eqb, lt-ltb, le-ltb, nat_cmp, string_cmp, bytes_eq, codes, String, Global, string_bytes, refl, sym, ap, ◌∙◌, append_assoc, arith, inl, inr, subst, Result, Ok, Err, OnErr}
use mathlib.Core.Path.{fun_ext}
use Rattle.std.proofs.lemmas.Bool.{true≢false, false≢true}
use Rattle.std.proofs.lemmas.Option.{none-some}
use Rattle.std.proofs.lemmas.Slice.Eq.{bytes_eq-Decides}
use Rattle.std.specs.BTreeMap.{is_at}
use Rattle.std.specs.Cmp.Lexicographic.{slice_cmp}
use Rattle.std.specs.List.{AllByRecursion}
use Rattle.std.specs.Map.{keys_of, lookup}
use Rattle.std.specs.Ordering.{match_ordering}
use Rattle.serde_json.specs.Data.{Data, object, Members, no_members, member}
use Rattle.serde_json.specs.Find.{get_member}
use Rattle.serde_json.specs.View.{view, members_view}
use Rattle.serde_json.proofs.Views.{Entry, member_here, member_later}
use Rattle.wh_json.specs.Fields.{field}
use Rattle.wh_payload_metadata.specs.declared.header.Field.{Field}
use Rattle.wh_payload_metadata.specs.declared.header.Header.{Header}
use Rattle.wh_payload_metadata.specs.Header.{SetField, Fields, IsAfterFirst, IsEachAfterFirst, IsEachOldOrSet, no_fields, brought_fields, brought, number_in, is_set_later, newest, field_set, fields_set, fields_after_event, fields_after, set_in, fields_of, members_of, with_fields, header_of, value_in}
use Rattle.wh_payload_metadata.specs.Laws.{LastEventSets, NothingElseSets, EachFieldGoesOn}

-- ---- One field

chosen : (fields : Fields) (number : ℕ) (name other : List ℕ) (value : Data) (b : Bool) → is_set_later (fields name) number ≡ b → name ≡ other
    → cond b (fields other) (Some (number, value)) ≡ newest (fields other) number (Some value)
chosen fields number name other value b later same =
    ap (λ c. cond c (fields other) (Some (number, value))) (sym later ∙ ap (λ n. is_set_later (fields n) number) same)

-- a field that a later event set stays
pub stays_set : (fields : Fields) (number : ℕ) (name : List ℕ) (value : Data) → is_set_later (fields name) number ≡ true
    → fields ≡ field_set number name value fields
unfolding field_set
stays_set fields number name value later = fun_ext (λ other. by other (bytes_eq name other) refl)
  where
    by : (other : List ℕ) (b : Bool) → bytes_eq name other ≡ b → fields other ≡ cond b (newest (fields other) number (Some value)) (fields other)
    by other true is = chosen fields number name other value true later ((bytes_eq-Decides name other).0 is)
    by other false is = refl

-- any other takes the value of the event
pub is_set : (fields : Fields) (number : ℕ) (name : List ℕ) (value : Data) → is_set_later (fields name) number ≡ false
    → (λ (other : List ℕ). cond (bytes_eq name other) (Some (number, value)) (fields other)) ≡ field_set number name value fields
unfolding field_set
is_set fields number name value earlier = fun_ext (λ other. by other (bytes_eq name other) refl)
  where
    by : (other : List ℕ) (b : Bool) → bytes_eq name other ≡ b
        → cond b (Some (number, value)) (fields other) ≡ cond b (newest (fields other) number (Some value)) (fields other)
    by other true is = chosen fields number name other value false earlier ((bytes_eq-Decides name other).0 is)
    by other false is = refl

pub set_if : (b : Bool) (one : Field) (old : Option Field) → option_map set_in (cond b (Some one) old) ≡ cond b (Some (set_in one)) (option_map set_in old)
set_if true one old = refl
set_if false one old = refl

-- ---- All fields of a header

none_below : (k : String Global) (es : List Entry) → AllByRecursion (λ y. string_cmp k y ≡ Less) (keys_of es) → get_member (string_bytes k) (members_view es) ≡ None
none_below k [] below = refl
none_below k (e ∷ es) below =
    let less : slice_cmp nat_cmp (string_bytes k) (string_bytes e.0) ≡ Less = below.0 in
    rw less (none_below k es below.1)

-- of members in order the first one is set, and then the others
pub member_set : (number : ℕ) (e : Entry) (rest : List Entry) (fields : Fields) → AllByRecursion (λ y. string_cmp e.0 y ≡ Less) (keys_of rest)
    → fields_set number (members_view rest) (field_set number (string_bytes e.0) (view e.1) fields) ≡ fields_set number (members_view (e ∷ rest)) fields
unfolding field_set fields_set
member_set number e rest fields below = fun_ext (λ name. by name (bytes_eq (string_bytes e.0) name) refl)
  where
    by : (name : List ℕ) (b : Bool) → bytes_eq (string_bytes e.0) name ≡ b
        → newest (cond b (newest (fields name) number (Some (view e.1))) (fields name)) number (get_member name (members_view rest))
        ≡ newest (fields name) number (get_member name (members_view (e ∷ rest)))
    by name true is =
        let same : string_bytes e.0 ≡ name = (bytes_eq-Decides (string_bytes e.0) name).0 is in
        ap (newest (newest (fields name) number (Some (view e.1))) number) (ap (λ n. get_member n (members_view rest)) (sym same) ∙ none_below e.0 rest below)
        ∙ ap (newest (fields name) number) (sym (member_here name e rest (sym same)))
    by name false is =
        let apart = λ (h : name ≡ string_bytes e.0). true≢false (sym ((bytes_eq-Decides (string_bytes e.0) name).1 (sym h)) ∙ is) in
        ap (newest (fields name) number) (sym (member_later name e rest apart))

-- ---- Fields of which only some were set

-- what holds anyhow holds after an error
pub on_error : {T E P : Type 0} (result : Result T E) → P → OnErr result P
on_error (Ok done) holds = tt
on_error (Err fault) holds = holds

-- where all are set but those that are left, each field is as it was, or no longer among those that are left
abbrev pub IsEachOldOrDone : (old now : Fields) (left : Members) → Type 0
IsEachOldOrDone old now left = (name : List ℕ) → (now name ≡ old name) ⊎ (get_member name left ≡ None)

-- and then it is as it was, or as if all were set
pub old_or_set : (number : ℕ) (left members : Members) (old now : Fields) → fields_set number left now ≡ fields_set number members old
    → IsEachOldOrDone old now left → IsEachOldOrSet old (fields_set number members old) now
unfolding fields_set
old_or_set number left members old now same done name = by (done name)
  where
    by : (now name ≡ old name) ⊎ (get_member name left ≡ None) → (now name ≡ old name) ⊎ (now name ≡ newest (old name) number (get_member name members))
    by (inl is) = inl is
    by (inr none) = inr (sym (ap (newest (now name) number) none) ∙ ap (λ (fields : Fields). fields name) same)

-- so it is after the first of those that were left is set
pub done_next : (number : ℕ) (e : Entry) (rest : List Entry) (old now : Fields) → AllByRecursion (λ y. string_cmp e.0 y ≡ Less) (keys_of rest)
    → IsEachOldOrDone old now (members_view (e ∷ rest)) → IsEachOldOrDone old (field_set number (string_bytes e.0) (view e.1) now) (members_view rest)
unfolding field_set
done_next number e rest old now below done name = by (bytes_eq (string_bytes e.0) name) refl (done name)
  where
    by : (b : Bool) → bytes_eq (string_bytes e.0) name ≡ b → (now name ≡ old name) ⊎ (get_member name (members_view (e ∷ rest)) ≡ None)
        → (cond b (newest (now name) number (Some (view e.1))) (now name) ≡ old name) ⊎ (get_member name (members_view rest) ≡ None)
    by true is done_here = inr (subst (λ n. get_member n (members_view rest) ≡ None) ((bytes_eq-Decides (string_bytes e.0) name).0 is) (none_below e.0 rest below))
    by false is (inl kept) = inl kept
    by false is (inr none) =
        let apart = λ (h : name ≡ string_bytes e.0). true≢false (sym ((bytes_eq-Decides (string_bytes e.0) name).1 (sym h)) ∙ is) in
        inr (sym (member_later name e rest apart) ∙ none)

-- ---- Events

-- without members nothing is set
pub nothing_set : (number : ℕ) (fields : Fields) → fields_set number no_members fields ≡ fields
unfolding fields_set
nothing_set number fields = refl

-- the fields that an event brings are set
pub event_sets : (event : Data) (found : Members) (fields : Fields) → Some found ≡ brought_fields event
    → fields_set (number_in event) found fields ≡ fields_after_event event fields
unfolding fields_set fields_after_event
event_sets event found fields is =
    let after = λ (brings : Option Members) (name : List ℕ). newest (fields name) (number_in event) (option_and_then (get_member name) brings) in
    ap after is

-- an event that brings none changes nothing
pub event_quiet : (event : Data) (fields : Fields) → None ≡ brought_fields event → fields ≡ fields_after_event event fields
unfolding fields_after_event
event_quiet event fields is =
    let after = λ (brings : Option Members) (name : List ℕ). newest (fields name) (number_in event) (option_and_then (get_member name) brings) in
    ap after is

pub fields_after-append : (before after : List Data) (fields : Fields) → fields_after (before ++ after) fields ≡ fields_after after (fields_after before fields)
fields_after-append [] after fields = refl
fields_after-append (event ∷ rest) after fields = fields_after-append rest after (fields_after_event event fields)

-- after some events, and fields of the next one, each field is as after the first events
pub after_first : (events first : List Data) (event : Data) (rest : List Data) (old now new : Fields) → events ≡ first ++ event ∷ rest
    → now ≡ fields_after first old → IsEachOldOrSet now (fields_after_event event now) new → IsEachAfterFirst events old new
after_first events first event rest old now new are is some name = by (some name)
  where
    by : (new name ≡ now name) ⊎ (new name ≡ fields_after_event event now name) → IsAfterFirst events old new name
    by (inl kept) = record { first = first; rest = event ∷ rest; are = are; field = kept ∙ ap (λ (fields : Fields). fields name) is }
    by (inr set) = record {
      first = first ++ event ∷ [];
      rest = rest;
      are = are ∙ sym (append_assoc first (event ∷ []) rest);
      field = set ∙ ap (λ (fields : Fields). fields_after_event event fields name) is
          ∙ ap (λ (fields : Fields). fields name) (sym (fields_after-append first (event ∷ []) old));
    }

-- one field after events came
abbrev field_after : List ℕ → List Data → Option SetField → Option SetField
field_after name [] kept = kept
field_after name (event ∷ rest) kept = field_after name rest (newest kept (number_in event) (brought name event))

field_at : (events : List Data) (fields : Fields) (name : List ℕ) → fields_after events fields name ≡ field_after name events (fields name)
unfolding fields_after_event
field_at [] fields name = refl
field_at (event ∷ rest) fields name = field_at rest (fields_after_event event fields) name

-- what holds of a field as it was, and as the event sets it, holds of it after the event
newest_of : (P : Option SetField → Type 0) (kept : Option SetField) (number : ℕ) (found : Option Data) → P kept
    → ((value : Data) → found ≡ Some value → P (Some (number, value))) → P (newest kept number found)
newest_of P kept number None stays sets = stays
newest_of P kept number (Some value) stays sets = by (is_set_later kept number)
  where
    by : (b : Bool) → P (cond b kept (Some (number, value)))
    by true = stays
    by false = sets value refl

-- a field that was set is set
set_after : (name : List ℕ) (events : List Data) (one : SetField) → IsSome (field_after name events (Some one))
set_after name [] one = refl
set_after name (event ∷ rest) one =
    newest_of (λ kept. IsSome (field_after name rest kept)) (Some one) (number_in event) (brought name event) (set_after name rest one)
    (λ value is. set_after name rest (number_in event, value))

quiet_step : (name : List ℕ) (rest : List Data) (number : ℕ) (kept : Option SetField) (found : Option Data)
    → (field_after name rest None ≡ None → field_after name rest kept ≡ kept)
    → field_after name rest (newest None number found) ≡ None → field_after name rest (newest kept number found) ≡ kept
quiet_step name rest number kept None later none = later none
quiet_step name rest number kept (Some value) later none = absurd (false≢true (sym (ap is_some none) ∙ set_after name rest (number, value)))

quiet_at : (name : List ℕ) (events : List Data) (kept : Option SetField) → field_after name events None ≡ None → field_after name events kept ≡ kept
quiet_at name [] kept none = refl
quiet_at name (event ∷ rest) kept none = quiet_step name rest (number_in event) kept (brought name event) (quiet_at name rest kept) none

-- events that set nothing where nothing was set leave the fields
pub quiet_fields : (events : List Data) (fields : Fields) → fields_after events no_fields ≡ no_fields → fields_after events fields ≡ fields
unfolding no_fields
quiet_fields events fields none =
    fun_ext (λ name. field_at events fields name ∙ quiet_at name events (fields name) (sym (field_at events no_fields name) ∙ ap (λ (f : Fields). f name) none))

-- ---- The last event

-- events up to that of this number set the field no later
early : (name : List ℕ) (events : List Data) (number : ℕ) (kept : Option SetField) → is_set_later kept number ≡ false
    → AllByRecursion (λ other. IsSome (brought name other) → number_in other ≤ number) events → is_set_later (field_after name events kept) number ≡ false
early name [] number kept not_yet below = not_yet
early name (event ∷ rest) number kept not_yet below =
    newest_of (λ one. is_set_later (field_after name rest one) number ≡ false) kept (number_in event) (brought name event)
    (early name rest number kept not_yet below.1)
    (λ value is. early name rest number (Some (number_in event, value)) (le-ltb number (number_in event) (below.0 (ap is_some is))) below.1)

keeps : (number below : ℕ) (value : Data) (found : Option Data) → (IsSome found → below < number)
    → newest (Some (number, value)) below found ≡ Some (number, value)
keeps number below value None less = refl
keeps number below value (Some other) less = ap (λ b. cond b (Some (number, value)) (Some (below, other))) (lt-ltb below number (less refl))

-- events before that of this number leave what it set
late : (name : List ℕ) (events : List Data) (number : ℕ) (value : Data)
    → AllByRecursion (λ other. IsSome (brought name other) → number_in other < number) events
    → field_after name events (Some (number, value)) ≡ Some (number, value)
late name [] number value below = refl
late name (event ∷ rest) number value below =
    ap (field_after name rest) (keeps number (number_in event) value (brought name event) below.0) ∙ late name rest number value below.1

field_after-append : (name : List ℕ) (before after : List Data) (kept : Option SetField) → field_after name (before ++ after) kept ≡ field_after name after (field_after name before kept)
field_after-append name [] after kept = refl
field_after-append name (event ∷ rest) after kept = field_after-append name rest after (newest kept (number_in event) (brought name event))

pub last_event : LastEventSets
unfolding no_fields
last_event name before after event value brings below above =
    let number = number_in event in
    let kept = field_after name before None in
    field_at (before ++ event ∷ after) no_fields name
    ∙ field_after-append name before (event ∷ after) None
    ∙ ap (λ found. field_after name after (newest kept number found)) brings
    ∙ ap (λ b. field_after name after (cond b kept (Some (number, value)))) (early name before number None refl below)
    ∙ late name after number value above

unset : (name : List ℕ) (events : List Data) → AllByRecursion (λ event. brought name event ≡ None) events → field_after name events None ≡ None
unset name [] none = refl
unset name (event ∷ rest) none = ap (λ found. field_after name rest (newest None (number_in event) found)) none.0 ∙ unset name rest none.1

pub nothing_else_sets : NothingElseSets
unfolding no_fields
nothing_else_sets name events none = field_at events no_fields name ∙ unset name events none

-- ---- The header as it goes out

-- whether a field is kept
pub none_kept : (es : List (String Global × Field)) → eqb (length es) 0 ≡ is_none (with_fields (members_of es))
none_kept [] = refl
none_kept (e ∷ es) = ne_eqb (length (e ∷ es)) 0 (λ (h : length (e ∷ es) ≡ 0). omega (arith, h))

pub none_if : (header : Option Data) → true ≡ is_none header → None ≡ header
none_if None is = refl
none_if (Some d) is = absurd (true≢false is)

pub some_if : (members : Members) → false ≡ is_none (with_fields members)
    → Some (object (member (codes "fields") (object members) no_members)) ≡ with_fields members
some_if no_members is = absurd (false≢true is)
some_if (member name d rest) is = refl

nothing_at : (es : List (String Global × Field)) → None ≡ with_fields (members_of es) → (test : String Global → Bool) → option_map set_in (lookup test es) ≡ None
nothing_at [] none test = refl
nothing_at (e ∷ es) none test = absurd (none-some _ none)

-- where no header goes out no field is set
pub no_header : (header : Header) → None ≡ header_of header → fields_of header ≡ no_fields
unfolding fields_of no_fields
no_header header none = fun_ext (λ name. nothing_at header.fields.entries none (is_at (λ k. slice_cmp nat_cmp name (string_bytes k))))

found_at : (o : Ordering) (one : Field) (rest : Option Field) (d : Option Data) → d ≡ option_map (λ kept. kept.1) (option_map set_in rest)
    → match_ordering o d (Some (view one.value)) d ≡ option_map (λ kept. kept.1) (option_map set_in (cond (is_eq o) (Some one) rest))
found_at Less one rest d is = is
found_at Equal one rest d is = refl
found_at Greater one rest d is = is

found_field : (name : List ℕ) (es : List (String Global × Field))
    → get_member name (members_of es) ≡ option_map (λ kept. kept.1) (option_map set_in (lookup (is_at (λ k. slice_cmp nat_cmp name (string_bytes k))) es))
found_field name [] = refl
found_field name (e ∷ es) = found_at (slice_cmp nat_cmp name (string_bytes e.0)) e.1 _ _ (found_field name es)

in_header : (name : List ℕ) (members : Members) → value_in name (with_fields members) ≡ get_member name members
unfolding field
in_header name no_members = refl
in_header name (member n d rest) = refl

pub each_field : EachFieldGoesOn
unfolding fields_of
each_field seen name =
    let entries = seen.header.fields.entries in
    in_header name (members_of entries) ∙ found_field name entries
