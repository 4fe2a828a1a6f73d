-- Handing on reaches each payload, and each command that takes a header.
use Rattle.std.proofs.Common.{◌≡◌, ℕ, List, [], ◌∷◌, ◌++◌, Bool, true, false, cond, map, Option, Some, None, codes, refl, sym, ap, ap₂, ◌∙◌}
use Rattle.std.proofs.lemmas.List.{map-append}
use Rattle.serde_json.specs.Data.{Data, null, boolean, number, string, array, object, Items, no_items, item, Members, no_members, member}
use Rattle.serde_json.proofs.Views.{get_member-put}
use Rattle.wh_json.specs.Fields.{list_of}
use Rattle.wh_payload_metadata.specs.Payloads.{is_payloads, payloads_in, payloads_of, payloads_of_items, payloads_of_members, payloads_of_member}
use Rattle.wh_payload_metadata.specs.Handed.{with_member, with_metadata, each_with_metadata, list_with_metadata, takes_header, with_header, handed_on, items_handed_on, members_handed_on, member_handed_on}
use Rattle.wh_payload_metadata.specs.Laws.{EachPayloadGoesOn, HeaderGoesOn, HeaderGoesOnLast, header_in, headers_of, headers_of_items, headers_of_members}

-- two parts that are handed on are what both together are
both_map : {A : Type 0} (f : A → A) (xs ys cs ds : List A) → xs ≡ map f cs → ys ≡ map f ds → xs ++ ys ≡ map f (cs ++ ds)
both_map f xs ys cs ds first rest = ap₂ ◌++◌ first rest ∙ sym (map-append f cs ds)

-- ---- Payloads

each_in : (seen : Members) (ps : Items) → list_of (each_with_metadata seen ps) ≡ map (with_metadata seen) (list_of ps)
each_in seen no_items = refl
each_in seen (item p ps) = ap (λ ds. with_metadata seen p ∷ ds) (each_in seen ps)

list_in : (seen : Members) (d : Data) → payloads_in (list_with_metadata seen d) ≡ map (with_metadata seen) (payloads_in d)
list_in seen null = refl
list_in seen (boolean b) = refl
list_in seen (number n) = refl
list_in seen (string text) = refl
list_in seen (array ps) = each_in seen ps
list_in seen (object ms) = refl

-- no header changes nothing
no_header : (name : List ℕ) (d : Data) → with_header None name d ≡ d
no_header name d = by (takes_header name)
  where
    by : (b : Bool) → cond b (with_member (codes "header") None d) d ≡ d
    by true = refl
    by false = refl

value_in : (b : Bool) (seen : Members) (name : List ℕ) (d handed : Data) → payloads_of handed ≡ map (with_metadata seen) (payloads_of d)
    → cond b (payloads_in (cond b (list_with_metadata seen d) (with_header None name handed))) (payloads_of (cond b (list_with_metadata seen d) (with_header None name handed)))
    ≡ map (with_metadata seen) (cond b (payloads_in d) (payloads_of d))
value_in true seen name d handed same = list_in seen d
value_in false seen name d handed same = ap payloads_of (no_header name handed) ∙ same

mutual
  pub each_payload : EachPayloadGoesOn
  each_payload seen null = refl
  each_payload seen (boolean b) = refl
  each_payload seen (number n) = refl
  each_payload seen (string text) = refl
  each_payload seen (array items) = items_payload seen items
  each_payload seen (object ms) = members_payload seen ms

  items_payload : (seen : Members) (items : Items) → payloads_of_items (items_handed_on seen None items) ≡ map (with_metadata seen) (payloads_of_items items)
  items_payload seen no_items = refl
  items_payload seen (item d rest) =
      both_map (with_metadata seen) _ _ (payloads_of d) (payloads_of_items rest) (each_payload seen d) (items_payload seen rest)

  members_payload : (seen : Members) (ms : Members) → payloads_of_members (members_handed_on seen None ms) ≡ map (with_metadata seen) (payloads_of_members ms)
  members_payload seen no_members = refl
  members_payload seen (member name d rest) =
      both_map (with_metadata seen) (payloads_of_member name (member_handed_on seen None name d)) (payloads_of_members (members_handed_on seen None rest))
      (payloads_of_member name d) (payloads_of_members rest)
      (value_in (is_payloads name) seen name d (handed_on seen None d) (each_payload seen d)) (members_payload seen rest)

-- ---- Headers

abbrev headers_in : List ℕ → Data → List (Option Data)
headers_in name d = cond (is_payloads name) [] (cond (takes_header name) (header_in d) (headers_of d))

-- the attributes of a command are handed on as an object, if they are one
taken : (header : Data) (seen : Members) (d : Data)
    → header_in (with_member (codes "header") (Some header) (handed_on seen (Some header) d)) ≡ map (λ _. Some header) (header_in d)
taken header seen null = refl
taken header seen (boolean b) = refl
taken header seen (number n) = refl
taken header seen (string text) = refl
taken header seen (array items) = refl
taken header seen (object ms) = ap (λ found. found ∷ []) (get_member-put (codes "header") header (members_handed_on seen (Some header) ms))

value_headers : (b takes : Bool) (seen : Members) (header d : Data)
    → headers_of (handed_on seen (Some header) d) ≡ map (λ _. Some header) (headers_of d)
    → (let handed = cond b (list_with_metadata seen d) (cond takes (with_member (codes "header") (Some header) (handed_on seen (Some header) d)) (handed_on seen (Some header) d))
    in cond b [] (cond takes (header_in handed) (headers_of handed)))
    ≡ map (λ _. Some header) (cond b [] (cond takes (header_in d) (headers_of d)))
value_headers true takes seen header d same = refl
value_headers false true seen header d same = taken header seen d
value_headers false false seen header d same = same

mutual
  pub each_header : HeaderGoesOn
  each_header seen header null = refl
  each_header seen header (boolean b) = refl
  each_header seen header (number n) = refl
  each_header seen header (string text) = refl
  each_header seen header (array items) = items_header seen header items
  each_header seen header (object ms) = members_header seen header ms

  items_header : (seen : Members) (header : Data) (items : Items)
      → headers_of_items (items_handed_on seen (Some header) items) ≡ map (λ _. Some header) (headers_of_items items)
  items_header seen header no_items = refl
  items_header seen header (item d rest) =
      both_map (λ _. Some header) _ _ (headers_of d) (headers_of_items rest) (each_header seen header d) (items_header seen header rest)

  members_header : (seen : Members) (header : Data) (ms : Members)
      → headers_of_members (members_handed_on seen (Some header) ms) ≡ map (λ _. Some header) (headers_of_members ms)
  members_header seen header no_members = refl
  members_header seen header (member name d rest) =
      both_map (λ _. Some header) (headers_in name (member_handed_on seen (Some header) name d)) (headers_of_members (members_handed_on seen (Some header) rest))
      (headers_in name d) (headers_of_members rest)
      (value_headers (is_payloads name) (takes_header name) seen header d (each_header seen header d)) (members_header seen header rest)

-- ---- One after the other

nothing_seen : (p : Data) → with_metadata no_members p ≡ p
nothing_seen p = refl

each_unseen : (ps : Items) → each_with_metadata no_members ps ≡ ps
each_unseen no_items = refl
each_unseen (item p ps) = ap₂ item (nothing_seen p) (each_unseen ps)

list_unseen : (d : Data) → list_with_metadata no_members d ≡ d
list_unseen null = refl
list_unseen (boolean b) = refl
list_unseen (number n) = refl
list_unseen (string text) = refl
list_unseen (array ps) = ap array (each_unseen ps)
list_unseen (object ms) = refl

value_last : (b : Bool) (seen : Members) (header : Option Data) (name : List ℕ) (d : Data)
    → handed_on seen header d ≡ handed_on no_members header (handed_on seen None d)
    → cond b (list_with_metadata seen d) (with_header header name (handed_on seen header d))
    ≡ (let first = cond b (list_with_metadata seen d) (with_header None name (handed_on seen None d))
    in cond b (list_with_metadata no_members first) (with_header header name (handed_on no_members header first)))
value_last true seen header name d same = sym (list_unseen (list_with_metadata seen d))
value_last false seen header name d same =
    ap (with_header header name) (same ∙ ap (handed_on no_members header) (sym (no_header name (handed_on seen None d))))

mutual
  pub header_last : HeaderGoesOnLast
  header_last seen header null = refl
  header_last seen header (boolean b) = refl
  header_last seen header (number n) = refl
  header_last seen header (string text) = refl
  header_last seen header (array items) = ap array (items_last seen header items)
  header_last seen header (object ms) = ap object (members_last seen header ms)

  items_last : (seen : Members) (header : Option Data) (items : Items)
      → items_handed_on seen header items ≡ items_handed_on no_members header (items_handed_on seen None items)
  items_last seen header no_items = refl
  items_last seen header (item d rest) = ap₂ item (header_last seen header d) (items_last seen header rest)

  members_last : (seen : Members) (header : Option Data) (ms : Members)
      → members_handed_on seen header ms ≡ members_handed_on no_members header (members_handed_on seen None ms)
  members_last seen header no_members = refl
  members_last seen header (member name d rest) =
      ap₂ (member name) (value_last (is_payloads name) seen header name d (header_last seen header d)) (members_last seen header rest)
