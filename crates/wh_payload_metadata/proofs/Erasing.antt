-- What is erased of a request that is handed on is all that changed in it.
use Rattle.std.proofs.Common.{◌≡◌, ℕ, List, Bool, true, false, cond, Option, Some, None, Ordering, Less, Equal, Greater, is_eq, codes, nat_cmp, bytes_eq, refl, sym, ap, ap₂, ◌∙◌}
use Rattle.std.proofs.lemmas.Cmp.{nat_list_cmp_total, tied_itself}
use Rattle.std.proofs.lemmas.Map.Text.{is_eq-slice_cmp}
use Rattle.std.proofs.lemmas.Option.{none-some}
use Rattle.std.proofs.lemmas.Slice.Eq.{bytes_eq-Decides}
use Rattle.std.specs.Cmp.Lexicographic.{slice_cmp}
use Rattle.std.specs.Ordering.{match_ordering}
use Rattle.serde_json.specs.Data.{Data, null, boolean, number, string, array, object, Items, no_items, item, Members, no_members, member, put}
use Rattle.serde_json.specs.Find.{get_member}
use Rattle.serde_json.proofs.Views.{get_member-put}
use Rattle.wh_json.specs.Fields.{field, unless_null}
use Rattle.wh_payload_metadata.specs.Payloads.{is_payloads, data_of, metadata_of, encoding_in}
use Rattle.wh_payload_metadata.specs.Handed.{of_encoding, metadata_for, with_member, with_metadata, each_with_metadata, list_with_metadata, takes_header, with_header, handed_on, items_handed_on, members_handed_on}
use Rattle.wh_payload_metadata.specs.Laws.{payload_erased, each_erased, list_erased, header_erased, erased, items_erased, members_erased}

same_text : (xs : List ℕ) → slice_cmp nat_cmp xs xs ≡ Equal
same_text xs = tied_itself nat_list_cmp_total xs

put_put_at : (o : Ordering) (k l : List ℕ) (d e x : Data) (ms : Members) → slice_cmp nat_cmp k l ≡ o → put k d (put k e ms) ≡ put k d ms
    → put k d (match_ordering o (member k e (member l x ms)) (member l e ms) (member l x (put k e ms)))
    ≡ match_ordering o (member k d (member l x ms)) (member l d ms) (member l x (put k d ms))
put_put_at Less k l d e x ms is later = rw (same_text k) refl
put_put_at Equal k l d e x ms is later = rw is refl
put_put_at Greater k l d e x ms is later = rw is (ap (member l x) later)

-- of two values that are put at a name the last one stays
pub put_put : (k : List ℕ) (d e : Data) (ms : Members) → put k d (put k e ms) ≡ put k d ms
put_put k d e no_members = rw (same_text k) refl
put_put k d e (member l x ms) = put_put_at _ k l d e x ms refl (put_put k d e ms)

encoding_unless_null : (m : Data) → encoding_in (unless_null (Some m)) ≡ encoding_in (Some m)
unfolding field
encoding_unless_null null = refl
encoding_unless_null (boolean b) = refl
encoding_unless_null (number n) = refl
encoding_unless_null (string text) = refl
encoding_unless_null (array items) = refl
encoding_unless_null (object ms) = refl

encoding-put : (m : Data) (ms : Members) → encoding_in (metadata_of (object (put (codes "metadata") m ms))) ≡ encoding_in (Some m)
unfolding field
encoding-put m ms = ap (λ found. encoding_in (unless_null found)) (get_member-put (codes "metadata") m ms) ∙ encoding_unless_null m

payload_erased-with : (found : Option Data) (p : Data) → ((m : Data) → found ≡ Some m → encoding_in (Some m) ≡ encoding_in (metadata_of p))
    → payload_erased (with_member (codes "metadata") found p) ≡ payload_erased p
payload_erased-with None p same = refl
payload_erased-with (Some m) null same = refl
payload_erased-with (Some m) (boolean b) same = refl
payload_erased-with (Some m) (number n) same = refl
payload_erased-with (Some m) (string text) same = refl
payload_erased-with (Some m) (array items) same = refl
payload_erased-with (Some m) (object ms) same =
    ap (λ encoding. object (put (codes "metadata") (string encoding) (put (codes "metadata") m ms))) (encoding-put m ms ∙ same m refl)
    ∙ ap object (put_put (codes "metadata") (string (encoding_in (metadata_of (object ms)))) m ms)

of_encoding-same : (encoding : List ℕ) (found : Option Data) (m : Data) → of_encoding encoding found ≡ Some m → encoding_in (Some m) ≡ encoding
of_encoding-same encoding None m is = absurd (none-some m is)
of_encoding-same encoding (Some d) m is = by (bytes_eq (encoding_in (Some d)) encoding) refl is
  where
    by : (b : Bool) → bytes_eq (encoding_in (Some d)) encoding ≡ b → cond b (Some d) None ≡ Some m → encoding_in (Some m) ≡ encoding
    by true e s = ap encoding_in (sym s) ∙ (bytes_eq-Decides (encoding_in (Some d)) encoding).0 e
    by false e s = absurd (none-some m s)

payload_same : (seen : Members) (p : Data) → payload_erased (with_metadata seen p) ≡ payload_erased p
payload_same seen p =
    payload_erased-with (metadata_for seen p) p (of_encoding-same (encoding_in (metadata_of p)) (get_member (data_of p) seen))

each_same : (seen : Members) (ps : Items) → each_erased (each_with_metadata seen ps) ≡ each_erased ps
each_same seen no_items = refl
each_same seen (item p ps) = ap₂ item (payload_same seen p) (each_same seen ps)

list_same : (seen : Members) (d : Data) → list_erased (list_with_metadata seen d) ≡ list_erased d
list_same seen null = refl
list_same seen (boolean b) = refl
list_same seen (number n) = refl
list_same seen (string text) = refl
list_same seen (array ps) = ap array (each_same seen ps)
list_same seen (object ms) = refl

abbrev value_erased : List ℕ → Data → Data
value_erased name d = cond (is_payloads name) (list_erased d) (header_erased name (erased d))

members_erased-put_at : (o : Ordering) (l : List ℕ) (h x : Data) (ms : Members) → slice_cmp nat_cmp (codes "header") l ≡ o
    → members_erased (put (codes "header") h ms) ≡ put (codes "header") (erased h) (members_erased ms)
    → members_erased (match_ordering o (member (codes "header") h (member l x ms)) (member l h ms) (member l x (put (codes "header") h ms)))
    ≡ match_ordering o (member (codes "header") (erased h) (members_erased (member l x ms))) (member l (erased h) (members_erased ms))
    (member l (value_erased l x) (put (codes "header") (erased h) (members_erased ms)))
members_erased-put_at Less l h x ms is later = refl
members_erased-put_at Equal l h x ms is later =
    let same : codes "header" ≡ l = (bytes_eq-Decides (codes "header") l).0 (sym (is_eq-slice_cmp (codes "header") l) ∙ ap is_eq is) in
    ap (λ d. member l d (members_erased ms)) (ap (λ n. value_erased n h) (sym same))
members_erased-put_at Greater l h x ms is later = ap (member l (value_erased l x)) later

-- a header is no list of payloads, and takes no header
members_erased-put : (h : Data) (ms : Members) → members_erased (put (codes "header") h ms) ≡ put (codes "header") (erased h) (members_erased ms)
members_erased-put h no_members = refl
members_erased-put h (member l x ms) = members_erased-put_at _ l h x ms refl (members_erased-put h ms)

null_put : (h : Data) (ms : Members)
    → put (codes "header") null (members_erased (put (codes "header") h ms)) ≡ put (codes "header") null (members_erased ms)
null_put h ms = ap (put (codes "header") null) (members_erased-put h ms) ∙ put_put (codes "header") null (erased h) (members_erased ms)

header_same_if : (b : Bool) (header : Option Data) (d : Data)
    → cond b (with_member (codes "header") (Some null) (erased (cond b (with_member (codes "header") header d) d))) (erased (cond b (with_member (codes "header") header d) d))
    ≡ cond b (with_member (codes "header") (Some null) (erased d)) (erased d)
header_same_if false header d = refl
header_same_if true None d = refl
header_same_if true (Some h) null = refl
header_same_if true (Some h) (boolean b) = refl
header_same_if true (Some h) (number n) = refl
header_same_if true (Some h) (string text) = refl
header_same_if true (Some h) (array items) = refl
header_same_if true (Some h) (object ms) = ap object (null_put h ms)

header_same : (header : Option Data) (name : List ℕ) (d : Data) → header_erased name (erased (with_header header name d)) ≡ header_erased name (erased d)
header_same header name d = header_same_if (takes_header name) header d

value_same_if : (b : Bool) (seen : Members) (header : Option Data) (name : List ℕ) (d handed : Data) → erased handed ≡ erased d
    → cond b (list_erased (cond b (list_with_metadata seen d) (with_header header name handed))) (header_erased name (erased (cond b (list_with_metadata seen d) (with_header header name handed))))
    ≡ cond b (list_erased d) (header_erased name (erased d))
value_same_if true seen header name d handed same = list_same seen d
value_same_if false seen header name d handed same = header_same header name handed ∙ ap (header_erased name) same

mutual
  pub nothing_else : (seen : Members) (header : Option Data) (request : Data) → erased (handed_on seen header request) ≡ erased request
  nothing_else seen header null = refl
  nothing_else seen header (boolean b) = refl
  nothing_else seen header (number n) = refl
  nothing_else seen header (string text) = refl
  nothing_else seen header (array items) = ap array (items_same seen header items)
  nothing_else seen header (object ms) = ap object (members_same seen header ms)

  items_same : (seen : Members) (header : Option Data) (items : Items) → items_erased (items_handed_on seen header items) ≡ items_erased items
  items_same seen header no_items = refl
  items_same seen header (item d rest) = ap₂ item (nothing_else seen header d) (items_same seen header rest)

  members_same : (seen : Members) (header : Option Data) (ms : Members) → members_erased (members_handed_on seen header ms) ≡ members_erased ms
  members_same seen header no_members = refl
  members_same seen header (member name d rest) =
      ap₂ (member name) (value_same_if (is_payloads name) seen header name d (handed_on seen header d) (nothing_else seen header d)) (members_same seen header rest)
