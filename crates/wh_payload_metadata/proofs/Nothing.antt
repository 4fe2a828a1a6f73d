-- Where nothing is noted of what came, nothing changes of what was seen before.
use Rattle.std.proofs.Common.{◌≡◌, ℕ, List, [], ◌∷◌, Bool, true, false, cond, Option, Some, None, Ordering, Less, Equal, Greater, nat_cmp, refl, sym, ap, ◌∙◌}
use Rattle.std.proofs.lemmas.Bool.{false≢true}
use Rattle.std.specs.Cmp.Lexicographic.{slice_cmp}
use Rattle.std.specs.Ordering.{match_ordering}
use Rattle.serde_json.specs.Data.{Data, Members, no_members, member, put}
use Rattle.wh_payload_metadata.specs.Payloads.{payloads_of, data_of, metadata_of, have_more}
use Rattle.wh_payload_metadata.specs.Seen.{noted_metadata, noted, all_noted, is_nothing}
use Rattle.wh_payload_metadata.specs.Kept.{metadata_after}

abbrev has_member : Members → Bool
has_member no_members = false
has_member (member name d rest) = true

has-put_at : (o : Ordering) (k l : List ℕ) (d e : Data) (ms : Members)
    → has_member (match_ordering o (member k d (member l e ms)) (member l d ms) (member l e (put k d ms))) ≡ true
has-put_at Less k l d e ms = refl
has-put_at Equal k l d e ms = refl
has-put_at Greater k l d e ms = refl

has-put : (k : List ℕ) (d : Data) (ms : Members) → has_member (put k d ms) ≡ true
has-put k d no_members = refl
has-put k d (member l e ms) = has-put_at (slice_cmp nat_cmp k l) k l d e ms

has-noted_if : (b : Bool) (k : List ℕ) (m : Data) (seen : Members) → has_member seen ≡ true → has_member (cond b (put k m seen) seen) ≡ true
has-noted_if true k m seen has = has-put k m seen
has-noted_if false k m seen has = has

has-noted_at : (found : Option Data) (k : List ℕ) (seen : Members) → has_member seen ≡ true → has_member (noted_metadata k found seen) ≡ true
has-noted_at None k seen has = has
has-noted_at (Some m) k seen has = has-noted_if (have_more m) k m seen has

has-all_noted : (ps : List Data) (seen : Members) → has_member seen ≡ true → has_member (all_noted ps seen) ≡ true
has-all_noted [] seen has = has
has-all_noted (p ∷ ps) seen has = has-all_noted ps (noted p seen) (has-noted_at (metadata_of p) (data_of p) seen has)

quiet_if : (b : Bool) (k : List ℕ) (m : Data) (ps : List Data) (seen : Members) → (all_noted ps no_members ≡ no_members → all_noted ps seen ≡ seen)
    → all_noted ps (cond b (put k m no_members) no_members) ≡ no_members → all_noted ps (cond b (put k m seen) seen) ≡ seen
quiet_if true k m ps seen later none = absurd (false≢true (sym (ap has_member none) ∙ has-all_noted ps (member k m no_members) refl))
quiet_if false k m ps seen later none = later none

quiet_at : (found : Option Data) (k : List ℕ) (ps : List Data) (seen : Members) → (all_noted ps no_members ≡ no_members → all_noted ps seen ≡ seen)
    → all_noted ps (noted_metadata k found no_members) ≡ no_members → all_noted ps (noted_metadata k found seen) ≡ seen
quiet_at None k ps seen later none = later none
quiet_at (Some m) k ps seen later none = quiet_if (have_more m) k m ps seen later none

-- payloads of which nothing is noted where nothing was seen leave what was seen
pub quiet : (ps : List Data) (seen : Members) → all_noted ps no_members ≡ no_members → all_noted ps seen ≡ seen
quiet [] seen none = refl
quiet (p ∷ ps) seen none = quiet_at (metadata_of p) (data_of p) ps seen (quiet ps seen) none

-- what comes without something to note leaves the metadata that were seen
pub quiet_after : (came : Data) (seen : Members) → metadata_after came no_members ≡ no_members → metadata_after came seen ≡ seen
quiet_after came seen none = quiet (payloads_of came) seen none

-- where nothing was seen there is no header
pub nothing_header : (metadata : Members) (header : Option Data) → is_nothing metadata header ≡ true → None ≡ header
nothing_header metadata None nothing = refl
nothing_header metadata (Some d) nothing = absurd (false≢true nothing)
