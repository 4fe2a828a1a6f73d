-- Metadata that were noted last with some data are found for a payload of the same data and encoding.
use Rattle.std.proofs.Common.{◌≡◌, ◌≢◌, ℕ, List, [], ◌∷◌, ◌++◌, Bool, true, false, cond, Option, Some, None, IsSome, codes, refl, sym, ap, ◌∙◌}
use Rattle.std.proofs.lemmas.Slice.Eq.{bytes_eq-Decides}
use Rattle.std.proofs.lemmas.Bool.{true≢false, false≢true}
use Rattle.std.specs.List.{AllByRecursion}
use Rattle.serde_json.specs.Data.{Data, null, boolean, number, string, array, object, Members, put}
use Rattle.serde_json.specs.Find.{get_member, as_object}
use Rattle.serde_json.proofs.Views.{get_member-put, get_member-put_other}
use Rattle.wh_json.specs.Fields.{field, unless_null}
use Rattle.wh_payload_metadata.specs.Payloads.{data_of, metadata_of, encoding_in, have_more}
use Rattle.wh_payload_metadata.specs.Seen.{noted_metadata, noted, all_noted}
use Rattle.wh_payload_metadata.specs.Handed.{of_encoding, metadata_for, with_member}
use Rattle.wh_payload_metadata.specs.Laws.{MetadataGoOn}
use Rattle.wh_payload_metadata.proofs.Walks.{all_noted-append}

-- metadata of other data leave what was noted
noted-other_if : (b : Bool) (k l : List ℕ) (m : Data) (seen : Members) → k ≢ l → get_member k (cond b (put l m seen) seen) ≡ get_member k seen
noted-other_if true k l m seen other = get_member-put_other k l m seen other
noted-other_if false k l m seen other = refl

noted-other_at : (found : Option Data) (k l : List ℕ) (seen : Members) → k ≢ l → get_member k (noted_metadata l found seen) ≡ get_member k seen
noted-other_at None k l seen other = refl
noted-other_at (Some m) k l seen other = noted-other_if (have_more m) k l m seen other

all_noted-other : (k : List ℕ) (after : List Data) (seen : Members) → AllByRecursion (λ later. data_of later ≢ k) after → get_member k (all_noted after seen) ≡ get_member k seen
all_noted-other k [] seen others = refl
all_noted-other k (d ∷ after) seen others =
    all_noted-other k after (noted d seen) others.1 ∙ noted-other_at (metadata_of d) k (data_of d) seen (λ same. others.0 (sym same))

noted-itself : (came metadata : Data) (seen : Members) → metadata_of came ≡ Some metadata → have_more metadata ≡ true → get_member (data_of came) (noted came seen) ≡ Some metadata
noted-itself came metadata seen has more =
    ap (λ found. get_member (data_of came) (noted_metadata (data_of came) found seen)) has
    ∙ ap (λ b. get_member (data_of came) (cond b (put (data_of came) metadata seen) seen)) more
    ∙ get_member-put (data_of came) metadata seen

-- what has more than an encoding is an object
kept_object : (metadata : Data) → have_more metadata ≡ true → unless_null (Some metadata) ≡ Some metadata
kept_object null more = absurd (true≢false (sym more))
kept_object (boolean b) more = refl
kept_object (number n) more = refl
kept_object (string text) more = refl
kept_object (array items) more = refl
kept_object (object ms) more = refl

put_found : (goes metadata : Data) → IsSome (as_object goes) → have_more metadata ≡ true → metadata_of (with_member (codes "metadata") (Some metadata) goes) ≡ Some metadata
unfolding field
put_found null metadata is more = absurd (false≢true is)
put_found (boolean b) metadata is more = absurd (false≢true is)
put_found (number n) metadata is more = absurd (false≢true is)
put_found (string text) metadata is more = absurd (false≢true is)
put_found (array items) metadata is more = absurd (false≢true is)
put_found (object ms) metadata is more = ap unless_null (get_member-put (codes "metadata") metadata ms) ∙ kept_object metadata more

pub go_on : MetadataGoOn
go_on seen before after came goes metadata has more others is same encoding =
    let k = data_of came in
    let start = all_noted before seen in
    let found : get_member k (all_noted (before ++ came ∷ after) seen) ≡ Some metadata =
    ap (get_member k) (all_noted-append before (came ∷ after) seen) ∙ all_noted-other k after (noted came start) others ∙ noted-itself came metadata start has more in
    let whole = all_noted (before ++ came ∷ after) seen in
    let chosen : metadata_for whole goes ≡ Some metadata =
    ap (λ d. of_encoding (encoding_in (metadata_of goes)) (get_member d whole)) same
    ∙ ap (of_encoding (encoding_in (metadata_of goes))) found
    ∙ ap (λ b. cond b (Some metadata) None) ((bytes_eq-Decides (encoding_in (Some metadata)) (encoding_in (metadata_of goes))).1 (sym encoding)) in
    ap (λ m. metadata_of (with_member (codes "metadata") m goes)) chosen ∙ put_found goes metadata is more
