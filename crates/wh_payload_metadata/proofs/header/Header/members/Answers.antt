use Rattle.std.proofs.Common.{◌≡◌, [], ◌∷◌, ◌++◌, String, Global, string_bytes, string_cmp, sym, ap, ◌∙◌, subst, append_assoc}
use Rattle.std.specs.List.Sorted.{IsStrictlySortedBy}
use Rattle.std.specs.Map.{keys_of}
use Rattle.serde_json.specs.Data.{put}
use Rattle.serde_json.specs.View.{view, members_view}
use Rattle.wh_payload_metadata.specs.declared.header.Field.{Field}
use Rattle.wh_payload_metadata.proofs.Walks.{put_last_by}
use Rattle.wh_payload_metadata.proofs.header.Header.members.Goals as goal

pub loop-name-preserved : goal.loop-name-preserved
loop-name-preserved c =
    let l = c.loop-name in
    let done = l.invariant.0 in
    let e : String Global × Field = (c.in-Some.name.now, c.in-Some.field.now) in
    let left = c.next.new.self in
    let all : c.args.self.now.fields.entries ≡ done ++ e ∷ left = l.invariant.1 ∙ ap (λ es. done ++ es) c.in-Some.ensures.steps in
    let last = put_last_by (λ (entry : String Global × Field). view entry.1.value) done e left
    (subst (λ es. IsStrictlySortedBy string_cmp (keys_of es)) all c.iter-name-items.ensures.ordered) in
    let before = members_view l.members.entries in (
      done ++ e ∷ [],
      all ∙ sym (append_assoc done (e ∷ []) left),
      c.in_ok-put.ensures.ok
          ∙ ap (λ name. put name (view c.in_ok-copy.copy) before) c.as_str.ensures.value
          ∙ ap (λ d. put (string_bytes e.0) d before) c.in_ok-copy.ensures.cases
          ∙ ap (put (string_bytes e.0) (view e.1.value)) l.invariant.2 ∙ last,
    )
