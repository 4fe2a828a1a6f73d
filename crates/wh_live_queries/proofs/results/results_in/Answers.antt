use Rattle.std.proofs.Common.{◌≡◌, [], ◌∷◌, ◌++◌, string_bytes, sym, ap, ◌∙◌, subst, append_assoc}
use Rattle.std.specs.List.Sorted.{IsStrictlySortedBy}
use Rattle.std.specs.Map.{keys_of}
use Rattle.std.specs.String.{string_cmp}
use Rattle.serde_json.specs.View.{members_view}
use Rattle.serde_json.proofs.Views.{Entry, members_view-insert_entry}
use Rattle.wh_live_queries.specs.Results.{written_result}
use Rattle.wh_live_queries.proofs.Mapping.{put_last}
use Rattle.wh_live_queries.proofs.results.results_in.Goals as goal

pub loop-id-preserved : goal.loop-id-preserved
loop-id-preserved g c =
    let l = c.loop-id in
    let done = l.invariant.0 in
    let e : Entry = (c.in-Some.id.now, c.in-Some.query.now) in
    let left = c.next.new.self in
    let all : c.args.queries.now.entries ≡ done ++ e ∷ left = l.invariant.1 ∙ ap (λ es. done ++ es) c.in-Some.ensures.steps in
    let written = written_result g.W.Queryable.queries g.W.Queryable.definitions c.args.kind.now c.args.left.now in
    let last = put_last written done e left (subst (λ es. IsStrictlySortedBy string_cmp (keys_of es)) all c.iter-id-items.ensures.ordered) in
    let named : string_bytes c.in_ok-name.name ≡ string_bytes e.0 = c.in_ok-name.ensures.cases in (
      done ++ e ∷ [],
      all ∙ sym (append_assoc done (e ∷ []) left),
      ap members_view c.in_ok-insert.ensures.entries ∙ members_view-insert_entry l.results.entries c.in_ok-name.name c.in_ok-written.written ∙ rw (named, c.in_ok-written.ensures, l.invariant.2) last,
    )
