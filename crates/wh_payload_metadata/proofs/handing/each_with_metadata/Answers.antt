use Rattle.std.proofs.Common.{map, take_all, sym, ap, ◌∙◌, arith}
use Rattle.serde_json.specs.View.{view, items_of, items_view, members_view}
use Rattle.wh_payload_metadata.specs.Handed.{with_metadata, each_with_metadata}
use Rattle.wh_payload_metadata.proofs.Walks.{each_with_metadata-items_view}
use Rattle.wh_payload_metadata.proofs.handing.each_with_metadata.Goals as goal

pub returns : goal.returns
returns c =
    let l = c.loop-payload in
    let xs = c.deref-payload-items.result.now in
    let seen = members_view c.args.seen.now.entries in
    ap items_of l.invariant
    ∙ ap (λ ys. items_of (map (λ p. with_metadata seen (view p)) ys)) (take_all l.payload-index xs (omega arith))
    ∙ sym (each_with_metadata-items_view seen xs)
    ∙ ap (λ ys. each_with_metadata seen (items_view ys)) c.deref-payload-items.ensures.value
