use Rattle.std.proofs.Common.{◌≡◌, ◌+◌, [], ◌∷◌, drop, map, subst, sym, ap, ◌∙◌, arith}
use Rattle.std.proofs.lemmas.List.{drop_all, drop_more}
use Rattle.serde_json.specs.View.{view, members_view}
use Rattle.wh_payload_metadata.specs.Seen.{AreNotedFirst, all_noted}
use Rattle.wh_payload_metadata.proofs.Setting.{on_error}
use Rattle.wh_payload_metadata.proofs.Walks.{AreNoted, list_of-items_view, noted_more, noted_until}
use Rattle.wh_payload_metadata.proofs.noting.note_list.Goals as goal

pub returns-clause-noted : goal.returns-clause-noted
returns-clause-noted c =
    let l = c.loop-payload in
    let xs = c.deref-payload-items.result.now in
    let none : drop l.payload-index xs ≡ [] = drop_all l.payload-index xs (omega arith) in
    let seen = members_view c.args.seen.now.entries in
    sym (ap (λ ys. all_noted (map view ys) (members_view l.seen.entries)) none) ∙ l.invariant.0
    ∙ ap (λ ys. all_noted (map view ys) seen) c.deref-payload-items.ensures.value
    ∙ sym (ap (λ ds. all_noted ds seen) (list_of-items_view c.args.payloads.now.items))

pub loop-payload-preserved : goal.loop-payload-preserved
loop-payload-preserved c =
    let l = c.loop-payload in
    let xs = c.deref-payload-items.result.now in
    let x = c.payload-item.result in
    let rest = drop (l.payload-index + 1) xs in
    let here : drop l.payload-index xs ≡ x ∷ rest = drop_more xs l.payload-index x (omega arith) ∙ ap (λ y. y ∷ rest) (sym c.payload-item.is) in
    let old = members_view c.args.seen.now.entries in
    let now = members_view l.seen.entries in
    let all = map view xs in (
      ap (all_noted (map view rest)) c.in_ok-note_payload.ensures.noted ∙ ap (λ ys. all_noted (map view ys) now) (sym here) ∙ l.invariant.0,
      noted_more all (view x ∷ []) (map view rest) old now (members_view c.note_payload.new.seen.entries)
          (subst (λ ys. AreNoted all (map view ys) old now) here l.invariant.1) c.in_ok-note_payload.ensures.noted,
    )

pub returns-in_err-note_payload-clause-some : goal.returns-in_err-note_payload-clause-some
returns-in_err-note_payload-clause-some c =
    let l = c.loop-payload in
    let old = members_view c.args.seen.now.entries in
    let are = ap (map view) c.deref-payload-items.ensures.value ∙ sym (list_of-items_view c.args.payloads.now.items) in
    on_error c.from_residual.result
    (subst (λ ps. AreNotedFirst ps old (members_view c.note_payload.new.seen.entries)) are
    (noted_until (map view c.deref-payload-items.result.now) (map view (drop l.payload-index c.deref-payload-items.result.now)) old _ _ l.invariant.1
    (ap members_view c.in_err-note_payload.ensures.unnoted)))
