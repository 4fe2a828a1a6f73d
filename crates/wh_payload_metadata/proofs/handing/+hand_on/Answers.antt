use Rattle.std.proofs.Common.{◌≡◌, [], ◌∷◌, ◌++◌, map, take_all, option_map, string_bytes, cond, sym, ap, ◌∙◌, subst, append_assoc, arith}
use Rattle.std.specs.List.Sorted.{IsStrictlySortedBy}
use Rattle.std.specs.Map.{keys_of}
use Rattle.std.specs.String.{string_cmp}
use Rattle.serde_json.specs.Data.{members_depth}
use Rattle.serde_json.specs.View.{view, items_of, items_view, members_view}
use Rattle.serde_json.proofs.Views.{Entry, members_view-insert_entry}
use Rattle.wh_payload_metadata.specs.Payloads.{is_payloads}
use Rattle.wh_payload_metadata.specs.Handed.{list_with_metadata, with_header, handed_on, items_handed_on, member_handed_on}
use Rattle.wh_payload_metadata.proofs.Walks.{items_handed_on-items_view, put_last_handed, array_depth, object_depth, item_depth, depth_within}
use Rattle.wh_payload_metadata.proofs.handing.+hand_on.Goals as goal
use Rattle.wh_payload_metadata.proofs.handing.+hand_on.Goals.{hand_members_on-then-is_payloads+in_ok-member, hand_members_on-else-is_payloads+in_ok-plain+in_ok-member-2}

pub hand_items_on-returns : goal.hand_items_on-returns
hand_items_on-returns t c =
    let l = c.loop-item in
    let xs = c.deref-item-items.result.now in
    let seen = members_view c.args.seen.now.entries in
    let header = option_map (λ h. view h.now) c.args.header in
    ap items_of l.invariant
    ∙ ap (λ ys. items_of (map (λ d. handed_on seen header (view d)) ys)) (take_all l.item-index xs (omega arith))
    ∙ sym (items_handed_on-items_view seen header xs)
    ∙ ap (λ ys. items_handed_on seen header (items_view ys)) c.deref-item-items.ensures.value

pub hand_members_on-loop-name-preserved : goal.hand_members_on-loop-name-preserved
hand_members_on-loop-name-preserved t c =
    let l = c.loop-name in
    let seen = members_view c.args.seen.now.entries in
    let header = option_map (λ h. view h.now) c.args.header in
    let done = l.invariant.0 in
    let e : Entry = (c.in-Some.name.now, c.in-Some.value.now) in
    let left = c.next.new.self in
    let all : c.args.members.now.entries ≡ done ++ e ∷ left = l.invariant.1 ∙ ap (λ es. done ++ es) c.in-Some.ensures.steps in
    let last = put_last_handed seen header done e left (subst (λ es. IsStrictlySortedBy string_cmp (keys_of es)) all c.iter-name-items.ensures.ordered) in
    let named : string_bytes c.in_ok-copy.copy ≡ string_bytes e.0 = c.in_ok-copy.ensures.cases in
    let handed : view c.if-is_payloads.member ≡ member_handed_on seen header (string_bytes e.0) (view e.1) =
    elim c.if-is_payloads.branch [
      | hand_members_on-then-is_payloads+in_ok-member w ↦
          let is = w.if-is_payloads.ensures ∙ ap is_payloads c.as_str.ensures.value in
          ap view w.member-is ∙ w.in_ok-member.ensures
          ∙ ap (λ b. cond b (list_with_metadata seen (view e.1)) (with_header header (string_bytes e.0) (handed_on seen header (view e.1)))) is
      | hand_members_on-else-is_payloads+in_ok-plain+in_ok-member-2 w ↦
          let is = w.if-is_payloads.ensures ∙ ap is_payloads c.as_str.ensures.value in
          ap view w.member-is ∙ w.in_ok-member-2.ensures
          ∙ ap (λ n. with_header header n (view w.in_ok-plain.plain)) w.as_str-else-is_payloads.ensures.value
          ∙ ap (with_header header (string_bytes e.0)) w.in_ok-plain.ensures
          ∙ ap (λ b. cond b (list_with_metadata seen (view e.1)) (with_header header (string_bytes e.0) (handed_on seen header (view e.1)))) is
    ] in (
      done ++ e ∷ [],
      all ∙ sym (append_assoc done (e ∷ []) left),
      ap members_view c.in_ok-insert.ensures.entries ∙ members_view-insert_entry l.handed.entries c.in_ok-copy.copy c.if-is_payloads.member ∙ rw (named, handed, l.invariant.2) last,
    )

pub hand_on-hand_items_on-requires : goal.hand_on-hand_items_on-requires
hand_on-hand_items_on-requires t c = (omega (arith, c.decreases, array_depth _ _ c.in-Array.is), tt)

pub hand_on-hand_members_on-requires : goal.hand_on-hand_members_on-requires
hand_on-hand_members_on-requires t c = (omega (arith, c.decreases, object_depth _ _ c.in-Object.is), tt)

pub hand_items_on-hand_on-requires : goal.hand_items_on-hand_on-requires
hand_items_on-hand_on-requires t c =
    let deep = item_depth _ c.deref-item-items.result.now c.loop-item.item-index _ c.deref-item-items.ensures.value c.item-item.is (omega arith) in
    (omega (arith, c.decreases, deep), tt)

pub hand_members_on-hand_on-requires : goal.hand_members_on-hand_on-requires
hand_members_on-hand_on-requires t c =
    let done = c.loop-name.invariant.0 in
    let e : Entry = (c.in-Some.name.now, c.in-Some.value.now) in
    let left = c.next.new.self in
    let all : c.args.members.now.entries ≡ done ++ e ∷ left = c.loop-name.invariant.1 ∙ ap (λ es. done ++ es) c.in-Some.ensures.steps in
    (omega (arith, c.decreases, ap (λ es. members_depth (members_view es)) all, depth_within done e left), tt)
