use Rattle.std.proofs.Common.{◌≡◌, ◌+◌, ◌∷◌, drop, cond, string_bytes, subst, sym, ap, ◌∙◌, arith}
use Rattle.std.proofs.lemmas.List.{drop_more}
use Rattle.serde_json.specs.Data.{members_depth}
use Rattle.serde_json.specs.View.{view, items_view, members_view}
use Rattle.serde_json.proofs.Views.{Entry}
use Rattle.wh_payload_metadata.specs.Payloads.{is_payloads, payloads_in, payloads_of, payloads_of_items, payloads_of_member, payloads_of_members}
use Rattle.wh_payload_metadata.specs.Seen.{AreNotedFirst, all_noted}
use Rattle.wh_payload_metadata.proofs.Setting.{on_error}
use Rattle.wh_payload_metadata.proofs.Walks.{AreNoted, all_noted-append, member_noted, noted_after, noted_more, array_depth, object_depth, item_depth}
use Rattle.wh_payload_metadata.proofs.noting.+note.Goals as goal

pub note-note_items-requires : goal.note-note_items-requires
note-note_items-requires t c = (omega (arith, c.decreases, array_depth _ _ c.in-Array.is), tt)

pub note-note_members-requires : goal.note-note_members-requires
note-note_members-requires t c = (omega (arith, c.decreases, object_depth _ _ c.in-Object.is), tt)

pub note_items-note-requires : goal.note_items-note-requires
note_items-note-requires t c =
    let deep = item_depth _ c.deref-item-items.result.now c.loop-item.item-index _ c.deref-item-items.ensures.value c.item-item.is (omega arith) in
    (omega (arith, c.decreases, deep), tt)

pub note_members-note-requires : goal.note_members-note-requires
note_members-note-requires t c =
    let here = ap (λ es. members_depth (members_view es)) c.in-Some.ensures.steps in
    (omega (arith, c.decreases, here, c.loop-name.invariant.1), tt)

pub note_items-loop-item-preserved : goal.note_items-loop-item-preserved
note_items-loop-item-preserved t c =
    let l = c.loop-item in
    let xs = c.deref-item-items.result.now in
    let x = c.item-item.result in
    let rest = drop (l.item-index + 1) xs in
    let here : drop l.item-index xs ≡ x ∷ rest = drop_more xs l.item-index x (omega arith) ∙ ap (λ y. y ∷ rest) (sym c.item-item.is) in
    let left = payloads_of_items (items_view rest) in
    let old = members_view c.args.seen.now.entries in
    let now = members_view l.seen.entries in
    let all = payloads_of_items (items_view xs) in (
      ap (all_noted left) c.in_ok-note.ensures.noted
          ∙ sym (all_noted-append (payloads_of (view x)) left now)
          ∙ ap (λ ys. all_noted (payloads_of_items (items_view ys)) now) (sym here)
          ∙ l.invariant.0,
      noted_more all (payloads_of (view x)) left old now (members_view c.note.new.seen.entries)
          (subst (λ ys. AreNoted all (payloads_of_items (items_view ys)) old now) here l.invariant.1) c.in_ok-note.ensures.noted,
    )

pub note_items-returns-in_err-note-clause-some : goal.note_items-returns-in_err-note-clause-some
note_items-returns-in_err-note-clause-some t c =
    let l = c.loop-item in
    let xs = c.deref-item-items.result.now in
    let x = c.item-item.result in
    let rest = drop (l.item-index + 1) xs in
    let here : drop l.item-index xs ≡ x ∷ rest = drop_more xs l.item-index x (omega arith) ∙ ap (λ y. y ∷ rest) (sym c.item-item.is) in
    let left = payloads_of_items (items_view rest) in
    let old = members_view c.args.seen.now.entries in
    let now = members_view l.seen.entries in
    let all = payloads_of_items (items_view xs) in
    let new = members_view c.note.new.seen.entries in
    on_error c.from_residual.result
    (subst (λ vs. AreNotedFirst (payloads_of_items (items_view vs)) old new) c.deref-item-items.ensures.value
    (noted_after all (payloads_of (view x)) left old now new
    (subst (λ ys. AreNoted all (payloads_of_items (items_view ys)) old now) here l.invariant.1) c.in_err-note.ensures.some))

pub note_members-loop-name-preserved : goal.note_members-loop-name-preserved
note_members-loop-name-preserved t c =
    let l = c.loop-name in
    let e : Entry = (c.in-Some.name.now, c.in-Some.value.now) in
    let rest = c.next.new.self in
    let here = c.in-Some.ensures.steps in
    let is = c.if-is_payloads.ensures ∙ ap is_payloads c.as_str.ensures.value in
    let old = members_view c.args.seen.now.entries in
    let now = members_view l.seen.entries in
    let new = members_view c.note.new.seen.entries in
    let all = payloads_of_members (members_view c.args.members.now.entries) in
    let noted = c.in_ok-note.ensures.noted ∙ ap (λ b. all_noted (cond b (payloads_in (view e.1)) (payloads_of (view e.1))) now) is in (
      member_noted e rest now new noted ∙ ap (λ es. all_noted (payloads_of_members (members_view es)) now) (sym here) ∙ l.invariant.0,
      omega (arith, l.invariant.1, ap (λ es. members_depth (members_view es)) here),
      noted_more all (payloads_of_member (string_bytes e.0) (view e.1)) (payloads_of_members (members_view rest)) old now new
          (subst (λ es. AreNoted all (payloads_of_members (members_view es)) old now) here l.invariant.2) noted,
    )

pub note_members-loop-name-preserved-in-Continue-1 : goal.note_members-loop-name-preserved-in-Continue-1
note_members-loop-name-preserved-in-Continue-1 t c =
    let l = c.loop-name in
    let e : Entry = (c.in-Some.name.now, c.in-Some.value.now) in
    let rest = c.next.new.self in
    let here = c.in-Some.ensures.steps in
    let is = c.if-is_payloads.ensures ∙ ap is_payloads c.as_str.ensures.value in
    let old = members_view c.args.seen.now.entries in
    let now = members_view l.seen.entries in
    let new = members_view c.note_payloads.new.seen.entries in
    let all = payloads_of_members (members_view c.args.members.now.entries) in
    let noted = c.in_ok-note_payloads.ensures.noted ∙ ap (λ b. all_noted (cond b (payloads_in (view e.1)) (payloads_of (view e.1))) now) is in (
      member_noted e rest now new noted ∙ ap (λ es. all_noted (payloads_of_members (members_view es)) now) (sym here) ∙ l.invariant.0,
      omega (arith, l.invariant.1, ap (λ es. members_depth (members_view es)) here),
      noted_more all (payloads_of_member (string_bytes e.0) (view e.1)) (payloads_of_members (members_view rest)) old now new
          (subst (λ es. AreNoted all (payloads_of_members (members_view es)) old now) here l.invariant.2) noted,
    )

pub note_members-returns-in_err-note-clause-some : goal.note_members-returns-in_err-note-clause-some
note_members-returns-in_err-note-clause-some t c =
    let l = c.loop-name in
    let e : Entry = (c.in-Some.name.now, c.in-Some.value.now) in
    let rest = c.next.new.self in
    let here = c.in-Some.ensures.steps in
    let is = c.if-is_payloads.ensures ∙ ap is_payloads c.as_str.ensures.value in
    let old = members_view c.args.seen.now.entries in
    let now = members_view l.seen.entries in
    let new = members_view c.note.new.seen.entries in
    let all = payloads_of_members (members_view c.args.members.now.entries) in
    on_error c.from_residual-in_err-note.result
    (noted_after all (payloads_of_member (string_bytes e.0) (view e.1)) (payloads_of_members (members_view rest)) old now new
    (subst (λ es. AreNoted all (payloads_of_members (members_view es)) old now) here l.invariant.2)
    (subst (λ b. AreNotedFirst (cond b (payloads_in (view e.1)) (payloads_of (view e.1))) now new) is c.in_err-note.ensures.some))

pub note_members-returns-in_err-note_payloads-clause-some : goal.note_members-returns-in_err-note_payloads-clause-some
note_members-returns-in_err-note_payloads-clause-some t c =
    let l = c.loop-name in
    let e : Entry = (c.in-Some.name.now, c.in-Some.value.now) in
    let rest = c.next.new.self in
    let here = c.in-Some.ensures.steps in
    let is = c.if-is_payloads.ensures ∙ ap is_payloads c.as_str.ensures.value in
    let old = members_view c.args.seen.now.entries in
    let now = members_view l.seen.entries in
    let new = members_view c.note_payloads.new.seen.entries in
    let all = payloads_of_members (members_view c.args.members.now.entries) in
    on_error c.from_residual.result
    (noted_after all (payloads_of_member (string_bytes e.0) (view e.1)) (payloads_of_members (members_view rest)) old now new
    (subst (λ es. AreNoted all (payloads_of_members (members_view es)) old now) here l.invariant.2)
    (subst (λ b. AreNotedFirst (cond b (payloads_in (view e.1)) (payloads_of (view e.1))) now new) is c.in_err-note_payloads.ensures.some))
