use Rattle.std.proofs.Common.{◌≡◌, [], ◌∷◌, string_cmp, subst, sym, ap, ◌∙◌, rules}
use Rattle.std.specs.List.Sorted.{IsStrictlySortedBy}
use Rattle.std.specs.Map.{keys_of}
use Rattle.serde_json.specs.View.{view, members_view}
use Rattle.serde_json.proofs.Views.{Entry}
use Rattle.wh_payload_metadata.specs.Header.{Fields, IsEachOldOrSet, field_set, fields_set, fields_of}
use Rattle.wh_payload_metadata.proofs.Setting.{IsEachOldOrDone, done_next, member_set, nothing_set, old_or_set, on_error}
use Rattle.wh_payload_metadata.proofs.header.Header.set_all.Goals as goal

pub loop-name-preserved : goal.loop-name-preserved
unfolding IsStrictlySortedBy
loop-name-preserved c =
    let l = c.loop-name in
    let number = c.args.number in
    let old = fields_of c.args.self.now in
    let e : Entry = (c.in-Some.name.now, c.in-Some.value.now) in
    let rest = c.next.new.self in
    let here = c.in-Some.ensures.steps in
    let ordered : IsStrictlySortedBy string_cmp (keys_of (e ∷ rest)) = subst (λ es. IsStrictlySortedBy string_cmp (keys_of es)) here l.invariant.1 in
    let set = c.in_ok-set.ensures.set ∙ ap (λ name. field_set number name (view e.1) (fields_of l.self)) c.as_str.ensures.value in (
      ap (fields_set number (members_view rest)) set
          ∙ member_set number e rest (fields_of l.self) ordered.0
          ∙ ap (λ es. fields_set number (members_view es) (fields_of l.self)) (sym here) ∙ l.invariant.0,
      ordered.1,
      subst (λ (fields : Fields). IsEachOldOrDone old fields (members_view rest)) (sym set)
          (done_next number e rest old (fields_of l.self) ordered.0
          (subst (λ es. IsEachOldOrDone old (fields_of l.self) (members_view es)) here l.invariant.2)),
    )

pub returns-clause-set : goal.returns-clause-set
returns-clause-set c =
    let l = c.loop-name in
    let number = c.args.number in
    let none : l.name-iterator ≡ [] = search rules in
    sym (ap (λ es. fields_set number (members_view es) (fields_of l.self)) none ∙ nothing_set number (fields_of l.self)) ∙ l.invariant.0

pub returns-in_err-set-clause-some : goal.returns-in_err-set-clause-some
returns-in_err-set-clause-some c =
    let l = c.loop-name in
    let number = c.args.number in
    let old = fields_of c.args.self.now in
    let members = members_view c.args.fields.now.entries in
    on_error c.from_residual.result
    (subst (λ (fields : Fields). IsEachOldOrSet old (fields_set number members old) fields) (sym c.in_err-set.ensures.unset)
    (old_or_set number (members_view l.name-iterator) members old (fields_of l.self) l.invariant.0 l.invariant.2))
