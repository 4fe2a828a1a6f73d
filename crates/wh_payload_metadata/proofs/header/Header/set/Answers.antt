use Rattle.std.proofs.Common.{◌≡◌, List, ℕ, Some, cond, option_map, nat_cmp, bytes_eq, string_bytes, sym, ap, ◌∙◌, rules}
use mathlib.Core.Path.{fun_ext}
use Rattle.std.proofs.lemmas.Map.Text.{btree_map_updates_text}
use Rattle.std.specs.BTreeMap.{get_by_text, is_at}
use Rattle.std.specs.Cmp.Lexicographic.{slice_cmp}
use Rattle.std.specs.Map.{lookup}
use Rattle.serde_json.specs.View.{view}
use Rattle.wh_payload_metadata.specs.Header.{set_in, fields_of}
use Rattle.wh_payload_metadata.proofs.Setting.{on_error, stays_set, is_set, set_if}
use Rattle.wh_payload_metadata.proofs.header.Header.set.Goals as goal

pub returns-then-is_set_later-clause-set : goal.returns-then-is_set_later-clause-set
returns-then-is_set_later-clause-set c = stays_set (fields_of c.args.self.now) c.args.number c.args.name.now (view c.args.value.now) (sym c.if-is_set_later.ensures)

pub returns-clause-set : goal.returns-clause-set
unfolding fields_of
returns-clause-set c =
    let name = c.args.name.now in
    let number = c.args.number in
    let old = c.args.self.now in
    let key : string_bytes c.in_ok-key.key ≡ name = search rules in
    let value : view c.in_ok-value.value ≡ view c.args.value.now = search rules in
    fun_ext (λ other.
    ap (option_map set_in) (btree_map_updates_text (string_bytes c.in_ok-key.key) old.fields c.insert.new.self _ c.in_ok-displaced.ensures.updates other)
    ∙ set_if (bytes_eq (string_bytes c.in_ok-key.key) other) _ (get_by_text old.fields other)
    ∙ ap (λ (bytes : List ℕ). cond (bytes_eq bytes other) (Some (number, view c.in_ok-value.value)) (fields_of old other)) key
    ∙ ap (λ d. cond (bytes_eq name other) (Some (number, d)) (fields_of old other)) value)
    ∙ is_set (fields_of old) number name (view c.args.value.now) (sym c.if-is_set_later.ensures)

pub returns-in_err-displaced-clause-unset : goal.returns-in_err-displaced-clause-unset
unfolding fields_of
returns-in_err-displaced-clause-unset c =
    on_error c.from_residual-in_err-displaced.result
    (fun_ext (λ name. ap (λ es. option_map set_in (lookup (is_at (λ k. slice_cmp nat_cmp name (string_bytes k))) es)) c.in_err-displaced.ensures.err))
