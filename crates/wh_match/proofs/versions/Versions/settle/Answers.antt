use Rattle.std.proofs.Common.{rules, w32, ◌≡◌, ◌++◌, ◌∷◌, [], Some, None, cond, bytes_eq, string_bytes, sym, ap, ◌∙◌}
use Rattle.std.proofs.lemmas.Int.{to_z-of_z}
use Rattle.std.proofs.lemmas.Map.Text.{btree_map_updates_text}
use Rattle.std.specs.BTreeMap.{get_by_text}
use Rattle.wh_workflow.specs.Scripts.{lookup_version}
use Rattle.wh_match.proofs.Settled.{push_version}
use Rattle.wh_match.proofs.versions.Versions.settle.Goals as goal

pub invariant_of-self-then-is_none : goal.invariant_of-self-then-is_none
invariant_of-self-then-is_none c =
    let inside = c.self.inside in
    let none : lookup_version c.args.change_id.now inside.entries.items ≡ None = search rules in
    let key : string_bytes c.in_ok-key.key ≡ c.args.change_id.now = search rules in
    let pushed : c.push_reserved.new.self.items ≡ inside.entries.items ++ (c.args.change_id.now, c.args.version) ∷ [] = search rules in
    λ other.
    btree_map_updates_text (string_bytes c.in_ok-key.key) inside.by_change c.insert.new.self _ c.in_ok-insert.ensures.updates other
    ∙ ap (λ version. cond (bytes_eq (string_bytes c.in_ok-key.key) other) (Some version) (get_by_text inside.by_change other)) (to_z-of_z w32 c.args.version c.ranges.version)
    ∙ ap (λ bytes. cond (bytes_eq bytes other) (Some c.args.version) (get_by_text inside.by_change other)) key
    ∙ ap (λ version. cond (bytes_eq c.args.change_id.now other) (Some c.args.version) version) (c.self.invariant other)
    ∙ push_version inside.entries.items c.args.change_id.now other c.args.version none
    ∙ ap (lookup_version other) (sym pushed)
