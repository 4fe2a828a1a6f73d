use Rattle.std.proofs.Common.{◌≡◌, [], Ok, codes, ap, sym, ◌∙◌, rules}
use Rattle.serde_json.specs.Data.{object, string, no_members, put}
use Rattle.serde_json.specs.View.{members_view}
use Rattle.serde_json.proofs.Views.{view-Object}
use Rattle.wh_commands.proofs.command.command_form.Goals as goal

-- the attributes were put after the type, which was put to nothing
pub returns : goal.returns
returns c =
    let name = c.args.name.now in
    let kind = string c.args.kind.now in
    let none : c.new-command.result.entries ≡ [] = search rules in
    let entries : members_view c.put.new.map.entries ≡ put name (object (members_view c.args.attributes.entries)) (put (codes "commandType") kind no_members) =
    c.in_ok-put.ensures.ok
    ∙ ap (λ d. put name d (members_view c.put_text.new.members.entries)) (view-Object c.args.attributes)
    ∙ ap (put name (object (members_view c.args.attributes.entries))) (c.in_ok-put_text.ensures ∙ ap (λ es. put (codes "commandType") kind (members_view es)) none) in
    ap Ok (sym (view-Object c.put.new.map ∙ ap object entries))
