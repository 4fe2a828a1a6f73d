use Rattle.std.proofs.Common.{option_map, string_bytes, bytes_eq, refl, ap, ◌∙◌}
use Rattle.std.specs.Map.{lookup}
use Rattle.wh_payload_metadata.proofs.Lookups.{lookup-put_name}
use Rattle.wh_payload_metadata.proofs.open_tasks.OpenTasks.begin.Goals as goal

pub returns : goal.returns
returns c =
    let token = string_bytes c.args.token in
    ap (λ cache. option_map (λ place. string_bytes place) (lookup (λ k. bytes_eq token (string_bytes k)) cache.entries)) c.in_ok-displaced.ensures.entries
    ∙ ap (option_map (λ place. string_bytes place)) (lookup-put_name c.args.self.now.tasks token c.args.token c.args.place refl)
