use Rattle.std.proofs.Common.{string_bytes, bytes_eq, inl, ap, ◌∙◌}
use Rattle.std.specs.Map.{lookup}
use Rattle.wh_payload_metadata.proofs.Lookups.{lookup-removed, apart_names}
use Rattle.wh_payload_metadata.proofs.kept.KeptRuns.take.Goals as goal

pub returns-in-Some-clause-others : goal.returns-in-Some-clause-others
returns-in-Some-clause-others c other differ =
    let name = c.args.name.now in
    inl (ap (λ cache. lookup (λ k. bytes_eq other (string_bytes k)) cache.entries) c.pop.ensures.entries
    ∙ lookup-removed (λ k. bytes_eq name (string_bytes k)) (λ k. bytes_eq other (string_bytes k))
    (λ k. apart_names name other (string_bytes k) differ) c.args.self.now.runs.entries)

pub returns-in-None-clause-others : goal.returns-in-None-clause-others
returns-in-None-clause-others c other differ =
    let name = c.args.name.now in
    inl (ap (λ cache. lookup (λ k. bytes_eq other (string_bytes k)) cache.entries) c.pop.ensures.entries
    ∙ lookup-removed (λ k. bytes_eq name (string_bytes k)) (λ k. bytes_eq other (string_bytes k))
    (λ k. apart_names name other (string_bytes k) differ) c.args.self.now.runs.entries)
