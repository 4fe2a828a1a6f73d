use Rattle.std.proofs.Common.{◌≡◌, true, IsSomeAnd, string_bytes, bytes_eq, inl, inr, subst, sym, ap, ◌∙◌}
use Rattle.std.specs.Map.{lookup}
use Rattle.wh_payload_metadata.specs.Kept.{metadata_in, fields_in}
use Rattle.wh_payload_metadata.proofs.Lookups.{lookup-put_name, lookup-pushed}
use Rattle.wh_payload_metadata.proofs.kept.KeptRuns.put.Goals as goal

pub returns-clause-metadata : goal.returns-clause-metadata
returns-clause-metadata c =
    let name = c.args.name.now in
    ap (λ cache. metadata_in (lookup (λ k. bytes_eq name (string_bytes k)) cache.entries)) c.in_ok-displaced.ensures.entries
    ∙ ap metadata_in (lookup-put_name c.args.self.now.runs name c.in_ok-key.key c.args.seen c.in_ok-key.ensures.ok)

pub returns-clause-header : goal.returns-clause-header
returns-clause-header c =
    let name = c.args.name.now in
    ap (λ cache. fields_in (lookup (λ k. bytes_eq name (string_bytes k)) cache.entries)) c.in_ok-displaced.ensures.entries
    ∙ ap fields_in (lookup-put_name c.args.self.now.runs name c.in_ok-key.key c.args.seen c.in_ok-key.ensures.ok)

pub returns-clause-others : goal.returns-clause-others
returns-clause-others c other differ =
    let runs = c.args.self.now.runs in
    let valid = c.len-held.ensures.valid in
    elim (lookup-pushed runs c.in_ok-key.key c.args.seen other valid.1 valid.2 (ap (λ n. bytes_eq n other) c.in_ok-key.ensures.ok ∙ differ)) [
      | inl same ↦ inl (ap (λ cache. lookup (λ k. bytes_eq other (string_bytes k)) cache.entries) c.in_ok-displaced.ensures.entries ∙ same)
      | inr last ↦ inr (subst (λ run. IsSomeAnd run (λ e. bytes_eq other (string_bytes e.0) ≡ true)) (sym c.in_ok-displaced.ensures.old) last)
    ]
