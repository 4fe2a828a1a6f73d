use Rattle.std.proofs.Common.{string_bytes, bytes_eq, inl, sym, ap, ◌∙◌}
use Rattle.std.specs.Map.{lookup}
use Rattle.serde_json.specs.View.{view}
use Rattle.wh_payload_metadata.specs.Header.{events_in}
use Rattle.wh_payload_metadata.specs.Kept.{metadata_in, fields_in, kept_metadata, kept_fields}
use Rattle.wh_payload_metadata.proofs.Lookups.{lookup-promoted, lookup-promoted_other, apart_names, nothing_metadata}
use Rattle.wh_payload_metadata.proofs.Nothing.{quiet_after, nothing_header}
use Rattle.wh_payload_metadata.proofs.Setting.{quiet_fields, no_header}
use Rattle.wh_payload_metadata.proofs.kept.KeptRuns.keep.Goals as goal

pub returns-then-is_empty-clause-metadata : goal.returns-then-is_empty-clause-metadata
returns-then-is_empty-clause-metadata c =
    let name = c.args.name.now in
    let runs = c.args.self.now.runs.entries in
    let nothing = sym c.if-is_empty.ensures in
    let none = sym c.requires.metadata ∙ nothing_metadata _ _ nothing in
    ap (λ cache. metadata_in (lookup (λ k. bytes_eq name (string_bytes k)) cache.entries)) c.promote.ensures.entries
    ∙ ap metadata_in (lookup-promoted (λ k. bytes_eq name (string_bytes k)) runs)
    ∙ sym (quiet_after (view c.args.came.now) (kept_metadata c.args.self.now name) none)

pub returns-then-is_empty-clause-header : goal.returns-then-is_empty-clause-header
returns-then-is_empty-clause-header c =
    let name = c.args.name.now in
    let runs = c.args.self.now.runs.entries in
    let nothing = nothing_header _ _ (sym c.if-is_empty.ensures) in
    let none = sym c.requires.header ∙ no_header c.args.noted.header nothing in
    ap (λ cache. fields_in (lookup (λ k. bytes_eq name (string_bytes k)) cache.entries)) c.promote.ensures.entries
    ∙ ap fields_in (lookup-promoted (λ k. bytes_eq name (string_bytes k)) runs)
    ∙ sym (quiet_fields (events_in (view c.args.came.now)) (kept_fields c.args.self.now name) none)

pub returns-then-is_empty-clause-others : goal.returns-then-is_empty-clause-others
returns-then-is_empty-clause-others c other differ =
    inl (ap (λ cache. lookup (λ k. bytes_eq other (string_bytes k)) cache.entries) c.promote.ensures.entries
    ∙ lookup-promoted_other (λ k. bytes_eq c.args.name.now (string_bytes k)) (λ k. bytes_eq other (string_bytes k))
    (λ k. apart_names c.args.name.now other (string_bytes k) differ) c.args.self.now.runs.entries)
