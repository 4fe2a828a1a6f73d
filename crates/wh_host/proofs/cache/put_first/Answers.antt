use Rattle.std.proofs.Common.{◌≡◌, ℕ, ◌+◌, ◌-◌, sym, ap, subst, ◌∙◌, arith}
use Rattle.std.specs.Map.{remove_entry}
use Rattle.wh_events.specs.declared.key.RunKey.{RunKey}
use Rattle.wh_events.specs.Keys.{same_key}
use Rattle.wh_replay.specs.Runs.{HistoryView}
use Rattle.wh_host.specs.Cache.{entry_of, held_by}
use Rattle.wh_host.specs.Weights.{weight_of}
use Rattle.wh_host.proofs.Runs.{put_entries-first}
use Rattle.wh_host.proofs.cache.put_first.Goals as goal

held_after : (held before rest replaced added after : ℕ) → held ≡ before → rest + replaced ≡ before → after ≡ added + rest → held - replaced + added ≡ after
held_after held before rest replaced added after h r a = omega arith

pub returns-in-Ok-clause-runs : goal.returns-in-Ok-clause-runs
returns-in-Ok-clause-runs g c =
    let first = put_entries-first c.args.runs.now (entry_of c.args.run) c.requires.room in
    rw (c.in-Ok.ensures.entries, c.of-key.ensures.key, c.of-key.ensures.history) first

pub returns-in-Ok-clause-held : goal.returns-in-Ok-clause-held
returns-in-Ok-clause-held g c =
    let first = ap held_by (put_entries-first c.args.runs.now (entry_of c.args.run) c.requires.room) in
    let after : held_by c.push.new.self.entries ≡ weight_of c.args.run.events + held_by (remove_entry (same_key c.args.run.key) c.args.runs.now.entries) =
    rw (c.in-Ok.ensures.entries, c.of-key.ensures.key, c.of-key.ensures.history) first in
    let less = subst (λ (k : RunKey). held_by (remove_entry (same_key k) c.args.runs.now.entries) + c.replaced_weight-replaced.result ≡ held_by c.args.runs.now.entries) c.key.ensures c.replaced_weight-replaced.ensures.held in
    let added = c.weight-added.ensures.weight ∙ ap (λ (h : HistoryView). weight_of h.events) c.of-key.ensures.history in
    held_after c.args.held.now _ _ c.replaced_weight-replaced.result c.weight-added.result _ c.requires.held.0 less (after ∙ ap (λ n. n + held_by (remove_entry (same_key c.args.run.key) c.args.runs.now.entries)) (sym added))
