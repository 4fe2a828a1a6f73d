use Rattle.std.proofs.Common.{◌≡◌, ◌+◌, ◌++◌, ◌∙◌, ℕ, List, [], ◌∷◌, ap, append-nil, sym, take}
use Rattle.std.proofs.KnownBytes.{Appends-trans}
use Rattle.std.proofs.lemmas.Grind.{flat_map-append}
use Rattle.std.proofs.lemmas.List.{take_more}
use Rattle.std.specs.List.{flat_map}
use Rattle.std.specs.Prelude.{String}
use Rattle.std.specs.declared.alloc.Global.{Global}
use Rattle.wh_diagnostics.specs.Diagnostics.{bad_name_line}
use Rattle.wh_diagnostics.proofs.diagnostics.write_bad_names.Goals as goal

-- the line of one more stands after those before it
pub loop-entry-preserved : goal.loop-entry-preserved
loop-entry-preserved g c =
    let at = g.E.Write.contents in
    let entries = c.args.entries.now in
    let i = c.loop-entry.entry-index in
    let entry = c.entry-item.result in
    let line : String Global → List ℕ = λ entry. bad_name_line c.args.dir.now entry c.args.name.now in
    let longer : take (i + 1) entries ≡ take i entries ++ entry ∷ [] =
    take_more entries i entry c.loop-entry-test.true ∙ ap (λ e. take i entries ++ e ∷ []) (sym c.entry-item.is) in
    rw (longer, flat_map-append line (take i entries) (entry ∷ []), append-nil (line entry))
    (Appends-trans (at c.args.writer.now) (at c.loop-entry.writer) (at c.write_bad_name.new.writer) (flat_map line (take i entries)) (line entry) c.loop-entry.invariant c.in_ok-write_bad_name.ensures)
