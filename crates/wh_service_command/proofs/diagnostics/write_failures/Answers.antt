use Rattle.std.proofs.Common.{◌+◌, ◌-◌, [], ◌∷◌, ◌++◌, ◌∙◌, ap, drop, take, length, refl, arith, sym}
use Rattle.std.specs.Prelude.{option_map}
use Rattle.std.proofs.KnownBytes.{Appends-trans}
use Rattle.std.proofs.lemmas.List.{drop_more, take_rest}
use Rattle.wh_service_command.specs.Diagnostics.{failure_line}
use Rattle.wh_service_command.proofs.Repeats.{no_more, one_more}
use Rattle.wh_diagnostics.proofs.Lines.{nothing_added}
use Rattle.wh_service_command.proofs.diagnostics.write_failures.Goals as goal

-- nothing is written at first
pub loop-index-init : goal.loop-index-init
loop-index-init g c = ([], nothing_added (g.E.Write.contents c.args.writer.now), refl)

-- the line of one more stands after those before it
pub loop-index-preserved : goal.loop-index-preserved
loop-index-preserved g c =
    let at = c.loop-index in
    let all = c.args.failures.now in
    let failure = c.index-failures-index.result in
    let rest = drop (at.index + 1) all in
    let slice = take (length all - (at.index + 1)) rest in
    let line = failure_line (option_map (λ one. one.now) at.before) failure slice c.args.name.now in (
      at.invariant.0 ++ line,
      Appends-trans (g.E.Write.contents c.args.writer.now) (g.E.Write.contents at.writer) (g.E.Write.contents c.write_failure.new.writer) at.invariant.0 line at.invariant.1 c.in_ok-write_failure.ensures,
      one_more all slice (option_map (λ one. one.now) at.before) failure at.index c.args.name.now at.invariant.0
          (drop_more all at.index failure (omega (arith, c.loop-index-test.true)) ∙ ap (λ x. x ∷ rest) (sym c.index-failures-index.is)) (take_rest all (at.index + 1)) at.invariant.2,
    )

-- all is written at the end
pub returns : goal.returns
returns g c =
    let at = c.loop-index in
    no_more c.args.failures.now _ at.index c.args.name.now at.invariant.0 _ _ (omega (arith, c.loop-index-test.false)) at.invariant.1 at.invariant.2
