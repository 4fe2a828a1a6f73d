use Rattle.std.proofs.KnownBytes.{Appends-trans}
use Rattle.std.proofs.lemmas.Result.{on_ok_weaker}
use Rattle.wh_view_report.specs.Texts.{span_text}
use Rattle.wh_view_report.proofs.text.write_span.Goals as goal

-- the two parts are written one after the other
pub returns : goal.returns
unfolding span_text
returns g c =
    let at = g.O.Write.contents in
    on_ok_weaker c.write_rest.result (λ rest.
    Appends-trans (at c.args.writer.now) (at c.write_front.new.writer) _ _ _ c.in_ok-write_front.ensures rest) c.write_rest.ensures
