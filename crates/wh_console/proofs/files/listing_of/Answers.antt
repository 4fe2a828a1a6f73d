use Rattle.std.proofs.Common.{◌∙◌, ap, subst, sym}
use Rattle.std.specs.Prelude.{All, ℕ, Vec}
use Rattle.std.specs.declared.alloc.Global.{Global}
use Rattle.std.proofs.lemmas.Bool.{false≢true}
use Rattle.std.proofs.lemmas.List.Elements.{All-push}
use Rattle.wh_console.specs.Names.{IsBadName}
use Rattle.wh_console.proofs.Marks.{bad_name}
use Rattle.wh_console.proofs.files.listing_of.Goals as goal

-- a bad name more is one
pub loop-name-preserved : goal.loop-name-preserved
loop-name-preserved c =
    let same = c.as_bytes.ensures ∙ ap (λ (v : Vec ℕ Global). v.items) c.in-Err.ensures.err in
    let bad : IsBadName c.in_ok-lossy_text-in-Err.field-0 =
    bad_name _ c.in-Some.name.items _ same (λ text. false≢true (c.in-Err.ensures.succeeds text)) c.in_ok-lossy_text-in-Err.ensures in
    let all = subst (All IsBadName) (sym c.in_ok-push-in-Err.ensures.items)
    (All-push IsBadName c.loop-name.bad_names.items c.in_ok-lossy_text-in-Err.field-0 c.loop-name.invariant.2 bad) in
    (c.loop-name.invariant.0, c.loop-name.invariant.1, all)
