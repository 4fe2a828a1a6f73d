use Rattle.std.proofs.Common.{◌∙◌, sym}
use Rattle.wh_markers.proofs.Table.{form_found, form_passed}
use Rattle.wh_markers.proofs.forms.form_in.Goals as goal

pub returns-then-is_of_form : goal.returns-then-is_of_form
returns-then-is_of_form c =
    sym (form_found _ _ _ _ _ c.loop-form-test.true (sym c.is_of_form.ensures ∙ c.if-is_of_form.true)) ∙ c.loop-form.invariant

pub loop-form-preserved : goal.loop-form-preserved
loop-form-preserved c =
    sym (form_passed _ _ _ _ _ c.loop-form-test.true (sym c.is_of_form.ensures ∙ c.if-is_of_form.false)) ∙ c.loop-form.invariant
