use Rattle.std.proofs.Common.{◌≡◌, drop}
use Rattle.serde_json.specs.View.{view}
use Rattle.wh_markers.specs.Forms.{form_among}
use Rattle.wh_markers.proofs.forms.form_in.Given as goal

-- the marker is of no form that was passed so far
abbrev pub invariant-loop-form : goal.invariant-loop-form
invariant-loop-form l =
    form_among (drop l.form-index l.rows) l.marker (view l.details) ≡ form_among l.rows l.marker (view l.details)
