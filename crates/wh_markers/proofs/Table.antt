-- The table of forms, row by row.
use Rattle.std.proofs.Common.{◌≡◌, ℕ, ◌<◌, ◌+◌, ◌&&◌, ◌||◌, Bool, List, [], ◌∷◌, length, get_or, drop, add-one, refl, ap, true, false, Option, Some, None, ◌∙◌, bytes_eq}
use Rattle.std.specs.Prelude.{map, cond}
use Rattle.std.specs.List.{find, list_any}
use Rattle.std.proofs.Math.Seq.{drop-cons}
use Rattle.serde_json.specs.Data.{Data}
use Rattle.wh_markers.specs.declared.forms.MarkerForm.{MarkerForm}
use Rattle.wh_markers.specs.Forms.{Form, documented, form_among, form_for, form_of, has_detail, is_of_form}

form_at : (rows : List MarkerForm) (i : ℕ) (row : MarkerForm) (marker : List ℕ) (details : Data) → i < length rows
    → form_among (drop i rows) marker details
    ≡ cond (is_of_form marker details (form_of (get_or rows i row))) (Some (form_of (get_or rows i row)))
    (form_among (drop (i + 1) rows) marker details)
unfolding form_among
form_at rows i row marker details below = rw (add-one, drop-cons rows i row) refl

pub form_found : (rows : List MarkerForm) (i : ℕ) (row : MarkerForm) (marker : List ℕ) (details : Data) → i < length rows
    → is_of_form marker details (form_of (get_or rows i row)) ≡ true
    → form_among (drop i rows) marker details ≡ Some (form_of (get_or rows i row))
form_found rows i row marker details below is = form_at rows i row marker details below ∙ rw is refl

pub form_passed : (rows : List MarkerForm) (i : ℕ) (row : MarkerForm) (marker : List ℕ) (details : Data) → i < length rows
    → is_of_form marker details (form_of (get_or rows i row)) ≡ false
    → form_among (drop i rows) marker details ≡ form_among (drop (i + 1) rows) marker details
form_passed rows i row marker details below isnt = form_at rows i row marker details below ∙ rw isnt refl

-- rows that are the documented forms, one by one
pub table_is : (rows : List MarkerForm) (marker : List ℕ) (details : Data) (found : Option Form)
    → found ≡ form_among rows marker details → map form_of rows ≡ documented → found ≡ form_for marker details
unfolding form_among form_for
table_is rows marker details found is same = is ∙ ap (find (is_of_form marker details)) same

both_false : (a b : Bool) → (a || b) ≡ false → (a ≡ false) × (b ≡ false)
both_false true b h = cc
both_false false b h = (refl, h)

-- no form with another name is found
pub none_named : (forms : List Form) (marker : List ℕ) (details : Data) → list_any (λ form. bytes_eq form.marker marker) forms ≡ false
    → find (is_of_form marker details) forms ≡ None
none_named [] marker details other = refl
none_named (form ∷ forms) marker details other =
    let apart = both_false (bytes_eq form.marker marker) (list_any (λ f. bytes_eq f.marker marker) forms) other in
    ap (λ b. cond (b && has_detail form.name.0 details) (Some form) (find (is_of_form marker details) forms)) apart.0
    ∙ none_named forms marker details apart.1
