-- The row whose number is found is the one that is followed.
use Rattle.std.proofs.Common.{◌≡◌, ℕ, ◌+◌, ◌-◌, suc, Bool, true, false, List, [], ◌∷◌, Option, Some, None, refl, ap, ◌∙◌, arith}
use Rattle.std.specs.Prelude.{slice_get, if◌then◌else◌}
use Rattle.std.specs.Option.{option_and_then, option_map}
use Rattle.wh_workflow.specs.declared.job.Job.{Job}
use Rattle.wh_rows.specs.declared.row.RowsState.{RowsState}
use Rattle.wh_rows.specs.Tables.{Row}
use Rattle.wh_rows.specs.Rows.{fits, row_for}
use Rattle.wh_file_page.specs.Ways.{number_from}
use Rattle.wh_file_page.specs.WayLaws.{TakesWhatIsFollowed}

one_later : (fits_first : Bool) (number : ℕ) (others later : Option ℕ) → others ≡ option_map suc later
    → (if fits_first then Some (number + 1) else others) ≡ option_map suc (if fits_first then Some number else later)
one_later true number others later same =
    let next : number + 1 ≡ suc number = omega arith in
    ap Some next
one_later false number others later same = same

-- from the next number on, each is the next
one_more : (number : ℕ) (rows : List Row) (state : RowsState) (job : Job)
    → number_from (number + 1) rows state job ≡ option_map suc (number_from number rows state job)
one_more number [] state job = refl
one_more number (row ∷ rows) state job = one_later (fits row state job) number _ _ (one_more (number + 1) rows state job)

at_next : (row : Row) (rows : List Row) (place : Option ℕ)
    → option_and_then (slice_get (row ∷ rows)) (option_map suc place) ≡ option_and_then (slice_get rows) place
at_next row rows None = refl
at_next row rows (Some place) = refl

first_or : (fits_first : Bool) (row : Row) (rows : List Row) (place : Option ℕ) (other : Option Row)
    → option_and_then (slice_get (row ∷ rows)) place ≡ other
    → option_and_then (slice_get (row ∷ rows)) (if fits_first then Some 0 else place) ≡ (if fits_first then Some row else other)
first_or true row rows place other same = refl
first_or false row rows place other same = same

-- the row at the place that is found, counted from 0
at_place : (rows : List Row) (state : RowsState) (job : Job)
    → option_and_then (slice_get rows) (number_from 0 rows state job) ≡ row_for rows state job
unfolding row_for
at_place [] state job = refl
at_place (row ∷ rows) state job =
    first_or (fits row state job) row rows _ _
    (ap (option_and_then (slice_get (row ∷ rows))) (one_more 0 rows state job)
    ∙ at_next row rows (number_from 0 rows state job)
    ∙ at_place rows state job)

by_number : (rows : List Row) (place : Option ℕ)
    → option_and_then (λ number. slice_get rows (number - 1)) (option_map suc place) ≡ option_and_then (slice_get rows) place
by_number rows None = refl
by_number rows (Some place) =
    let before : suc place - 1 ≡ place = omega arith in ap (slice_get rows) before

pub takes_what_is_followed : TakesWhatIsFollowed
takes_what_is_followed rows state job =
    ap (option_and_then (λ number. slice_get rows (number - 1))) (one_more 0 rows state job)
    ∙ by_number rows (number_from 0 rows state job)
    ∙ at_place rows state job
