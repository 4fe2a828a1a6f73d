-- The lines of failed tasks, one after another.
use Rattle.std.proofs.Common.{◌≡◌, ◌∙◌, ◌≤◌, ℕ, ◌+◌, List, ◌∷◌, ◌++◌, None, Some, ap, drop, length, subst, sym}
use Rattle.std.specs.Prelude.{Option}
use Rattle.std.specs.Io.KnownBytes.{Appends}
use Rattle.std.proofs.lemmas.List.{append-nil, append_assoc, drop_all}
use Rattle.wh_service.specs.declared.failures.FileFailure.{FileFailure}
use Rattle.wh_service_command.specs.Diagnostics.{failure_line, failure_lines}

-- the line of one more stands after those before it
pub one_more : (failures rest : List FileFailure) (before : Option FileFailure) (failure : FileFailure) (index : ℕ) (name done : List ℕ)
    → drop index failures ≡ failure ∷ drop (index + 1) failures → rest ≡ drop (index + 1) failures
    → failure_lines None failures name ≡ done ++ failure_lines before (drop index failures) name
    → failure_lines None failures name ≡ (done ++ failure_line before failure rest name) ++ failure_lines (Some failure) (drop (index + 1) failures) name
one_more failures rest before failure index name done at after so_far =
    let next = drop (index + 1) failures in
    so_far ∙ ap (λ l. done ++ failure_lines before l name) at
    ∙ ap (λ r. done ++ (failure_line before failure r name ++ failure_lines (Some failure) next name)) (sym after)
    ∙ sym (append_assoc done (failure_line before failure rest name) (failure_lines (Some failure) next name))

-- and none is left at the end
pub no_more : (failures : List FileFailure) (before : Option FileFailure) (index : ℕ) (name done : List ℕ) (a b : Option (List ℕ))
    → length failures ≤ index
    → Appends a b done → failure_lines None failures name ≡ done ++ failure_lines before (drop index failures) name
    → Appends a b (failure_lines None failures name)
no_more failures before index name done a b all written so_far =
    subst (Appends a b) (sym (so_far ∙ ap (λ l. done ++ failure_lines before l name) (drop_all index failures all) ∙ append-nil done)) written
