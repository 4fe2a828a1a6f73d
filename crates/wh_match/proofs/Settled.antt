-- The versions with one more settled, by change id.
use Rattle.std.proofs.Common.{◌≡◌, ℕ, ℤ, Bool, true, false, List, [], ◌∷◌, ◌++◌, Option, Some, None, cond, bytes_eq, refl, sym, ◌∙◌, subst}
use Rattle.std.proofs.lemmas.Bool.{both_ways, false_from_ne_true}
use Rattle.std.proofs.lemmas.Slice.Eq.{bytes_eq-Decides}
use Rattle.wh_events.specs.Machines.{or_else}
use Rattle.wh_machines.proofs.Options.{or_else-none}
use Rattle.wh_workflow.specs.Scripts.{Settled, lookup_version}

lookup_step : (test : Bool) (version : ℤ) (whole front back : Option ℤ) → whole ≡ or_else front back → cond test (Some version) whole ≡ or_else (cond test (Some version) front) back
lookup_step true version whole front back e = refl
lookup_step false version whole front back e = e

lookup-append : (change_id : List ℕ) (xs ys : Settled) → lookup_version change_id (xs ++ ys) ≡ or_else (lookup_version change_id xs) (lookup_version change_id ys)
lookup-append change_id [] ys = refl
lookup-append change_id (x ∷ xs) ys = lookup_step (bytes_eq change_id x.0) x.1 _ _ _ (lookup-append change_id xs ys)

push_found : (settled : Settled) (change_id other : List ℕ) (version : ℤ) (same : Bool) → bytes_eq change_id other ≡ same → lookup_version change_id settled ≡ None
    → cond same (Some version) (lookup_version other settled) ≡ or_else (lookup_version other settled) (cond (bytes_eq other change_id) (Some version) None)
push_found settled change_id other version true e none =
    let alike = (bytes_eq-Decides change_id other).0 e in
    let back = (bytes_eq-Decides other change_id).1 (sym alike) in
    let gone = subst (λ id. lookup_version id settled ≡ None) alike none in
    rw (back, gone) refl
push_found settled change_id other version false e none =
    let apart = false_from_ne_true (bytes_eq other change_id) (λ t. both_ways (bytes_eq change_id other) e ((bytes_eq-Decides change_id other).1 (sym ((bytes_eq-Decides other change_id).0 t)))) in
    rw apart (sym (or_else-none (lookup_version other settled)))

-- a change that was not settled is found after the others
pub push_version : (settled : Settled) (change_id other : List ℕ) (version : ℤ) → lookup_version change_id settled ≡ None
    → cond (bytes_eq change_id other) (Some version) (lookup_version other settled) ≡ lookup_version other (settled ++ (change_id, version) ∷ [])
push_version settled change_id other version none =
    push_found settled change_id other version (bytes_eq change_id other) refl none ∙ sym (lookup-append other settled ((change_id, version) ∷ []))
