-- The inputs of paths, one path after the other.
use Rattle.std.proofs.Common.{◌≡◌, ◌∙◌, ℕ, List, [], ◌∷◌, ◌++◌, refl, sym, ap, subst}
use Rattle.std.specs.Prelude.{◌||◌, Bool, false, true}
use Rattle.std.proofs.lemmas.List.{append-nil, append_assoc}
use Rattle.wh_console.specs.Consoles.{ConsoleView}
use Rattle.wh_console.specs.declared.files.Input.{Input}
use Rattle.wh_diagnostics.specs.Listings.{AreListed, IsListed}

or_false : (a : Bool) → a ≡ (a || false)
or_false true = refl
or_false false = refl

or_assoc : (a b c : Bool) → ((a || b) || c) ≡ (a || (b || c))
or_assoc true b c = refl
or_assoc false b c = refl

-- the inputs of the first path
pub listed_one : (by_path : Bool) (path : List ℕ) (inputs : List Input) (left_out : Bool) (old new : ConsoleView)
    → IsListed by_path path inputs left_out old new → AreListed by_path (path ∷ []) inputs left_out old new
listed_one by_path path inputs left_out old new is =
    (inputs, [], left_out, false, new, sym (append-nil inputs), or_false left_out, is, (refl, refl, refl))

-- the inputs of one path more
pub listed_push : (by_path : Bool) (paths : List (List ℕ)) (path : List ℕ) (inputs own : List Input) (left_out own_left : Bool) (old between new : ConsoleView)
    → AreListed by_path paths inputs left_out old between
    → IsListed by_path path own own_left between new
    → AreListed by_path (paths ++ (path ∷ [])) (inputs ++ own) (left_out || own_left) old new
listed_push by_path [] path inputs own left_out own_left old between new are is =
    let inputs_same = ap (λ l. l ++ own) are.0 ∙ sym (append-nil own) in
    let left_same = ap (λ b. b || own_left) are.1 ∙ or_false own_left in
    (own, [], own_left, false, new, inputs_same, left_same, subst (λ e. IsListed by_path path own own_left e new) are.2 is, (refl, refl, refl))
listed_push by_path (p ∷ ps) path inputs own left_out own_left old between new are is =
    let rest = listed_push by_path ps path are.1 own are.3 own_left are.4 between new are.8 is in
    let inputs_same = ap (λ l. l ++ own) are.5 ∙ append_assoc are.0 are.1 own in
    let left_same = ap (λ b. b || own_left) are.6 ∙ or_assoc are.2 are.3 own_left in
    (are.0, are.1 ++ own, are.2, are.3 || own_left, are.4, inputs_same, left_same, are.7, rest)
