-- Paths that were listed up to one of them.
use Rattle.std.proofs.Common.{◌≡◌, ◌∙◌, ◌<◌, ℕ, List, [], ◌∷◌, ◌++◌, refl, sym, ap, subst}
use Rattle.std.specs.Prelude.{◌+◌, Bool, Err, IfErr, Ok, Result, drop, get_or, length, take}
use Rattle.std.specs.Result.{IsErrAnd}
use Rattle.std.proofs.lemmas.List.{append_assoc, drop_more, take-append-drop}
use Rattle.wh_console.specs.Consoles.{ConsoleView}
use Rattle.wh_diagnostics.specs.declared.failures.Failure.{Failure}
use Rattle.wh_diagnostics.specs.declared.failures.Failure.TheVariants.{OutOfMemory}
use Rattle.wh_console.specs.declared.files.Input.{Input}
use Rattle.wh_diagnostics.specs.Listings.{AreListed, AreUnlisted, IsUnreadAt, IsUnreadFirst}

-- a failure that is handed on stays what it was
pub failed_as : {T : Type 0} (P : Failure → Type 0) (answer : Result T Failure) (failure : Failure)
    → IsErrAnd answer (λ given. given ≡ failure) → P failure → IfErr answer P
failed_as P (Ok value) failure is holds = tt
failed_as P (Err given) failure is holds = subst P (sym is) holds

-- the paths are those before one, that one, and those after it
pub parted : (all seen : List (List ℕ)) (path : List ℕ)
    → seen ≡ take (length seen) all → length seen < length all → path ≡ get_or all (length seen) path
    → all ≡ seen ++ (path ∷ drop (length seen + 1) all)
parted all seen path so_far less at =
    sym (take-append-drop (length seen) all)
    ∙ ap (λ l. l ++ drop (length seen) all) (sym so_far)
    ∙ ap (λ l. seen ++ l) (drop_more all (length seen) path less ∙ ap (λ p. p ∷ drop (length seen + 1) all) (sym at))

-- at one of the paths nothing can be read
pub unlisted_at : (by_path : Bool) (first : List ℕ) (more seen : List (List ℕ)) (path : List ℕ) (rest : List (List ℕ)) (inputs : List Input) (left_out : Bool) (old between new : ConsoleView) (failure : Failure)
    → more ≡ seen ++ (path ∷ rest)
    → AreListed by_path (first ∷ seen) inputs left_out old between
    → IsUnreadAt path failure × (new ≡ between)
    → AreUnlisted by_path (first ∷ more) old new failure
unlisted_at by_path first more seen path rest inputs left_out old between new failure parts listed unread = record {
  front = first ∷ seen;
  back = path ∷ rest;
  parts = ap (λ l. first ∷ l) parts;
  inputs = inputs;
  left_out = left_out;
  listed = subst (λ c. AreListed by_path (first ∷ seen) inputs left_out old c) (sym unread.1) listed;
  unread = unread.0;
}

-- want of memory can come before any of these paths
pub no_memory : (paths : List (List ℕ)) → IsUnreadFirst paths OutOfMemory
no_memory [] = refl
no_memory (path ∷ paths) = tt

-- there was no memory for the inputs of one of the paths
pub unlisted_after : (by_path : Bool) (first : List ℕ) (more seen : List (List ℕ)) (path : List ℕ) (rest : List (List ℕ)) (inputs : List Input) (left_out : Bool) (old new : ConsoleView)
    → more ≡ seen ++ (path ∷ rest)
    → AreListed by_path ((first ∷ seen) ++ (path ∷ [])) inputs left_out old new
    → AreUnlisted by_path (first ∷ more) old new OutOfMemory
unlisted_after by_path first more seen path rest inputs left_out old new parts listed = record {
  front = (first ∷ seen) ++ (path ∷ []);
  back = rest;
  parts = ap (λ l. first ∷ l) (parts ∙ sym (append_assoc seen (path ∷ []) rest));
  inputs = inputs;
  left_out = left_out;
  listed = listed;
  unread = no_memory rest;
}
