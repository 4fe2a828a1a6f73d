-- What is collected of answers that may be faults.
use Rattle.std.proofs.Common.{◌≡◌, ◌⊎◌, List, [], ◌∷◌, arith, inl, inr, map, refl, subst}
use Rattle.std.specs.Prelude.{Result, Ok, Err, IfErr, IfOk, MatchResult, Contains, length}
use Rattle.std.specs.List.{AllZip}
use Rattle.std.proofs.lemmas.List.Elements.{Contains-append_cases, Contains-append_left, Contains-append_right, Contains-push, Contains-push_cases}
use Rattle.wh_file_faults.specs.Made.{IsFaultIn, IsOfOne}
use Rattle.wh_console.specs.declared.files.InputFault.{InputFault}
use Rattle.wh_console.specs.declared.files.InputFault.TheVariants.{OutOfMemory}

-- where each input gave a value, the values are theirs
pub each_value : {A B E : Type 0} (P : A → Result B E → Type 0) (inputs : List A) (told : List B)
    → AllZip P inputs (map {A = B} {B = Result B E} Ok told)
    → AllZip (λ input one. P input (Ok one)) inputs told
each_value P [] [] h = tt
each_value P (input ∷ inputs) (one ∷ told) h = (h.0, each_value P inputs told h.1)
each_value P [] (one ∷ told) h = absurd h
each_value P (input ∷ inputs) [] h = absurd h

-- a fault that was given is that of one of the inputs
pub one_fault : {A B E : Type 0} (P : A → Result B E → Type 0) (inputs : List A) (given : List (Result B E)) (fault : E)
    → AllZip P inputs given → Contains given (Err fault) → IsOfOne (λ input given. P input (Err given)) inputs fault
one_fault P [] [] fault zipped found = absurd (omega (arith, found.1))
one_fault {A} {B} {E} P (input ∷ inputs) (one ∷ given) fault zipped found = by_place (Contains-append_cases (one ∷ []) given (Err fault) found) (λ rest. one_fault P inputs given fault zipped.1 rest)
  where
    by_end : Contains {X = Result B E} [] (Err fault) ⊎ (one ≡ Err fault) → one ≡ Err fault
    by_end (inl h) = absurd (omega (arith, h.1))
    by_end (inr is) = is

    by_place : Contains (one ∷ []) (Err fault) ⊎ Contains given (Err fault)
        → (Contains given (Err fault) → IsOfOne (λ input given. P input (Err given)) inputs fault)
        → IsOfOne (λ input given. P input (Err given)) (input ∷ inputs) fault
    by_place (inl h) later = (input, Contains-append_left (input ∷ []) inputs input (Contains-push [] input), subst (λ (r : Result B E). P input r) (by_end (Contains-push_cases [] one (Err fault) h)) zipped.0)
    by_place (inr h) later = (let own = later h in (own.0, Contains-append_right (input ∷ []) inputs own.0 own.1, own.2))
one_fault P [] (one ∷ given) fault zipped found = absurd zipped
one_fault P (input ∷ inputs) [] fault zipped found = absurd zipped

-- files that were read as they are
pub as_they_are : {A : Type 0} (inputs files : List A) → AllZip (λ input file. file ≡ input) inputs files → files ≡ inputs
as_they_are [] [] h = refl
as_they_are (input ∷ inputs) (file ∷ files) h = rw (h.0, as_they_are inputs files h.1) refl
as_they_are [] (file ∷ files) h = absurd h
as_they_are (input ∷ inputs) [] h = absurd h

-- what follows of the value
pub all_ok : {X E : Type 0} {P Q : X → Type 0} (r : Result X E) → ((x : X) → P x → Q x) → IfOk r P → IfOk r Q
all_ok (Ok x) f p = f x p
all_ok (Err e) f p = tt

-- and of the fault
pub all_err : {X E : Type 0} {P Q : E → Type 0} (r : Result X E) → ((e : E) → P e → Q e) → IfErr r P → IfErr r Q
all_err (Ok x) f p = tt
all_err (Err e) f p = f e p

-- what is collected is a fault only where one was given
pub fault_given : {A B E : Type 0} {C : Type 0} (P : A → Result B E → Type 0) (Q : C → Type 0) (inputs : List A) (given : List (Result B E)) (answer : Result C E)
    → AllZip P inputs given → MatchResult answer Q (λ e. Contains given (Err e)) → IfErr answer (IsOfOne (λ input fault. P input (Err fault)) inputs)
fault_given P Q inputs given (Ok all) zipped gives = tt
fault_given P Q inputs given (Err fault) zipped gives = one_fault P inputs given fault zipped gives

-- a fault that may be that of memory is that of an input, or of memory
pub fault_in : {T : Type 0} (Refuses : T → InputFault → Type 0) (inputs : List T) (fault : InputFault) → IsOfOne (λ input fault. (fault ≡ OutOfMemory) ⊎ Refuses input fault) inputs fault → IsFaultIn Refuses inputs fault
fault_in Refuses inputs fault h = by_case h.2
  where
    by_case : (fault ≡ OutOfMemory) ⊎ Refuses h.0 fault → IsFaultIn Refuses inputs fault
    by_case (inl memory) = inl memory
    by_case (inr refused) = inr (h.0, h.1, refused)
