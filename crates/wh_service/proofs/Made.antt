-- What is made of files, with what is reported of them apart.
use Rattle.std.proofs.Common.{◌≡◌, ◌∙◌, List, [], ◌∷◌, ◌++◌, ap, map, sym, subst}
use Rattle.std.specs.Prelude.{Vec, Option, Result, Ok, Err, MatchResult, Contains}
use Rattle.std.specs.List.{AllZip, flat_map}
use Rattle.std.specs.declared.alloc.Global.{Global}
use Rattle.std.proofs.lemmas.Grind.{flat_map-append}
use Rattle.std.proofs.lemmas.List.{append-nil, map-append}
use Rattle.wh_file_faults.proofs.Collected.{each_value}
use Rattle.wh_file_faults.specs.Faults.{File}
use Rattle.wh_service.specs.declared.file_faults.FileFault.{FileFault}
use Rattle.wh_service.specs.Faults.{IsReportedOf, reported_of}
use Rattle.wh_service.specs.Made.{AreMade, AreMadeOf, IsMadeOf}
use Rattle.wh_workflow.specs.Law.{Program}

-- what is collected is the values of the inputs, with what is told of each apart
pub collected : {A U E : Type 0} (P : A → Result (U × Option FileFault) E → Type 0) (inputs : List A) (given : List (Result (U × Option FileFault) E)) (answer : Result (Vec (U × Option FileFault) Global) E) (both : Vec (U × Option FileFault) Global) (ones : List U) (faults : List FileFault)
    → AllZip P inputs given
    → MatchResult answer (λ all. (values : List (U × Option FileFault)) × (given ≡ map Ok values) × (all.items ≡ values)) (λ e. Contains given (Err e))
    → answer ≡ Ok both
    → ones ≡ map (λ one. one.0) both.items
    → faults ≡ flat_map reported_of (map (λ one. one.1) both.items)
    → AreMade (λ input one. P input (Ok one)) inputs ones faults
collected {A} {U} {E} P inputs given answer both ones faults zipped gives is apart told =
    let h = rw is at gives in
    let values = subst (λ (xs : List (Result (U × Option FileFault) E)). AllZip P inputs xs) h.1 zipped in
    record {
      both = both.items;
      each = subst (λ (l : List (U × Option FileFault)). AllZip (λ input one. P input (Ok one)) inputs l) (sym h.2) (each_value P inputs h.0 values);
      ones = apart;
      told = told;
    }

-- the files of inputs of which something was made
files_of : {S A U : Type 0} (program : Program S) (Reads : A → File → Type 0) (Gives : File → U → Type 0) (inputs : List A) (both : List (U × Option FileFault))
    → AllZip (IsMadeOf program Reads Gives) inputs both
    → (files : List File) × AllZip Reads inputs files × AllZip Gives files (map (λ one. one.0) both) × AllZip (IsReportedOf program) files (map (λ one. one.1) both)
files_of program Reads Gives [] [] h = ([], tt, tt, tt)
files_of program Reads Gives (input ∷ inputs) (one ∷ both) h =
    let rest = files_of program Reads Gives inputs both h.1 in
    (h.0.file ∷ rest.0, (h.0.read, rest.1), (h.0.gives, rest.2), (h.0.told, rest.3))
files_of program Reads Gives [] (one ∷ both) h = absurd h
files_of program Reads Gives (input ∷ inputs) [] h = absurd h

-- what was made of inputs was made of the files that they were read as, and is told of these
pub of_files : {S A U : Type 0} (program : Program S) (Reads : A → File → Type 0) (Gives : File → U → Type 0) (inputs : List A) (made : List U) (faults : List FileFault)
    → AreMade (IsMadeOf program Reads Gives) inputs made faults
    → AreMadeOf program Reads Gives inputs made faults
of_files program Reads Gives inputs made faults h =
    let own = files_of program Reads Gives inputs h.both h.each in
    record {
      files = own.0;
      read = own.1;
      gives = subst (λ l. AllZip Gives own.0 l) (sym h.ones) own.2;
      told = record { told = map (λ one. one.1) h.both; each = own.3; all = h.told };
    }

-- what comes first in one pair more stands after what comes first in those before it
pub firsts_push : {A B : Type 0} (pairs : List (A × B)) (both : A × B) (old new : List A) → new ≡ old ++ (both.0 ∷ []) → old ≡ map (λ one. one.0) pairs → new ≡ map (λ one. one.0) (pairs ++ (both ∷ []))
firsts_push {A} {B} pairs both old new added firsts =
    let first : A × B → A = λ one. one.0 in
    added ∙ ap (λ (l : List A). l ++ (both.0 ∷ [])) firsts ∙ sym (map-append first pairs (both ∷ []))

-- what is told of one pair more stands after what is told of those before it
pub told_push : {A : Type 0} (pairs : List (A × Option FileFault)) (both : A × Option FileFault) (old new : List FileFault) → new ≡ old ++ reported_of both.1 → old ≡ flat_map reported_of (map (λ one. one.1) pairs) → new ≡ flat_map reported_of (map (λ one. one.1) (pairs ++ (both ∷ [])))
told_push {A} pairs both old new added told =
    let second : A × Option FileFault → Option FileFault = λ one. one.1 in
    added ∙ ap (λ (l : List FileFault). l ++ reported_of both.1) told
    ∙ ap (λ (l : List FileFault). flat_map reported_of (map second pairs) ++ l) (sym (append-nil (reported_of both.1)))
    ∙ sym (flat_map-append reported_of (map second pairs) (both.1 ∷ []))
    ∙ ap (λ (l : List (Option FileFault)). flat_map reported_of l) (sym (map-append second pairs (both ∷ [])))
