-- What was told of inputs, one after the other.
use Rattle.std.proofs.Common.{◌≡◌, ◌∙◌, ◌<◌, ℕ, List, [], ◌∷◌, ◌++◌, None, Some, append-nil, ap, inl, inr, refl, sym, subst}
use Rattle.std.proofs.lemmas.List.{drop_more, take-append-drop}
use Rattle.std.specs.Prelude.{◌⊎◌, ◌+◌, Bool, false, Option, Result, Ok, Err, IfErr, IfOk, drop, get_or, length, take}
use Rattle.std.specs.Io.KnownBytes.{Appends, Keeps}
use Rattle.wh_console.proofs.Printing.{quiet_twice}
use Rattle.wh_console.specs.Consoles.{ConsoleView, IsQuiet}
use Rattle.wh_console.specs.declared.files.Input.{Input}
use Rattle.wh_diagnostics.proofs.Lines.{nothing_added}
use Rattle.wh_diagnostics.specs.Failures.{IsWriteFailure}
use Rattle.wh_diagnostics.specs.Listings.{lacks_files}
use Rattle.wh_diagnostics.specs.Printing.{IsRefused}
use Rattle.wh_diagnostics.specs.Readings.{Gives}
use Rattle.wh_diagnostics.specs.Walks.{AreTold, HasBrokenOff, HasWalked, IsStoppedAt, IsTold, Silently, Visits}
use Rattle.wh_diagnostics.specs.declared.failures.Failure.{Failure}
use Rattle.wh_diagnostics.specs.declared.failures.Failure.TheVariants.{Output, OutOfMemory}

keeps_same : (known : Option (List ℕ)) → Keeps known known
keeps_same None = tt
keeps_same (Some bytes) = refl

-- nothing was reported or written
pub untouched : (console : ConsoleView) (failure : Failure) → IsRefused console console failure
untouched console failure = record {
  quiet = record { named = refl; errors = refl; whole = refl };
  unwritten = λ other. keeps_same console.output;
}

-- one input more was told
pub one_told : {K : Type 0} (Tells : Input → K → List ℕ → Type 0) (inputs : List Input) (all : List K) (input : Input) (own : K) (old between new : ConsoleView)
    → AreTold Tells inputs all old between → IsTold (Tells input) between new own
    → AreTold Tells (inputs ++ (input ∷ [])) (all ++ (own ∷ [])) old new
one_told Tells [] [] input own old between new told more =
    (new, subst (λ c. IsTold (Tells input) c new own) told more, refl)
one_told Tells [] (one ∷ others) input own old between new told more = absurd told
one_told Tells (first ∷ rest) [] input own old between new told more = absurd told
one_told Tells (first ∷ rest) (one ∷ others) input own old between new told more =
    (told.0, told.1, one_told Tells rest others input own told.0 between new told.2 more)

-- the inputs are those before one, that one, and those after it
pub inputs_parted : {X : Type 0} (all seen : List X) (x : X)
    → seen ≡ take (length seen) all → length seen < length all → x ≡ get_or all (length seen) x
    → all ≡ seen ++ (x ∷ drop (length seen + 1) all)
inputs_parted all seen x so_far less at =
    sym (take-append-drop (length seen) all)
    ∙ ap (λ l. l ++ drop (length seen) all) (sym so_far)
    ∙ ap (λ l. seen ++ l) (drop_more all (length seen) x less ∙ ap (λ y. y ∷ drop (length seen + 1) all) (sym at))

-- the command stopped at an input
pub stopped_at : {K : Type 0} (visits : Visits K) (gives : Gives) (inputs front : List Input) (input : Input) (rest : List Input) (all : List K) (old between new : ConsoleView) (failure : Failure)
    → inputs ≡ front ++ (input ∷ rest) → AreTold (visits.tells gives) front all old between → IsRefused between new failure → visits.stops input failure
    → HasBrokenOff visits gives inputs old new failure
stopped_at visits gives inputs front input rest all old between new failure parts told refused why = record {
  front = front;
  rest = input ∷ rest;
  parts = parts;
  all = all;
  between = between;
  told = told;
  refused = refused;
  why = inl why;
}

-- there was no memory for what is kept
pub no_memory_after : {K : Type 0} (visits : Visits K) (gives : Gives) (inputs front rest : List Input) (all : List K) (old new : ConsoleView)
    → inputs ≡ front ++ rest → AreTold (visits.tells gives) front all old new
    → HasBrokenOff visits gives inputs old new OutOfMemory
no_memory_after visits gives inputs front rest all old new parts told = record {
  front = front;
  rest = rest;
  parts = parts;
  all = all;
  between = new;
  told = told;
  refused = untouched new OutOfMemory;
  why = inr (inr refl);
}

-- the command ended after all inputs
pub walked : {K : Type 0} (visits : Visits K) (gives : Gives) (inputs : List Input) (left_out lacks : Bool) (all : List K) (old between new : ConsoleView) (answer : Result ℕ Failure)
    → lacks ≡ lacks_files left_out false inputs
    → AreTold (visits.tells gives) inputs all old between → IfOk answer (visits.ends all lacks between new)
    → IfOk answer (HasWalked visits gives inputs left_out old new)
walked visits gives inputs left_out lacks all old between new (Ok status) is told ended = record {
  all = all;
  between = between;
  told = told;
  ended = subst (λ l. visits.ends all l between new status) is ended;
}
walked visits gives inputs left_out lacks all old between new (Err failure) is told ended = tt

ended_why : (Stops : Type 0) (rest : List Input) (failure : Failure) → rest ≡ [] → IsWriteFailure failure
    → Stops ⊎ (((rest ≡ []) × (failure ≡ Output)) ⊎ (failure ≡ OutOfMemory))
ended_why Stops rest failure none (inl is) = inr (inl (none, is))
ended_why Stops rest failure none (inr is) = inr (inr is)

-- or it did not
pub unended : {K : Type 0} (visits : Visits K) (gives : Gives) (inputs : List Input) (all : List K) (old between new : ConsoleView) (answer : Result ℕ Failure)
    → AreTold (visits.tells gives) inputs all old between → IfErr answer (IsRefused between new) → IfErr answer IsWriteFailure
    → IfErr answer (HasBrokenOff visits gives inputs old new)
unended visits gives inputs all old between new (Ok status) told refused why = tt
unended visits gives inputs all old between new (Err failure) told refused why = record {
  front = inputs;
  rest = [];
  parts = sym (append-nil inputs);
  all = all;
  between = between;
  told = told;
  refused = refused;
  why = ended_why (IsStoppedAt visits.stops [] failure) [] failure refl why;
}

-- nothing was written of an input
pub told_silently : {K : Type 0} (Keeps : Gives → Input → K → Type 0) (gives : Gives) (input : Input) (console : ConsoleView) (answer : Result K Failure)
    → IfOk answer (Keeps gives input) → IfOk answer (IsTold (Silently Keeps gives input) console console)
told_silently Keeps gives input console (Ok own) kept = record {
  text = [];
  tells = (kept, refl);
  printed = record { quiet = record { named = refl; errors = refl; whole = refl }; taken = nothing_added console.output };
}
told_silently Keeps gives input console (Err failure) kept = tt

-- nor after a failure
pub stopped_silently : {T : Type 0} (console : ConsoleView) (answer : Result T Failure) → IfErr answer (IsRefused console console)
stopped_silently console (Ok value) = tt
stopped_silently console (Err failure) = untouched console failure

-- nothing was reported of inputs
told_quietly : {K : Type 0} (Tells : Input → K → List ℕ → Type 0) (inputs : List Input) (all : List K) (old new : ConsoleView)
    → AreTold Tells inputs all old new → IsQuiet old new
told_quietly Tells [] [] old new told = subst (IsQuiet old) (sym told) (record { named = refl; errors = refl; whole = refl })
told_quietly Tells [] (one ∷ others) old new told = absurd told
told_quietly Tells (first ∷ rest) [] old new told = absurd told
told_quietly Tells (first ∷ rest) (one ∷ others) old new told =
    quiet_twice old told.0 new told.1.printed.quiet (told_quietly Tells rest others told.0 new told.2)

pub broken_quietly : {K : Type 0} (visits : Visits K) (gives : Gives) (inputs : List Input) (old new : ConsoleView) (failure : Failure)
    → HasBrokenOff visits gives inputs old new failure → IsQuiet old new
broken_quietly visits gives inputs old new failure h =
    quiet_twice old h.between new (told_quietly (visits.tells gives) h.front h.all old h.between h.told) h.refused.quiet

keeps_added : (a b : Option (List ℕ)) (text : List ℕ) → text ≡ [] → Appends a b text → Keeps a b
keeps_added None b text none taken = tt
keeps_added (Some x) None text none taken = absurd taken
keeps_added (Some x) (Some y) text none taken = taken ∙ ap (λ l. x ++ l) none ∙ append-nil x

keeps_twice : (a b c : Option (List ℕ)) → Keeps a b → Keeps b c → Keeps a c
keeps_twice None b c p q = tt
keeps_twice (Some x) None c p q = absurd p
keeps_twice (Some x) (Some y) None p q = absurd q
keeps_twice (Some x) (Some y) (Some z) p q = q ∙ p

-- nothing was written of inputs of each of which nothing is
told_unwritten : {K : Type 0} (Tells : Input → K → List ℕ → Type 0) (inputs : List Input) (all : List K) (old new : ConsoleView)
    → ((input : Input) (own : K) (text : List ℕ) → Tells input own text → text ≡ [])
    → AreTold Tells inputs all old new → Keeps old.output new.output
told_unwritten Tells [] [] old new silent told = subst (λ c. Keeps old.output c.output) (sym told) (keeps_same old.output)
told_unwritten Tells [] (one ∷ others) old new silent told = absurd told
told_unwritten Tells (first ∷ rest) [] old new silent told = absurd told
told_unwritten Tells (first ∷ rest) (one ∷ others) old new silent told =
    keeps_twice old.output told.0.output new.output
    (keeps_added old.output told.0.output told.1.text (silent first one told.1.text told.1.tells) told.1.printed.taken)
    (told_unwritten Tells rest others told.0 new silent told.2)

pub broken_unwritten : {K : Type 0} (visits : Visits K) (gives : Gives) (inputs : List Input) (old new : ConsoleView) (failure : Failure)
    → ((input : Input) (own : K) (text : List ℕ) → visits.tells gives input own text → text ≡ [])
    → HasBrokenOff visits gives inputs old new failure → IsRefused old new failure
broken_unwritten visits gives inputs old new failure silent h = record {
  quiet = broken_quietly visits gives inputs old new failure h;
  unwritten = λ other.
      keeps_twice old.output h.between.output new.output
      (told_unwritten (visits.tells gives) h.front h.all old h.between silent h.told) (h.refused.unwritten other);
}
