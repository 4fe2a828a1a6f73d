-- Inputs that are worked on batch by batch.
use Rattle.std.proofs.Common.{◌≡◌, ◌∙◌, ℕ, zero, suc, ◌*◌, ◌+◌, ◌-◌, ◌≤◌, ◌<◌, inl, inr, List, [], ◌++◌, length, take, drop, refl, sym, ap, subst, arith}
use Rattle.std.specs.Prelude.{Bool, Result, Ok, Err, IfErr}
use Rattle.std.proofs.Math.Seq.{take-add}
use Rattle.std.proofs.lemmas.List.{drop-drop, length-drop, length-take-le, take-append-drop}
use Rattle.wh_console.proofs.Printing.{nothing_reported}
use Rattle.wh_console.specs.Consoles.{ConsoleView, Reported}
use Rattle.wh_diagnostics.proofs.Telling.{batch_fits, reported_apart, told_all, told_before_last, told_more}
use Rattle.wh_diagnostics.specs.Batches.{batch_size, reports_after, reported_batches, reports_of, HasStopped, HasStoppedWhole}
use Rattle.wh_diagnostics.specs.ProgressLines.{end_text, line_text, progress_of}
use Rattle.wh_diagnostics.specs.declared.progress_modes.ProgressMode.{ProgressMode}

-- something was made of so many batches of inputs, and they were reported
pub record AreBatched {T A : Type 0} (Are : List T → A → Type 0) (faulty : A → List Bool) (mode : ProgressMode) (inputs : List T) (batches : ℕ)
    (made : A) (left : List T) (old new : ConsoleView) : Type 0 where
  pub found : Are (take (batches * batch_size (length inputs)) inputs) made
  pub rest : left ≡ drop (batches * batch_size (length inputs)) inputs
  pub told : Reported old new (reports_after mode (length inputs) (faulty made) batches)

-- what was made of inputs has a mark for each of them
abbrev pub HasAMarkEach : {T A : Type 0} → (List T → A → Type 0) → (A → List Bool) → Type 0
HasAMarkEach {T} {A} Are faulty = (own : List T) (made : A) → Are own made → length (faulty made) ≡ length own

-- none at first
pub batched_none : {T A : Type 0} (Are : List T → A → Type 0) (faulty : A → List Bool) (mode : ProgressMode) (inputs : List T) (made : A) (console : ConsoleView)
    → Are [] made → AreBatched Are faulty mode inputs zero made inputs console console
batched_none Are faulty mode inputs made console empty =
    let none : 0 ≡ zero * batch_size (length inputs) = omega arith in
    record {
      found = subst (λ n. Are (take n inputs) made) none empty;
      rest = ap (λ n. drop n inputs) none;
      told = nothing_reported console;
    }

-- a batch lies within what is left
pub batch_left : {T A : Type 0} (Are : List T → A → Type 0) (faulty : A → List Bool) (mode : ProgressMode) (inputs : List T) (batches : ℕ)
    (made : A) (left : List T) (old new : ConsoleView)
    → AreBatched Are faulty mode inputs batches made left old new → batches < reported_batches mode (length inputs)
    → batch_size (length inputs) ≤ length left
batch_left Are faulty mode inputs batches made left old new are less =
    let fits = batch_fits mode (length inputs) batches less in
    let rest : length left ≡ length inputs - batches * batch_size (length inputs) = ap length are.rest ∙ length-drop (batches * batch_size (length inputs)) inputs in
    omega (arith, fits, rest)

-- the batches that are reported are within the files
pub batches_fit : (mode : ProgressMode) (total batches : ℕ) → batches ≤ reported_batches mode total → batches * batch_size total ≤ total
batches_fit mode total zero few = omega arith
batches_fit mode total (suc batches) few = batch_fits mode total batches (omega (arith, few))

-- the files of one batch more
one_more : {T : Type 0} (inputs : List T) (batches size : ℕ) → take (suc batches * size) inputs ≡ take (batches * size) inputs ++ take size (drop (batches * size) inputs)
one_more inputs batches size =
    let same : suc batches * size ≡ batches * size + size = omega arith in
    ap (λ n. take n inputs) same ∙ take-add (batches * size) size inputs

-- and what is left after it
one_less : {T : Type 0} (inputs : List T) (batches size : ℕ) → drop size (drop (batches * size) inputs) ≡ drop (suc batches * size) inputs
one_less inputs batches size =
    let same : batches * size + size ≡ suc batches * size = omega arith in
    drop-drop size (batches * size) inputs ∙ ap (λ n. drop n inputs) same

fewer : (batches size total : ℕ) → suc batches * size ≤ total → batches * size ≤ total
fewer batches size total fits = omega arith

-- one batch more was worked on, and reported
pub batched_more : {T A : Type 0} (Are : List T → A → Type 0) (faulty : A → List Bool) (mode : ProgressMode) (inputs : List T) (batches : ℕ)
    (made all : A) (own : List Bool) (left batch later : List T) (old between new : ConsoleView)
    → HasAMarkEach Are faulty
    → batches < reported_batches mode (length inputs)
    → AreBatched Are faulty mode inputs batches made left old between
    → batch ≡ take (batch_size (length inputs)) left → later ≡ drop (batch_size (length inputs)) left
    → ((front : List T) → Are front made → Are (front ++ batch) all)
    → faulty made ++ own ≡ faulty all
    → Reported between new (line_text mode (progress_of (length inputs) (faulty all)))
    → AreBatched Are faulty mode inputs (suc batches) all later old new
batched_more Are faulty mode inputs batches made all own left batch later old between new many less are front back adds marks line =
    let total = length inputs in
    let size = batch_size total in
    let fits : suc batches * size ≤ total = batch_fits mode total batches less in
    let same : take (batches * size) inputs ++ batch ≡ take (suc batches * size) inputs =
    ap (λ l. take (batches * size) inputs ++ l) (front ∙ ap (λ l. take size l) are.rest) ∙ sym (one_more inputs batches size) in
    let found : Are (take (suc batches * size) inputs) all = subst (λ l. Are l all) same (adds (take (batches * size) inputs) are.found) in
    let before : length (faulty made) ≡ batches * size =
    many (take (batches * size) inputs) made are.found ∙ length-take-le (batches * size) inputs (fewer batches size total fits) in
    let after : length (faulty made ++ own) ≡ suc batches * size =
    ap length marks ∙ many (take (suc batches * size) inputs) all found ∙ length-take-le (suc batches * size) inputs fits in
    record {
      found = found;
      rest = back ∙ ap (λ l. drop size l) are.rest ∙ one_less inputs batches size;
      told = subst (λ l. Reported old new (reports_after mode total l (suc batches))) marks
          (told_more mode total (faulty made) own batches old between new before after are.told
          (subst (λ l. Reported between new (line_text mode (progress_of total l))) (sym marks) line));
    }

-- the last batch was worked on
pub batched_all : {T A : Type 0} (Are : List T → A → Type 0) (faulty : A → List Bool) (mode : ProgressMode) (inputs : List T) (batches : ℕ)
    (made all : A) (own : List Bool) (left : List T) (old new : ConsoleView)
    → HasAMarkEach Are faulty
    → batches * batch_size (length inputs) ≤ length inputs
    → AreBatched Are faulty mode inputs batches made left old new
    → ((front : List T) → Are front made → Are (front ++ left) all)
    → faulty made ++ own ≡ faulty all
    → Are inputs all × Reported old new (reports_after mode (length inputs) (faulty all) batches)
batched_all Are faulty mode inputs batches made all own left old new many fits are adds marks =
    let total = length inputs in
    let size = batch_size total in
    let same : take (batches * size) inputs ++ left ≡ inputs =
    ap (λ l. take (batches * size) inputs ++ l) are.rest ∙ take-append-drop (batches * size) inputs in
    let before : length (faulty made) ≡ batches * size =
    many (take (batches * size) inputs) made are.found ∙ length-take-le (batches * size) inputs fits in (
      subst (λ l. Are l all) same (adds (take (batches * size) inputs) are.found),
      subst (λ l. Reported old new (reports_after mode total l batches)) marks
          (told_before_last mode total (faulty made) own batches old new before are.told),
    )

-- the work stopped after some batches
pub batched_stopped : {T A : Type 0} (Are : List T → A → Type 0) (faulty : A → List Bool) (mode : ProgressMode) (inputs : List T) (batches : ℕ)
    (made : A) (left : List T) (old new : ConsoleView)
    → batches ≤ reported_batches mode (length inputs)
    → AreBatched Are faulty mode inputs batches made left old new
    → HasStopped Are faulty mode inputs old new
batched_stopped Are faulty mode inputs batches made left old new few are =
    let total = length inputs in
    let size = batch_size total in
    record {
      front = take (batches * size) inputs;
      made = made;
      found = are.found;
      batches = batches;
      few = few;
      done = inl refl;
      reported = are.told;
    }

-- or after all of them
pub stopped_after_all : {T A : Type 0} (Are : List T → A → Type 0) (faulty : A → List Bool) (mode : ProgressMode) (inputs : List T)
    (made : A) (old new : ConsoleView)
    → Are inputs made
    → Reported old new (reports_after mode (length inputs) (faulty made) (reported_batches mode (length inputs)))
    → HasStopped Are faulty mode inputs old new
stopped_after_all Are faulty mode inputs made old new found told = record {
  front = inputs;
  made = made;
  found = found;
  batches = reported_batches mode (length inputs);
  few = omega arith;
  done = inr (refl, refl);
  reported = told;
}

-- all that is reported of inputs was reported of what was made of them
pub told_in_all : {T A : Type 0} (Are : List T → A → Type 0) (faulty : A → List Bool) (mode : ProgressMode) (inputs : List T) (lines : ℕ)
    (made : A) (a b c : ConsoleView)
    → HasAMarkEach Are faulty
    → lines ≡ reported_batches mode (length inputs)
    → Are inputs made
    → Reported a b (reports_after mode (length inputs) (faulty made) (reported_batches mode (length inputs)))
    → Reported b c (end_text mode lines)
    → Reported a c (reports_of mode (faulty made))
told_in_all Are faulty mode inputs lines made a b c many same found told ended =
    told_all mode (length inputs) (faulty made) a b c (sym (many inputs made found)) told
    (subst (λ n. Reported b c (end_text mode n)) same ended)

-- the work stopped, and then what erases a line was written
pub stopped_whole : {T A : Type 0} (Are : List T → A → Type 0) (faulty : A → List Bool) (mode : ProgressMode) (inputs : List T) (lines : ℕ)
    (old between new : ConsoleView)
    → lines ≡ reported_batches mode (length inputs)
    → HasStopped Are faulty mode inputs old between
    → Reported between new (end_text mode lines)
    → HasStoppedWhole Are faulty mode inputs old new
stopped_whole Are faulty mode inputs lines old between new same stopped erased = record {
  between = between;
  stopped = stopped;
  erased = subst (λ n. Reported between new (end_text mode n)) same erased;
}

-- all was reported, and nothing more came of it
pub whole_after_all : {T A : Type 0} (Are : List T → A → Type 0) (faulty : A → List Bool) (mode : ProgressMode) (inputs : List T)
    (made : A) (old new : ConsoleView)
    → HasAMarkEach Are faulty
    → Are inputs made
    → Reported old new (reports_of mode (faulty made))
    → HasStoppedWhole Are faulty mode inputs old new
whole_after_all Are faulty mode inputs made old new many found reported =
    let lines = reported_batches mode (length inputs) in
    let before = reports_after mode (length inputs) (faulty made) lines in
    let apart = reported_apart old new before (end_text mode lines)
    (subst (λ n. Reported old new (λ name. reports_after mode n (faulty made) (reported_batches mode n) name ++ end_text mode (reported_batches mode n) name))
    (many inputs made found) reported) in
    record {
      between = apart.0;
      stopped = stopped_after_all Are faulty mode inputs made old apart.0 found apart.1;
      erased = apart.2;
    }

-- whatever the fault is
pub stopped_if : {X E : Type 0} {P : Type 0} (answer : Result X E) → P → IfErr answer (λ fault. P)
stopped_if (Ok x) stopped = tt
stopped_if (Err fault) stopped = stopped
