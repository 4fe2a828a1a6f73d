-- Each history goes to the worker whose turn its file is, and each row is that of its file.
use Rattle.std.proofs.Common.{◌≡◌, ◌∙◌, inl, inr, ℕ, zero, suc, ◌+◌, ◌<◌, List, [], ◌∷◌, ◌++◌, Some, slice_get, refl, sym, ap, subst, arith}
use Rattle.std.specs.Prelude.{◌%◌, Bool, Result, Ok, Err, Contains, if◌then◌else◌, eqb, true, false}
use Rattle.std.proofs.lemmas.Bool.Decides.{eqb_tells}
use Rattle.std.proofs.lemmas.List.Elements.{Contains-append_left, Contains-append_right, Contains-append_cases, Contains-push, Contains-push_cases}
use Rattle.std.proofs.lemmas.Option.{none-some, same_Some, slice_get_within, get_or_from_slice_get}
use Rattle.wh_events.specs.declared.event.Event.{Event}
use Rattle.wh_json.specs.declared.fault.ReadFault.{ReadFault}
use Rattle.wh_recorded.specs.Rounds.{Scripted, Stage}
use Rattle.wh_service.specs.declared.assignment.AssignedFile.{AssignedFile}
use Rattle.wh_service.specs.declared.failures.FileFailure.{FileFailure}
use Rattle.wh_service.specs.Assignment.{hand_from, history_of, read_as, source_at}
use Rattle.wh_service.specs.Laws.{AreAssignedInOrder, AsManyRowsAsFiles, EachFailureIsReported, EachGoesToItsWorker, EachRowIsOfItsFile, NoOtherFailureIsReported, NothingElseIsAssigned}
use Rattle.wh_service.specs.Readings.{Reading}
use Rattle.wh_service.specs.Rows.{failures_from, failures_of, row_from, rows_from}
use Rattle.wh_service.proofs.FileRows.{rows_length}

-- ---- what is in a list

nothing_in : {X : Type 0} (x : X) → Contains [] x → ⊥
nothing_in x h = let below : h.0 < 0 = h.1 in omega (arith, below)

only_one : {X : Type 0} (y x : X) → Contains (y ∷ []) x → y ≡ x
only_one y x h = elim (Contains-push_cases [] y x h) [ inl none ↦ absurd (nothing_in x none) | inr same ↦ same ]

in_place : {X : Type 0} (xs : List X) (place : ℕ) (x : X) → slice_get xs place ≡ Some x → Contains xs x
in_place xs place x at = (place, slice_get_within xs place x at, get_or_from_slice_get xs place x x at)

-- ---- which worker a history goes to

-- the history of the first file goes to the worker whose turn it is
goes_first : (count worker before : ℕ) (reading : Reading) (rest : List Reading) (name : List ℕ) (events : List Event)
    → eqb (before % count) worker ≡ true → reading ≡ (name, Ok events)
    → Contains (hand_from count worker before (reading ∷ rest)) (record { index = before; name = name; events = events })
goes_first count worker before reading rest name events turn is =
    let item : Scripted = record { index = before; name = name; events = events } in
    let own : (if eqb (before % count) worker then history_of before reading else []) ≡ item ∷ [] =
    ap (λ b. if b then history_of before reading else []) turn ∙ ap (λ r. history_of before r) is in
    Contains-append_left (if eqb (before % count) worker then history_of before reading else []) (hand_from count worker (before + 1) rest) item
    (subst (λ l. Contains l item) (sym own) (Contains-push [] item))

same_number : (n : ℕ) → eqb n n ≡ true
same_number n = elim (eqb_tells n n) [ inl same ↦ same.0 | inr other ↦ absurd (other.1 refl) ]

goes_from : (count before place : ℕ) (readings : List Reading) (name : List ℕ) (events : List Event)
    → slice_get readings place ≡ Some (name, Ok events)
    → Contains (hand_from count ((before + place) % count) before readings) (record { index = before + place; name = name; events = events })
goes_from count before place [] name events at = absurd (none-some (name, Ok events) at)
goes_from count before zero (reading ∷ rest) name events at =
    let none : before ≡ before + 0 = omega arith in
    let is : reading ≡ (name, Ok events) = same_Some reading (name, Ok events) at in
    subst (λ n. Contains (hand_from count (n % count) before (reading ∷ rest)) (record { index = n; name = name; events = events })) none
    (goes_first count (before % count) before reading rest name events (same_number (before % count)) is)
goes_from count before (suc place) (reading ∷ rest) name events at =
    let more : before + 1 + place ≡ before + suc place = omega arith in
    let worker : ℕ = (before + 1 + place) % count in
    let item : Scripted = record { index = before + 1 + place; name = name; events = events } in
    let later : Contains (hand_from count worker (before + 1) rest) item = goes_from count (before + 1) place rest name events at in
    subst (λ n. Contains (hand_from count (n % count) before (reading ∷ rest)) (record { index = n; name = name; events = events })) more
    (Contains-append_right (if eqb (before % count) worker then history_of before reading else []) (hand_from count worker (before + 1) rest) item later)

pub each_goes_to_its_worker : EachGoesToItsWorker
each_goes_to_its_worker count place readings name events at =
    let none : 0 + place ≡ place = omega arith in
    subst (λ n. Contains (hand_from count (n % count) 0 readings) (record { index = n; name = name; events = events })) none
    (goes_from count 0 place readings name events at)

-- a history of a worker is that of a file, whose turn is the worker's
record IsOfFile (count worker before : ℕ) (readings : List Reading) (history : Scripted) : Type 0 where
  place : ℕ
  index : history.index ≡ before + place
  turn : history.index % count ≡ worker
  at : slice_get readings place ≡ Some (history.name, Ok history.events)

one_read : (count worker index : ℕ) (name : List ℕ) (outcome : Result (List Event) ReadFault) (rest : List Reading) (history : Scripted)
    → index % count ≡ worker → Contains (read_as index name outcome) history
    → IsOfFile count worker index ((name, outcome) ∷ rest) history
one_read count worker index name (Ok events) rest history turn h =
    let item : Scripted = record { index = index; name = name; events = events } in
    let same : item ≡ history = only_one item history h in
    let none : index ≡ index + 0 = omega arith in
    record {
      place = 0;
      index = sym (ap (λ s. s.index) same) ∙ none;
      turn = sym (ap (λ s. s.index % count) same) ∙ turn;
      at = ap (λ s. Some (s.name, Ok s.events)) same;
    }
one_read count worker index name (Err fault) rest history turn h = absurd (nothing_in history h)

of_first : (count worker before : ℕ) (reading : Reading) (rest : List Reading) (history : Scripted)
    → Contains (if eqb (before % count) worker then history_of before reading else []) history
    → IsOfFile count worker before (reading ∷ rest) history
of_first count worker before reading rest history h = elim (eqb_tells (before % count) worker) [
  | inl same ↦ one_read count worker before reading.0 reading.1 rest history same.1 (subst (λ b. Contains (if b then history_of before reading else []) history) same.0 h)
  | inr other ↦ absurd (nothing_in history (subst (λ b. Contains (if b then history_of before reading else []) history) other.0 h))
]

of_file : (count worker before : ℕ) (readings : List Reading) (history : Scripted)
    → Contains (hand_from count worker before readings) history
    → IsOfFile count worker before readings history
of_file count worker before [] history h = absurd (nothing_in history h)
of_file count worker before (reading ∷ rest) history h =
    elim (Contains-append_cases (if eqb (before % count) worker then history_of before reading else []) (hand_from count worker (before + 1) rest) history h) [
      | inl own ↦ of_first count worker before reading rest history own
      | inr later ↦ further (of_file count worker (before + 1) rest history later)
    ]
  where
    further : IsOfFile count worker (before + 1) rest history → IsOfFile count worker before (reading ∷ rest) history
    further is =
        let index = is.index in
        record { place = suc is.place; index = omega (arith, index); turn = is.turn; at = is.at }

pub nothing_else_is_assigned : NothingElseIsAssigned
nothing_else_is_assigned count worker readings history h =
    let is = of_file count worker 0 readings history h in
    let index = is.index in
    let here : is.place ≡ history.index = omega (arith, index) in
    (is.turn, ap (λ n. slice_get readings n) (sym here) ∙ is.at)

-- ---- in the order of the files

abbrev InOrder : List Scripted → Type 0
InOrder histories = (first second : ℕ) (one other : Scripted) → first < second → slice_get histories first ≡ Some one → slice_get histories second ≡ Some other → one.index < other.index

-- one history before those of later files
one_before : (item : Scripted) (later : List Scripted) → ((other : Scripted) → Contains later other → item.index < other.index) → InOrder later → InOrder (item ∷ later)
one_before item later above order first zero one other lt at there = absurd (omega (arith, lt))
one_before item later above order zero (suc second) one other lt at there =
    let same : item ≡ one = same_Some item one at in
    let less : item.index < other.index = above other (in_place later second other there) in
    subst (λ s. s.index < other.index) same less
one_before item later above order (suc first) (suc second) one other lt at there =
    let less : first < second = omega (arith, lt) in
    order first second one other less at there

read_before : (index : ℕ) (name : List ℕ) (outcome : Result (List Event) ReadFault) (later : List Scripted) → ((other : Scripted) → Contains later other → index < other.index) → InOrder later → InOrder (read_as index name outcome ++ later)
read_before index name (Ok events) later above order = one_before (record { index = index; name = name; events = events }) later above order
read_before index name (Err fault) later above order = order

own_before : (b : Bool) (before : ℕ) (reading : Reading) (later : List Scripted) → ((other : Scripted) → Contains later other → before < other.index) → InOrder later → InOrder ((if b then history_of before reading else []) ++ later)
own_before true before reading later above order = read_before before reading.0 reading.1 later above order
own_before false before reading later above order = order

in_order : (count worker before : ℕ) (readings : List Reading) → InOrder (hand_from count worker before readings)
in_order count worker before [] = λ first second one other lt at there. absurd (none-some one at)
in_order count worker before (reading ∷ rest) =
    own_before (eqb (before % count) worker) before reading (hand_from count worker (before + 1) rest) above (in_order count worker (before + 1) rest)
  where
    above : (other : Scripted) → Contains (hand_from count worker (before + 1) rest) other → before < other.index
    above other h = let index = (of_file count worker (before + 1) rest other h).index in omega (arith, index)

pub are_assigned_in_order : AreAssignedInOrder
are_assigned_in_order count worker first second readings one other = in_order count worker 0 readings first second one other

-- ---- the rows of files, and their failed tasks

row_from_place : (sources : List Stage) (before : ℕ) (files : List AssignedFile) (place : ℕ) (file : AssignedFile)
    → slice_get files place ≡ Some file
    → slice_get (rows_from sources before files) place ≡ Some (row_from (source_at sources (before + place)) file)
row_from_place sources before [] place file at = absurd (none-some file at)
row_from_place sources before (f ∷ fs) zero file at =
    let none : before ≡ before + 0 = omega arith in
    ap (λ g. Some (row_from (source_at sources before) g)) (same_Some f file at) ∙ ap (λ n. Some (row_from (source_at sources n) file)) none
row_from_place sources before (f ∷ fs) (suc place) file at =
    let more : before + 1 + place ≡ before + suc place = omega arith in
    row_from_place sources (before + 1) fs place file at ∙ ap (λ n. Some (row_from (source_at sources n) file)) more

pub each_row_is_of_its_file : EachRowIsOfItsFile
each_row_is_of_its_file sources files place file at =
    let none : 0 + place ≡ place = omega arith in
    row_from_place sources 0 files place file at ∙ ap (λ n. Some (row_from (source_at sources n) file)) none

pub as_many_rows_as_files : AsManyRowsAsFiles
as_many_rows_as_files sources files = rows_length sources 0 files

failure_from_place : (sources : List Stage) (before : ℕ) (files : List AssignedFile) (place : ℕ) (file : AssignedFile) (failure : FileFailure)
    → slice_get files place ≡ Some file
    → Contains (failures_of (source_at sources (before + place)) file) failure
    → Contains (failures_from sources before files) failure
failure_from_place sources before [] place file failure at h = absurd (none-some file at)
failure_from_place sources before (f ∷ fs) zero file failure at h =
    let none : before + 0 ≡ before = omega arith in
    let there : Contains (failures_of (source_at sources before) file) failure = subst (λ n. Contains (failures_of (source_at sources n) file) failure) none h in
    let own : Contains (failures_of (source_at sources before) f) failure = subst (λ g. Contains (failures_of (source_at sources before) g) failure) (sym (same_Some f file at)) there in
    Contains-append_left (failures_of (source_at sources before) f) (failures_from sources (before + 1) fs) failure own
failure_from_place sources before (f ∷ fs) (suc place) file failure at h =
    let more : before + suc place ≡ before + 1 + place = omega arith in
    let there : Contains (failures_of (source_at sources (before + 1 + place)) file) failure = subst (λ n. Contains (failures_of (source_at sources n) file) failure) more h in
    Contains-append_right (failures_of (source_at sources before) f) (failures_from sources (before + 1) fs) failure (failure_from_place sources (before + 1) fs place file failure at there)

pub each_failure_is_reported : EachFailureIsReported
each_failure_is_reported sources files place file failure at h =
    let none : place ≡ 0 + place = omega arith in
    failure_from_place sources 0 files place file failure at (subst (λ n. Contains (failures_of (source_at sources n) file) failure) none h)

-- a failed task that is reported is one of a file
record IsFailureOf (sources : List Stage) (before : ℕ) (files : List AssignedFile) (failure : FileFailure) : Type 0 where
  place : ℕ
  file : AssignedFile
  at : slice_get files place ≡ Some file
  is : Contains (failures_of (source_at sources (before + place)) file) failure

failure_of_file : (sources : List Stage) (before : ℕ) (files : List AssignedFile) (failure : FileFailure)
    → Contains (failures_from sources before files) failure
    → IsFailureOf sources before files failure
failure_of_file sources before [] failure h = absurd (nothing_in failure h)
failure_of_file sources before (f ∷ fs) failure h =
    elim (Contains-append_cases (failures_of (source_at sources before) f) (failures_from sources (before + 1) fs) failure h) [
      | inl own ↦ (let none : before ≡ before + 0 = omega arith in
          record { place = 0; file = f; at = refl; is = subst (λ n. Contains (failures_of (source_at sources n) f) failure) none own })
      | inr later ↦ further (failure_of_file sources (before + 1) fs failure later)
    ]
  where
    further : IsFailureOf sources (before + 1) fs failure → IsFailureOf sources before (f ∷ fs) failure
    further of =
        let more : before + 1 + of.place ≡ before + suc of.place = omega arith in
        record { place = suc of.place; file = of.file; at = of.at; is = subst (λ n. Contains (failures_of (source_at sources n) of.file) failure) more of.is }

pub no_other_failure_is_reported : NoOtherFailureIsReported
no_other_failure_is_reported sources files failure h =
    let of = failure_of_file sources 0 files failure h in
    let none : 0 + of.place ≡ of.place = omega arith in
    (of.place, of.file, of.at, subst (λ n. Contains (failures_of (source_at sources n) of.file) failure) none of.is)
