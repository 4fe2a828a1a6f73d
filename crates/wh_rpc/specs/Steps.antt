-- Lists of what happened to a table of open calls, and what holds after each of them.
use Rattle.std.specs.Prelude.{◌≡◌, ◌≢◌, ◌⊎◌, ℕ, ◌+◌, ◌≤◌, Bool, true, false, List, [], ◌∷◌, Option, Some, None, ⊤, slice_get, if◌then◌else◌}
use Rattle.wh_rpc.specs.Tables.{Table, IsFirst, Opens, Takes, Drains, Closes, refuses, is_id}

-- a step: a call or a poll was opened under an id; a response came for an id and was delivered to what waited under it;
-- the bridge shut down; all calls ended
pub data Step (T : Type 0) : Type 0 where
  opened : Bool → T → ℕ → Step T
  answered : ℕ → Option T → Step T
  drained : Step T
  closed : Step T

-- the step takes the old table to the new one
abbrev pub Does : {T : Type 0} → Table T → Step T → Table T → Type 0
Does old (opened is_poll waiter id) new = Opens old new is_poll waiter id
Does old (answered id found) new = Takes old new id found
Does old drained new = Drains old new
Does old closed new = Closes old new

-- the steps, one after the other, take the first table to the last
abbrev pub DoesAll : {T : Type 0} → Table T → List (Step T) → Table T → Type 0
DoesAll first [] last = last ≡ first
DoesAll {T} first (step ∷ steps) last = (next : Table T) × Does first step next × DoesAll next steps last

-- ---- Ids

-- the assigned ids, in their order
abbrev pub ids_given : {T : Type 0} → List (Step T) → List ℕ
ids_given [] = []
ids_given (opened is_poll waiter id ∷ steps) = id ∷ ids_given steps
ids_given (answered id found ∷ steps) = ids_given steps
ids_given (drained ∷ steps) = ids_given steps
ids_given (closed ∷ steps) = ids_given steps

-- ids are assigned one after the other, from the first table's next id upwards, so none is assigned twice
abbrev pub IdsRunUpwards : Type 0 → Type 0
IdsRunUpwards T =
    (first last : Table T) (steps : List (Step T)) (i id : ℕ) → DoesAll first steps last
    → slice_get (ids_given steps) i ≡ Some id → id ≡ first.next + i

-- ---- Responses

-- the step opened the call of this id, for this waiter
abbrev pub IsOpening : {T : Type 0} → ℕ → T → Step T → Type 0
IsOpening id waiter (opened is_poll other given) = (given ≡ id) × (other ≡ waiter)
IsOpening id waiter (answered given found) = ⊥
IsOpening id waiter drained = ⊥
IsOpening id waiter closed = ⊥

-- no response came for the id, and the calls did not end
abbrev pub StaysOpen : {T : Type 0} → ℕ → List (Step T) → Type 0
StaysOpen id [] = ⊤
StaysOpen id (opened is_poll waiter given ∷ steps) = StaysOpen id steps
StaysOpen id (answered given found ∷ steps) = (given ≢ id) × StaysOpen id steps
StaysOpen id (drained ∷ steps) = StaysOpen id steps
StaysOpen id (closed ∷ steps) = ⊥

-- one of the steps opened the call of this id for this waiter, and after it no response came for the
-- id, and the calls did not end
abbrev pub IsOpen : {T : Type 0} → ℕ → T → List (Step T) → Type 0
IsOpen id waiter [] = ⊥
IsOpen id waiter (step ∷ steps) = (IsOpening id waiter step × StaysOpen id steps) ⊎ IsOpen id waiter steps

-- the response that comes for an id after some steps is delivered to a waiter exactly if the call of that id was opened
-- for it and is still open
abbrev pub ResponsesFindTheirCalls : Type 0 → Type 0
ResponsesFindTheirCalls T =
    (first middle last : Table T) (steps : List (Step T)) (id : ℕ) (waiter : T) (found : Option T)
    → IsFirst first → DoesAll first steps middle → Takes middle last id found
    → (found ≡ Some waiter → IsOpen id waiter steps) × (IsOpen id waiter steps → found ≡ Some waiter)

-- how many responses for the id were delivered to a waiter
abbrev pub times_given : {T : Type 0} → ℕ → List (Step T) → ℕ
times_given id [] = 0
times_given id (opened is_poll waiter given ∷ steps) = times_given id steps
times_given id (answered given (Some waiter) ∷ steps) = (if is_id given id then 1 else 0) + times_given id steps
times_given id (answered given None ∷ steps) = times_given id steps
times_given id (drained ∷ steps) = times_given id steps
times_given id (closed ∷ steps) = times_given id steps

-- of all responses for an id at most one is delivered to a waiter
abbrev pub ResponsesAreGivenOnce : Type 0 → Type 0
ResponsesAreGivenOnce T =
    (first last : Table T) (steps : List (Step T)) (id : ℕ)
    → IsFirst first → DoesAll first steps last → times_given id steps ≤ 1

-- ---- The end

-- the ids of polls
abbrev pub polls_given : {T : Type 0} → List (Step T) → List ℕ
polls_given [] = []
polls_given (opened true waiter id ∷ steps) = id ∷ polls_given steps
polls_given (opened false waiter id ∷ steps) = polls_given steps
polls_given (answered id found ∷ steps) = polls_given steps
polls_given (drained ∷ steps) = polls_given steps
polls_given (closed ∷ steps) = polls_given steps

-- after the calls have ended none is opened, and every attempt is refused
abbrev pub EndedCallsStayEnded : Type 0 → Type 0
EndedCallsStayEnded T =
    (first middle last : Table T) (steps : List (Step T)) (is_poll : Bool)
    → Closes first middle → DoesAll middle steps last
    → (ids_given steps ≡ []) × (refuses is_poll last ≡ true)

-- after the bridge sent notice that it shuts down no poll is opened, and every attempt is refused
abbrev pub PollsEndAtShutdown : Type 0 → Type 0
PollsEndAtShutdown T =
    (first middle last : Table T) (steps : List (Step T))
    → Drains first middle → DoesAll middle steps last
    → (polls_given steps ≡ []) × (refuses true last ≡ true)
