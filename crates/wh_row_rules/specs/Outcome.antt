-- What a call returns that stops at the first fault: a value, or that fault.
use Rattle.std.specs.Prelude.{◌≡◌, List, [], ◌∷◌, Bool, Option, Some, None, Result, Ok, Err, ⊤, if◌then◌else◌}
use Rattle.wh_row_rules.specs.declared.or_memory.OrMemory.{OrMemory}
use Rattle.wh_row_rules.specs.declared.or_memory.OrMemory.TheVariants as or

-- continue with the value, or stop at the fault
infixl 10 ◌>>=◌
abbrev pub ◌>>=◌ : {A B F : Type 0} → Result A F → (A → Result B F) → Result B F
(Ok x) >>= f = f x
(Err fault) >>= f = Err fault

-- the value, or this fault if there is none
abbrev pub or_fault : {A F : Type 0} → F → Option A → Result A F
or_fault fault None = Err fault
or_fault fault (Some x) = Ok x

-- this fault, unless the test holds
abbrev pub passes : {F : Type 0} → F → Bool → Result ⊤ F
passes fault test = if test then Ok tt else Err fault

-- this fault, if there is one
abbrev pub faultless : {F : Type 0} → Option F → Result ⊤ F
faultless None = Ok tt
faultless (Some fault) = Err fault

-- all values, or the first fault
abbrev pub all_of : {A F : Type 0} → List (Result A F) → Result (List A) F
all_of [] = Ok []
all_of (r ∷ rs) = do
  x ← r
  xs ← all_of rs
  Ok (x ∷ xs)

-- a call stopped at the fault of what is defined, unless memory ran out
abbrev pub StopsAt : {A F : Type 0} → OrMemory F → Result A F → Type 0
StopsAt (or.Fault fault) defined = defined ≡ Err fault
StopsAt or.OutOfMemory defined = ⊤

-- what a call returned, as `view` sees it, is what is defined, unless memory ran out
abbrev pub Gives : {X Y F : Type 0} → (X → Y) → Result X (OrMemory F) → Result Y F → Type 0
Gives view (Ok x) defined = defined ≡ Ok (view x)
Gives view (Err fault) defined = StopsAt fault defined
