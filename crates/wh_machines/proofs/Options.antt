-- On the first of two options, and on faults that a test decides.
use Rattle.std.proofs.Common.{◌≡◌, Bool, true, false, Option, Some, None, is_some, refl}
use Rattle.wh_events.specs.declared.place.PlaceFault.{PlaceFault}
use Rattle.wh_events.specs.Places.{fault_if}
use Rattle.wh_events.specs.Machines.{or_else}

pub or_else-none : {A : Type 0} (o : Option A) → or_else o None ≡ o
or_else-none None = refl
or_else-none (Some x) = refl

pub or_else_assoc : {A : Type 0} (o p q : Option A) → or_else (or_else o p) q ≡ or_else o (or_else p q)
or_else_assoc None p q = refl
or_else_assoc (Some x) p q = refl

pub first_none : {A : Type 0} (o p : Option A) → or_else o p ≡ None → o ≡ None
first_none None p h = refl
first_none (Some x) p h = h

pub second_none : {A : Type 0} (o p : Option A) → or_else o p ≡ None → p ≡ None
second_none None p h = h
second_none (Some x) p h = cc

pub not_faulty : (b : Bool) (fault : PlaceFault) → fault_if b fault ≡ None → b ≡ false
not_faulty false fault h = refl
not_faulty true fault h = cc

pub is_some_none : {A : Type 0} (o : Option A) → is_some o ≡ false → o ≡ None
is_some_none None h = refl
is_some_none (Some x) h = cc
