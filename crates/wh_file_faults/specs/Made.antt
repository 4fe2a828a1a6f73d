-- Faults of inputs.
use Rattle.std.specs.Prelude.{◌≡◌, ◌⊎◌, Contains, List}
use Rattle.wh_console.specs.declared.files.InputFault.{InputFault}
use Rattle.wh_console.specs.declared.files.InputFault.TheVariants.{OutOfMemory}

-- the fault is that of one of these inputs, by a relation
abbrev pub IsOfOne : {T E : Type 0} → (T → E → Type 0) → List T → E → Type 0
IsOfOne {T} IsFault inputs fault = (input : T) × Contains inputs input × IsFault input fault

-- the fault of an input that can't be read, as a reader gives it, or that there was no memory
abbrev pub IsFaultIn : {T : Type 0} → (T → InputFault → Type 0) → List T → InputFault → Type 0
IsFaultIn Refuses inputs fault = (fault ≡ OutOfMemory) ⊎ IsOfOne Refuses inputs fault
