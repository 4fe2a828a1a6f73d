-- The result of writing: a JSON value, or the first fault.
use Rattle.std.specs.Prelude.{◌≡◌, ◌≢◌, List, Vec, Result, Ok, Err, map}
use Rattle.std.specs.declared.alloc.Global.{Global}
use Rattle.serde_json.specs.Data.{Data}
use Rattle.serde_json.specs.View.{view}
use Rattle.serde_json.specs.declared.value.Value.{Value}
use Rattle.wh_commands.specs.declared.fault.RequestFault.{RequestFault}
use Rattle.wh_commands.specs.declared.fault.RequestFault.TheVariants as faults

-- continue with the written value, or stop with the fault
abbrev pub on_written : {A B : Type 0} → Result A RequestFault → (A → Result B RequestFault) → Result B RequestFault
on_written (Ok x) f = f x
on_written (Err fault) f = Err fault

-- the function's result is the written value or the fault, unless memory ran out
abbrev pub Writes : Result Value RequestFault → Result Data RequestFault → Type 0
Writes (Ok value) written = written ≡ Ok (view value)
Writes (Err fault) written = fault ≢ faults.OutOfMemory → written ≡ Err fault

-- the same for a list of values
abbrev pub WritesAll : Result (Vec Value Global) RequestFault → Result (List Data) RequestFault → Type 0
WritesAll (Ok values) written = written ≡ Ok (map view values.items)
WritesAll (Err fault) written = fault ≢ faults.OutOfMemory → written ≡ Err fault
