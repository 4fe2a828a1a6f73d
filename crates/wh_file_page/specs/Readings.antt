-- What is read of a file for its page.
use Rattle.std.specs.Prelude.{◌≡◌, ℕ, Bool, true, false, List, Option, Some, None, Result, Vec}
use Rattle.std.specs.declared.alloc.Global.{Global}
use Rattle.wh_events.specs.declared.event.Event.{Event}
use Rattle.wh_explain.specs.Reading.{IsReadOf}
use Rattle.wh_json.specs.declared.fault.ReadFault.{ReadFault}

-- the result of reading the history in bytes, which is not read if only what is recorded is asked for
abbrev pub IsReadAs : (only_recorded : Bool) → List ℕ → Option (Result (Vec Event Global) ReadFault) → Type 0
IsReadAs true bytes read = read ≡ None
IsReadAs false bytes None = ⊥
IsReadAs false bytes (Some read) = IsReadOf bytes read
