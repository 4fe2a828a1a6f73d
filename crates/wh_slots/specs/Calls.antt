-- Lists of accepted calls, and what holds after each of them.
use Rattle.std.specs.Prelude.{◌≡◌, ℕ, ◌+◌, true, List, [], ◌∷◌, Some, slice_get, length}
use Rattle.wh_slots.specs.declared.SlotKind.{SlotKind}
use Rattle.wh_slots.specs.declared.TaskName.{TaskName}
use Rattle.wh_slots.specs.Table.{Table, IsTable, Reserves, Uses, Frees, Releases}

-- an accepted call, with the right that it took or returned
pub data Call : Type 0 where
  reserve : SlotKind × ℕ → Call
  use_slot : SlotKind × ℕ → TaskName → SlotKind × ℕ → Call
  free : SlotKind × ℕ → Call
  release : SlotKind × ℕ → Call
  drain : Call

-- the call leads from the old table to the new one
abbrev pub Does : Table → Call → Table → Type 0
Does old (reserve permit) new = Reserves old new permit
Does old (use_slot permit name held) new = Uses old new permit name held
Does old (free held) new = Frees old new held
Does old (release permit) new = Releases old new permit
Does old drain new = new ≡ record old { draining = true }

-- the calls, one after the other, lead from the first table to the last
abbrev pub DoesAll : Table → List Call → Table → Type 0
DoesAll first [] last = last ≡ first
DoesAll first (call ∷ calls) last = (next : Table) × Does first call next × DoesAll next calls last

-- the numbers that the calls gave out, in their order
abbrev pub numbers_given : List Call → List ℕ
numbers_given [] = []
numbers_given (reserve permit ∷ calls) = permit.1 ∷ numbers_given calls
numbers_given (use_slot permit name held ∷ calls) = numbers_given calls
numbers_given (free held ∷ calls) = numbers_given calls
numbers_given (release permit ∷ calls) = numbers_given calls
numbers_given (drain ∷ calls) = numbers_given calls

-- what held of a table (`IsTable`) still holds after any accepted calls
abbrev pub CallsKeepTables : Type 0
CallsKeepTables = (first last : Table) (calls : List Call) → IsTable first → DoesAll first calls last → IsTable last

-- no call adds or loses a place
abbrev pub CallsKeepPlaces : Type 0
CallsKeepPlaces =
    (first last : Table) (calls : List Call) → DoesAll first calls last → length last.places ≡ length first.places

-- the calls give out numbers one after the other, from the first table's next one upwards, so none is given out twice
abbrev pub NumbersRunUpwards : Type 0
NumbersRunUpwards =
    (first last : Table) (calls : List Call) (i number : ℕ) → DoesAll first calls last
    → slice_get (numbers_given calls) i ≡ Some number → number ≡ first.next + i
