-- What each accepted call keeps, and so each list of them.
use Rattle.std.proofs.Common.{◌≡◌, zero, suc, ◌+◌, [], ◌∷◌, length, sym, ap, ◌∙◌, subst, arith}
use Rattle.std.proofs.lemmas.List.{length-set}
use Rattle.std.proofs.lemmas.Option.{same_Some, none-some}
use Rattle.wh_slots.specs.Table.{Table, IsTable}
use Rattle.wh_slots.specs.Calls.{Call, Does, CallsKeepTables, CallsKeepPlaces, NumbersRunUpwards}
use Rattle.wh_slots.specs.Calls.Call.{reserve, use_slot, free, release, drain}
use Rattle.wh_slots.proofs.Steps.{Reserves-keeps, Uses-keeps, Frees-keeps, Releases-keeps, drain-keeps}

Does-keeps : (old new : Table) (call : Call) → IsTable old → Does old call new → IsTable new
Does-keeps old new (reserve permit) h s = Reserves-keeps old new permit h s
Does-keeps old new (use_slot permit name held) h s = Uses-keeps old new permit name held h s
Does-keeps old new (free held) h s = Frees-keeps old new held h s
Does-keeps old new (release permit) h s = Releases-keeps old new permit h s
Does-keeps old new drain h s = drain-keeps old new h s

pub keep_tables : CallsKeepTables
keep_tables first last [] h s = subst IsTable (sym s) h
keep_tables first last (call ∷ calls) h s = keep_tables s.0 last calls (Does-keeps first s.0 call h s.1) s.2

-- a call changes at most one place
Does-length : (old new : Table) (call : Call) → Does old call new → length new.places ≡ length old.places
Does-length old new (reserve permit) s = ap (λ t. length t.places) s.changed ∙ length-set old.places s.place _
Does-length old new (use_slot permit name held) s = ap (λ t. length t.places) s.changed ∙ length-set old.places s.place _
Does-length old new (free held) s = ap (λ t. length t.places) s.changed ∙ length-set old.places s.place _
Does-length old new (release permit) s = ap (λ t. length t.places) s.changed ∙ length-set old.places s.place _
Does-length old new drain s = ap (λ t. length t.places) s

pub keep_places : CallsKeepPlaces
keep_places first last [] s = ap (λ t. length t.places) s
keep_places first last (call ∷ calls) s = keep_places s.0 last calls s.2 ∙ Does-length first s.0 call s.1

pub run_upwards : NumbersRunUpwards
run_upwards first last [] i number s at = absurd (none-some number at)
run_upwards first last (reserve permit ∷ calls) zero number s at =
    let is : permit.1 ≡ number = same_Some permit.1 number at in
    let given : permit.1 ≡ first.next = ap (λ p. p.1) s.1.numbered in omega (arith, is, given)
run_upwards first last (reserve permit ∷ calls) (suc i) number s at =
    let rest = run_upwards s.0 last calls i number s.2 at in
    let risen : s.0.next ≡ first.next + 1 = ap (λ t. t.next) s.1.changed in omega (arith, rest, risen)
run_upwards first last (use_slot permit name held ∷ calls) i number s at =
    run_upwards s.0 last calls i number s.2 at ∙ ap (λ t. t.next + i) s.1.changed
run_upwards first last (free held ∷ calls) i number s at =
    run_upwards s.0 last calls i number s.2 at ∙ ap (λ t. t.next + i) s.1.changed
run_upwards first last (release permit ∷ calls) i number s at =
    run_upwards s.0 last calls i number s.2 at ∙ ap (λ t. t.next + i) s.1.changed
run_upwards first last (drain ∷ calls) i number s at =
    run_upwards s.0 last calls i number s.2 at ∙ ap (λ t. t.next + i) s.1
