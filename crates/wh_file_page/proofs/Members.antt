-- What the members of a file's list say of the history in its bytes.
use Rattle.std.proofs.Common.{◌≡◌, ◌∙◌, ◌≤◌, ℕ, Bool, true, false, cond, List, length, Option, Some, None, Result, Ok, Err, refl, sym, ap, subst, arith}
use Rattle.std.specs.Prelude.{IfErr, Vec, nat_lt}
use Rattle.std.specs.declared.alloc.Global.{Global}
use Rattle.serde_json.specs.Data.{Data}
use Rattle.wh_events.specs.declared.event.Event.{Event}
use Rattle.wh_explain.specs.Reading.{IsReadOf}
use Rattle.wh_file_page.specs.Readings.{IsReadAs}
use Rattle.wh_json.specs.declared.fault.ReadFault.{ReadFault}
use Rattle.wh_json.specs.declared.fault.ReadFault.TheVariants.{BadJson, NoEvents, TooLong, OutOfMemory as ReadMemory}
use Rattle.wh_json.specs.Events.{document_within, events_in, history, longest, members_from}
use Rattle.wh_json.specs.Fields.{document}
use Rattle.wh_json.specs.Outcome.{◌>>=◌, Gives, all_of, or_fault}
use Rattle.wh_view.specs.Views.{members_of}

history_by : (long : Bool) (read : Result Data ReadFault) (members : List Data)
    → (cond long (Err TooLong) read >>= (λ d. or_fault NoEvents (events_in d))) ≡ Ok members
    → cond long (Err TooLong) (read >>= (λ d. or_fault NoEvents (events_in d) >>= (λ ds. all_of (members_from 1 None ds))))
    ≡ all_of (members_from 1 None members)
history_by true read members is = absurd (cc)
history_by false (Err fault) members is = absurd (cc)
history_by false (Ok d) members is = ap (λ own. own >>= (λ ds. all_of (members_from 1 None ds))) is

history_of : (bytes : List ℕ) (members : List Data) → members_of bytes ≡ Ok members
    → history bytes ≡ all_of (members_from 1 None members)
unfolding history document_within
history_of bytes members is = history_by (nat_lt longest (length bytes)) (or_fault BadJson (document bytes)) members is

short_by : (long : Bool) (read : Result Data ReadFault) (members : List Data)
    → (cond long (Err TooLong) read >>= (λ d. or_fault NoEvents (events_in d))) ≡ Ok members → long ≡ false
short_by true read members is = absurd (cc)
short_by false read members is = refl

not_too_long : (bytes : List ℕ) (members : List Data) → members_of bytes ≡ Ok members → length bytes ≤ longest
unfolding document_within
not_too_long bytes members is = by_test (short_by (nat_lt longest (length bytes)) (or_fault BadJson (document bytes)) members is)
  where
    by_test : nat_lt longest (length bytes) ≡ false → length bytes ≤ longest
    by_test short = grind arith

within : {X : Type 0} (read : Result X ReadFault) (bytes : List ℕ) → length bytes ≤ longest
    → IfErr read (λ fault. fault ≡ ReadMemory → length bytes ≤ longest)
within (Ok x) bytes short = tt
within (Err fault) bytes short = λ _. short

-- what was read of the members is what the bytes hold
pub members_read : (bytes : List ℕ) (members : List Data) (read : Result (Vec Event Global) ReadFault)
    → members_of bytes ≡ Ok members → Gives (λ events. events.items) read (all_of (members_from 1 None members))
    → IsReadOf bytes read
members_read bytes members read is gives = record {
  exact = subst (λ own. Gives (λ events. events.items) read own) (sym (history_of bytes members is)) gives;
  memory = within read bytes (not_too_long bytes members is);
}

-- the members of a document that was parsed
pub members_there : (bytes : List ℕ) (d : Data) (members : List Data) → document_within bytes ≡ Ok d
    → Some members ≡ events_in d → members_of bytes ≡ Ok members
members_there bytes d members is has =
    ap (λ read. read >>= (λ own. or_fault NoEvents (events_in own))) is ∙ ap (or_fault NoEvents) (sym has)

-- a history that was read is that of a file which is replayed
pub was_read : (only_recorded : Bool) (bytes : List ℕ) (read : Result (Vec Event Global) ReadFault) (Holds : Bool → Type 0)
    → IsReadAs only_recorded bytes (Some read) → (IsReadOf bytes read → Holds false) → Holds only_recorded
was_read true bytes read Holds own by = absurd (cc)
was_read false bytes read Holds own by = by own

-- and one that was not is that of a file of which only what is recorded is asked for
pub not_read : (only_recorded : Bool) (bytes : List ℕ) (Holds : Bool → Type 0) → IsReadAs only_recorded bytes None
    → Holds true → Holds only_recorded
not_read true bytes Holds own by = by
not_read false bytes Holds own by = absurd own
