-- Bytes that are no JSON, and the history that is read of them.
use Rattle.std.proofs.Common.{◌≡◌, ◌≤◌, ℕ, Bool, true, false, List, length, Ok, Err, None, Some, refl, arith}
use Rattle.std.specs.Prelude.{◌≢◌, Option, Result, IsSome, is_some, nat_lt, if◌then◌else◌}
use Rattle.serde_json.specs.Data.{Data}
use Rattle.wh_events.specs.declared.event.Event.{Event}
use Rattle.wh_json.specs.Events.{document_within, events_in, history, longest, members_from}
use Rattle.wh_json.specs.Fields.{document}
use Rattle.wh_json.specs.Outcome.{◌>>=◌, all_of, or_fault}
use Rattle.wh_json.specs.declared.fault.ReadFault.{ReadFault}
use Rattle.wh_json.specs.declared.fault.ReadFault.TheVariants.{BadJson, NoEvents, TooLong}
use Rattle.wh_file_faults.specs.Faults.{IsNotJson}

-- bytes that are no JSON are read as that
pub no_json_read : (bytes : List ℕ) → IsNotJson bytes → history bytes ≡ Err BadJson
unfolding document_within history
no_json_read bytes broken = by_test (nat_lt longest (length bytes)) (document bytes) broken
  where
    by_test : (long : Bool) (value : Option Data)
        → (if long then Err TooLong else or_fault BadJson value) ≡ Err BadJson
        → (if long then Err TooLong else (or_fault BadJson value >>= (λ d. or_fault NoEvents (events_in d) >>= (λ ds. all_of (members_from 1 None ds))))) ≡ Err BadJson
    by_test true value h = cc
    by_test false None h = refl
    by_test false (Some d) h = cc

-- and no others are, where they have no value
pub read_no_json : (bytes : List ℕ) → history bytes ≡ Err BadJson → document bytes ≡ None → IsNotJson bytes
unfolding document_within history
read_no_json bytes read none = by_test (nat_lt longest (length bytes)) (document bytes) read none
  where
    by_test : (long : Bool) (value : Option Data)
        → (if long then Err TooLong else (or_fault BadJson value >>= (λ d. or_fault NoEvents (events_in d) >>= (λ ds. all_of (members_from 1 None ds))))) ≡ Err BadJson
        → value ≡ None
        → (if long then Err TooLong else or_fault BadJson value) ≡ Err BadJson
    by_test true value h none = cc
    by_test false None h none = refl
    by_test false (Some d) h none = cc

-- bytes with a value are JSON
pub valued : (bytes : List ℕ) → IsSome (document bytes) → document_within bytes ≢ Err BadJson
unfolding document_within
valued bytes some broken = by_test (nat_lt longest (length bytes)) (document bytes) some broken
  where
    by_test : (long : Bool) (value : Option Data) → is_some value ≡ true → (if long then Err TooLong else or_fault BadJson value) ≡ Err BadJson → ⊥
    by_test true value some h = cc
    by_test false None some h = cc
    by_test false (Some d) some h = cc

-- what is read as no JSON is not too long
pub unread_within : (bytes : List ℕ) → history bytes ≡ Err BadJson → length bytes ≤ longest
unfolding history
unread_within bytes read = by_test (nat_lt longest (length bytes)) refl
  where
    by_test : (b : Bool) → nat_lt longest (length bytes) ≡ b → length bytes ≤ longest
    by_test true e = let refused = rw e at read in cc
    by_test false e = grind arith
