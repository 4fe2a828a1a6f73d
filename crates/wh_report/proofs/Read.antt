-- What a document says of the history in its bytes.
use Rattle.std.proofs.Common.{◌≡◌, ◌∙◌, ◌≤◌, ℕ, Bool, true, false, cond, List, [], length, Option, Some, None, Result, Ok, Err, refl, sym, ap, subst, arith}
use Rattle.std.specs.Prelude.{◌≢◌, IfErr, Vec, nat_lt}
use Rattle.std.specs.declared.alloc.Global.{Global}
use Rattle.serde_json.specs.Data.{Data}
use Rattle.wh_events.specs.declared.event.Event.{Event}
use Rattle.wh_json.specs.declared.fault.ReadFault.{ReadFault}
use Rattle.wh_json.specs.declared.fault.ReadFault.TheVariants.{BadJson, NoEvents, TooLong, OutOfMemory as ReadMemory}
use Rattle.wh_json.specs.Events.{document_within, events_in, history, longest, members_from}
use Rattle.wh_json.specs.Fields.{document}
use Rattle.wh_json.specs.Outcome.{◌>>=◌, Gives, all_of, or_fault}
use Rattle.wh_workflow.specs.Law.{Program}
use Rattle.wh_tester.proofs.Reading.{read_within}
use Rattle.wh_tester.specs.Report.{is_good}
use Rattle.wh_tester.specs.Verdicts.{IsVerdict, read_and_judged, verdict_on}
use Rattle.wh_tester.specs.declared.line.Verdict.{Verdict}
use Rattle.wh_explain.specs.Reading.{IsExplanationIn, IsReadOf}
use Rattle.wh_explained_tasks.specs.declared.ExplainedTask.{ExplainedTask}
use Rattle.wh_explain.specs.declared.explanation.Explanation.{Explanation}
use Rattle.wh_report.specs.OtherValues.{members_of, members_or_none, values_if}
use Rattle.wh_report.specs.Private.Found.{IsFound}
use Rattle.wh_phrases.specs.declared.comparing.OtherValue.{OtherValue}

-- the history that a document holds
abbrev history_in : Data → Result (List Event) ReadFault
history_in d = or_fault NoEvents (events_in d) >>= (λ ds. all_of (members_from 1 None ds))

history_by : (long : Bool) (read : Option Data) (d : Data) → cond long (Err TooLong) (or_fault BadJson read) ≡ Ok d → cond long (Err TooLong) (or_fault BadJson read >>= history_in) ≡ history_in d
history_by true read d is = absurd (cc)
history_by false None d is = absurd (cc)
history_by false (Some own) d is = (let same : own ≡ d = cc in ap history_in same)

-- the history of bytes is that of their document
history_of : (bytes : List ℕ) (d : Data) → document_within bytes ≡ Ok d → history bytes ≡ history_in d
unfolding history document_within
history_of bytes d is = history_by (nat_lt longest (length bytes)) (document bytes) d is

fault_by : (long : Bool) (read : Option Data) (fault : ReadFault) → cond long (Err TooLong) (or_fault BadJson read) ≡ Err fault → cond long (Err TooLong) (or_fault BadJson read >>= history_in) ≡ Err fault
fault_by true read fault is = (let same : TooLong ≡ fault = cc in ap Err same)
fault_by false None fault is = (let same : BadJson ≡ fault = cc in ap Err same)
fault_by false (Some own) fault is = absurd (cc)

-- and if they have none, its fault is that of the history
fault_of : (bytes : List ℕ) (fault : ReadFault) → document_within bytes ≡ Err fault → history bytes ≡ Err fault
unfolding history document_within
fault_of bytes fault is = fault_by (nat_lt longest (length bytes)) (document bytes) fault is

-- bytes with a document are not too long
document_read : (bytes : List ℕ) (d : Data) → document_within bytes ≡ Ok d → length bytes ≤ longest
unfolding document_within
document_read bytes d is = by_test (nat_lt longest (length bytes)) refl
  where
    by_test : (b : Bool) → nat_lt longest (length bytes) ≡ b → length bytes ≤ longest
    by_test true e = let refused = rw e at is in absurd (cc)
    by_test false e = grind arith

not_long : {X : Type 0} (answer : Result X ReadFault) (bytes : List ℕ) → length bytes ≤ longest → IfErr answer (λ fault. fault ≡ ReadMemory → length bytes ≤ longest)
not_long (Ok x) bytes within = tt
not_long (Err e) bytes within = λ _. within

pub err_within : {X E : Type 0} (answer : Result X E) (bytes : List ℕ) → length bytes ≤ longest → IfErr answer (λ _. length bytes ≤ longest)
err_within (Ok x) bytes within = tt
err_within (Err e) bytes within = within

-- the members of a document were read
pub members_read : (bytes : List ℕ) (d : Data) (members : List Data) (read : Result (Vec Event Global) ReadFault) → document_within bytes ≡ Ok d → events_in d ≡ Some members → Gives (λ events. events.items) read (all_of (members_from 1 None members)) → IsReadOf bytes read
members_read bytes d members read is has gives = record {
  exact = subst (λ h. Gives (λ events. events.items) read h) (sym (history_of bytes d is ∙ ap (λ o. or_fault NoEvents o >>= (λ ds. all_of (members_from 1 None ds))) has)) gives;
  memory = not_long read bytes (document_read bytes d is);
}

-- there are none to be read
pub no_members_read : (bytes : List ℕ) (d : Data) → document_within bytes ≡ Ok d → events_in d ≡ None → IsReadOf bytes (Err NoEvents)
no_members_read bytes d is has = record {
  exact = λ _. history_of bytes d is ∙ ap (λ o. or_fault NoEvents o >>= (λ ds. all_of (members_from 1 None ds))) has;
  memory = λ _. document_read bytes d is;
}

-- there is no document
pub fault_read : (bytes : List ℕ) (fault : ReadFault) → document_within bytes ≡ Err fault → fault ≢ ReadMemory → IsReadOf bytes (Err fault)
fault_read bytes fault is known = record {
  exact = λ _. fault_of bytes fault is;
  memory = λ full. absurd (known full);
}

-- the members of bytes are those of their document
pub members_are : (bytes : List ℕ) (d : Data) (members : Option (List Data)) → document_within bytes ≡ Ok d → events_in d ≡ members → members_of (document_within bytes) ≡ members_or_none members
members_are bytes d members is has = ap members_of is ∙ ap members_or_none has

pub members_none : (bytes : List ℕ) (fault : ReadFault) → document_within bytes ≡ Err fault → members_of (document_within bytes) ≡ []
members_none bytes fault is = ap members_of is

judged_good : {S : Type 0} (program : Program S) (bytes : List ℕ) (read : Result (List Event) ReadFault) (verdict : Verdict) → history bytes ≡ read → verdict ≡ read_and_judged program read → is_good verdict ≡ true → length bytes ≤ longest
judged_good program bytes (Ok events) verdict is judges good = read_within bytes events is
judged_good program bytes (Err fault) verdict is judges good = absurd (let clash = ap is_good judges in cc)

-- a good file is not too long
pub good_within : {S : Type 0} (program : Program S) (bytes : List ℕ) (verdict : Verdict) → IsVerdict program bytes verdict → is_good verdict ≡ true → length bytes ≤ longest
unfolding verdict_on
good_within program bytes verdict own good = judged_good program bytes (history bytes) verdict refl (own.exact (λ memory. (let clash = ap is_good memory in cc))) good

-- what is found of a file, with its values
pub found_values : {S : Type 0} (program : Program S) (bytes : List ℕ) (members : List Data) (explanation : Explanation) (values : List OtherValue) → IsExplanationIn program bytes explanation
    → members_of (document_within bytes) ≡ members → values ≡ values_if (is_good explanation.verdict) members explanation.tasks → IsFound program bytes explanation values
found_values program bytes members explanation values own are same = record {
  verdict = own.verdict;
  difference = record { tasks = explanation.tasks; explained = own.explained; last = own.difference };
  tasks = own.explained;
  values = record { tasks = explanation.tasks; explained = own.explained; are = same ∙ ap (λ l. values_if (is_good explanation.verdict) l explanation.tasks) (sym are) };
}
