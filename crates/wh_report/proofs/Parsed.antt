-- Files that are parsed again for the detail of their fault are not too long.
use Rattle.std.proofs.Common.{◌≡◌, ◌∙◌, ◌≤◌, ℕ, Bool, true, false, List, [], None, Some, ap, arith, length, refl, subst, sym}
use Rattle.std.specs.Prelude.{◌≢◌, Option, Result, Ok, Err, nat_lt, string_bytes}
use Rattle.wh_events.specs.declared.event.Event.{Event}
use Rattle.wh_tester.specs.UnknownTypes.{unknown_of}
use Rattle.wh_file_faults.specs.Details.{IsDetailBy, is_parsed_again}
use Rattle.wh_file_faults.specs.Faults.{File}
use Rattle.wh_json.specs.Events.{history, longest}
use Rattle.wh_json.specs.declared.fault.ReadFault.{ReadFault}
use Rattle.wh_json.specs.declared.fault.ReadFault.TheVariants.{BadJson, MissingField, TooLong}
use Rattle.wh_replay.specs.Outcomes.{replayed_tasks}
use Rattle.wh_replay.specs.declared.fault.ReplayedTasks.{ReplayedTasks}
use Rattle.wh_replay.specs.declared.fault.Fault.{Fault}
use Rattle.wh_tester.proofs.Reading.{read_within}
use Rattle.wh_tester.specs.Verdicts.{IsVerdict, judged, read_and_judged, verdict_on}
use Rattle.wh_tester.specs.declared.line.Verdict.{Verdict}
use Rattle.wh_tester.specs.declared.line.Verdict.TheVariants.{Faulty, OutOfMemory, Unreadable}
use Rattle.wh_console.specs.declared.replay_options.ReplayOptions.{ReplayOptions}
use Rattle.wh_workflow.specs.Law.{Program}
use Rattle.wh_report.specs.declared.records.Record.{Record}
use Rattle.wh_report.specs.Records.{IsRecordOf}

-- no replay is unreadable
never_unread : (unknown : Option (List ℕ)) (judgement : Result ReplayedTasks Fault) (fault : ReadFault) → Unreadable fault ≡ judged unknown judgement → ⊥
never_unread (Some kind) judgement fault h = cc
never_unread None (Ok replayed_tasks) fault h = cc
never_unread None (Err other) fault h = cc

-- bytes that are unreadable were read as that
unread : {S : Type 0} (program : Program S) (read : Result (List Event) ReadFault) (fault : ReadFault) → Unreadable fault ≡ read_and_judged program read → read ≡ Err fault
unread program (Ok events) fault h = absurd (never_unread (unknown_of program events) (replayed_tasks program events) fault h)
unread program (Err other) fault h = (let same : fault ≡ other = cc in ap Err (sym same))

-- a fault that leaves something out is that of bytes that are not too long
read_within_by : (bytes : List ℕ) (fault : ReadFault) → history bytes ≡ Err fault → fault ≢ TooLong → length bytes ≤ longest
unfolding history
read_within_by bytes fault read other = by_test (nat_lt longest (length bytes)) refl
  where
    by_test : (b : Bool) → nat_lt longest (length bytes) ≡ b → length bytes ≤ longest
    by_test true e = absurd (other (let refused = rw e at read in (let same : fault ≡ TooLong = cc in same)))
    by_test false e = grind arith

replayed_within : {S : Type 0} (program : Program S) (bytes : List ℕ) (read : Result (List Event) ReadFault) (fault : Fault) → history bytes ≡ read → Faulty fault ≡ read_and_judged program read → length bytes ≤ longest
replayed_within program bytes (Ok events) fault is h = read_within bytes events is
replayed_within program bytes (Err other) fault is h = absurd (let clash : Faulty fault ≡ Unreadable other = h in cc)

pub parsed_within : {S : Type 0} (program : Program S) (bytes : List ℕ) (verdict : Verdict) → IsVerdict program bytes verdict → is_parsed_again verdict ≡ true → length bytes ≤ longest
unfolding verdict_on
parsed_within program bytes (Unreadable BadJson) own has = read_within_by bytes BadJson (unread program (history bytes) BadJson (own.exact (λ memory. cc))) (λ same. cc)
parsed_within program bytes (Unreadable (MissingField at)) own has = read_within_by bytes (MissingField at) (unread program (history bytes) (MissingField at) (own.exact (λ memory. cc))) (λ same. cc)
parsed_within program bytes (Faulty fault) own has = replayed_within program bytes (history bytes) fault refl (own.exact (λ memory. cc))
parsed_within program bytes verdict own has = absurd (cc)

-- the record of a file for which there was no memory
pub no_memory_is : {S : Type 0} (options : ReplayOptions) (program : Program S) (file : File) (own : Record) → own.line ≡ record { name = string_bytes file.0; verdict = OutOfMemory } → own.detail ≡ None → own.warnings ≡ [] → length file.1.items ≤ longest → IsRecordOf options program file own
no_memory_is options program file own line undetailed unwarned within =
    let ends : own.line.verdict ≡ OutOfMemory = ap (λ l. l.verdict) line in
    record {
      line = record {
        name = ap (λ l. l.name) line;
        verdict = record {
          exact = λ known. absurd (known ends);
          memory = λ _. within;
          read = λ other. (let clash = sym ends ∙ other in cc);
        };
      };
      detail = subst (λ verdict. IsDetailBy verdict file.1.items own.detail) (sym ends) undetailed;
      difference = λ known. absurd (known ends);
      warnings = λ known. absurd (known ends);
      unwarned = λ _. unwarned;
    }
