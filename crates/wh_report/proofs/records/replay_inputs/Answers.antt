use Rattle.std.proofs.Common.{◌∙◌, Ok, Err, inr, subst}
use Rattle.std.specs.Prelude.{MatchResult}
use Rattle.std.specs.List.{AllZip}
use Rattle.wh_file_faults.proofs.Collected.{all_err, all_ok, fault_given}
use Rattle.wh_report.specs.Records.{IsRecordOfInput}
use Rattle.wh_report.proofs.Collected.{collected, records_of}
use Rattle.wh_report.proofs.records.replay_inputs.Goals as goal

-- the chain goes over the inputs in their order
pub returns-clause-records : goal.returns-clause-records
returns-clause-records g c =
    let program = g.W.Workflow.program in
    let inputs = c.args.inputs.items in
    let h = c.in-Ok.ensures in
    let chain = rw (c.map.ensures.base, c.map.ensures.f, c.with_min_len.ensures.base) at h.1 in
    let zipped = subst (λ l. AllZip (λ input given. MatchResult given (IsRecordOfInput c.args.options program (λ one file. g.F.Fn.post c.args.read (one, tt) (Ok file)) input) (λ fault. g.F.Fn.post c.args.read (input, tt) (Err fault))) l h.0) (chain.1 ∙ c.into_par_iter.ensures) chain.2 in
    all_ok c.in-Ok.records (λ records found. records_of c.args.options program (λ one file. g.F.Fn.post c.args.read (one, tt) (Ok file)) inputs records.items found)
    (collected (λ input given. MatchResult given (IsRecordOfInput c.args.options program (λ one file. g.F.Fn.post c.args.read (one, tt) (Ok file)) input) (λ fault. g.F.Fn.post c.args.read (input, tt) (Err fault))) inputs h.0 c.in-Ok.records zipped h.2)

-- and a fault is that of one of them
pub returns-clause-fault : goal.returns-clause-fault
returns-clause-fault g c =
    let program = g.W.Workflow.program in
    let inputs = c.args.inputs.items in
    let h = c.in-Ok.ensures in
    let chain = rw (c.map.ensures.base, c.map.ensures.f, c.with_min_len.ensures.base) at h.1 in
    let zipped = subst (λ l. AllZip (λ input given. MatchResult given (IsRecordOfInput c.args.options program (λ one file. g.F.Fn.post c.args.read (one, tt) (Ok file)) input) (λ fault. g.F.Fn.post c.args.read (input, tt) (Err fault))) l h.0) (chain.1 ∙ c.into_par_iter.ensures) chain.2 in
    all_err c.in-Ok.records (λ fault found. inr found)
    (fault_given (λ input given. MatchResult given (IsRecordOfInput c.args.options program (λ one file. g.F.Fn.post c.args.read (one, tt) (Ok file)) input) (λ fault. g.F.Fn.post c.args.read (input, tt) (Err fault))) _ inputs h.0 c.in-Ok.records zipped h.2)
