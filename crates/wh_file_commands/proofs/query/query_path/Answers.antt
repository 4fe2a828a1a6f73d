use Rattle.std.proofs.Common.{Some, subst, sym}
use Rattle.std.specs.Prelude.{IfOk}
use Rattle.wh_diagnostics.proofs.CarriedOut.{carried_out, not_carried_out}
use Rattle.wh_diagnostics.specs.Failures.{IsWriteFailure}
use Rattle.wh_diagnostics.specs.Files.{HasCarriedOut}
use Rattle.wh_file_commands.proofs.Unqueried.{asked_unqueried, unread_unqueried}
use Rattle.wh_file_commands.specs.Queries.{HasQueried}
use Rattle.wh_file_commands.specs.QueryInputs.{query_of}
use Rattle.wh_file_commands.proofs.query.query_path.Goals as goal

-- what is queried is the file at the path
pub returns-clause-queried : goal.returns-clause-queried
returns-clause-queried g c =
    let gives = g.R.InputReader.gives in
    let program = g.W.Workflow.program in
    let queries = g.W.Queryable.queries in
    let types = c.args.types.now in
    let done = carried_out gives (HasQueried program queries types (Some c.in_ok-query.query) c.args.format) c.args.path c.in_ok-file.file
    c.args.console.now c.query_file.new.console c.query_file.result c.in_ok-file.ensures.read c.query_file.ensures.queried in
    subst (λ asked. IfOk c.query_file.result (HasCarriedOut gives (HasQueried program queries types asked c.args.format) c.args.path
    c.args.console.now c.query_file.new.console)) (sym c.in_ok-query.ensures.query) done

-- or there is no full report of it
pub returns-clause-why : goal.returns-clause-why
returns-clause-why g c =
    asked_unqueried g.R.InputReader.gives (query_of c.args.query_type c.args.words.items) c.in_ok-query.query c.args.path c.query_file.result c.in_ok-query.ensures.query
    (not_carried_out g.R.InputReader.gives (λ file. IsWriteFailure) c.args.path c.in_ok-file.file c.query_file.result
    c.in_ok-file.ensures.read c.query_file.ensures.why)

-- or the file is not read
pub returns-in_err-file-clause-why : goal.returns-in_err-file-clause-why
returns-in_err-file-clause-why g c =
    unread_unqueried g.R.InputReader.gives (query_of c.args.query_type c.args.words.items) c.in_ok-query.query c.args.path c.in_err-file.field-0.0 c.from_residual-in_err-file.result
    c.in_ok-query.ensures.query c.from_residual-in_err-file.ensures.1 c.in_err-file.ensures.unread
