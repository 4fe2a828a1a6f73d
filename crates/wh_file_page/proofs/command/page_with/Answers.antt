use Rattle.std.proofs.lemmas.Result.{err_from_is_err_and}
use Rattle.wh_file_page.proofs.command.page_with.Goals as goal

pub returns-clause-page : goal.returns-clause-page
returns-clause-page g c only_recorded own = record {
  said = c.in_ok-own.own.said;
  found = rw c.title_of.ensures at (c.in_ok-own.ensures only_recorded own);
  shows = c.in_ok-page.ensures;
}

pub returns-clause-table : goal.returns-clause-table
returns-clause-table g c only_recorded own = c.in_ok-table.ensures only_recorded c.args.bytes.now own

-- without memory for the axis there is none for the page
pub returns-in_err-axis-clause-memory : goal.returns-in_err-axis-clause-memory
returns-in_err-axis-clause-memory g c =
    let axis = c.from_residual-in_err-axis in
    let p = err_from_is_err_and axis.result axis.ensures.1 in
    rw p.1 p.2
