use Rattle.std.proofs.Common.{sym, ◌∙◌, arith}
use Rattle.wh_table_promises.proofs.Showing.{in_at}
use Rattle.wh_table_promises.proofs.found.is_known.Goals as goal

pub returns : goal.returns
returns c = λ is. in_at c.args.configs.now _ _ _ (omega arith) (sym c.is_covered.ensures ∙ is)
