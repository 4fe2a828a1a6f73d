use Rattle.wh_rpc.proofs.ReadBack.{read_back}
use Rattle.wh_rpc.proofs.laws.written_lines_read_back.Goals as goal

pub returns : goal.returns
returns c = read_back
