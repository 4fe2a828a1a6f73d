use Rattle.wh_possible_runs.proofs.Sound as sound
use Rattle.wh_possible_runs.proofs.laws.never_gets_stuck.Goals as goal

pub returns : goal.returns
returns g c = sound.never g.T.StuckFree.steps g.T.Table.table g.met.T.StuckFree.never_stuck
