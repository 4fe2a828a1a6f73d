use Rattle.wh_possible_runs.proofs.Sound as sound
use Rattle.wh_possible_runs.proofs.laws.shown_tables_never_get_stuck.Goals as goal

pub returns : goal.returns
returns c = sound.shown
