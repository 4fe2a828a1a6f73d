use Rattle.wh_stuck_check.proofs.situation.act.Goals as goal

pub returns-in-Opens : goal.returns-in-Opens
returns-in-Opens c = rw c.in-Opens.is c.command_thing.ensures

pub returns-in-Cancels : goal.returns-in-Cancels
returns-in-Cancels c = rw c.in-Cancels.is c.command_thing-in-Cancels.ensures
