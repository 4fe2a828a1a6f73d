use Rattle.std.proofs.Common.{rules}
use Rattle.wh_events.proofs.kind.EventKind.class.Goals as goal

pub returns-in-ActivityTaskStarted : goal.returns-in-ActivityTaskStarted
returns-in-ActivityTaskStarted c = search rules

pub returns-in-ActivityTaskStarted-2 : goal.returns-in-ActivityTaskStarted-2
returns-in-ActivityTaskStarted-2 c = search rules

pub returns-in-ActivityTaskStarted-3 : goal.returns-in-ActivityTaskStarted-3
returns-in-ActivityTaskStarted-3 c = search rules

pub returns-in-ActivityTaskStarted-4 : goal.returns-in-ActivityTaskStarted-4
returns-in-ActivityTaskStarted-4 c = search rules

pub returns-in-ActivityTaskStarted-5 : goal.returns-in-ActivityTaskStarted-5
returns-in-ActivityTaskStarted-5 c = search rules

pub returns-in-ActivityTaskStarted-6 : goal.returns-in-ActivityTaskStarted-6
returns-in-ActivityTaskStarted-6 c = search rules

pub returns-in-ActivityTaskStarted-7 : goal.returns-in-ActivityTaskStarted-7
returns-in-ActivityTaskStarted-7 c = search rules

pub returns-in-ActivityTaskStarted-8 : goal.returns-in-ActivityTaskStarted-8
returns-in-ActivityTaskStarted-8 c = search rules

pub returns-in-ActivityTaskStarted-9 : goal.returns-in-ActivityTaskStarted-9
returns-in-ActivityTaskStarted-9 c = search rules

pub returns-in-ActivityTaskStarted-10 : goal.returns-in-ActivityTaskStarted-10
returns-in-ActivityTaskStarted-10 c = search rules

pub returns-in-ActivityTaskStarted-11 : goal.returns-in-ActivityTaskStarted-11
returns-in-ActivityTaskStarted-11 c = search rules

pub returns-in-ActivityTaskStarted-12 : goal.returns-in-ActivityTaskStarted-12
returns-in-ActivityTaskStarted-12 c = search rules

pub returns-in-ActivityTaskStarted-13 : goal.returns-in-ActivityTaskStarted-13
returns-in-ActivityTaskStarted-13 c = search rules

pub returns-in-ActivityTaskStarted-14 : goal.returns-in-ActivityTaskStarted-14
returns-in-ActivityTaskStarted-14 c = search rules

pub returns-in-ActivityTaskStarted-15 : goal.returns-in-ActivityTaskStarted-15
returns-in-ActivityTaskStarted-15 c = search rules

pub returns-in-ActivityTaskStarted-16 : goal.returns-in-ActivityTaskStarted-16
returns-in-ActivityTaskStarted-16 c = search rules

pub returns-in-ActivityTaskStarted-17 : goal.returns-in-ActivityTaskStarted-17
returns-in-ActivityTaskStarted-17 c = search rules

pub returns-in-ActivityTaskStarted-18 : goal.returns-in-ActivityTaskStarted-18
returns-in-ActivityTaskStarted-18 c = search rules

pub returns-in-ActivityTaskStarted-19 : goal.returns-in-ActivityTaskStarted-19
returns-in-ActivityTaskStarted-19 c = search rules
