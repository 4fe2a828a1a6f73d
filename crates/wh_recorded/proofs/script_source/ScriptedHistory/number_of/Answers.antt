use Rattle.std.proofs.Common.{◌≡◌, ◌∙◌, ap}
use Rattle.wh_recorded.specs.Rounds.{ends_of}
use Rattle.wh_recorded.proofs.Ends.{task_within}
use Rattle.wh_recorded.proofs.script_source.ScriptedHistory.number_of.Goals as goal

pub last_between-requires-clause-begins : goal.last_between-requires-clause-begins
last_between-requires-clause-begins c =
    let inside = c.self.inside in
    let same : inside.events.items ≡ c.args.self.now.events = ap (λ history. history.events) c.self.view_is in
    (task_within c.args.self.now.events inside.ends.items c.args.n c.begin.result c.index.result.now (c.self.invariant ∙ ap ends_of same) c.requires c.begin.ensures c.index.ensures).0

pub last_between-requires-clause-ends : goal.last_between-requires-clause-ends
last_between-requires-clause-ends c =
    let inside = c.self.inside in
    let same : inside.events.items ≡ c.args.self.now.events = ap (λ history. history.events) c.self.view_is in
    rw c.as_slice.ensures.value (rw same (task_within c.args.self.now.events inside.ends.items c.args.n c.begin.result c.index.result.now (c.self.invariant ∙ ap ends_of same) c.requires c.begin.ensures c.index.ensures).1)
