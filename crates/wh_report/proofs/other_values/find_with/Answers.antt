use Rattle.std.proofs.Common.{map}
use Rattle.serde_json.specs.View.{view}
use Rattle.wh_report.proofs.With.{found_with, full_within}
use Rattle.wh_report.proofs.other_values.find_with.Goals as goal

-- what is found of the file, with its values
pub returns-clause-found : goal.returns-clause-found
returns-clause-found g c bytes own are =
    found_with g.W.Workflow.program bytes (map view c.args.members.now) c.in_ok-explanation.explanation (c.in_ok-explanation.ensures.explained bytes own) (λ found. found.0) (λ found. found.1.items) c.with_values.result are c.with_values.ensures.explanation c.with_values.ensures.values

-- memory ran out over the values of a good file
pub returns-clause-memory : goal.returns-clause-memory
returns-clause-memory g c bytes own =
    full_within g.W.Workflow.program bytes (map view c.args.members.now) c.in_ok-explanation.explanation (c.in_ok-explanation.ensures.explained bytes own) c.with_values.result c.with_values.ensures.good
