use Rattle.wh_messages.proofs.Answering.{completions_differ, failures_differ}
use Rattle.wh_messages.proofs.laws.workflow_answers_are_apart.Goals as goal

pub returns-clause-completed : goal.returns-clause-completed
returns-clause-completed c names options carried events token other_token cs es results other_results sticky other_sticky d history =
    completions_differ names options carried events history token other_token cs es results other_results sticky other_sticky d

pub returns-clause-failed : goal.returns-clause-failed
returns-clause-failed c = failures_differ
