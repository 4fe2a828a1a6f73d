use Rattle.wh_explain.proofs.Judged.{all_ok, history_read, read_found, unread_given, unread_known, unread_within}
use Rattle.wh_explain.proofs.findings.find_in_read.Goals as goal

pub returns-in-Ok-clause-found : goal.returns-in-Ok-clause-found
returns-in-Ok-clause-found g c bytes own = all_ok c.find_in_events.result (λ e found. read_found g.W.Workflow.program c.args.detail bytes c.in-Ok.events.items e (rw c.in-Ok.is at own.exact) found) c.find_in_events.ensures

pub returns-in-Ok-clause-read : goal.returns-in-Ok-clause-read
returns-in-Ok-clause-read g c = all_ok c.find_in_events.result (λ e found. history_read g.W.Workflow.program c.args.detail c.in-Ok.events.items e found) c.find_in_events.ensures

pub returns-in-Err-clause-found : goal.returns-in-Err-clause-found
returns-in-Err-clause-found g c bytes own = unread_given g.W.Workflow.program c.args.detail bytes c.in-Err.fault c.explanation_by.result c.explanation_by.ensures.exact c.explanation_by.ensures.known (rw c.in-Err.is at own.exact)

pub returns-in-Err-clause-read : goal.returns-in-Err-clause-read
returns-in-Err-clause-read g c = unread_known c.in-Err.fault c.explanation_by.result c.explanation_by.ensures.exact c.explanation_by.ensures.known

pub returns-in-Err-clause-memory : goal.returns-in-Err-clause-memory
returns-in-Err-clause-memory g c bytes own = unread_within c.in-Err.fault bytes c.explanation_by.result c.explanation_by.ensures.memory (rw c.in-Err.is at own.memory)
