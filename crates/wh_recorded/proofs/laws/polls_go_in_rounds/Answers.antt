use Rattle.wh_recorded.proofs.Given.{polled_are_given}
use Rattle.wh_recorded.proofs.Listing.{polls_go_in_rounds, enough_polls_give_all, poll_gives_next, closed_where_all_given}
use Rattle.wh_recorded.proofs.laws.polls_go_in_rounds.Goals as goal

pub returns-clause-order : goal.returns-clause-order
returns-clause-order c = polls_go_in_rounds

pub returns-clause-all : goal.returns-clause-all
returns-clause-all c = enough_polls_give_all

pub returns-clause-next : goal.returns-clause-next
returns-clause-next c = poll_gives_next

pub returns-clause-closed : goal.returns-clause-closed
returns-clause-closed c = closed_where_all_given

pub returns-clause-polled : goal.returns-clause-polled
returns-clause-polled c = polled_are_given
