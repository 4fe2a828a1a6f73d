-- What polls return in every list of calls of a new source.
use Rattle.std.proofs.Common.{◌≡◌, ◌∙◌, ℕ, ◌++◌, List, ◌∷◌, take, length, slice_get, refl, ap, sym, length-append, arith}
use Rattle.std.proofs.lemmas.List.{append-nil, take_all}
use Rattle.std.proofs.lemmas.Option.{slice_get_past}
use Rattle.wh_tasks.specs.declared.source.WorkflowTask.{WorkflowTask}
use Rattle.wh_tasks.specs.declared.source.Polled.{Polled}
use Rattle.wh_tasks.specs.declared.source.Polled.TheVariants.{Task, Nothing, Closed}
use Rattle.wh_recorded.specs.Rounds.{Scripted, Stage, opening_stage, Polls}
use Rattle.wh_recorded.specs.Order.{in_rounds}
use Rattle.wh_recorded.specs.Calls.{Call, Makes, tasks_given, polls_in, polled_of, PollsGoInRounds, EnoughPollsGiveAll, PollGivesNext, ClosedWhereAllGiven}
use Rattle.wh_recorded.proofs.Left.{left, all_left, given_and_left, given_by_polls, left_by_task, left_where_closed}
use Rattle.wh_recorded.proofs.Reading.{slice_get-seam}

pub polls_go_in_rounds : PollsGoInRounds
polls_go_in_rounds histories calls last made =
    given_by_polls (opening_stage histories) last calls made ∙ ap (λ tasks. take (polls_in calls) tasks) (sym (all_left histories))

pub enough_polls_give_all : EnoughPollsGiveAll
enough_polls_give_all histories calls last made enough =
    polls_go_in_rounds histories calls last made ∙ take_all (polls_in calls) (in_rounds histories) enough

-- all tasks are those given and those left
pub parted : (histories : List Scripted) (calls : List Call) (last : Stage) → Makes histories calls last → in_rounds histories ≡ tasks_given calls ++ left last
parted histories calls last made = all_left histories ∙ given_and_left (opening_stage histories) last calls made

parted_at_task : (histories : List Scripted) (calls : List Call) (last after : Stage) (task : WorkflowTask) → Makes histories calls last → Polls last (Task task) after → in_rounds histories ≡ tasks_given calls ++ (task ∷ left after)
parted_at_task histories calls last after task made p = parted histories calls last made ∙ ap (λ tasks. tasks_given calls ++ tasks) (left_by_task last after task p)

parted_at_end : (histories : List Scripted) (calls : List Call) (last after : Stage) → Makes histories calls last → Polls last Closed after → in_rounds histories ≡ tasks_given calls
parted_at_end histories calls last after made p = parted histories calls last made ∙ ap (λ tasks. tasks_given calls ++ tasks) (left_where_closed last p.0) ∙ append-nil (tasks_given calls)

pub poll_gives_next : PollGivesNext
poll_gives_next histories calls last after (Task task) made p =
    ap polled_of (sym (ap (λ tasks. slice_get tasks (length (tasks_given calls))) (parted_at_task histories calls last after task made p) ∙ slice_get-seam (tasks_given calls) task (left after)))
poll_gives_next histories calls last after Nothing made p = absurd p
poll_gives_next histories calls last after Closed made p =
    let all = parted_at_end histories calls last after made p in
    ap polled_of (sym (slice_get_past (in_rounds histories) (length (tasks_given calls)) (let same = ap length all in omega (arith, same))))

abbrev is_task : Polled WorkflowTask → ℕ
is_task (Task task) = 1
is_task Nothing = 0
is_task Closed = 0

pub closed_where_all_given : ClosedWhereAllGiven
closed_where_all_given histories calls last after (Task task) made p = (
  λ closed. let no : 1 ≡ 0 = ap is_task closed in absurd (omega (arith, no)),
  λ all.
      let parts = ap length (parted_at_task histories calls last after task made p) in
      let both = length-append (tasks_given calls) (task ∷ left after) in
      let same = ap length all in
      absurd (omega (arith, parts, both, same)),
)
closed_where_all_given histories calls last after Nothing made p = absurd p
closed_where_all_given histories calls last after Closed made p = (
  λ closed. sym (parted_at_end histories calls last after made p),
  λ all. refl,
)
