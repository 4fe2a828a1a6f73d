-- What is counted of the turns of workers, and what is reported.
use Rattle.std.specs.Prelude.{◌≤◌, ℕ, ◌*◌, ◌/◌, ◌-◌, ◌^◌, max, min, Bool, true, false, Option, Some, None, Result, Ok, List}
use Rattle.wh_console.specs.declared.format.Format.{Format}
use Rattle.wh_console.specs.declared.format.Format.TheVariants as formats
use Rattle.wh_host.specs.declared.reply.Counts.{Counts}
use Rattle.wh_host.specs.declared.reply.Outcome.{Outcome}
use Rattle.wh_host.specs.declared.reply.Outcome.TheVariants.{Completed, Failed}
use Rattle.wh_crew.specs.declared.serving.LiveEnd.{LiveEnd}
use Rattle.wh_metrics.specs.Lines.{counts_text, json_text}
use Rattle.wh_metrics.specs.declared.metrics.Gauges.{Gauges}
use Rattle.wh_metrics.specs.declared.metrics.Metrics.{Metrics}
use Rattle.wh_metrics.specs.declared.metrics.TaskSlots.{TaskSlots}
use Rattle.wh_metrics.specs.declared.metrics.TaskTimes.{TaskTimes}
use Rattle.wh_notes.specs.Counts.{no_source_counts}
use Rattle.wh_notes.specs.Sums.{together}
use Rattle.wh_notes.specs.Untaken.{completed_of, failed_of, failures_of, refused_of}
use Rattle.wh_notes.specs.declared.counts.SourceCounts.{SourceCounts}
use Rattle.wh_poll.specs.declared.serve.Served.{Served}
use Rattle.wh_poll.specs.declared.serve.Served.TheVariants.{Workflow, Activity}
use Rattle.wh_slots.specs.declared.SlotCount.{SlotCount}
use Rattle.wh_tasks.specs.declared.source.SourceFault.{SourceFault}
use Rattle.wh_work.specs.declared.counting.TurnCounts.{TurnCounts}

-- there was no turn
abbrev pub no_turns : TurnCounts
no_turns = record { completed = 0; failed = 0; hits = 0; misses = 0 }

-- a task more that ended so
abbrev pub ended : Outcome → TurnCounts → TurnCounts
ended Completed turns = record turns { completed = together turns.completed 1 }
ended Failed turns = record turns { failed = together turns.failed 1 }

-- a workflow task more, answered from a cached run or without one
abbrev pub found : Bool → TurnCounts → TurnCounts
found true turns = record turns { hits = together turns.hits 1 }
found false turns = record turns { misses = together turns.misses 1 }

-- a turn more: the task that it answered, if it did
abbrev pub with_turn : Result Served SourceFault → TurnCounts → TurnCounts
with_turn (Ok (Workflow name hit steps outcome)) turns = ended outcome (found hit turns)
with_turn (Ok (Activity name outcome)) turns = ended outcome turns
with_turn _ turns = turns

-- slots by their use: a poll has those that are reserved
abbrev pub slots_of : SlotCount → TaskSlots
slots_of count = record { used = together count.reserved count.held; available = count.free }

abbrev pub held_of : Counts → Gauges
held_of counts = record {
  in_hand = counts.in_hand;
  cached = counts.cached;
  cached_events = counts.cached_events;
  workflow = slots_of counts.workflow;
  activity = slots_of counts.activity;
}

-- what is shown of these turns, of what the sources have done, and of what the host holds, if it is known
abbrev pub metrics_of : TurnCounts → SourceCounts → Option Gauges → Metrics
metrics_of turns sources held = record {
  completed = turns.completed;
  failed = turns.failed;
  held = held;
  hits = turns.hits;
  misses = turns.misses;
  polls = sources.polls;
  empty_polls = sources.empty_polls;
  not_found = sources.untaken.not_found;
  refused = refused_of sources.untaken;
  workflow_times = sources.workflow_times;
  activity_times = sources.activity_times;
}

-- nothing is counted
abbrev pub nothing : Metrics
nothing = metrics_of no_turns no_source_counts None

-- what is counted, with what the host counts and holds, if it gives that, and without the answers that were not taken;
-- of those that were lost no turn tells
abbrev pub metrics_now : TurnCounts → SourceCounts → Option Counts → Metrics
metrics_now turns sources None = metrics_of (record turns {
  completed = completed_of sources.untaken turns.completed;
  failed = turns.failed - failures_of sources.untaken;
}) sources None
metrics_now turns sources (Some counts) = metrics_of (record turns {
  completed = completed_of sources.untaken counts.completed;
  failed = failed_of sources.untaken counts.failed;
}) sources (Some (held_of counts))

-- the times of tasks, none of which is lower than it was last
abbrev pub no_lower_times : (last now : TaskTimes) → TaskTimes
no_lower_times last now = record {
  count = max last.count now.count;
  sum = max last.sum now.sum;
  longest = max last.longest now.longest;
}

-- the counts, none of which is lower than it was last, beside what the host holds
abbrev pub no_lower : (last now : Metrics) → Metrics
no_lower last now = record {
  completed = max last.completed now.completed;
  failed = max last.failed now.failed;
  held = now.held;
  hits = max last.hits now.hits;
  misses = max last.misses now.misses;
  polls = max last.polls now.polls;
  empty_polls = max last.empty_polls now.empty_polls;
  not_found = max last.not_found now.not_found;
  refused = max last.refused now.refused;
  workflow_times = no_lower_times last.workflow_times now.workflow_times;
  activity_times = no_lower_times last.activity_times now.activity_times;
}

-- no time of tasks is lower than it was last
pub record NoTimeFalls (last now : TaskTimes) : Type 0 where
  pub count : last.count ≤ now.count
  pub sum : last.sum ≤ now.sum
  pub longest : last.longest ≤ now.longest

-- no counter is lower than it was last
pub record NoCounterFalls (last now : Metrics) : Type 0 where
  pub completed : last.completed ≤ now.completed
  pub failed : last.failed ≤ now.failed
  pub hits : last.hits ≤ now.hits
  pub misses : last.misses ≤ now.misses
  pub polls : last.polls ≤ now.polls
  pub empty_polls : last.empty_polls ≤ now.empty_polls
  pub not_found : last.not_found ≤ now.not_found
  pub refused : last.refused ≤ now.refused
  pub workflow_times : NoTimeFalls last.workflow_times now.workflow_times
  pub activity_times : NoTimeFalls last.activity_times now.activity_times

-- tasks that are over
abbrev pub answered : Metrics → ℕ
answered metrics =
    together (together metrics.completed metrics.failed) (together metrics.not_found metrics.refused)

-- so many tasks in so many milliseconds are as many a second, rounded
abbrev pub rate_of : (since more : ℕ) → ℕ
rate_of since more = together (min (more * 1000) (2 ^ 64 - 1)) (since / 2) / since

-- the line of counts: in words or as JSON
abbrev pub line_as : Format → Metrics → (rate : ℕ) → List ℕ
line_as formats.Text metrics rate = counts_text metrics rate
line_as formats.Json metrics rate = json_text metrics rate

-- what was counted in all: the totals of the host without the answers that were not taken, which runs were cached, and
-- what the sources have done
abbrev pub end_metrics : TurnCounts → LiveEnd → Metrics
end_metrics turns end = metrics_of (record turns {
  completed = completed_of end.sources.untaken end.totals.completed;
  failed = failed_of end.sources.untaken end.totals.failed;
}) end.sources None
