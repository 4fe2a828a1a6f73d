-- How long tasks take.
use Rattle.std.specs.Prelude.{ℕ, max}
use Rattle.wh_metrics.specs.declared.metrics.TaskTimes.{TaskTimes}
use Rattle.wh_notes.specs.Sums.{together}

-- no task took any time
abbrev pub no_times : TaskTimes
no_times = record { count = 0; sum = 0; longest = 0 }

-- a task more, which took so many microseconds
abbrev pub lasted : (microseconds : ℕ) → TaskTimes → TaskTimes
lasted microseconds times = record {
  count = together times.count 1;
  sum = together times.sum microseconds;
  longest = max times.longest microseconds;
}

-- the times of the tasks of two
abbrev pub times_together : TaskTimes → TaskTimes → TaskTimes
times_together one other = record {
  count = together one.count other.count;
  sum = together one.sum other.sum;
  longest = max one.longest other.longest;
}
