-- Counts as Prometheus reads them.
use Rattle.std.specs.Prelude.{ℕ, Option, Some, None, List, [], ◌++◌, codes, decimal}
use Rattle.wh_metrics.specs.declared.exposition.Amount.{Amount}
use Rattle.wh_metrics.specs.declared.exposition.Amount.TheVariants.{Count, Time}
use Rattle.wh_metrics.specs.declared.exposition.SingleMetric.{SingleMetric}
use Rattle.wh_metrics.specs.declared.exposition.SingleMetric.TheVariants.{Hits, Misses, Polls, EmptyPolls, InHand, CacheSize, CacheWeight}
use Rattle.wh_metrics.specs.declared.metrics.Gauges.{Gauges}
use Rattle.wh_metrics.specs.declared.metrics.Metrics.{Metrics}
use Rattle.wh_metrics.specs.declared.metrics.TaskTimes.{TaskTimes}
use Rattle.wh_metrics.specs.Times.{seconds_text}

-- what stands before the samples of a metric: what it means, and its type
abbrev pub head_text : (name kind help : List ℕ) → List ℕ
head_text name kind help =
    codes "# HELP " ++ (name ++ (codes " " ++ (help
    ++ (codes "\n# TYPE " ++ (name ++ (codes " " ++ (kind ++ codes "\n")))))))

-- what a sample says: a number, or microseconds in seconds
abbrev pub amount_text : Amount → List ℕ
amount_text (Count count) = decimal count
amount_text (Time microseconds) = seconds_text microseconds

-- a sample: `NAME{LABELS} AMOUNT`, with more labels after those of the process
abbrev pub sample_text : (name labels more : List ℕ) → Amount → List ℕ
sample_text name labels more amount =
    name ++ (codes "{" ++ (labels ++ (more ++ (codes "} " ++ (amount_text amount ++ codes "\n")))))

-- a metric of one sample: its name, what it means, and its type
abbrev pub name_of : SingleMetric → List ℕ
name_of Hits = codes "wfhost_sticky_cache_hit_total"
name_of Misses = codes "wfhost_sticky_cache_miss_total"
name_of Polls = codes "wfhost_polls_total"
name_of EmptyPolls = codes "wfhost_polls_empty_total"
name_of InHand = codes "wfhost_tasks_in_hand"
name_of CacheSize = codes "wfhost_sticky_cache_size"
name_of CacheWeight = codes "wfhost_sticky_cache_events"

abbrev pub help_of : SingleMetric → List ℕ
help_of Hits = codes "Workflow tasks that were answered from a cached run."
help_of Misses = codes "Workflow tasks that were answered without a cached run."
help_of Polls = codes "Polls that got a result or an error."
help_of EmptyPolls = codes "Polls that got an empty response."
help_of InHand = codes "Tasks in hand."
help_of CacheSize = codes "Runs in the sticky cache."
help_of CacheWeight = codes "Weight of the cached runs: one for each event and each whole KiB of a run's input."

abbrev pub kind_of : SingleMetric → List ℕ
kind_of InHand = codes "gauge"
kind_of CacheSize = codes "gauge"
kind_of CacheWeight = codes "gauge"
kind_of _ = codes "counter"

abbrev pub single_text : SingleMetric → (labels : List ℕ) → ℕ → List ℕ
single_text metric labels count =
    head_text (name_of metric) (kind_of metric) (help_of metric) ++ sample_text (name_of metric) labels [] (Count count)

-- the labels of the two kinds of tasks
abbrev pub workflow_label : List ℕ
workflow_label = codes ",worker_type=\"WorkflowWorker\""

abbrev pub activity_label : List ℕ
activity_label = codes ",worker_type=\"ActivityWorker\""

-- a metric with a sample for each kind of tasks
abbrev pub kinds_text : (name kind help labels : List ℕ) → (workflow activity : Amount) → List ℕ
kinds_text name kind help labels workflow activity =
    head_text name kind help
    ++ (sample_text name labels workflow_label workflow ++ sample_text name labels activity_label activity)

-- a sample of the tasks of an outcome
abbrev pub outcome_sample : (labels outcome : List ℕ) → ℕ → List ℕ
outcome_sample labels outcome count = sample_text (codes "wfhost_tasks_total") labels outcome (Count count)

-- the tasks that are over: each has one of four outcomes
abbrev pub tasks_text : (labels : List ℕ) → Metrics → List ℕ
tasks_text labels metrics =
    head_text (codes "wfhost_tasks_total") (codes "counter") (codes "Tasks that are over, by what became of them.")
    ++ (outcome_sample labels (codes ",outcome=\"completed\"") metrics.completed
    ++ (outcome_sample labels (codes ",outcome=\"failed\"") metrics.failed
    ++ (outcome_sample labels (codes ",outcome=\"not_found\"") metrics.not_found
    ++ outcome_sample labels (codes ",outcome=\"refused\"") metrics.refused)))

-- the counters of one sample: workflow tasks with a cached run and without one, polls, and those of them that got an
-- empty response
abbrev pub counters_text : (labels : List ℕ) → Metrics → List ℕ
counters_text labels metrics =
    single_text Hits labels metrics.hits ++ (single_text Misses labels metrics.misses
    ++ (single_text Polls labels metrics.polls ++ single_text EmptyPolls labels metrics.empty_polls))

-- how long tasks of a kind took together, and how many they were
abbrev pub summary_text : (labels more : List ℕ) → TaskTimes → List ℕ
summary_text labels more times =
    sample_text (codes "wfhost_task_seconds_sum") labels more (Time times.sum)
    ++ sample_text (codes "wfhost_task_seconds_count") labels more (Count times.count)

-- how long tasks took, by their kind: a summary without quantiles, and the longest of each kind
abbrev pub times_text : (labels : List ℕ) → Metrics → List ℕ
times_text labels metrics =
    head_text (codes "wfhost_task_seconds") (codes "summary")
    (codes "How long tasks took, from the poll to the acknowledged answer.")
    ++ (summary_text labels workflow_label metrics.workflow_times
    ++ (summary_text labels activity_label metrics.activity_times
    ++ kinds_text (codes "wfhost_task_longest_seconds") (codes "gauge") (codes "How long the longest task took.") labels
    (Time metrics.workflow_times.longest) (Time metrics.activity_times.longest)))

-- slots by their use
abbrev pub slots_text : (labels : List ℕ) → Gauges → List ℕ
slots_text labels held =
    kinds_text (codes "wfhost_worker_task_slots_used") (codes "gauge")
    (codes "Task slots that a task has, or a poll.") labels
    (Count held.workflow.used) (Count held.activity.used)
    ++ kinds_text (codes "wfhost_worker_task_slots_available") (codes "gauge")
    (codes "Task slots that are free.") labels
    (Count held.workflow.available) (Count held.activity.available)

-- what the host holds, if it is known: tasks, the runs of the cache and their weight, and slots
abbrev pub holdings_text : (labels : List ℕ) → Option Gauges → List ℕ
holdings_text labels None = []
holdings_text labels (Some held) =
    single_text InHand labels held.in_hand ++ (single_text CacheSize labels held.cached
    ++ (single_text CacheWeight labels held.cached_events ++ slots_text labels held))

-- all counts of a process with these labels
abbrev pub metrics_text : (labels : List ℕ) → Metrics → List ℕ
metrics_text labels metrics =
    tasks_text labels metrics ++ (counters_text labels metrics
    ++ (times_text labels metrics ++ holdings_text labels metrics.held))
