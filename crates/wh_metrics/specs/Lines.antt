-- Counts as a line.
use Rattle.std.specs.Prelude.{ℕ, Option, Some, None, List, [], ◌++◌, codes, decimal}
use Rattle.wh_metrics.specs.declared.metrics.Gauges.{Gauges}
use Rattle.wh_metrics.specs.declared.metrics.Metrics.{Metrics}
use Rattle.wh_metrics.specs.declared.metrics.TaskSlots.{TaskSlots}
use Rattle.wh_metrics.specs.declared.metrics.TaskTimes.{TaskTimes}
use Rattle.wh_metrics.specs.Times.{milliseconds_text}

-- `in hand <in hand>, cached <runs> runs with <weight> events and KiB of input, `, or nothing if it is not known
abbrev pub held_text : Option Gauges → List ℕ
held_text None = []
held_text (Some held) =
    codes "in hand " ++ (decimal held.in_hand ++ (codes ", cached " ++ (decimal held.cached
    ++ (codes " runs with " ++ (decimal held.cached_events ++ codes " events and KiB of input, ")))))

-- `<count> in <sum> ms, longest <longest> ms`
abbrev pub times_text : TaskTimes → List ℕ
times_text times =
    decimal times.count ++ (codes " in " ++ (milliseconds_text times.sum
    ++ (codes " ms, longest " ++ (milliseconds_text times.longest ++ codes " ms"))))

-- `, workflow tasks <times>, activity tasks <times>`
abbrev pub kinds_text : Metrics → List ℕ
kinds_text metrics =
    codes ", workflow tasks " ++ (times_text metrics.workflow_times
    ++ (codes ", activity tasks " ++ times_text metrics.activity_times))

-- `completed <completed>, failed <failed>, not found <not found>, refused <refused>, `
abbrev pub outcomes_text : Metrics → List ℕ
outcomes_text metrics =
    codes "completed " ++ (decimal metrics.completed ++ (codes ", failed " ++ (decimal metrics.failed
    ++ (codes ", not found " ++ (decimal metrics.not_found ++ (codes ", refused " ++ (decimal metrics.refused
    ++ codes ", ")))))))

-- `<outcomes><held>hits <hits>, misses <misses>, <rate> tasks a second`, and the times of tasks
abbrev pub counts_text : Metrics → (rate : ℕ) → List ℕ
counts_text metrics rate =
    outcomes_text metrics ++ (held_text metrics.held ++ (codes "hits " ++ (decimal metrics.hits
    ++ (codes ", misses " ++ (decimal metrics.misses ++ (codes ", " ++ (decimal rate
    ++ (codes " tasks a second" ++ kinds_text metrics))))))))

-- a member of an object: `"KEY":VALUE`
abbrev pub member : List ℕ → List ℕ → List ℕ
member key value = codes "\"" ++ (key ++ (codes "\":" ++ value))

-- a member after another one
abbrev pub next : List ℕ → List ℕ → List ℕ
next key value = codes "," ++ member key value

-- `{"used":<used>,"available":<available>}`
abbrev pub slots_json : TaskSlots → List ℕ
slots_json slots =
    codes "{" ++ (member (codes "used") (decimal slots.used)
    ++ (next (codes "available") (decimal slots.available) ++ codes "}"))

-- what the host holds, if it is known: tasks, the runs of the cache and their weight, and slots
abbrev pub held_json : Option Gauges → List ℕ
held_json None = []
held_json (Some held) =
    next (codes "inHand") (decimal held.in_hand)
    ++ (next (codes "cachedRuns") (decimal held.cached)
    ++ (next (codes "cachedEvents") (decimal held.cached_events)
    ++ (next (codes "workflowSlots") (slots_json held.workflow)
    ++ next (codes "activitySlots") (slots_json held.activity))))

-- `{"count":<count>,"milliseconds":<sum>,"longestMilliseconds":<longest>}`
abbrev pub times_json : TaskTimes → List ℕ
times_json times =
    codes "{" ++ (member (codes "count") (decimal times.count)
    ++ (next (codes "milliseconds") (milliseconds_text times.sum)
    ++ (next (codes "longestMilliseconds") (milliseconds_text times.longest) ++ codes "}")))

-- the times of tasks by their kind
abbrev pub kinds_json : Metrics → List ℕ
kinds_json metrics =
    next (codes "workflowTasks") (times_json metrics.workflow_times)
    ++ next (codes "activityTasks") (times_json metrics.activity_times)

-- all counts as an object
abbrev pub json_text : Metrics → (rate : ℕ) → List ℕ
json_text metrics rate =
    codes "{" ++ (member (codes "completed") (decimal metrics.completed)
    ++ (next (codes "failed") (decimal metrics.failed)
    ++ (held_json metrics.held
    ++ (next (codes "hits") (decimal metrics.hits)
    ++ (next (codes "misses") (decimal metrics.misses)
    ++ (next (codes "polls") (decimal metrics.polls)
    ++ (next (codes "emptyPolls") (decimal metrics.empty_polls)
    ++ (next (codes "answersNotFound") (decimal metrics.not_found)
    ++ (next (codes "answersRefused") (decimal metrics.refused)
    ++ (next (codes "tasksPerSecond") (decimal rate)
    ++ (kinds_json metrics ++ codes "}")))))))))))
