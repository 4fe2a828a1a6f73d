-- How promises are decided. The state of a run and its watch form a configuration; with counters cut at the greatest
-- number that conditions compare with, there are few. A list of configurations shows a promise if it has the first one
-- and each that a job leads to, and none of them spends more than the budget. The proof does not rest on the search
-- that finds the list.
use Rattle.std.specs.Prelude.{ℕ, zero, suc, ◌+◌, ◌*◌, ◌%◌, max, Bool, true, false, not, ◌&&◌, ◌||◌, cond, List, [], ◌∷◌, ◌++◌, length, Option, Some, None, bytes_eq, codes, ltb, leb, nat_eq}
use Rattle.std.specs.Ordering.{int_eq}
use Rattle.wh_rows.specs.declared.row.JobPattern.TheVariants as patterns
use Rattle.wh_rows.specs.declared.row.Condition.{Condition}
use Rattle.wh_rows.specs.declared.row.Condition.TheVariants as conditions
use Rattle.wh_rows.specs.declared.row.CommandTemplate.TheVariants as templates
use Rattle.wh_rows.specs.declared.row.RowEffect.{RowEffect}
use Rattle.wh_rows.specs.declared.row.RowEffect.TheVariants as effects
use Rattle.wh_rows.specs.declared.row.Counters.{Counters}
use Rattle.wh_rows.specs.Tables.{JobPattern, CommandTemplate, Row, Definition}
use Rattle.wh_rows.specs.Rows.{all_hold, closes, some_closes, count_of, with_count, raised}
use Rattle.wh_rows.specs.Rules.{covers}
use Rattle.wh_rows.specs.Properties.{kind_by, same_kind}
use Rattle.wh_rows.specs.Courses.{Happening, Comes, Gives, Completes, Fails, Cancels, ContinuesAsNew, Closes}
use Rattle.wh_rows.specs.Watches.{Turn, Watch, Standing, new_standing, took, turned}
use Rattle.wh_rows.specs.Promises.{Promise, watch_of}

-- the number of a state: how many rows come before the first row for it
abbrev pub place : List ℕ → List Row → ℕ
place name [] = 0
place name (row ∷ rest) = elim (bytes_eq row.state name) [ true ↦ 0 | false ↦ suc (place name rest) ]

-- a row with numbers instead of state names
pub record Line : Type 0 where
  -- it is for each state that is not closed
  pub any : Bool
  -- the state that it is for
  pub state : ℕ
  -- the jobs that it is for
  pub job : JobPattern
  -- the conditions
  pub conditions : List Condition
  -- the commands
  pub gives : List CommandTemplate
  -- the effects
  pub effects : List RowEffect
  -- it closes the run
  pub closes : Bool
  -- the state after it, unless it is the same
  pub next : Option ℕ

-- the number of a state after a row
abbrev pub next_number : List ℕ → List Row → Option ℕ
next_number name rows = elim (bytes_eq name (codes "same")) [ true ↦ None | false ↦ Some (place name rows) ]

-- a row of a table as a line
abbrev pub line : List Row → Row → Line
line rows row = record {
  any = bytes_eq row.state (codes "any");
  state = place row.state rows;
  job = row.job;
  conditions = row.conditions;
  gives = row.gives;
  effects = row.effects;
  closes = some_closes row.gives;
  next = next_number row.next rows;
}

-- the rows of a table as lines
abbrev pub lines : List Row → List Row → List Line
lines rows [] = []
lines rows (row ∷ rest) = line rows row ∷ lines rows rest

-- the number of the kind of a pattern: patterns with different numbers match no job in common
abbrev pub number_of : JobPattern → ℕ
number_of patterns.Start = 1
number_of (patterns.Signal _) = 2
number_of patterns.CancelRequested = 3
number_of (patterns.Done _) = 4
number_of (patterns.NotDone _) = 5
number_of (patterns.Fired _) = 6
number_of (patterns.ChildStarted _) = 7
number_of (patterns.ChildDone _) = 8
number_of (patterns.ChildCanceled _) = 9
number_of (patterns.ChildNotDone _) = 9
number_of (patterns.Version _ _) = 10
number_of (patterns.AnyVersion _) = 10

-- the text of a pattern
abbrev pub text_of : JobPattern → List ℕ
text_of patterns.Start = []
text_of (patterns.Signal text) = text
text_of patterns.CancelRequested = []
text_of (patterns.Done text) = text
text_of (patterns.NotDone text) = text
text_of (patterns.Fired text) = text
text_of (patterns.ChildStarted text) = text
text_of (patterns.ChildDone text) = text
text_of (patterns.ChildCanceled text) = text
text_of (patterns.ChildNotDone text) = text
text_of (patterns.Version text _) = text
text_of (patterns.AnyVersion text) = text

-- the texts differ, whatever the name of the run is
abbrev pub texts_apart : List ℕ → List ℕ → Bool
texts_apart one other = not (bytes_eq one other) && (not (bytes_eq one (codes "@")) && not (bytes_eq other (codes "@")))

-- the patterns are for two different versions
abbrev pub versions_apart : JobPattern → JobPattern → Bool
versions_apart (patterns.Version _ one) (patterns.Version _ other) = not (int_eq one other)
versions_apart _ _ = false

-- no job matches both patterns
abbrev pub apart : JobPattern → JobPattern → Bool
apart one other =
    elim (nat_eq (number_of one) (number_of other)) [
      | true ↦ texts_apart (text_of one) (text_of other) || versions_apart one other
      | false ↦ true
    ]

-- one of these patterns matches each job that the pattern matches
abbrev pub is_among : JobPattern → List JobPattern → Bool
is_among one [] = false
is_among one (other ∷ rest) = elim (covers other one) [ true ↦ true | false ↦ is_among one rest ]

-- a job that matches the first pattern, if there is one, may match the second
abbrev pub may_be : Option JobPattern → JobPattern → Bool
may_be None wanted = true
may_be (Some one) wanted = not (apart one wanted)

-- a job that matches `known`, and none of `passed`, may be this happening
abbrev pub may_happen : Option JobPattern → List JobPattern → Happening → Bool
may_happen known passed (Comes wanted) =
    elim (is_among wanted passed) [ true ↦ false | false ↦ may_be known wanted ]
may_happen known passed _ = false

-- each job that matches the pattern is this happening
abbrev pub must_happen : Option JobPattern → Happening → Bool
must_happen (Some one) (Comes wanted) = covers wanted one
must_happen _ _ = false

-- the command that a row gives is this happening
abbrev pub is_by : Happening → CommandTemplate → Bool
is_by (Comes pattern) one = false
is_by (Gives kind) one = same_kind kind (kind_by one)
is_by Completes (templates.Complete _) = true
is_by Completes _ = false
is_by Fails (templates.Fail _) = true
is_by Fails _ = false
is_by Cancels templates.Cancel = true
is_by Cancels _ = false
is_by ContinuesAsNew (templates.ContinueAsNew _ _) = true
is_by ContinuesAsNew _ = false
is_by Closes one = closes one

-- the standing of a watch after the commands of a row
abbrev pub given : List Turn → List CommandTemplate → Standing → Standing
given turns [] now = now
given turns (one ∷ rest) now = given turns rest (turned turns (λ what. is_by what one) now)

-- a configuration: the states of a run and of a watch
pub record Config : Type 0 where
  -- the state of the run
  pub state : ℕ
  -- whether it is closed
  pub closed : Bool
  -- its counters, cut at the greatest numbers that conditions compare with
  pub counts : Counters
  -- the watch, and the most that it has spent
  pub watch : Standing

-- the configurations that a watch may be in after such a job
abbrev pub job_turns : (Standing → Config) → List Turn → Option JobPattern → List JobPattern → Standing → List Config
job_turns stand [] known passed now = stand now ∷ []
job_turns stand (turn ∷ rest) known passed now =
    elim (nat_eq turn.from now.at) [
      | true ↦ elim (may_happen known passed turn.what) [
        | true ↦ elim (must_happen known turn.what) [
          | true ↦ stand (took turn now) ∷ []
          | false ↦ stand (took turn now) ∷ job_turns stand rest known passed now
        ]
        | false ↦ job_turns stand rest known passed now
      ]
      | false ↦ job_turns stand rest known passed now
    ]

-- the number of the state after a line
abbrev pub next_place : Option ℕ → ℕ → ℕ
next_place None state = state
next_place (Some next) state = next

-- the cut counters after one effect of a row
abbrev pub cut_one : Counters → RowEffect → Counters → Counters
cut_one tops (effects.Up counter) counts =
    with_count counter counts (raised (count_of counter counts) (count_of counter tops))
cut_one tops (effects.Zero counter) counts = with_count counter counts 0
cut_one tops effects.Keep counts = counts

-- the cut counters after all effects
abbrev pub cut_all : Counters → List RowEffect → Counters → Counters
cut_all tops [] counts = counts
cut_all tops (one ∷ rest) counts = cut_all tops rest (cut_one tops one counts)

-- a line fits, if its pattern matches the job
abbrev pub is_ready : Line → Config → Bool
is_ready row one =
    elim one.closed [
      | true ↦ false
      | false ↦ elim (row.any || nat_eq row.state one.state) [
        | true ↦ all_hold row.conditions one.counts
        | false ↦ false
      ]
    ]

-- the configuration in which only the watch changes
abbrev pub stays : Config → Standing → Config
stays one now = record { state = one.state; closed = one.closed; counts = one.counts; watch = now }

-- the configuration after a line
abbrev pub led : Counters → List Turn → Line → Config → Standing → Config
led tops turns row one now = record {
  state = next_place row.next one.state;
  closed = row.closes;
  counts = cut_all tops row.effects one.counts;
  watch = given turns row.gives now;
}

-- the configurations that lines may lead to, at a job that matches none of `passed`
abbrev pub leads : Counters → List Turn → List Line → List JobPattern → Config → List Config
leads tops turns [] passed one = job_turns (stays one) turns None passed one.watch
leads tops turns (row ∷ rest) passed one =
    elim (is_ready row one) [
      | true ↦ elim (is_among row.job passed) [
        | true ↦ leads tops turns rest passed one
        | false ↦ job_turns (led tops turns row one) turns (Some row.job) passed one.watch
            ++ leads tops turns rest (row.job ∷ passed) one
      ]
      | false ↦ leads tops turns rest passed one
    ]

-- the configurations that the start may lead to
abbrev pub starts : Counters → List Turn → List Line → Config → List Config
starts tops turns [] one = job_turns (stays one) turns (Some patterns.Start) [] one.watch
starts tops turns (row ∷ rest) one =
    elim (is_ready row one && covers row.job patterns.Start) [
      | true ↦ job_turns (led tops turns row one) turns (Some patterns.Start) [] one.watch
      | false ↦ starts tops turns rest one
    ]

-- the configurations that a job after the start may lead to
abbrev pub steps : Counters → List Turn → List Line → Config → List Config
steps tops turns rows one = leads tops turns rows (patterns.Start ∷ []) one

-- both are equal
abbrev pub same_counts : Counters → Counters → Bool
same_counts one other =
    (nat_eq one.a other.a && nat_eq one.b other.b) && (nat_eq one.c other.c && nat_eq one.d other.d)

-- the second configuration is the first, but may have spent more
abbrev pub covered : Config → Config → Bool
covered one other =
    (nat_eq one.state other.state && cond one.closed other.closed (not other.closed))
    && (same_counts one.counts other.counts
    && (nat_eq one.watch.at other.watch.at && leb one.watch.spent other.watch.spent))

-- a search tree of configurations by their keys
pub data Tree : Type 0 where
  Leaf : Tree
  -- a key, its configuration, the tree of lesser keys and that of greater ones
  Node : ℕ → Config → Tree → Tree → Tree

-- the key of a configuration: a hash. If two configurations have the same one, the tree has only one of them, and shows
-- less
abbrev pub key_of : Config → ℕ
key_of one =
    ((((((one.state * 1000003 + one.counts.a) * 1000003 + one.counts.b) * 1000003 + one.counts.c)
    * 1000003 + one.counts.d) * 1000003 + one.watch.at) * 2 + cond one.closed 1 0)
    * 1442695040888963407 % 2305843009213693951

-- the configuration of this key in the tree covers this one
abbrev pub has_under : ℕ → Config → Tree → Bool
has_under key one Leaf = false
has_under key one (Node other it less more) =
    elim (nat_eq key other) [
      | true ↦ covered one it
      | false ↦ elim (ltb key other) [ true ↦ has_under key one less | false ↦ has_under key one more ]
    ]

-- the tree has the configuration, or one that covers it
abbrev pub has : Tree → Config → Bool
has all one = has_under (key_of one) one all

-- each passes the test
abbrev pub each : (Config → Bool) → List Config → Bool
each test [] = true
each test (one ∷ rest) = elim (test one) [ true ↦ each test rest | false ↦ false ]

-- each of these configurations keeps to the budget, and leads only to those that `all` has
abbrev pub is_closed : Counters → Watch → List Line → Tree → Tree → Bool
is_closed tops watch rows all Leaf = true
is_closed tops watch rows all (Node key one less more) =
    elim (leb one.watch.spent watch.budget) [
      | true ↦ elim (each (has all) (steps tops watch.turns rows one)) [
        | true ↦ elim (is_closed tops watch rows all less) [ true ↦ is_closed tops watch rows all more | false ↦ false ]
        | false ↦ false
      ]
      | false ↦ false
    ]

-- no condition compares with a number above the cut
abbrev pub asks_within : Counters → List Condition → Bool
asks_within tops [] = true
asks_within tops (conditions.Below counter bound ∷ rest) = leb bound (count_of counter tops) && asks_within tops rest
asks_within tops (conditions.AtLeast counter bound ∷ rest) = leb bound (count_of counter tops) && asks_within tops rest

-- the cut counters decide the conditions of each line, and its state is one of so many
abbrev pub all_within : ℕ → Counters → List Line → Bool
all_within many tops [] = true
all_within many tops (row ∷ rest) =
    (ltb row.state many && asks_within tops row.conditions) && all_within many tops rest

-- no counter is cut above its bound
abbrev pub are_cuts : Counters → Counters → Bool
are_cuts bounds tops =
    (leb tops.a bounds.a && leb tops.b bounds.b) && (leb tops.c bounds.c && leb tops.d bounds.d)

-- the configuration in which a run begins, by the number of its state
abbrev pub begun : ℕ → Config
begun first = record {
  state = first;
  closed = false;
  counts = record { a = 0; b = 0; c = 0; d = 0 };
  watch = new_standing;
}

-- a table to be decided: its bounds, its lines, how many they are, and the number of the state in which runs begin
pub record Case : Type 0 where
  pub bounds : Counters
  pub rows : List Line
  pub many : ℕ
  pub first : ℕ

-- the case of a table
abbrev pub case_of : Definition → Case
case_of table = record {
  bounds = table.bounds;
  rows = lines table.rows table.rows;
  many = length table.rows;
  first = place table.first table.rows;
}

-- these configurations show that a run keeps to the budget
abbrev pub shows : Case → Counters → Watch → Tree → Bool
shows it tops watch all =
    (are_cuts it.bounds tops && all_within it.many tops it.rows)
    && (each (has all) (starts tops watch.turns it.rows (begun it.first)) && is_closed tops watch it.rows all all)

-- What follows searches for the configurations, and for a run that breaks the promise. The proof does not rest on it.

-- the tree with this configuration, which replaces one with the same key
abbrev pub put : ℕ → Config → Tree → Tree
put key one Leaf = Node key one Leaf Leaf
put key one (Node other it less more) =
    elim (nat_eq key other) [
      | true ↦ Node key one less more
      | false ↦ elim (ltb key other) [
        | true ↦ Node other it (put key one less) more
        | false ↦ Node other it less (put key one more)
      ]
    ]

-- the greatest numbers that the conditions compare with
abbrev pub asked_one : List Condition → Counters → Counters
asked_one [] tops = tops
asked_one (conditions.Below counter bound ∷ rest) tops =
    asked_one rest (with_count counter tops (max (count_of counter tops) bound))
asked_one (conditions.AtLeast counter bound ∷ rest) tops =
    asked_one rest (with_count counter tops (max (count_of counter tops) bound))

-- the greatest numbers that the conditions of lines compare with
abbrev pub asked : List Line → Counters → Counters
asked [] tops = tops
asked (row ∷ rest) tops = asked rest (asked_one row.conditions tops)

-- the tasks of the search
pub data Task : Type 0 where
  Visit : Config → Task
  Leave : Config → Task

-- a visit to each of these, with nothing spent
abbrev pub visits : List Config → List Task
visits [] = []
visits (one ∷ rest) = Visit (stays one (record { at = one.watch.at; spent = 0 })) ∷ visits rest

-- the configurations that jobs lead to, each before those that it leads to if possible; none if there are too many
abbrev pub order : ℕ → Counters → List Turn → List Line → Tree → List Task → List Config → List Config
order zero tops turns rows seen left done = []
order (suc fuel) tops turns rows seen [] done = done
order (suc fuel) tops turns rows seen (Leave one ∷ left) done = order fuel tops turns rows seen left (one ∷ done)
order (suc fuel) tops turns rows seen (Visit one ∷ left) done =
    elim (has seen one) [
      | true ↦ order fuel tops turns rows seen left done
      | false ↦ order fuel tops turns rows (put (key_of one) one seen)
          (visits (steps tops turns rows one) ++ (Leave one ∷ left)) done
    ]

-- the configuration of a key
abbrev pub under : ℕ → Config → Tree → Config
under key one Leaf = one
under key one (Node other it less more) =
    elim (nat_eq key other) [
      | true ↦ it
      | false ↦ elim (ltb key other) [ true ↦ under key one less | false ↦ under key one more ]
    ]

-- the tree with each of these configurations that it does not cover yet
abbrev pub joined : Tree → List Config → Tree
joined all [] = all
joined all (one ∷ rest) = elim (has all one) [ true ↦ joined all rest | false ↦ joined (put (key_of one) one all) rest ]

-- the tree with the configurations that each of these, as the tree has it, leads to
abbrev pub passed_on : Counters → List Turn → List Line → List Config → Tree → Tree
passed_on tops turns rows [] all = all
passed_on tops turns rows (one ∷ rest) all =
    passed_on tops turns rows rest (joined all (steps tops turns rows (under (key_of one) one all)))

-- each keeps to the budget
abbrev pub all_keep : ℕ → Tree → Bool
all_keep budget Leaf = true
all_keep budget (Node key one less more) =
    elim (leb one.watch.spent budget) [
      | true ↦ elim (all_keep budget less) [ true ↦ all_keep budget more | false ↦ false ]
      | false ↦ false
    ]

-- the most that one of the configurations spends
abbrev pub most_spent : Tree → ℕ
most_spent Leaf = 0
most_spent (Node key one less more) = max one.watch.spent (max (most_spent less) (most_spent more))

-- what the search lets a watch spend: more than any budget but 0
abbrev pub cap : ℕ → ℕ
cap zero = zero
cap (suc budget) = 0x1_0000_0000_0000_0000

-- the tree once it leads to nothing new; `None` if that does not happen within the fuel, or a configuration spends more
-- than the cap
abbrev pub settled : ℕ → Counters → Watch → List Line → List Config → Tree → Option Tree
settled zero tops watch rows list all = None
settled (suc fuel) tops watch rows list all =
    elim (all_keep watch.budget all) [
      | true ↦ elim (is_closed tops watch rows all all) [
        | true ↦ Some all
        | false ↦ settled fuel tops watch rows list (passed_on tops watch.turns rows list all)
      ]
      | false ↦ None
    ]

-- the configurations that these lead to
abbrev pub reached : Counters → Watch → List Line → List Config → Option Tree
reached tops watch rows first =
    settled 6 tops (record watch { budget = cap watch.budget }) rows
    (order 6000 tops watch.turns rows Leaf (visits first) [])
    (joined Leaf first)

-- a configuration, and the rows that lead to it, the last one first; 0 is a job that matches no row
pub record Trailed : Type 0 where
  pub one : Config
  pub rows : List ℕ

-- each of these configurations after one more row
abbrev pub trailed : ℕ → List ℕ → List Config → List Trailed
trailed number rows [] = []
trailed number rows (one ∷ rest) = record { one = one; rows = number ∷ rows } ∷ trailed number rows rest

-- the configurations that lines may lead to, and by which row
abbrev pub trail_leads : ℕ → Counters → List Turn → List Line → List JobPattern → Trailed → List Trailed
trail_leads number tops turns [] passed it = trailed 0 it.rows (job_turns (stays it.one) turns None passed it.one.watch)
trail_leads number tops turns (row ∷ rest) passed it =
    elim (is_ready row it.one) [
      | true ↦ elim (is_among row.job passed) [
        | true ↦ trail_leads (suc number) tops turns rest passed it
        | false ↦ trailed number it.rows
            (job_turns (led tops turns row it.one) turns (Some row.job) passed it.one.watch)
            ++ trail_leads (suc number) tops turns rest (row.job ∷ passed) it
      ]
      | false ↦ trail_leads (suc number) tops turns rest passed it
    ]

-- the configurations that the start may lead to, and by which row
abbrev pub trail_starts : ℕ → Counters → List Turn → List Line → Config → List Trailed
trail_starts number tops turns [] one = trailed 0 [] (job_turns (stays one) turns (Some patterns.Start) [] one.watch)
trail_starts number tops turns (row ∷ rest) one =
    elim (is_ready row one && covers row.job patterns.Start) [
      | true ↦ trailed number [] (job_turns (led tops turns row one) turns (Some patterns.Start) [] one.watch)
      | false ↦ trail_starts (suc number) tops turns rest one
    ]

-- rows, the last one first, as the digits of a number in this radix, the first row first
abbrev pub as_digits : ℕ → List ℕ → ℕ
as_digits radix [] = 0
as_digits radix (row ∷ rest) = as_digits radix rest * radix + row

-- the rows of a shortest path to a configuration that spends more than the budget; `None` if the search finds none
-- within the fuel
abbrev pub trail : ℕ → Counters → Watch → List Line → Tree → List Trailed → Option (List ℕ)
trail zero tops watch rows seen left = None
trail (suc fuel) tops watch rows seen [] = None
trail (suc fuel) tops watch rows seen (next ∷ left) =
    elim (has seen next.one) [
      | true ↦ trail fuel tops watch rows seen left
      | false ↦ elim (leb next.one.watch.spent watch.budget) [
        | true ↦ trail fuel tops watch rows (put (key_of next.one) next.one seen)
            (left ++ trail_leads 1 tops watch.turns rows (patterns.Start ∷ []) next)
        | false ↦ Some next.rows
      ]
    ]

-- why a promise is refused
pub data PromiseFault : Type 0 where
  -- The promise of the first number, counted from 1, may be broken in a run that follows these rows, the first one at
  -- its start. Each row has two digits, counted from 1 (three in a table of more than 99 rows); 00 is a job that
  -- matches no row.
  MayBreak : ℕ → ℕ → PromiseFault
  -- the promise of the first number may be broken: in some run it happens so many times
  Takes : ℕ → ℕ → PromiseFault
  -- It is not decided whether the promise of this number holds: what it counts has no bound, or there are too many
  -- configurations, or its budget is 0 and the search looked at 300 configurations and found no run that breaks it.
  NotDecided : ℕ → PromiseFault

-- the fault if no run that breaks the promise is found in time
abbrev pub by_most : ℕ → Option Tree → PromiseFault
by_most number None = NotDecided number
by_most number (Some all) = Takes number (most_spent all)

-- the fault by the run that is found
abbrev pub by_way : ℕ → ℕ → Option Tree → Option (List ℕ) → PromiseFault
by_way number many all None = by_most number all
by_way number many all (Some rows) =
    MayBreak number (as_digits (elim (ltb many 100) [ true ↦ 100 | false ↦ 1000 ]) rows)

-- the fault of a promise that is not shown
abbrev pub broken : ℕ → Case → Counters → Watch → Option Tree → PromiseFault
broken number it tops watch all =
    by_way number it.many all
    (trail 300 tops watch it.rows Leaf (trail_starts 1 tops watch.turns it.rows (begun it.first)))

-- the fault by the configurations that are found
abbrev pub fault_by : ℕ → Case → Counters → Watch → Option Tree → Option PromiseFault
fault_by number it tops watch None = Some (broken number it tops watch None)
fault_by number it tops watch (Some all) =
    elim (shows it tops watch all) [ true ↦ None | false ↦ Some (broken number it tops watch (Some all)) ]

-- the fault of a promise, with the counters cut at these numbers
abbrev pub fault_at : ℕ → Case → Counters → Watch → Option PromiseFault
fault_at number it tops watch =
    fault_by number it tops watch (reached tops watch it.rows (starts tops watch.turns it.rows (begun it.first)))

-- the first fault of these promises
abbrev pub first_fault : ℕ → Case → Counters → List Promise → Option PromiseFault
first_fault number it tops [] = None
first_fault number it tops (promise ∷ rest) =
    elim (fault_at number it tops (watch_of promise)) [
      | Some fault ↦ Some fault
      | None ↦ first_fault (suc number) it tops rest
    ]

-- the greatest number that the conditions of a case compare each counter with
abbrev pub cuts_of : Case → Counters
cuts_of it = asked it.rows (record { a = 0; b = 0; c = 0; d = 0 })

-- the first fault of the promises for a case
abbrev pub fault_over : Case → List Promise → Option PromiseFault
fault_over it promises = first_fault 1 it (cuts_of it) promises

-- why a table may not keep its promises; `None` shows that it keeps them
abbrev pub promise_fault : Definition → List Promise → Option PromiseFault
promise_fault table promises = fault_over (case_of table) promises
