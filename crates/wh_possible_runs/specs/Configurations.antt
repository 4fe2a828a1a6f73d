-- The configurations of a run, and those that a job or the next task leads to.
use Rattle.std.specs.Prelude.{ℕ, Bool, true, false, not, ◌&&◌, ◌||◌, List, [], ◌∷◌, ◌++◌, Option, Some, None, nat_eq}
use Rattle.wh_events.specs.declared.place.Thing.{Thing}
use Rattle.wh_events.specs.declared.place.Thing.TheVariants as things
use Rattle.wh_workflow.specs.Scripts.{Act}
use Rattle.wh_workflow.specs.Scripts.Act.{Opening, Cancelling, Asking, Closing, Other}
use Rattle.wh_rows.specs.declared.row.JobPattern.TheVariants as patterns
use Rattle.wh_rows.specs.declared.row.CommandTemplate.TheVariants as templates
use Rattle.wh_rows.specs.declared.row.Counters.{Counters}
use Rattle.wh_rows.specs.Tables.{JobPattern, CommandTemplate}
use Rattle.wh_rows.specs.Rows.{all_hold}
use Rattle.wh_rows.specs.Rules.{covers}
use Rattle.wh_rows.specs.Deciding.{Line, next_place, cut_all, is_among}
use Rattle.wh_possible_runs.specs.declared.thing.ThingState.{ThingState}
use Rattle.wh_possible_runs.specs.Things.{next_thing}
use Rattle.wh_possible_runs.specs.Situations.{ThingName, Situation, new_situation, after_act, after_news, after_pattern, all_told}

-- a configuration: the state of a run, and what it knows
pub record Config : Type 0 where
  -- the number of its state
  pub state : ℕ
  -- whether it is closed
  pub closed : Bool
  -- its counters, cut at the greatest numbers that conditions compare with
  pub counts : Counters
  -- what it knows in the task
  pub situation : Situation

-- the configuration in which a run begins, by the number of its state
abbrev pub begun : List ThingName → ℕ → Config
begun names first = record {
  state = first;
  closed = false;
  counts = record { a = 0; b = 0; c = 0; d = 0 };
  situation = new_situation names;
}

-- what a command of a row does
abbrev pub act_by : CommandTemplate → Act
act_by (templates.StartActivity id _ _) = Opening things.Activity id
act_by (templates.CancelActivity id) = Cancelling things.Activity id
act_by (templates.StartTimer id _) = Opening things.Timer id
act_by (templates.CancelTimer id) = Cancelling things.Timer id
act_by (templates.StartChild id _ _) = Opening things.Child id
act_by (templates.CancelChild id) = Cancelling things.Child id
act_by (templates.Ask change low high) = Asking change low high
act_by (templates.Complete _) = Closing
act_by (templates.Fail _) = Closing
act_by templates.Cancel = Closing
act_by (templates.ContinueAsNew _ _) = Closing
act_by _ = Other

-- what a run knows after the commands of a row
abbrev pub after_templates : List ThingName → List CommandTemplate → Situation → Situation
after_templates names [] now = now
after_templates names (one ∷ rest) now = after_templates names rest (after_act names (act_by one) now)

-- a line fits, if its pattern matches the job
abbrev pub is_ready : Line → Config → Bool
is_ready row one =
    elim one.closed [
      | true ↦ false
      | false ↦ elim (row.any || nat_eq row.state one.state) [
        | true ↦ all_hold row.conditions one.counts
        | false ↦ false
      ]
    ]

-- the configuration in which only what the run knows changes
abbrev pub stays : Config → Situation → Config
stays one now = record { state = one.state; closed = one.closed; counts = one.counts; situation = now }

-- the configuration after a line
abbrev pub led : List ThingName → Counters → Line → Config → Situation → Config
led names tops row one now = record {
  state = next_place row.next one.state;
  closed = row.closes;
  counts = cut_all tops row.effects one.counts;
  situation = after_templates names row.gives now;
}

-- the patterns of the jobs that tell of the thing with the name
abbrev pub patterns_of : Thing → List ℕ → List JobPattern
patterns_of things.Activity id = patterns.Done id ∷ patterns.NotDone id ∷ []
patterns_of things.Timer id = patterns.Fired id ∷ []
patterns_of things.Child id = patterns.ChildStarted id ∷ patterns.ChildDone id ∷ patterns.ChildNotDone id ∷ []
patterns_of _ id = []

-- those of all things
abbrev pub all_patterns : List ThingName → List JobPattern
all_patterns [] = []
all_patterns (name ∷ rest) = patterns_of name.0 name.1 ++ all_patterns rest

-- a list of what there is
abbrev pub listed : {A B : Type 0} → (A → B) → Option A → List B
listed make None = []
listed make (Some x) = make x ∷ []

-- what comes of jobs like these, except those that `passed` has
abbrev pub each_told : (Situation → Config) → List ThingName → List JobPattern → List JobPattern → Situation → List Config
each_told make names [] passed now = []
each_told make names (one ∷ rest) passed now =
    elim (is_among one passed) [
      | true ↦ each_told make names rest passed now
      | false ↦ listed make (after_news names one now) ++ each_told make names rest passed now
    ]

-- what comes of a job that matches none of `passed`
abbrev pub unmatched : (Situation → Config) → List ThingName → List JobPattern → Situation → List Config
unmatched make names passed now =
    elim now.awaits_version [
      | true ↦ make (record now { awaits_version = false }) ∷ []
      | false ↦ make now ∷ make (record now { takes_signals = false })
          ∷ each_told make names (all_patterns names) passed now
    ]

-- the configurations that lines may lead to, at a job that matches none of `passed`
abbrev pub leads : List ThingName → Counters → List Line → List JobPattern → Config → List Config
leads names tops [] passed one = unmatched (stays one) names passed one.situation
leads names tops (row ∷ rest) passed one =
    elim (is_ready row one) [
      | true ↦ elim (is_among row.job passed) [
        | true ↦ leads names tops rest passed one
        | false ↦ listed (led names tops row one) (after_pattern names row.job one.situation)
            ++ leads names tops rest (row.job ∷ passed) one
      ]
      | false ↦ leads names tops rest passed one
    ]

-- the configurations that the start may lead to
abbrev pub starts : List ThingName → Counters → List Line → Config → List Config
starts names tops [] one = stays one one.situation ∷ []
starts names tops (row ∷ rest) one =
    elim (is_ready row one && covers row.job patterns.Start) [
      | true ↦ led names tops row one one.situation ∷ []
      | false ↦ starts names tops rest one
    ]

-- the lists with what there is put before each of them
abbrev pub put_before : Option ThingState → List (List ThingState) → List (List ThingState)
put_before None lists = []
put_before (Some one) [] = []
put_before (Some one) (list ∷ lists) = (one ∷ list) ∷ put_before (Some one) lists

-- the things as they may be when the next task begins
abbrev pub all_next_things : List ThingName → List ThingState → List (List ThingState)
all_next_things (name ∷ names) (one ∷ rest) =
    let lists = all_next_things names rest in
    put_before (next_thing false name.0 one) lists ++ put_before (next_thing true name.0 one) lists
all_next_things _ [] = [] ∷ []
all_next_things [] _ = []

-- the configurations with these things
abbrev pub with_each : Config → List (List ThingState) → List Config
with_each one [] = []
with_each one (list ∷ lists) =
    stays one (record one.situation { things = list; takes_signals = true }) ∷ with_each one lists

-- the configurations that the next task may begin with
abbrev pub next_tasks : List ThingName → Config → List Config
next_tasks names one =
    elim (all_told one.situation.things && not one.situation.awaits_version) [
      | true ↦ with_each one (all_next_things names one.situation.things)
      | false ↦ []
    ]

-- the configurations that a job or the next task leads to
abbrev pub steps : List ThingName → Counters → List Line → Config → List Config
steps names tops rows one = leads names tops rows (patterns.Start ∷ []) one ++ next_tasks names one
