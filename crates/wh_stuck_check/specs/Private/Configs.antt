-- What the program has of configurations is what the definitions speak of.
use Rattle.std.specs.Prelude.{◌≡◌, ◌++◌, Bool, true, false, ◌&&◌, List, [], ◌∷◌, Option, Some, None}
use Rattle.wh_rows.specs.declared.row.JobPattern.TheVariants as patterns
use Rattle.wh_rows.specs.declared.row.Counters.{Counters}
use Rattle.wh_rows.specs.Tables.{JobPattern}
use Rattle.wh_rows.specs.Rules.{covers}
use Rattle.wh_rows.specs.Deciding.{Line, is_among}
use Rattle.wh_possible_runs.specs.Situations.{ThingName, Situation, after_news, after_pattern}
use Rattle.wh_possible_runs.specs.Configurations.{Config, is_ready, led, listed, leads, steps}
use Rattle.wh_possible_runs.specs.Shown.{has, each}
use Rattle.wh_stuck_check.specs.declared.config.Configuration.{Configuration as ConfigHeld}
use Rattle.wh_stuck_check.specs.Private.Seen.{situation_seen}

-- a configuration
abbrev pub config_seen : ConfigHeld → Config
config_seen one = record {
  state = one.state;
  closed = one.closed;
  counts = one.counts;
  situation = situation_seen one.situation;
}

-- what comes of a job of the pattern, unless `passed` has it
abbrev pub one_told : (Situation → Config) → List ThingName → JobPattern → List JobPattern → Situation → List Config
one_told make names pattern passed now =
    elim (is_among pattern passed) [ true ↦ [] | false ↦ listed make (after_news names pattern now) ]

-- where a line leads, if a server gives a job of its pattern
abbrev pub answered : List ThingName → Counters → Line → Config → List Config
answered names tops row one = listed (led names tops row one) (after_pattern names row.job one.situation)

-- the row that counts at the start, if there is one
abbrev pub started : List Line → Config → Option Line
started [] one = None
started (row ∷ rest) one =
    elim (is_ready row one && covers row.job patterns.Start) [ true ↦ Some row | false ↦ started rest one ]

-- What was found, and where a row and those behind it lead, is what is found, and where those behind it lead. So many
-- patterns are passed before the row, and so many behind it.
abbrev pub LeadsOn : List ThingName → Counters → Config → Line → List JobPattern → List JobPattern → List Config
    → List Config → Type 0
LeadsOn names tops one row passed left before behind =
    (rest : List Line) → behind ++ leads names tops rest left one ≡ before ++ leads names tops (row ∷ rest) passed one

-- the configuration is not at fault, and leads only to these
abbrev pub is_good : List ThingName → Counters → List Line → List Config → Config → Bool
is_good names tops rows all one =
    elim one.situation.faulty [ true ↦ false | false ↦ each (has all) (steps names tops rows one) ]
