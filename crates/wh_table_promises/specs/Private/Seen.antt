-- What the program has of watches, rows and configurations is what the definitions speak of.
use Rattle.std.specs.Prelude.{◌≡◌, ◌++◌, ℕ, Bool, true, false, ◌&&◌, cond, List, [], ◌∷◌, map, Option, Some, None, nat_eq}
use Rattle.wh_rows.specs.declared.row.JobPattern.TheVariants as patterns
use Rattle.wh_rows.specs.declared.row.Counters.{Counters}
use Rattle.wh_rows.specs.Tables.{JobPattern, CommandTemplate}
use Rattle.wh_rows.specs.Rules.{covers}
use Rattle.wh_rows.specs.Watches.{Turn, Standing, turned}
use Rattle.wh_rows.specs.Deciding.{Line, Config, is_by, is_ready, stays, led, leads}
use Rattle.wh_table_promises.specs.declared.watch.WatchTurn.{WatchTurn as TurnHeld}
use Rattle.wh_table_promises.specs.declared.watch.WatchState.{WatchState as StandingHeld}
use Rattle.wh_table_promises.specs.declared.config.Configuration.{Configuration as ConfigHeld}
use Rattle.wh_table_promises.specs.Promised.{happening_of}

-- a turn
abbrev pub turn_seen : TurnHeld → Turn
turn_seen turn = record {
  from = turn.from;
  what = happening_of turn.what.now;
  to = turn.to;
  cost = cond turn.spends 1 0;
}

-- where a watch stands
abbrev pub standing_seen : StandingHeld → Standing
standing_seen now = record { at = now.at; spent = now.spent }

-- the turn is from the state, and happens by the command
abbrev pub turns_by : Turn → CommandTemplate → ℕ → Bool
turns_by turn one at = nat_eq turn.from at && is_by turn.what one

-- where a watch stands after a command of a row
abbrev pub turned_by : List Turn → CommandTemplate → Standing → Standing
turned_by turns one now = turned turns (λ what. is_by what one) now

-- where a run and a watch stand together
abbrev pub config_seen : ConfigHeld → Config
config_seen one = record {
  state = one.state;
  closed = one.closed;
  counts = one.counts;
  watch = standing_seen one.watch;
}

-- where a row leads, if there is one
abbrev pub stand_by : Counters → List Turn → Option Line → Config → Standing → Config
stand_by tops turns None one now = stays one now
stand_by tops turns (Some row) one now = led tops turns row one now

-- the row that counts at the start, if there is one
abbrev pub started : List Line → Config → Option Line
started [] one = None
started (row ∷ rest) one =
    elim (is_ready row one && covers row.job patterns.Start) [ true ↦ Some row | false ↦ started rest one ]

-- what was found, and where a row and those behind it lead, is what is found, and where those behind it lead; so many
-- patterns are passed before the row, and so many behind it
abbrev pub LeadsOn : Counters → List Turn → Config → Line → List JobPattern → List JobPattern → List Config → List Config → Type 0
LeadsOn tops turns one row passed left before behind =
    (rest : List Line) → behind ++ leads tops turns rest left one ≡ before ++ leads tops turns (row ∷ rest) passed one
