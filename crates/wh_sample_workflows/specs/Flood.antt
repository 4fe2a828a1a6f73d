-- The sample Flood.
use Rattle.std.specs.Prelude.{◌≡◌, ℕ, zero, suc, ◌+◌, ◌≤◌, true, List, [], ◌∷◌, ◌++◌, codes, bytes_eq, decimal, eqb, length, refl, if◌then◌else◌}
use Rattle.std.proofs.Common.{ap, sym, subst, lit≤}
use Rattle.wh_workflow.specs.declared.command.Command.{Command}
use Rattle.wh_workflow.specs.declared.command.Command.TheVariants.{StartTimer}
use Rattle.wh_workflow.specs.declared.job.Job.{Job}
use Rattle.wh_workflow.specs.declared.job.Job.TheVariants.{Start, Signal}
use Rattle.wh_workflow.specs.Law.{Program, IsAnswer, IsLawful, asks_last, records_none}
use Rattle.wh_workflow.specs.Answering.{none_is_answer}
use Rattle.wh_sample_workflows.specs.declared.flood.FloodState.{FloodState}

-- the next number; 0 follows the last number of 64 bits
abbrev pub next_number : ℕ → ℕ
next_number n = if eqb n 0xffff_ffff_ffff_ffff then 0 else n + 1

-- the number after so many more
unfoldable pub counted : ℕ → ℕ → ℕ
counted zero n = n
counted (suc times) n = next_number (counted times n)

-- so many timers, named by numbers from this one on
unfoldable pub timers : ℕ → ℕ → List Command
timers zero n = []
timers (suc times) n = timers times n ++ StartTimer (decimal (counted times n)) 1 ∷ []

-- the commands that it gives to a job
abbrev pub flood_gives : FloodState → Job → List Command
flood_gives state (Start _ _) = timers 64 state.next
flood_gives state (Signal _ _) = timers 64 state.next
flood_gives _ _ = []

-- the state after a job
abbrev pub flood_after : FloodState → Job → FloodState
flood_after state (Start _ _) = record { next = counted 64 state.next }
flood_after state (Signal _ _) = record { next = counted 64 state.next }
flood_after state _ = state

-- the workflow as a program
abbrev pub flood : Program FloodState
flood = record {
  knows = λ kind. bytes_eq kind (codes "Flood");
  initial = λ _. record { next = 0 };
  after = flood_after;
  gives = flood_gives;
}

-- the commands are only timers, and so many of them
data OnlyTimers : ℕ → List Command → Type 0 where
  Nothing : OnlyTimers 0 []
  Timer : (count : ℕ) (id : List ℕ) (seconds : ℕ) (rest : List Command) → OnlyTimers count rest
      → OnlyTimers (suc count) (StartTimer id seconds ∷ rest)

one_more : (count : ℕ) (commands : List Command) (id : List ℕ) (seconds : ℕ) → OnlyTimers count commands
    → OnlyTimers (suc count) (commands ++ StartTimer id seconds ∷ [])
one_more _ _ id seconds Nothing = Timer zero id seconds [] Nothing
one_more _ _ id seconds (Timer count other other_seconds rest timers) =
    Timer (suc count) other other_seconds (rest ++ StartTimer id seconds ∷ []) (one_more count rest id seconds timers)

only_timers : (times n : ℕ) → OnlyTimers times (timers times n)
unfolding timers
only_timers zero n = Nothing
only_timers (suc times) n = one_more times (timers times n) (decimal (counted times n)) 1 (only_timers times n)

timers_length : (count : ℕ) (commands : List Command) → OnlyTimers count commands → length commands ≡ count
timers_length _ _ Nothing = refl
timers_length _ _ (Timer count id seconds rest timers) = ap suc (timers_length count rest timers)

timers_ask : (count : ℕ) (commands : List Command) → OnlyTimers count commands → asks_last commands ≡ true
timers_ask _ _ Nothing = refl
timers_ask _ _ (Timer _ id seconds _ Nothing) = refl
timers_ask _ _ (Timer _ id seconds _ (Timer count other other_seconds rest timers)) =
    timers_ask (suc count) (StartTimer other other_seconds ∷ rest) (Timer count other other_seconds rest timers)

timers_record : (count : ℕ) (commands : List Command) → OnlyTimers count commands → records_none commands ≡ true
timers_record _ _ Nothing = refl
timers_record _ _ (Timer count id seconds rest timers) = timers_record count rest timers

-- a step may return at most 64 timers
pub timers_answer : (times n : ℕ) → times ≤ 64 → IsAnswer (timers times n)
timers_answer times n few =
    let timers_only = only_timers times n in
    record {
      few = subst (λ count. count ≤ 64) (sym (timers_length times (timers times n) timers_only)) few;
      asks = timers_ask times (timers times n) timers_only;
      records = timers_record times (timers times n) timers_only;
    }

pub flood_lawful : IsLawful flood
flood_lawful state (Start _ _) = timers_answer 64 state.next (lit≤ tt)
flood_lawful state (Signal _ _) = timers_answer 64 state.next (lit≤ tt)
flood_lawful _ _ = none_is_answer
