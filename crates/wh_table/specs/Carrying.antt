-- The commands of a step, with the table added to the input of a new run.
use Rattle.std.specs.Prelude.{◌≡◌, ℕ, suc, ◌≤◌, Bool, true, false, not, ◌&&◌, List, [], ◌∷◌, ◌++◌, map, length, leb, refl, if◌then◌else◌}
use Rattle.std.proofs.Common.{ap, sym, subst, ◌∙◌}
use Rattle.std.proofs.lemmas.Bool.{leb-true}
use Rattle.wh_events.specs.declared.event.Payload.{Payload}
use Rattle.wh_workflow.specs.declared.command.Command.{Command}
use Rattle.wh_workflow.specs.declared.command.Command.TheVariants as commands
use Rattle.wh_workflow.specs.Law.{IsAnswer, asks_last, records_none, is_ask, is_marker}
use Rattle.wh_workflow.specs.Answering.{none_is_answer}
use Rattle.wh_rows.specs.Lawful.{first_of, second_of}

-- a step may return these commands
abbrev pub is_answer : List Command → Bool
is_answer given = leb (length given) 64 && (asks_last given && records_none given)

-- the command; if it continues as a new run of the same table, with the run's type and with the table before its input
abbrev pub with_table : List ℕ → List Payload → Command → Command
with_table kind table (commands.ContinueAsNew [] input) = commands.ContinueAsNew kind (table ++ input)
with_table kind table command = command

-- the commands with the table added, or none if a step may not return them. A table that breaks no rule always gives
-- commands that it may
abbrev pub held : List ℕ → List Payload → List Command → List Command
held kind table given = if is_answer given then map (with_table kind table) given else []

-- ---- A step may give them

-- a test that no Continue-As-New passes comes out the same with the table added
same_test : (test : Command → Bool) → ((workflow : List ℕ) (input : List Payload) → test (commands.ContinueAsNew workflow input) ≡ false)
    → (kind : List ℕ) (table : List Payload) (command : Command) → test (with_table kind table command) ≡ test command
same_test test none kind table (commands.ContinueAsNew [] input) = none kind (table ++ input) ∙ sym (none [] input)
same_test test none kind table _ = refl

same_length : (kind : List ℕ) (table : List Payload) (given : List Command)
    → length (map (with_table kind table) given) ≡ length given
same_length kind table [] = refl
same_length kind table (one ∷ rest) = ap suc (same_length kind table rest)

same_asks : (kind : List ℕ) (table : List Payload) (given : List Command)
    → asks_last (map (with_table kind table) given) ≡ asks_last given
same_asks kind table [] = refl
same_asks kind table (one ∷ []) = refl
same_asks kind table (one ∷ next ∷ rest) =
    ap (λ ask. not ask && asks_last (map (with_table kind table) (next ∷ rest))) (same_test is_ask (λ _ _. refl) kind table one)
    ∙ ap (λ more. not (is_ask one) && more) (same_asks kind table (next ∷ rest))

same_records : (kind : List ℕ) (table : List Payload) (given : List Command)
    → records_none (map (with_table kind table) given) ≡ records_none given
same_records kind table [] = refl
same_records kind table (one ∷ rest) =
    ap (λ marker. not marker && records_none (map (with_table kind table) rest)) (same_test is_marker (λ _ _. refl) kind table one)
    ∙ ap (λ more. not (is_marker one) && more) (same_records kind table rest)

if_answer : (kind : List ℕ) (table : List Payload) (given : List Command) (test : Bool) → is_answer given ≡ test
    → IsAnswer (if test then map (with_table kind table) given else [])
if_answer kind table given false is = none_is_answer
if_answer kind table given true is =
    let more : (asks_last given && records_none given) ≡ true =
    second_of (leb (length given) 64) (asks_last given && records_none given) is in
    record {
      few = subst (λ count. count ≤ 64) (sym (same_length kind table given))
          (leb-true _ _ (first_of (leb (length given) 64) (asks_last given && records_none given) is));
      asks = same_asks kind table given ∙ first_of (asks_last given) (records_none given) more;
      records = same_records kind table given ∙ second_of (asks_last given) (records_none given) more;
    }

pub held_answers : (kind : List ℕ) (table : List Payload) (given : List Command) → IsAnswer (held kind table given)
held_answers kind table given = if_answer kind table given (is_answer given) refl
