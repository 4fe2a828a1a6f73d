-- The counts of the issued commands, with one more of them.
use Rattle.std.proofs.Common.{◌≡◌, ℕ, ◌+◌, ◌<◌, Bool, true, false, not, ◌||◌, List, [], ◌∷◌, ◌++◌, length, leb, None, refl, sym, ap, ◌∙◌, arith}
use Rattle.std.proofs.lemmas.Bool.Decides.{nat_tests}
use Rattle.std.proofs.lemmas.List.{append-nil, length_push}
use Rattle.std.proofs.lemmas.List.Elements.{filter-append}
use Rattle.wh_machines.proofs.Options.{first_none, second_none}
use Rattle.wh_workflow.specs.declared.command.Command.{Command}
use Rattle.wh_workflow.specs.declared.fault.WorkflowFault.{WorkflowFault}
use Rattle.wh_workflow.specs.declared.fault.WorkflowFault.TheVariants.{AfterClosing, TooManyCommands}
use Rattle.wh_workflow.specs.Law.{is_marker}
use Rattle.wh_workflow.specs.Scripts.{ActivationContext, Settled, act_of, act_closes, some_act, fault_if, given, most_commands, act_fault, command_fault}
use Rattle.wh_match.specs.Private.Faults.{early_fault}
use Rattle.wh_match.proofs.Judged.{fault_in_parts}

not_faulty : (b : Bool) (fault : WorkflowFault) → fault_if b fault ≡ None → b ≡ false
not_faulty false fault h = refl
not_faulty true fault h = cc

is_less : (n m : ℕ) → leb m n ≡ false → n < m
is_less n m h = grind (arith, nat_tests)

-- nothing forbids a command after the earlier ones
pub unfaulted : (context : ActivationContext) (settled : Settled) (earlier : List Command) (command : Command) → None ≡ command_fault context settled earlier command → early_fault earlier ≡ None
unfaulted context settled earlier command h = first_none (early_fault earlier) (act_fault context settled earlier (act_of command)) (sym (fault_in_parts context settled earlier command) ∙ sym h)

pub still_few : (earlier : List Command) → early_fault earlier ≡ None → length (given earlier) < 4096
still_few earlier h = is_less (length (given earlier)) most_commands (not_faulty (leb most_commands (length (given earlier))) TooManyCommands (second_none (fault_if (some_act act_closes earlier) AfterClosing) (fault_if (leb most_commands (length (given earlier))) TooManyCommands) h))

pub not_ended : (earlier : List Command) → early_fault earlier ≡ None → some_act act_closes earlier ≡ false
not_ended earlier h = not_faulty (some_act act_closes earlier) AfterClosing (first_none (fault_if (some_act act_closes earlier) AfterClosing) (fault_if (leb most_commands (length (given earlier))) TooManyCommands) h)

pub count_more : (count : ℕ) (issued : List Command) (command : Command) → is_marker command ≡ false → count ≡ length (given issued) → count + 1 ≡ length (given (issued ++ command ∷ []))
count_more count issued command h counted =
    let one : given (command ∷ []) ≡ command ∷ [] = rw h refl in
    let all : given (issued ++ command ∷ []) ≡ given issued ++ command ∷ [] = filter-append (λ c. not (is_marker c)) issued (command ∷ []) ∙ ap (λ l. given issued ++ l) one in
    ap (λ n. n + 1) counted ∙ sym (ap length all ∙ length_push (given issued) command)

pub count_same : (count : ℕ) (issued : List Command) (command : Command) → is_marker command ≡ true → count ≡ length (given issued) → count ≡ length (given (issued ++ command ∷ []))
count_same count issued command h counted =
    let none : given (command ∷ []) ≡ [] = rw h refl in
    let all : given (issued ++ command ∷ []) ≡ given issued = filter-append (λ c. not (is_marker c)) issued (command ∷ []) ∙ ap (λ l. given issued ++ l) none ∙ append-nil (given issued) in
    counted ∙ sym (ap length all)

or_nothing : (b : Bool) → b ≡ (b || false)
or_nothing true = refl
or_nothing false = refl

pub ended_more : (issued : List Command) (command : Command) → some_act act_closes issued ≡ false → act_closes (act_of command) ≡ some_act act_closes (issued ++ command ∷ [])
ended_more [] command h = or_nothing (act_closes (act_of command))
ended_more (first ∷ rest) command h = by (act_closes (act_of first)) h (ended_more rest command)
  where
    by : (b : Bool) → (b || some_act act_closes rest) ≡ false → (some_act act_closes rest ≡ false → act_closes (act_of command) ≡ some_act act_closes (rest ++ command ∷ [])) → act_closes (act_of command) ≡ (b || some_act act_closes (rest ++ command ∷ []))
    by true k later = cc
    by false k later = later k

pub each_more : {A B : Type 0} (xs : List A) (ys : List B) (x : A) (y : B) → length xs ≡ length ys → length (xs ++ x ∷ []) ≡ length (ys ++ y ∷ [])
each_more xs ys x y h = length_push xs x ∙ ap (λ n. n + 1) h ∙ sym (length_push ys y)
