-- Short lists of commands that a step may return.
use Rattle.std.specs.Prelude.{◌≡◌, Bool, true, false, List, [], ◌∷◌, refl, if◌then◌else◌}
use Rattle.std.proofs.Common.{lit≤}
use Rattle.wh_workflow.specs.declared.command.Command.{Command}
use Rattle.wh_workflow.specs.Law.{IsAnswer, asks_last, records_none}

-- a step may return no command
pub none_is_answer : IsAnswer []
none_is_answer = record { few = lit≤ tt; asks = refl; records = refl }

-- a step may return one command that is no marker
pub one_is_answer : (command : Command) → records_none (command ∷ []) ≡ true → IsAnswer (command ∷ [])
one_is_answer command records = record { few = lit≤ tt; asks = refl; records = records }

-- a step may return two commands, the first of which asks nothing and none of which is a marker
pub two_are_answer : (first second : Command) → asks_last (first ∷ second ∷ []) ≡ true
    → records_none (first ∷ second ∷ []) ≡ true → IsAnswer (first ∷ second ∷ [])
two_are_answer first second asks records = record { few = lit≤ tt; asks = asks; records = records }

-- a step may choose between two answers by a test
pub either_is_answer : (test : Bool) (first second : List Command) → IsAnswer first → IsAnswer second
    → IsAnswer (if test then first else second)
either_is_answer true first second first_stands second_stands = first_stands
either_is_answer false first second first_stands second_stands = second_stands
