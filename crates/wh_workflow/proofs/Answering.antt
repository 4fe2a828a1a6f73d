-- What a step appends to the commands that are there already.
use Rattle.std.proofs.Common.{◌≡◌, List, ◌++◌, length, drop, refl, sym, ap, subst, ◌∙◌}
use Rattle.std.proofs.lemmas.List.{drop_at}
use Rattle.wh_workflow.specs.declared.command.Command.{Command}
use Rattle.wh_workflow.specs.Law.{IsAnswer}

-- where commands that may be answered were appended, what was appended may be answered
pub appends_answer : (before after commands : List Command) → after ≡ before ++ commands → IsAnswer commands → IsAnswer (drop (length before) after)
appends_answer before after commands is stands = subst IsAnswer (sym (ap (drop (length before)) is ∙ drop_at before commands (length before) refl)) stands
