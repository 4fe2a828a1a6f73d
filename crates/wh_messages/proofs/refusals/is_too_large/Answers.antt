use Rattle.std.proofs.Common.{codes, rules, sym, w64, ◌∙◌}
use Rattle.std.proofs.lemmas.Int.{to_z-of_z}
use Rattle.std.proofs.lemmas.Str.Pattern.{contains_text}
use Rattle.wh_messages.proofs.refusals.is_too_large.Goals as goal

pub returns-then-is_exhausted : goal.returns-then-is_exhausted
returns-then-is_exhausted c =
    let stands = contains_text c.contains.result (codes "larger than max") c.args.message.now c.contains.ensures.cases in
    (λ is. (sym (to_z-of_z w64 c.args.code c.ranges.code) ∙ c.is_exhausted.ensures.0 (search rules), stands.0 is), λ large. stands.1 large.1)
