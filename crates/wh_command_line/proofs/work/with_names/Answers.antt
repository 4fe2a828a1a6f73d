use Rattle.std.proofs.Common.{◌∙◌, ap}
use Rattle.wh_command_line.specs.Options.{as_needed, with_default}
use Rattle.wh_command_line.proofs.work.with_names.Goals as goal

pub returns : goal.returns
returns c = λ app stands.
    let queue = c.as_needed.ensures.rule ∙ ap as_needed c.option_argument-queue.ensures.rule in
    let namespace = c.with_default.ensures.rule ∙ ap (with_default _) c.option_argument-namespace.ensures.rule in
    let identity = c.with_default-2.ensures.rule ∙ ap (with_default _) c.option_argument-identity.ensures.rule in
    let one = c.with_argument-command.ensures app _ queue (c.as_needed.ensures.local ∙ c.option_argument-queue.ensures.local) stands in
    let two = c.with_argument-command-2.ensures _ _ namespace (c.with_default.ensures.local ∙ c.option_argument-namespace.ensures.local) one in
    c.with_argument.ensures _ _ identity (c.with_default-2.ensures.local ∙ c.option_argument-identity.ensures.local) two
