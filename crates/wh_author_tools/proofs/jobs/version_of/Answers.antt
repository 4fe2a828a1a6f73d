use Rattle.std.proofs.Common.{◌∙◌}
use Rattle.wh_author_tools.proofs.Versions.{version_is}
use Rattle.wh_author_tools.proofs.jobs.version_of.Goals as goal

pub returns : goal.returns
returns c = c.ok.ensures.value ∙ version_is c.args.number.now _ c.parse.ensures.value.0
