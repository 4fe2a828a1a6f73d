use Rattle.std.proofs.Common.{sym, rules}
use Rattle.serde_json.specs.View.{view}
use Rattle.wh_json.specs.Fields.{field}
use Rattle.wh_messages.specs.Responses.{run_in}
use Rattle.wh_messages.proofs.Tasks.{activity_made}
use Rattle.wh_messages.proofs.response.activity_in.Goals as goal

pub returns : goal.returns
unfolding run_in field
returns c =
    sym (activity_made c.args.token (view c.args.value.now) c.in-Some.run' c.in-Some-2.id c.in-Some-3.activity c.in-Some-4.input c.in-Some-5.info
    (search rules) (search rules) (search rules) (search rules) (search rules))
