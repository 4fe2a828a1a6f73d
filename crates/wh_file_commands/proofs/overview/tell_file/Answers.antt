use Rattle.std.proofs.Common.{subst}
use Rattle.wh_file_commands.proofs.ItemLines.{history_told, no_history_refused, no_history_told, no_history_why, output_refused, output_why}
use Rattle.wh_file_commands.proofs.Unshown.{unviewed_shown}
use Rattle.wh_file_commands.specs.Private.Refusals.{IsUnviewed}
use Rattle.wh_file_commands.proofs.overview.tell_file.Goals as goal

-- the line of a history was written
pub returns-in-Ok-clause-told : goal.returns-in-Ok-clause-told
returns-in-Ok-clause-told g c =
    history_told (c.args.name, c.args.bytes) c.as_str.result.now c.as_slice-seen.result.now c.in-Ok.view c.args.format c.args.console.now c.tell_history.new.console c.tell_history.result
    c.as_str.ensures.value c.as_slice-seen.ensures.value c.in-Ok.ensures.ok c.tell_history.ensures.printed c.tell_history.ensures.status

-- or it can't be
pub returns-in-Ok-clause-refused : goal.returns-in-Ok-clause-refused
returns-in-Ok-clause-refused g c =
    output_refused c.args.console.now c.tell_history.new.console c.tell_history.result c.tell_history.ensures.quiet c.tell_history.ensures.output

pub returns-in-Ok-clause-why : goal.returns-in-Ok-clause-why
returns-in-Ok-clause-why g c = output_why c.tell_history.result c.tell_history.ensures.output

-- the line of a file that has no history was written
pub returns-in-Err-clause-told : goal.returns-in-Err-clause-told
returns-in-Err-clause-told g c =
    let seen = c.as_slice-seen.result.now in
    let failure = c.view_failure-failure.result in
    no_history_told (c.args.name, c.args.bytes) failure c.args.format c.args.console.now c.tell_no_history.new.console c.tell_no_history.result
    (unviewed_shown (c.args.name, c.args.bytes) seen c.in-Err.fault failure c.as_slice-seen.ensures.value c.in-Err.ensures.err
    (subst (λ name. IsUnviewed name seen c.in-Err.fault failure) c.new.ensures c.view_failure-failure.ensures)) c.tell_no_history.ensures.told

-- or it was not
pub returns-in-Err-clause-refused : goal.returns-in-Err-clause-refused
returns-in-Err-clause-refused g c =
    no_history_refused c.view_failure-failure.result c.args.console.now c.tell_no_history.new.console c.tell_no_history.result c.tell_no_history.ensures.untold

pub returns-in-Err-clause-why : goal.returns-in-Err-clause-why
returns-in-Err-clause-why g c =
    let seen = c.as_slice-seen.result.now in
    let failure = c.view_failure-failure.result in
    no_history_why (c.args.name, c.args.bytes) failure c.args.console.now c.tell_no_history.new.console c.tell_no_history.result
    (unviewed_shown (c.args.name, c.args.bytes) seen c.in-Err.fault failure c.as_slice-seen.ensures.value c.in-Err.ensures.err
    (subst (λ name. IsUnviewed name seen c.in-Err.fault failure) c.new.ensures c.view_failure-failure.ensures)) c.tell_no_history.ensures.untold
