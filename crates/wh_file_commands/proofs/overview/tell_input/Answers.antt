use Rattle.std.proofs.Common.{refl}
use Rattle.wh_file_commands.proofs.ItemLines.{file_told, unread_told}
use Rattle.wh_file_commands.proofs.overview.tell_input.Goals as goal

-- the line of a file that was read was written
pub returns-in-Ok-clause-told : goal.returns-in-Ok-clause-told
returns-in-Ok-clause-told g c =
    file_told g.R.InputReader.gives c.args.input (c.args.input.name, c.in-Ok.bytes) c.args.format c.args.console.now c.tell_file.new.console c.tell_file.result
    (record { named = refl; bytes = c.in-Ok.ensures.bytes }) c.tell_file.ensures.told

-- or that of what can't be read
pub returns-in-Err-Unreadable-clause-told : goal.returns-in-Err-Unreadable-clause-told
returns-in-Err-Unreadable-clause-told g c =
    unread_told g.R.InputReader.gives c.args.input c.as_str.result.now c.in-Err-Unreadable.reason c.args.format c.args.console.now c.tell_unread.new.console c.tell_unread.result
    c.as_str.ensures.value c.tell_unread.ensures.printed c.tell_unread.ensures.status
