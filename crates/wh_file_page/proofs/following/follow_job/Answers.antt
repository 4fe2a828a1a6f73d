use Rattle.std.proofs.Common.{◌≡◌, ◌++◌, subst}
use Rattle.std.specs.Prelude.{OnOk}
use Rattle.wh_file_page.proofs.Starting.{start_taken}
use Rattle.wh_file_page.proofs.following.follow_job.Goals as goal

-- by the table that the start leaves
pub returns-in-Start-clause-turns : goal.returns-in-Start-clause-turns
returns-in-Start-clause-turns c =
    subst (λ taken. OnOk c.note_start.result (c.note_start.new.turns.items ≡ c.args.turns.now.items ++ taken))
    (start_taken c.args.state.now c.give.new.state c.args.job.now _ _ c.in-Start.is c.in_ok-give.ensures) c.note_start.ensures
