use Rattle.std.proofs.Common.{◌≡◌, ◌∙◌, ◌++◌, ◌∷◌, ◌||◌, [], false, sym, ap, rules}
use Rattle.std.specs.Result.{is_err}
use Rattle.std.specs.Option.{option_or}
use Rattle.wh_slots.specs.declared.TaskName.{TaskName}
use Rattle.wh_tasks.specs.declared.source.Sent.{Sent}
use Rattle.wh_recorded.specs.Rounds.{completes, is_completed, fault_by, fault_under}
use Rattle.wh_recorded.proofs.Faults.{on_ok, completed_pushed, fault_pushed}
use Rattle.wh_recorded.proofs.sent_answers.SentAnswers.store.Goals as goal

-- what is entered is what one more answer says of each name
pub invariant_of-self-2 : goal.invariant_of-self-2
invariant_of-self-2 c =
    let before = c.self.inside.list.items in
    let sent : TaskName × Sent = (c.args.name, c.args.sent) in
    let good : is_err c.enter.result ≡ false = search rules in
    let items : c.push_reserved.new.self.items ≡ before ++ (sent ∷ []) = search rules in (
      λ name.
          on_ok c.enter.result good c.enter.ensures.entered name
          ∙ ap (λ b. b || completes name sent) (c.self.invariant.0 name)
          ∙ sym (completed_pushed before sent name)
          ∙ ap (λ l. is_completed l name) (sym items),
      λ name.
          on_ok c.enter.result good c.enter.ensures.faults name
          ∙ ap (λ o. option_or (fault_by name sent) o) (c.self.invariant.1 name)
          ∙ sym (fault_pushed before sent name)
          ∙ ap (λ l. fault_under l name) (sym items),
    )
