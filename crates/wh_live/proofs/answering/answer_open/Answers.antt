use Rattle.std.proofs.Common.{◌≡◌, ◌∙◌, ap, inl, sym}
use Rattle.std.proofs.lemmas.Bool.{eqb-true}
use Rattle.wh_live.proofs.Receipts.{not_false}
use Rattle.wh_live.proofs.answering.answer_open.Goals as goal

-- the open task has the name, and this became of the answer to it
pub returns-clause-received : goal.returns-clause-received
returns-clause-received g c =
    let same : c.in-Some.task.name.0 ≡ c.args.name.0 = eqb-true _ _ (not_false _ (sym c.ne.ensures ∙ c.if-ne.false)) in
    inl (record {
      task = c.in-Some.task;
      is = c.in-Some.is;
      named = ap (λ n. record { 0 = n }) same;
      answered = record {
        kept_back = c.respond-receipt.ensures.kept_back;
        sent = c.respond-receipt.ensures.received;
        replaced = c.respond-receipt.ensures.replaced;
      };
    })

-- and it is noted so
pub returns-clause-noted : goal.returns-clause-noted
returns-clause-noted g c =
    let same : c.in-Some.task.name.0 ≡ c.args.name.0 = eqb-true _ _ (not_false _ (sym c.ne.ensures ∙ c.if-ne.false)) in
    inl (c.in-Some.task, c.in-Some.is, ap (λ n. record { 0 = n }) same, c.respond-receipt.ensures.noted)
