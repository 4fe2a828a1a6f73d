use Rattle.std.proofs.Common.{◌≡◌, ◌<◌, ℕ, List, map, ap, sym, subst, ◌∙◌}
use Rattle.wh_row_rules.specs.Broken.{definition}
use Rattle.wh_rows.specs.Watches.{Turn}
use Rattle.wh_rows.specs.Promises.{watch_of}
use Rattle.wh_table_promises.specs.Promised.{promise_of}
use Rattle.wh_table_promises.specs.Ways.{job_read}
use Rattle.wh_table_promises.specs.declared.ways.JobReply.{JobReply}
use Rattle.wh_table_promises.specs.Private.Seen.{turn_seen}
use Rattle.wh_table_promises.specs.Private.Told.{spends}
use Rattle.wh_table_promises.proofs.Following.{read_steps, spends_breaks}
use Rattle.wh_table_promises.proofs.deciding.way_of.Goals as goal

pub returns : goal.returns
returns c =
    let read = rw c.in-Some.is at c.in_ok-jobs.ensures in
    let texts = rw c.in-Some-2.is at c.in_ok-gives.ensures.texts in
    let rows = rw c.in-Some-2.is at c.in_ok-gives.ensures.rows in
    let begins = rw c.in-Some-2.is at c.in_ok-gives.ensures.begins in
    let more = rw c.in-Some-2.is at c.in_ok-gives.ensures.spends in (
      c.in-Some.jobs.items,
      record {
        read = read_steps c.in_ok-way.way.items ∙ ap (map job_read) (c.in_ok-way.ensures.jobs ∙ c.as_slice-3.ensures.value ∙ sym c.as_slice.ensures.value)
            ∙ read;
        begins = rw c.as_slice-2.ensures.value at begins;
        given = c.in_ok-way.ensures.given ∙ ap (map (λ (given : JobReply). given.text)) c.as_slice-4.ensures.value ∙ (rw c.as_slice-2.ensures.value at texts);
        rows = c.in_ok-way.ensures.rows ∙ ap (map (λ (given : JobReply). given.row)) c.as_slice-4.ensures.value ∙ (rw c.as_slice-2.ensures.value at rows);
        breaks = spends_breaks (definition c.args.table.now) (promise_of c.args.promise.now) c.in-Some.jobs.items
            (subst (λ (turns : List Turn). (watch_of (promise_of c.args.promise.now)).budget < spends (definition c.args.table.now) turns c.in-Some.jobs.items)
            c.requires.turns
            (subst (λ (budget : ℕ). budget < spends (definition c.args.table.now) (map turn_seen c.args.turns.now) c.in-Some.jobs.items)
            c.budget_of.ensures (rw c.as_slice-2.ensures.value at more)));
      },
    )
