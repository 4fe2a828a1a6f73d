use Rattle.std.proofs.Common.{◌++◌, ◌∷◌, [], ap, ap₂, ◌∙◌, map, drop, ◌+◌}
use Rattle.wh_row_rules.specs.Broken.{definition}
use Rattle.wh_rows.specs.Courses.{course}
use Rattle.wh_rows.specs.Watches.{watched}
use Rattle.wh_table_promises.specs.Ways.{texts_given, rows_taken}
use Rattle.wh_table_promises.specs.declared.ways.JobReply.{JobReply}
use Rattle.wh_table_promises.specs.Private.Seen.{turn_seen, standing_seen}
use Rattle.wh_table_promises.proofs.Following.{course_on, texts_on, rows_on, one_more}
use Rattle.wh_table_promises.proofs.ways.follow_jobs.Goals as goal

pub loop-job-preserved : goal.loop-job-preserved
loop-job-preserved c = record {
  texts =
      ap₂ (λ texts run. texts ++ texts_given (definition c.args.table.now) run (drop (c.loop-job.job-index + 1) c.args.jobs.now))
      (one_more (λ (given : JobReply). given.text) c.loop-job.all.items c.push.new.self.items c.in_ok-given.given c.in_ok-push.ensures.items
      ∙ ap (λ text. map (λ (given : JobReply). given.text) c.loop-job.all.items ++ text ∷ []) c.in_ok-given.ensures.text) c.in_ok-given.ensures.run
      ∙ texts_on (definition c.args.table.now) c.loop-job.now.run (map (λ (given : JobReply). given.text) c.loop-job.all.items) c.args.jobs.now
      c.loop-job.job-index c.job-item.result c.loop-job-test.true c.job-item.is
      ∙ c.loop-job.invariant.texts;
  rows =
      ap₂ (λ rows run. rows ++ rows_taken (definition c.args.table.now) run (drop (c.loop-job.job-index + 1) c.args.jobs.now))
      (one_more (λ (given : JobReply). given.row) c.loop-job.all.items c.push.new.self.items c.in_ok-given.given c.in_ok-push.ensures.items
      ∙ ap (λ row. map (λ (given : JobReply). given.row) c.loop-job.all.items ++ row ∷ []) c.in_ok-given.ensures.row) c.in_ok-given.ensures.run
      ∙ rows_on (definition c.args.table.now) c.loop-job.now.run (map (λ (given : JobReply). given.row) c.loop-job.all.items) c.args.jobs.now
      c.loop-job.job-index c.job-item.result c.loop-job-test.true c.job-item.is
      ∙ c.loop-job.invariant.rows;
  watch =
      ap₂ (λ now run. watched (map turn_seen c.args.turns.now) now
      (course (definition c.args.table.now) run (drop (c.loop-job.job-index + 1) c.args.jobs.now)))
      c.in_ok-given.ensures.watch c.in_ok-given.ensures.run
      ∙ course_on (definition c.args.table.now) (map turn_seen c.args.turns.now) c.loop-job.now.run (standing_seen c.loop-job.now.watch)
      c.args.jobs.now c.loop-job.job-index c.job-item.result c.loop-job-test.true c.job-item.is
      ∙ c.loop-job.invariant.watch;
}
