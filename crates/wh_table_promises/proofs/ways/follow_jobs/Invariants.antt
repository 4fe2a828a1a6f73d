use Rattle.std.proofs.Common.{◌≡◌, ◌++◌, drop, map}
use Rattle.wh_rows.specs.Rows.{initial}
use Rattle.wh_row_rules.specs.Broken.{definition}
use Rattle.wh_rows.specs.Watches.{new_standing, watched}
use Rattle.wh_rows.specs.Courses.{course}
use Rattle.wh_table_promises.specs.Ways.{texts_given, rows_taken}
use Rattle.wh_table_promises.specs.Private.Seen.{turn_seen, standing_seen}
use Rattle.wh_table_promises.proofs.ways.follow_jobs.Given as goal

-- the texts and rows so far and those of the rest are all, and the rest turns the watch as all do
abbrev pub invariant-loop-job : goal.invariant-loop-job
invariant-loop-job l =
    record {
      texts : map (λ given. given.text) l.all.items ++ texts_given (definition l.table) l.now.run (drop l.job-index l.jobs)
          ≡ texts_given (definition l.table) (initial (definition l.table)) l.jobs;
      rows : map (λ given. given.row) l.all.items ++ rows_taken (definition l.table) l.now.run (drop l.job-index l.jobs)
          ≡ rows_taken (definition l.table) (initial (definition l.table)) l.jobs;
      watch : watched (map turn_seen l.turns) (standing_seen l.now.watch) (course (definition l.table) l.now.run (drop l.job-index l.jobs))
          ≡ watched (map turn_seen l.turns) new_standing (course (definition l.table) (initial (definition l.table)) l.jobs);
    }
