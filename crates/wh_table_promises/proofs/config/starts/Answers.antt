use Rattle.std.proofs.Common.{sym, ◌∙◌, ap, map}
use Rattle.wh_table_lines.specs.Lines.{line_seen}
use Rattle.wh_table_promises.specs.Private.Seen.{turn_seen, config_seen}
use Rattle.wh_table_promises.proofs.Leading.{starts_is}
use Rattle.wh_table_promises.proofs.config.starts.Goals as goal

pub returns : goal.returns
returns c =
    rw (
      starts_is c.args.rules.now.tops (map turn_seen c.args.rules.now.turns.now) (config_seen c.args.one.now)
          (map line_seen c.args.rules.now.lines.now),
      ← c.start_row-line.ensures,
    ) c.job_turns.ensures
