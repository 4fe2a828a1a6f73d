-- The arguments of `replay`, and its options.
use Rattle.std.specs.Prelude.{List, codes}
use Rattle.clap.specs.Words.{App, Row, new_app, with_rule}
use Rattle.wh_console.specs.declared.replay_options.ReplayOptions.{ReplayOptions}
use Rattle.wh_command_line.specs.Given.{GivesFlag, GivesFormat}
use Rattle.wh_command_line.specs.Options.{flag, paths, progress, require_files}

-- the subcommand `replay`
abbrev pub replay : App
replay = with_rule (with_rule (with_rule (with_rule (with_rule (new_app (codes "replay")) paths) (flag (codes "json")))
    require_files) (flag (codes "strict-values"))) progress

-- the rows give the options
abbrev pub GivesReplay : List Row → ReplayOptions → Type 0
GivesReplay rows options = GivesFormat rows options.format
    × GivesFlag (codes "require-files") rows options.require_files
    × GivesFlag (codes "strict-values") rows options.strict_values
    × GivesFlag (codes "progress") rows options.progress
