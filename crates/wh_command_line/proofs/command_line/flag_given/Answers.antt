use Rattle.std.proofs.Common.{◌∙◌}
use Rattle.clap.specs.Words.{found_of}
use Rattle.clap.proofs.WalkLemmas.{one_text-rows}
use Rattle.wh_command_line.proofs.command_line.flag_given.Goals as goal

pub returns : goal.returns
returns c =
    let same = one_text-rows (found_of c.args.given.now) c.args.name.now in
    record {
      absent = λ none. c.get_flag.ensures.none (same ∙ none);
      set = λ is_set. c.get_flag.ensures.value (same ∙ is_set);
      unset = λ is_unset. c.get_flag.ensures.other (same ∙ is_unset);
    }
