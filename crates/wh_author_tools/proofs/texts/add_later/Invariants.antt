use Rattle.std.proofs.Common.{◌≡◌, ◌++◌, drop}
use Rattle.std.specs.Prelude.{string_bytes}
use Rattle.wh_author_tools.specs.CommandTexts.{later_texts}
use Rattle.wh_author_tools.proofs.texts.add_later.Given as goal

-- the text so far and that of the rest
abbrev pub invariant-loop-command : goal.invariant-loop-command
invariant-loop-command l =
    string_bytes l.text ++ later_texts (drop l.command-index l.commands)
    ≡ string_bytes l.initial.text ++ later_texts l.commands
