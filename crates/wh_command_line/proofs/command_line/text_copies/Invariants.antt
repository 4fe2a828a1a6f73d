use Rattle.std.proofs.Common.{◌≡◌, ◌++◌, drop, map}
use Rattle.wh_command_line.proofs.command_line.text_copies.Given as goal

-- the copies so far, and the texts that are still to be copied, are all the texts
abbrev pub invariant-loop-text : goal.invariant-loop-text
invariant-loop-text l =
    l.copies.items ++ map (λ text. text.now) (drop l.text-index l.texts) ≡ map (λ text. text.now) l.texts
