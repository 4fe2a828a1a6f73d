use Rattle.std.proofs.Common.{◌≡◌, ◌++◌, map, take}
use Rattle.wh_run_page.specs.Causes.{line_text}
use Rattle.wh_run_page.proofs.causes.push_lines.Given as goal

-- the lines so far follow those that were there
abbrev pub invariant-loop-text : goal.invariant-loop-text
invariant-loop-text l = l.all.items ≡ l.initial.all.items ++ map line_text (map (λ line. line.now) (take l.text-index l.texts))
