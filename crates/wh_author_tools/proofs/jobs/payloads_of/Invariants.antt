use Rattle.std.proofs.Common.{◌≡◌, ◌++◌, drop, map}
use Rattle.wh_author_tools.specs.JobTexts.{payloads_of}
use Rattle.wh_author_tools.proofs.jobs.payloads_of.Given as goal

-- the payloads so far and those of the rest
abbrev pub invariant-loop-word : goal.invariant-loop-word
invariant-loop-word l =
    l.list.items ++ payloads_of (map (λ word. word.now) (drop l.word-index l.words))
    ≡ payloads_of (map (λ word. word.now) l.words)
