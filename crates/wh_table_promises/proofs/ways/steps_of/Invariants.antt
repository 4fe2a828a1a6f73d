use Rattle.std.proofs.Common.{◌≡◌, ◌++◌, drop, map}
use Rattle.wh_table_promises.proofs.ways.steps_of.Given as goal

-- the steps so far and the rest are all
abbrev pub invariant-loop-index : goal.invariant-loop-index
invariant-loop-index l = record {
  jobs : map (λ step. step.job) l.way.items ++ drop l.index l.words ≡ l.words;
  given : map (λ step. step.gives) l.way.items ++ map (λ given. given.text) (drop l.index l.all) ≡ map (λ given. given.text) l.all;
  rows : map (λ step. step.row) l.way.items ++ map (λ given. given.row) (drop l.index l.all) ≡ map (λ given. given.row) l.all;
}
