use Rattle.std.proofs.Common.{◌≡◌, ◌+◌, ◌≤◌, ◌++◌, None, length}
use Rattle.std.specs.Vec.Iter.{into_iter_items, into_iter_len}
use Rattle.wh_workflow.specs.Scripts.{Settled}
use Rattle.wh_workflow.specs.Activations.{issue_all}
use Rattle.wh_workflow.specs.ActivationScripts.{first_fault}
use Rattle.wh_replay.specs.Views.{context_of, script}
use Rattle.wh_replay.specs.Activating.{IsOf}
use Rattle.wh_replay.specs.Private.Activating.{IsPlain}
use Rattle.wh_replay.proofs.activation.issue_all.Given as goal

-- what is left to issue gives what the whole does, and those before it stand
abbrev pub invariant-loop-command : goal.invariant-loop-command
invariant-loop-command l = record {
  parts : l.yielded ++ into_iter_items l.command-iterator ≡ l.fn.commands.items;
  count : into_iter_len l.command-iterator ≡ length (into_iter_items l.command-iterator);
  plain : IsPlain (into_iter_items l.command-iterator);
  of : IsOf l.cut l.script;
  left : (settled : Settled) → issue_all (context_of l.cut) (script settled l.script.issued) (into_iter_items l.command-iterator) ≡ issue_all (context_of l.cut) (script settled l.fn.script.issued) l.fn.commands.items;
  place_is : l.place ≡ length l.yielded + 1;
  few : length l.fn.commands.items ≤ 64;
  issued : l.script.issued ≡ l.fn.script.issued ++ l.yielded;
  stands : (settled : Settled) → first_fault (context_of l.cut) settled l.fn.script.issued l.yielded ≡ None;
}
