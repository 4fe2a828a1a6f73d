use Rattle.std.proofs.Common.{◌≡◌, ◌++◌, take}
use Rattle.std.specs.List.{flat_map}
use Rattle.wh_table_check.specs.Warnings.{command_warnings}
use Rattle.wh_table_check.proofs.warning.add_commands.Given as goal

-- the warnings so far
abbrev pub invariant-loop-template : goal.invariant-loop-template
invariant-loop-template l =
    l.found.items ≡ l.initial.found.items ++ flat_map (command_warnings l.number l.rows) (take l.template-index l.gives)
