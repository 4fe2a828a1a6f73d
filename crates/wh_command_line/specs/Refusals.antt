-- Why a line is refused.
use Rattle.wh_command_line.specs.declared.command_line.Refusal.{Refusal}
use Rattle.wh_command_line.specs.declared.command_line.Refusal.TheVariants.{BadLine}

-- if the refusal is a bad line, it has this reason
abbrev pub IfBad : Type 0 → Refusal → Type 0
IfBad reason (BadLine text) = reason
IfBad reason _ = Unit {0}
