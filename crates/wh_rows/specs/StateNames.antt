-- The name of a state.
use Rattle.std.specs.Prelude.{ℕ, List}
use Rattle.wh_rows.specs.declared.state_name.Name.{Name}
use Rattle.wh_rows.specs.declared.state_name.Name.TheVariants as names

-- its bytes
abbrev pub name_seen : Name → List ℕ
name_seen (names.Fixed name) = name.now
name_seen (names.Owned name) = name
