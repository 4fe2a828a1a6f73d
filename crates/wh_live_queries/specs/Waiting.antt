-- Queries that wait.
use Rattle.std.specs.Prelude.{ℕ, ◌==◌, List, bytes_eq, codes, if◌then◌else◌}
use Rattle.serde_json.specs.Data.{Data, null, boolean, number, string, array, object, Members, no_members, member}

-- members without the first one of a name
abbrev pub without : List ℕ → Members → Members
without name no_members = no_members
without name (member own d rest) = if bytes_eq name own then rest else member own d (without name rest)

-- what a poll returned, without the history
abbrev pub without_history : Data → Data
without_history null = null
without_history (boolean b) = boolean b
without_history (number n) = number n
without_history (string text) = string text
without_history (array items) = array items
without_history (object ms) = object (without (codes "history") ms)

-- what is kept of a query behind so many others: behind any it has no history
abbrev pub kept_behind : ℕ → Data → Data
kept_behind others d = if others == 0 then d else without_history d
