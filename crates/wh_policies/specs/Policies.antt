-- How policies are read from a text.
use Rattle.std.specs.Prelude.{◌≡◌, ◌<◌, ℕ, List, Bool, ◌||◌, bytes_eq, codes, length, Some, None}
use Rattle.std.specs.Str.{IsUtf8}
use Rattle.toml.specs.Data.{Members}
use Rattle.toml.specs.Parse.{parse_document}
use Rattle.wh_policies.specs.Defaults as plain
use Rattle.wh_policies.specs.Excesses.{AreFree}
use Rattle.wh_policies.specs.declared.policies.Policies.{Policies}
use Rattle.wh_policies.specs.Kinds.{GivesActivity, GivesChild, GivesContinuation, GivesFailure}
use Rattle.wh_policies.specs.TomlTables.{AllKnown, GivesTable}
use Rattle.wh_policies.specs.declared.fault.PolicyFault.{PolicyFault}
use Rattle.wh_policies.specs.declared.fault.PolicyFault.TheVariants.{TooLong, NoText, NoToml}

-- the tables of a text
abbrev pub knows_table : List ℕ → Bool
knows_table key =
    bytes_eq key (codes "activities") || (bytes_eq key (codes "activity")
    || (bytes_eq key (codes "children") || (bytes_eq key (codes "child")
    || (bytes_eq key (codes "failures") || (bytes_eq key (codes "failure")
    || (bytes_eq key (codes "continuations") || bytes_eq key (codes "continuation")))))))

-- the policies are read from a document with these defaults
pub record GivesPolicies (document : Members) (otherwise policies : Policies) : Type 0 where
  pub activities : GivesTable GivesActivity (codes "activities") (codes "activity")
      otherwise.activities.otherwise document policies.activities
  pub children : GivesTable GivesChild (codes "children") (codes "child")
      otherwise.children.otherwise document policies.children
  pub failures : GivesTable GivesFailure (codes "failures") (codes "failure")
      otherwise.failures.otherwise document policies.failures
  pub continued : GivesTable GivesContinuation (codes "continuations") (codes "continuation")
      otherwise.continued.otherwise document policies.continued

-- the text is TOML with known tables, from which these policies are read, and no time of them is above one that limits
-- it; by default an attempt of an activity has these seconds, and an activity these attempts
pub record IsRead (seconds attempts : ℕ) (text : List ℕ) (policies : Policies) : Type 0 where
  pub document : Members
  pub parsed : parse_document text ≡ Some document
  pub known : AllKnown knows_table document
  pub given : GivesPolicies document (plain.policies seconds attempts) policies
  pub free : AreFree policies

-- why the text is refused
abbrev pub IsRefused : List ℕ → PolicyFault → Type 0
IsRefused text TooLong = 65536 < length text
IsRefused text NoText = ¬ (IsUtf8 text)
IsRefused text (NoToml line reason) = parse_document text ≡ None
IsRefused text _ = Unit {0}
