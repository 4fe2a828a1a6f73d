-- Why a policy file is refused.
use Rattle.std.specs.Prelude.{ℕ, List, ◌++◌, codes, decimal}
use Rattle.wh_policies.specs.declared.fault.PolicyFault.{PolicyFault}
use Rattle.wh_policies.specs.declared.fault.PolicyFault.TheVariants.{TooLong, NoText, NoToml, UnknownKey, BadValue, Above, OutOfMemory}
use Rattle.wh_tester.specs.Report.{shown}

-- what is wrong with a file, in words
abbrev pub policy_fault_text : PolicyFault → List ℕ
policy_fault_text TooLong = codes "file too long"
policy_fault_text NoText = codes "not UTF-8 text"
policy_fault_text (NoToml line reason) = codes "not TOML at line " ++ (decimal line ++ (codes ": " ++ shown reason))
policy_fault_text (UnknownKey key line) = codes "unknown key " ++ (shown key ++ (codes " at line " ++ decimal line))
policy_fault_text (BadValue key line) = codes "bad value of " ++ (shown key ++ (codes " at line " ++ decimal line))
policy_fault_text (Above key limit line) =
    shown key ++ (codes " above " ++ (limit ++ (codes " at line " ++ decimal line)))
policy_fault_text OutOfMemory = codes "out of memory"
