-- What commands report on the standard error.
use Rattle.std.specs.Prelude.{ℕ, List, ◌++◌, codes, Option, Some, None, String, string_bytes}
use Rattle.std.specs.List.{flat_map}
use Rattle.std.specs.declared.alloc.Global.{Global}
use Rattle.wh_console.specs.Reasons.{reason_words}
use Rattle.wh_console.specs.declared.files.Reason.{Reason}
use Rattle.wh_tester.specs.Report.{fault_text, shown}
use Rattle.wh_diagnostics.specs.declared.diagnostics.Diagnostic.{Diagnostic}
use Rattle.wh_diagnostics.specs.declared.diagnostics.Diagnostic.TheVariants.{NoFiles, BadNames, BadJson, Failed}
use Rattle.wh_diagnostics.specs.declared.failures.Failure.{Failure}
use Rattle.wh_diagnostics.specs.declared.failures.Failure.TheVariants.{BadLine, BadArguments, FewSlots, BadInput, Unreadable, NotJson, NotViewed, NotText, BadPolicies, Output, OutOfMemory}
use Rattle.wh_file_faults.specs.DetailTexts.{detail_line}

-- `<name>: <text>`, with the name by which the program was called
abbrev pub named_line : (text name : List ℕ) → List ℕ
named_line text name = shown name ++ (codes ": " ++ (text ++ codes "\n"))

-- `<name>: cannot read <path>: <reason>`
abbrev pub path_line : (path why name : List ℕ) → List ℕ
path_line path why name =
    shown name ++ (codes ": cannot read " ++ (path ++ (codes ": " ++ (why ++ codes "\n"))))

-- `<name>: cannot read <folder>/<entry>: <reason>`
abbrev pub entry_line : (dir entry why name : List ℕ) → List ℕ
entry_line dir entry why name =
    shown name ++ (codes ": cannot read " ++ (dir ++ (codes "/"
    ++ (shown entry ++ (codes ": " ++ (why ++ codes "\n"))))))

-- `<name>: cannot read <folder>/<entry>: its name is no UTF-8 text`
abbrev pub bad_name_line : List ℕ → String Global → List ℕ → List ℕ
bad_name_line dir entry name = entry_line dir (string_bytes entry) (codes "its name is no UTF-8 text") name

-- a line for each entry of a folder whose name is not UTF-8
abbrev pub bad_name_lines : List ℕ → List (String Global) → List ℕ → List ℕ
bad_name_lines dir entries name = flat_map (λ entry. bad_name_line dir entry name) entries

-- why a path, or an entry of the folder at it, can't be read
abbrev pub reason_line : List ℕ → Option (String Global) → Reason → List ℕ → List ℕ
reason_line path None reason name = path_line path (reason_words reason) name
reason_line path (Some entry) reason name = entry_line path (string_bytes entry) (reason_words reason) name

-- `<name>: <file>: <why>`
abbrev pub file_line : (file why name : List ℕ) → List ℕ
file_line file why name = shown name ++ (codes ": " ++ (shown file ++ (codes ": " ++ (why ++ codes "\n"))))

-- why there is no full report: the text on an invalid command line as it is, or a line under the program's name
abbrev pub failed_text : Failure → List ℕ → List ℕ
failed_text (BadLine text) name = text
failed_text BadArguments name = named_line (codes "arguments must be UTF-8 text") name
failed_text FewSlots name = named_line (codes "slots must be at least workers") name
failed_text BadInput name = named_line (codes "the arguments of a query must be JSON") name
failed_text (Unreadable dir entry reason) name = reason_line dir entry reason name
failed_text (NotJson file detail) name = detail_line file detail name
failed_text (NotViewed file fault) name = file_line file (codes "unreadable, " ++ fault_text fault) name
failed_text (NotText file) name = file_line file (codes "not UTF-8 text") name
failed_text (BadPolicies file why) name = file_line file why name
failed_text Output name = named_line (codes "cannot write") name
failed_text OutOfMemory name = named_line (codes "out of memory") name

-- the text of a diagnostic, under the program's name
abbrev pub diagnostic_text : Diagnostic → List ℕ → List ℕ
diagnostic_text (NoFiles dir) name = named_line (codes "no .json file in " ++ dir) name
diagnostic_text (BadNames dir names) name = bad_name_lines dir names.items name
diagnostic_text (BadJson file detail) name = detail_line file detail name
diagnostic_text (Failed failure) name = failed_text failure name
