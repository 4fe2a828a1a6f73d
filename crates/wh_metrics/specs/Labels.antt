-- The labels of samples.
use Rattle.std.specs.Prelude.{ℕ, ◌==◌, if◌then◌else◌, Option, Some, None, List, ◌++◌, codes, encode_utf8}
use Rattle.std.specs.List.{flat_map}
use Rattle.std.specs.Str.{chars}

-- what stands for a character that can't stand as itself
abbrev pub escape_of : ℕ → Option (List ℕ)
escape_of c =
    if c == 92 then Some (codes "\\\\") else (if c == 34 then Some (codes "\\\"")
    else (if c == 10 then Some (codes "\\n") else None))

-- the bytes of a character, or of what stands for it
abbrev pub bytes_or : Option (List ℕ) → ℕ → List ℕ
bytes_or None c = encode_utf8 c
bytes_or (Some escape) c = escape

-- a character in the value of a label
abbrev pub escaped_char : ℕ → List ℕ
escaped_char c = bytes_or (escape_of c) c

-- the value of a label: a `\` stands before `\` and `"`, and `\n` in place of a line feed
unfoldable pub escaped : List ℕ → List ℕ
escaped text = flat_map escaped_char (chars text)

-- `NAME="VALUE"`
abbrev pub label_text : List ℕ → List ℕ → List ℕ
label_text name value = name ++ (codes "=\"" ++ (escaped value ++ codes "\""))

-- the labels of a process, with a comma between each two
abbrev pub labels_text : (namespace task_queue identity : List ℕ) → List ℕ
labels_text namespace task_queue identity =
    label_text (codes "namespace") namespace ++ (codes "," ++ (label_text (codes "task_queue") task_queue
    ++ (codes "," ++ label_text (codes "identity") identity)))
