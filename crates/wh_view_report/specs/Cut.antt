-- Texts as reports show them: cut after 80 characters.
use Rattle.std.specs.Prelude.{ℕ, ◌==◌, ◌||◌, Bool, List, [], ◌∷◌, ◌++◌, take, length, codes, decimal, encode_utf8, nat_lt, if◌then◌else◌}
use Rattle.std.specs.List.{flat_map}
use Rattle.std.specs.Str.{chars}
use Rattle.wh_html.specs.Escaping.{is_unseen}

-- a character is not shown: a control character of ASCII, or another one that would not be seen
abbrev pub is_hidden : ℕ → Bool
is_hidden c = nat_lt c 32 || c == 127 || is_unseen c

-- a character as it is shown: a question mark for one that is not
abbrev pub shown_char : ℕ → ℕ
shown_char c = if is_hidden c then 63 else c

-- its bytes
abbrev pub shown_bytes : ℕ → List ℕ
shown_bytes c = encode_utf8 (shown_char c)

-- the first 80 characters
unfoldable pub front : List ℕ → List ℕ
front text = flat_map shown_bytes (take 80 (chars text))

-- what follows the front of a text of so many characters: their number, if there are more than 80
abbrev pub rest_text : ℕ → List ℕ
rest_text count = if nat_lt 80 count then codes ".. (" ++ (decimal count ++ codes " characters)") else []

-- a text, cut after 80 characters
unfoldable pub cut : List ℕ → List ℕ
cut text = front text ++ rest_text (length (chars text))

-- a text after a label; nothing if the text is empty
abbrev pub label_text : List ℕ → List ℕ → List ℕ
label_text label [] = []
label_text label (c ∷ cs) = label ++ cut (c ∷ cs)
