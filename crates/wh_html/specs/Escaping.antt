-- Texts within HTML.
use Rattle.std.specs.Prelude.{ℕ, ◌+◌, ◌==◌, ◌&&◌, ◌||◌, nat_le, nat_lt, Bool, if◌then◌else◌, Option, Some, None, List, [], ◌∷◌, ◌++◌, take, length, codes, encode_utf8}
use Rattle.std.specs.List.{flat_map}
use Rattle.std.specs.Str.{chars}

-- a number is within two bounds, which are included
abbrev pub is_within : ℕ → ℕ → ℕ → Bool
is_within low high c = nat_le low c && nat_le c high

-- a character that would not be seen as what it is: a control character beyond ASCII, one that changes the direction of
-- writing, or one that XML forbids
abbrev pub is_unseen : ℕ → Bool
is_unseen c =
    is_within 128 159 c || is_within 8206 8207 c || is_within 8232 8238 c || is_within 8294 8297 c
    || is_within 65534 65535 c || c == 1564 || c == 65279

-- a character as it is shown: a control character of ASCII as its picture; another one that would not be seen, as
-- U+FFFD
abbrev pub seen : ℕ → ℕ
seen c = if nat_lt c 32 then 9216 + c else (if c == 127 then 9249 else (if is_unseen c then 65533 else c))

-- the character reference of a character that HTML can't have as itself
abbrev pub reference_of : ℕ → Option (List ℕ)
reference_of c =
    if c == 38 then Some (codes "&amp;")
    else (if c == 60 then Some (codes "&lt;") else (if c == 62 then Some (codes "&gt;")
    else (if c == 34 then Some (codes "&quot;") else (if c == 39 then Some (codes "&#39;") else None))))

-- the bytes of a character, or of its reference
abbrev pub referred : Option (List ℕ) → ℕ → List ℕ
referred None c = encode_utf8 c
referred (Some reference) c = reference

-- a character within HTML
abbrev pub escaped_char : ℕ → List ℕ
escaped_char c = referred (reference_of (seen c)) (seen c)

-- the first characters of a text, escaped for HTML
unfoldable pub escaped_first : (most : ℕ) → List ℕ → List ℕ
escaped_first most text = flat_map escaped_char (take most (chars text))

-- `…` if a text has more characters
abbrev pub rest_of : (most : ℕ) → List ℕ → List ℕ
rest_of most text = if nat_lt most (length (chars text)) then 226 ∷ 128 ∷ 166 ∷ [] else []

-- a text within HTML: its first characters, and `…` if it has more
abbrev pub escaped : (most : ℕ) → List ℕ → List ℕ
escaped most text = escaped_first most text ++ rest_of most text
