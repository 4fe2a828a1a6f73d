-- Payloads that are plain JSON strings.
use Rattle.std.specs.Prelude.{◌≡◌, ℕ, ◌-◌, ◌≤◌, ◌↔◌, ◌++◌, Bool, not, ◌&&◌, ◌||◌, IsTrue, List, length, take, drop, slice_get, Option, Some, None, option_and_then, leb, nat_eq, codes, bytes_eq, if◌then◌else◌}
use Rattle.std.specs.List.{list_all}
use Rattle.std.specs.Str.{is_utf8, IsUtf8, chars}
use Rattle.wh_events.specs.declared.event.Payload.{Payload}

-- a JSON string may hold the byte unescaped: it is no control character, quotation mark or backslash
abbrev pub is_plain : ℕ → Bool
is_plain byte = leb 32 byte && not (nat_eq byte 34) && not (nat_eq byte 92)

-- the bytes, if they are a text of at least one character that a JSON string may hold unescaped
abbrev pub plain : List ℕ → Option (List ℕ)
plain bytes = if leb 1 (length bytes) && list_all is_plain bytes && is_utf8 bytes then Some bytes else None

-- the bytes after a quotation mark
abbrev pub after_quote : List ℕ → Option (List ℕ)
after_quote bytes = if bytes_eq (take 1 bytes) (codes "\"") then Some (drop 1 bytes) else None

-- the bytes before a quotation mark at the end
abbrev pub before_quote : List ℕ → Option (List ℕ)
before_quote bytes =
    if bytes_eq (drop (length bytes - 1) bytes) (codes "\"") then Some (take (length bytes - 1) bytes) else None

-- the bytes between two quotation marks
abbrev pub quoted : List ℕ → Option (List ℕ)
quoted bytes = option_and_then before_quote (after_quote bytes)

-- the text of a plain JSON string
abbrev pub plain_text : List ℕ → Option (List ℕ)
plain_text json = option_and_then plain (quoted json)

-- the text of the payload of this number, if its content is a plain JSON string
abbrev pub payload_text : List Payload → ℕ → Option (List ℕ)
payload_text input number = option_and_then (λ payload. plain_text payload.content) (slice_get input number)

-- a JSON string may hold the character unescaped (RFC 8259, section 7, `unescaped`)
abbrev pub is_unescaped : ℕ → Bool
is_unescaped c = (leb 0x20 c && leb c 0x21) || ((leb 0x23 c && leb c 0x5B) || (leb 0x5D c && leb c 0x10_FFFF))

-- the JSON string of these characters, each unescaped
abbrev pub string_of : List ℕ → List ℕ
string_of text = codes "\"" ++ (text ++ codes "\"")

-- a text of at least one character, each of which a JSON string may hold unescaped
abbrev pub IsUnescaped : List ℕ → Type 0
IsUnescaped text = (1 ≤ length text) × IsUtf8 text × IsTrue (list_all is_unescaped (chars text))

-- bytes are read as a text exactly if they are its JSON string, without an escape and not empty
abbrev pub TakesStrings : Type 0
TakesStrings = (json text : List ℕ) → (plain_text json ≡ Some text) ↔ ((json ≡ string_of text) × IsUnescaped text)
