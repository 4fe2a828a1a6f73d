-- Texts that are the same except for decimal digits.
use Rattle.std.specs.Prelude.{ℕ, ◌&&◌, List, Bool, not, nat_le, bytes_eq}
use Rattle.std.specs.List.{filter}

-- a byte is no decimal digit
abbrev pub is_plain : ℕ → Bool
is_plain c = not (nat_le 48 c && nat_le c 57)

-- a text without its decimal digits
abbrev pub plain : List ℕ → List ℕ
plain text = filter is_plain text

-- two texts are the same except for digits
unfoldable pub alike_texts : List ℕ → List ℕ → Bool
alike_texts one other = bytes_eq (plain one) (plain other)
