-- What holds of texts within HTML.
use Rattle.std.specs.Prelude.{◌≡◌, ℕ, ◌==◌, ◌&&◌, not, Bool, true, nat_le, if◌then◌else◌, Option, Some, None, List, [], ◌∷◌, ◌++◌, take, map, codes, encode_utf8_all}
use Rattle.std.specs.List.{list_all}
use Rattle.std.specs.Str.{chars, bytes_eq}
use Rattle.wh_html.specs.Escaping.{seen, escaped_first, escaped}

-- a byte that no reader of HTML takes for markup (the `&` of a reference aside): neither `<`, `>` nor a quotation mark,
-- and no control character of ASCII
abbrev pub is_harmless : ℕ → Bool
is_harmless b = nat_le 32 b && not (b == 127) && not (b == 60) && not (b == 62) && not (b == 34) && not (b == 39)

-- a text within HTML has no other bytes
abbrev pub TextsAreHarmless : Type 0
TextsAreHarmless = (most : ℕ) (text : List ℕ) → list_all is_harmless (escaped most text) ≡ true

-- what a reference stands for, by the name between its `&` and its `;`
abbrev pub referred_by : List ℕ → List ℕ
referred_by name =
    if bytes_eq name (codes "amp") then 38 ∷ [] else (if bytes_eq name (codes "lt") then 60 ∷ []
    else (if bytes_eq name (codes "gt") then 62 ∷ [] else (if bytes_eq name (codes "quot") then 34 ∷ []
    else (if bytes_eq name (codes "#39") then 39 ∷ [] else []))))

-- what a reader of HTML adds for one more byte, given the name so far of the reference that it is in, if any
abbrev pub read_byte : Option (List ℕ) → ℕ → List ℕ
read_byte None b = if b == 38 then [] else b ∷ []
read_byte (Some name) b = if b == 59 then referred_by name else []

-- the name so far of a reference, after one more byte
abbrev pub name_after : Option (List ℕ) → ℕ → Option (List ℕ)
name_after None b = if b == 38 then Some [] else None
name_after (Some name) b = if b == 59 then None else Some (name ++ b ∷ [])

-- how a reader of HTML reads text without tags
abbrev pub read_from : Option (List ℕ) → List ℕ → List ℕ
read_from name [] = []
read_from name (b ∷ bs) = read_byte name b ++ read_from (name_after name b) bs

-- how a reader of HTML reads text without tags, from its beginning
abbrev pub read : List ℕ → List ℕ
read bs = read_from None bs

-- a reader of HTML reads the first characters of a text back, each as it is shown
abbrev pub TextsAreRead : Type 0
TextsAreRead =
    (most : ℕ) (text : List ℕ) → read (escaped_first most text) ≡ encode_utf8_all (map seen (take most (chars text)))
