-- HTML as a template with holes: its parts, and the bytes as which they are written.
use Rattle.std.specs.Prelude.{ℕ, List, [], ◌∷◌, ◌++◌, decimal}
use Rattle.wh_html.specs.Escaping.{escaped}
use Rattle.wh_html.specs.Times.{stamp_text, span_text}

-- a template: nothing; fixed markup; a number, a time or one of a few words; a text of which at most so many characters
-- are shown; one template and then another
pub data Html : Type 0 where
  nothing : Html
  markup : List ℕ → Html
  plain : List ℕ → Html
  hole : (most : ℕ) → List ℕ → Html
  ◌⊕◌ : Html → Html → Html

infixr 60 ◌⊕◌
-- the bytes of a template
abbrev pub bytes : Html → List ℕ
bytes nothing = []
bytes (markup text) = text
bytes (plain text) = text
bytes (hole most text) = escaped most text
bytes (a ⊕ b) = bytes a ++ bytes b

-- a number
abbrev pub number : ℕ → Html
number n = plain (decimal n)

-- a time in milliseconds from 1970-01-01T00:00:00Z
abbrev pub stamp : ℕ → Html
stamp millis = plain (stamp_text millis)

-- a span of time in milliseconds
abbrev pub span : ℕ → Html
span millis = plain (span_text millis)

module _ {A : Type 0} where
  -- the templates of items, one after another
  abbrev pub each : (A → Html) → List A → Html
  each html [] = nothing
  each html (item ∷ items) = html item ⊕ each html items
