-- The words that a table has for its rows.
use Rattle.std.specs.Prelude.{ℕ, List, [], ◌∷◌, ◌++◌, codes, Option, Some, None}
use Rattle.std.specs.List.{flat_map}
use Rattle.serde_json.specs.Data.{Data}
use Rattle.serde_json.specs.Find.{as_str, at}
use Rattle.wh_json.specs.Fields.{field, list_in}

-- a text, or an empty one
abbrev pub or_empty : Option (List ℕ) → List ℕ
or_empty None = []
or_empty (Some text) = text

-- the text that a value is, or an empty one
abbrev pub text_or_none : Data → List ℕ
text_or_none d = or_empty (as_str d)

-- the same after a semicolon
abbrev pub after_comma : Data → List ℕ
after_comma d = codes "; " ++ text_or_none d

-- the texts of values, with a semicolon between each and the next
abbrev pub joined : List Data → List ℕ
joined [] = []
joined (d ∷ ds) = text_or_none d ++ flat_map after_comma ds

-- those of a list, or the text that a value is
abbrev pub words_by : Data → Option (List Data) → List ℕ
words_by d None = text_or_none d
words_by d (Some ds) = joined ds

-- the words of a value
abbrev pub listed_words : Data → List ℕ
listed_words d = words_by d (list_in d)

-- the words of a member, if it is there
abbrev pub words_in : Option Data → List ℕ
words_in None = []
words_in (Some d) = listed_words d

-- the words of the member of a row at an index
abbrev pub words_at : ℕ → Data → List ℕ
words_at index row = words_in (at index row)

-- the text of a member, if it is there
abbrev pub text_in : Option Data → List ℕ
text_in None = []
text_in (Some d) = text_or_none d

-- the title of a table
abbrev pub title_of : Data → List ℕ
title_of d = text_in (field (codes "title") (Some d))
