-- The rows of a picture without their words.
use Rattle.std.specs.Prelude.{ℕ, List, [], ◌∷◌, codes}
use Rattle.wh_table_picture.specs.declared.layout.PictureRow.{PictureRow}

-- a letter in place of a text that is not empty
abbrev pub letter_for : List ℕ → List ℕ
letter_for [] = []
letter_for (b ∷ bs) = codes "x"

-- a row without its words: a letter for those that are left out if there are none
abbrev pub without_words : PictureRow → PictureRow
without_words line = record line {
  state = [];
  job = [];
  conditions = letter_for line.conditions;
  gives = letter_for line.gives;
  next = [];
  marks = letter_for line.marks;
}
