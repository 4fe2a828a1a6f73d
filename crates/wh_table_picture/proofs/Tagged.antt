-- The tags of a picture are those of the picture without its words.
use Rattle.std.proofs.Common.{◌≡◌, ℕ, Bool, true, false, ◌||◌, cond, Option, Some, None, List, [], ◌∷◌, map, length, ◌<◌, refl, arith}
use Rattle.std.proofs.lemmas.Bool.Decides.{nat_tests}
use Rattle.std.specs.Prelude.{nat_eq, nat_lt}
use Rattle.std.proofs.lemmas.List.{length-map}
use Rattle.std.specs.List.{list_all}
use Rattle.wh_html.specs.Html.{Html, markup}
use Rattle.wh_html.proofs.Alike.{Alike, is_inner, last, texts, both, none, mark, word, text, num, each-alike}
use Rattle.wh_table_picture.specs.declared.layout.PictureRow.{PictureRow}
use Rattle.wh_table_picture.specs.declared.layout.RowWay.{RowWay}
use Rattle.wh_table_picture.specs.declared.layout.StateMark.{StateMark}
use Rattle.wh_table_picture.specs.declared.layout.StateMark.TheVariants.{Unmarked, Passed, Last}
use Rattle.wh_table_picture.specs.Pictures.{mark_class, name_class, is_taken, row_class, end_class, conditions_html, gives_html, marks_html}
use Rattle.wh_table_picture.specs.Pictures.{lanes, edge_html, tip_html, arrow_html, target_html, stub_html, way_to_html, way_if_html, state_html, job_html, commands_html}
use Rattle.wh_table_picture.specs.Pictures.{row_html, marked_html}
use Rattle.wh_table_picture.specs.Without.{letter_for, without_words}

-- a template is alike itself between tags
abbrev IsClosed : Html → Type 0
IsClosed html = Alike false false html html

mark-inner : (mark : StateMark) → list_all is_inner (mark_class mark) ≡ true
mark-inner Unmarked = refl
mark-inner Passed = refl
mark-inner Last = refl

name-inner : (begins : Bool) (mark : StateMark) → list_all is_inner (name_class begins mark) ≡ true
name-inner true mark = mark-inner mark
name-inner false mark = refl

end-inner : (ended : Bool) → list_all is_inner (end_class ended) ≡ true
end-inner true = refl
end-inner false = refl

row-inner : (taken : Bool) → list_all is_inner (row_class taken) ≡ true
row-inner true = refl
row-inner false = refl

not_empty : (b : ℕ) (bs : List ℕ) → nat_eq (length (b ∷ bs)) 0 ≡ false
not_empty b bs = let more : 0 < length (b ∷ bs) = omega arith in grind (arith, nat_tests)

conditions-alike : (words : List ℕ) → Alike false false (conditions_html words) (conditions_html (letter_for words))
conditions-alike [] = none
conditions-alike (b ∷ bs) = rw (not_empty b bs) (mark _ (text _ _ _ (last _)))

gives-alike : (words : List ℕ) → Alike false false (gives_html words) (gives_html (letter_for words))
gives-alike [] = last _
gives-alike (b ∷ bs) = rw (not_empty b bs) (texts _ _ _)

marks-alike : (words : List ℕ) → Alike false false (marks_html words) (marks_html (letter_for words))
marks-alike [] = none
marks-alike (b ∷ bs) = rw (not_empty b bs) (mark _ (text _ _ _ (last _)))

edge-alike : (place : ℕ) (begins : Bool) → IsClosed (edge_html place begins)
edge-alike place true = mark _ (num _ (mark _ (num _ (last _))))
edge-alike place false = none

tip-alike : (way : RowWay) → IsClosed (tip_html way)
tip-alike way = mark _ (num _ (mark _ (num _ (last _))))

arrow-alike : (place : ℕ) (way : RowWay) → IsClosed (arrow_html place way)
arrow-alike place way =
    mark _ (num _ (mark _ (num _ (mark _ (num _ (mark _ (num _ (mark _ (tip-alike way)))))))))

target-alike : (closes : Bool) (name : List ℕ) → Alike false false (target_html closes name) (target_html closes [])
target-alike true name = last _
target-alike false name = texts _ _ _

stub-alike : (place : ℕ) (way : RowWay) (name : List ℕ) → Alike false false (stub_html place way name) (stub_html place way [])
stub-alike place way name =
    mark _ (num _ (mark _ (num _ (mark _ (num _ (mark _ (both (target-alike way.closes name) (last _))))))))

way-to-alike : (place : ℕ) (way : RowWay) (name : List ℕ) → Alike false false (way_to_html place way name) (way_to_html place way [])
way-to-alike place way name = by (nat_lt way.lane lanes)
  where
    by : (b : Bool) → Alike false false (cond b (arrow_html place way) (stub_html place way name)) (cond b (arrow_html place way) (stub_html place way []))
    by true = arrow-alike place way
    by false = stub-alike place way name

way-alike : (place : ℕ) (way : Option RowWay) (name : List ℕ) → Alike false false (way_if_html place way name) (way_if_html place way [])
way-alike place None name = none
way-alike place (Some way) name = way-to-alike place way name

state-alike : (line : PictureRow) → Alike false false (state_html line) (state_html (without_words line))
state-alike line =
    mark _ (num _ (mark _ (word _ (name-inner line.begins line.mark) (mark _ (num _ (mark _ (text _ _ _ (mark _ (text _ _ _ (last _))))))))))

job-alike : (line : PictureRow) → Alike false false (job_html line) (job_html (without_words line))
job-alike line = mark _ (num _ (mark _ (text _ _ _ (both (conditions-alike line.conditions) (last _)))))

commands-alike : (line : PictureRow) → Alike false false (commands_html line) (commands_html (without_words line))
commands-alike line =
    mark _ (num _ (mark _ (both (gives-alike line.gives) (both (marks-alike line.marks) (last _)))))

row-alike : (line : PictureRow) → Alike false false (row_html [] line) (row_html [] (without_words line))
row-alike line =
    mark _ (word _ (row-inner (line.taken || is_taken [] line.number)) (mark _ (both (state-alike line) (both (job-alike line) (both (commands-alike line)
    (both (edge-alike line.place line.begins) (both (way-alike line.place line.way line.next) (last _))))))))

pub marked-alike : (lines : List PictureRow) (ended : Bool) → Alike false false (marked_html lines ended) (marked_html (map without_words lines) ended)
unfolding marked_html
marked-alike lines ended =
    rw (length-map lines without_words)
    (mark _ (num _ (mark _ (num _ (mark _ (mark _ (mark _ (mark _ (both (each-alike (row_html []) without_words row-alike lines)
    (mark _ (word _ (end-inner ended) (mark _ (num _ (mark _ (num _ (last _))))))))))))))))
