-- The tags of a page are those of the page without its texts and the words of its table.
use Rattle.std.proofs.Common.{◌≡◌, Bool, true, false, Option, Some, None, refl}
use Rattle.std.specs.List.{list_all}
use Rattle.std.specs.Option.{option_map}
use Rattle.wh_html.proofs.Alike.{Alike, is_inner, last, both, none, mark, word, text, num}
use Rattle.wh_page.proofs.Tagged as pages
use Rattle.wh_table_picture.proofs.Tagged.{marked-alike}
use Rattle.wh_file_page.specs.declared.run_table.RunTable.{RunTable}
use Rattle.wh_file_page.specs.RunTables.{closed_words, standing_html, section_html, table_html, without_table_words}
use Rattle.wh_file_page.specs.Laws.{TextsAreNoTags}

closed-inner : (closed : Bool) → list_all is_inner (closed_words closed) ≡ true
closed-inner true = refl
closed-inner false = refl

standing-alike : (table : RunTable) → Alike false false (standing_html table) (standing_html (without_table_words table))
standing-alike table = mark _ (text _ _ _ (mark _ (word _ (closed-inner table.closed) (last _))))

section-alike : (table : RunTable) → Alike false false (section_html table) (section_html (without_table_words table))
section-alike table =
    mark _ (num _ (mark _ (both (standing-alike table) (mark _ (both (marked-alike table.lines table.closed) (last _))))))

table-alike : (table : Option RunTable) → Alike false false (table_html table) (table_html (option_map without_table_words table))
table-alike None = none
table-alike (Some table) = section-alike table

pub texts_are_no_tags : TextsAreNoTags
texts_are_no_tags stops page table = pages.texts_are_no_tags stops page (table_html table) (table_html (option_map without_table_words table)) (table-alike table).same
