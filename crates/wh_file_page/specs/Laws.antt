-- What holds of each page of a file.
use Rattle.std.specs.Prelude.{◌≡◌, List, Option}
use Rattle.std.specs.Option.{option_map}
use Rattle.wh_html.specs.Html.{bytes}
use Rattle.wh_html.specs.Tags.{tags}
use Rattle.wh_page.specs.Pages.{page_html}
use Rattle.wh_html.specs.declared.axis.Stop.{Stop}
use Rattle.wh_html.specs.declared.page.Page.{Page}
use Rattle.wh_html.specs.Without.{without_texts}
use Rattle.wh_file_page.specs.declared.run_table.RunTable.{RunTable}
use Rattle.wh_file_page.specs.RunTables.{table_html, without_table_words}

-- the tags of a page are those of the page without its texts, also of the words of a table: no text has a part in them
abbrev pub TextsAreNoTags : Type 0
TextsAreNoTags =
    (stops : List Stop) (page : Page) (table : Option RunTable) → tags (bytes (page_html stops page (table_html table)))
    ≡ tags (bytes (page_html stops (without_texts page) (table_html (option_map without_table_words table))))
