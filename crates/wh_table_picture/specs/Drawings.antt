-- What the page of a table shows.
use Rattle.std.specs.Prelude.{ℕ, List, [], codes, Option, Some, None, option_map}
use Rattle.std.specs.Result.{result_ok}
use Rattle.serde_json.specs.Data.{Data}
use Rattle.serde_json.specs.View.{view}
use Rattle.wh_json.specs.Events.{document_within}
use Rattle.wh_json.specs.Fields.{field, list_in}
use Rattle.wh_rows.specs.Tables.{Row}
use Rattle.wh_row_rules.specs.declared.owned.OwnedTable.{OwnedTable}
use Rattle.wh_table_text.specs.Reading.{table_of}
use Rattle.wh_table_text.specs.declared.tables.TableReading.{TableReading}
use Rattle.wh_table_check.specs.declared.checking.TableCheck.{TableCheck}
use Rattle.wh_table_picture.specs.declared.drawing.Drawing.{Drawing}
use Rattle.wh_table_picture.specs.declared.layout.PictureRow.{PictureRow}
use Rattle.wh_table_picture.specs.Cells.{title_of}
use Rattle.wh_table_picture.specs.Layout.{lines_of}
use Rattle.wh_table_picture.specs.Paths.{paths_of}

-- a list, or an empty one
abbrev pub or_none : Option (List Data) → List Data
or_none None = []
or_none (Some ds) = ds

-- the members of a member that is a list
abbrev pub listed : Option Data → List Data
listed None = []
listed (Some d) = or_none (list_in d)

-- the list of rows of a value
abbrev pub row_values : Data → List Data
row_values d = listed (field (codes "rows") (Some d))

-- the title of a file, if it is JSON
abbrev pub title_by : Option Data → List ℕ
title_by (Some d) = title_of d
title_by None = []

-- the rows of a table, of which a file has the words, if it is JSON
abbrev pub lines_by : List Row → Option Data → List PictureRow
lines_by rows (Some d) = lines_of rows (row_values d)
lines_by rows None = []

-- the rows of a table
abbrev pub table_rows : Option OwnedTable → List Row
table_rows (Some table) = table.rows
table_rows None = []

-- the rows of a table as the page shows them, by what one reading of its file found
abbrev pub reading_lines : TableReading → List PictureRow
reading_lines reading = lines_by (table_rows reading.table) (option_map view reading.value)

-- the rows of the table that a text is
abbrev pub table_lines : (bytes : List ℕ) → List PictureRow
table_lines bytes = lines_by (table_rows (result_ok (table_of bytes))) (result_ok (document_within bytes))

-- what the page of a table shows, by what one reading of its file found and the result of its check
abbrev pub drawing_of : TableReading → TableCheck → Drawing
drawing_of reading own = record {
  checked = own;
  title = title_by (option_map view reading.value);
  lines = reading_lines reading;
  paths = paths_of own.promises;
}
