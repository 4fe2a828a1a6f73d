-- The page of a table: what is found of it, the picture, and its rows.
use Rattle.std.specs.Prelude.{ℕ, if◌then◌else◌, List, length, nat_eq, codes}
use Rattle.wh_html.specs.Html.{Html, nothing, markup, plain, hole, ◌⊕◌, number, each}
use Rattle.wh_table_check.specs.declared.checking.TableCheck.{TableCheck}
use Rattle.wh_table_picture.specs.declared.paths.RowPath.{RowPath}
use Rattle.wh_table_check.specs.declared.finding.TableFinding.{TableFinding}
use Rattle.wh_table_check.specs.Checks.{is_good}
use Rattle.wh_table_check.specs.Texts.{verdict_word}
use Rattle.wh_table_picture.specs.declared.drawing.Drawing.{Drawing}
use Rattle.wh_table_picture.specs.declared.layout.PictureRow.{PictureRow}
use Rattle.wh_table_picture.specs.declared.style.TheConstants.{STYLE_OF_PAGE, STYLE_OF_ROWS, STYLE_OF_PRINT}
use Rattle.wh_table_picture.specs.Pictures.{legend_html, picture_html}
use Rattle.wh_table_picture.specs.Promises.{promises_html}

-- how a verdict stands: that of a good table, or of another one
abbrev pub verdict_class : TableCheck → List ℕ
verdict_class own = if is_good own then codes "ok" else codes "bad"

-- what stands before the body: the title of the page and the style sheet
unfoldable pub head_html : Drawing → Html
head_html drawing =
    markup (codes "<!doctype html>\n<html lang=\"en\">\n<head>\n<meta charset=\"utf-8\">\n<meta name=\"viewport\" content=\"width=device-width, initial-scale=1\">\n<meta name=\"color-scheme\" content=\"light dark\">\n<meta http-equiv=\"Content-Security-Policy\" content=\"default-src 'none'; style-src 'unsafe-inline'\">\n<title>")
    ⊕ hole 300 drawing.checked.name
    ⊕ markup (codes "</title>\n<style>\n")
    ⊕ markup STYLE_OF_PAGE.now
    ⊕ markup STYLE_OF_ROWS.now
    ⊕ markup STYLE_OF_PRINT.now
    ⊕ markup (codes "</style>\n</head>\n<body>\n")

-- the name of the file, and the verdict
abbrev pub verdict_html : Drawing → Html
verdict_html drawing =
    markup (codes "<header>\n<h1>") ⊕ hole 300 drawing.checked.name ⊕ markup (codes "</h1>\n<p class=\"verdict ")
    ⊕ plain (verdict_class drawing.checked) ⊕ markup (codes "\">") ⊕ plain (verdict_word drawing.checked) ⊕ markup (codes ", ")
    ⊕ number drawing.checked.rows ⊕ markup (codes " rows</p>\n")

-- what stands before the findings
abbrev pub front_html : Drawing → Html
front_html drawing =
    head_html drawing ⊕ verdict_html drawing ⊕ markup (codes "<p>") ⊕ hole 600 drawing.title
    ⊕ markup (codes "</p>\n</header>\n<main>\n")

-- a finding, as an item of a list
abbrev pub item_html : TableFinding → Html
item_html found =
    markup (codes "<li>")
    ⊕ hole 600 found.text
    ⊕ markup (codes "</li>\n")

-- a list of findings under its heading, if there are some
abbrev pub items_html : List ℕ → List TableFinding → Html
items_html heading list =
    if nat_eq (length list) 0 then nothing
    else markup (codes "<section>\n<h2>") ⊕ plain heading ⊕ markup (codes "</h2>\n<ul>\n") ⊕ each item_html list
    ⊕ markup (codes "</ul>\n</section>\n")

-- a cell of the table
abbrev pub cell_html : List ℕ → Html
cell_html words = markup (codes "<td>") ⊕ hole 2000 words ⊕ markup (codes "</td>")

-- what a row is for: its number, its state, its job and its conditions
abbrev pub when_html : PictureRow → Html
when_html line =
    markup (codes "<th scope=\"row\">") ⊕ number line.number ⊕ markup (codes "</th>") ⊕ cell_html line.state
    ⊕ cell_html line.job ⊕ cell_html line.conditions

-- a row of the table
abbrev pub table_row_html : PictureRow → Html
table_row_html line =
    markup (codes "<tr>") ⊕ when_html line ⊕ cell_html line.gives ⊕ cell_html line.next ⊕ cell_html line.marks
    ⊕ markup (codes "</tr>\n")

-- the rows as a table
abbrev pub table_html : List PictureRow → Html
table_html lines =
    markup (codes "<section>\n<h2 id=\"rows\">Rows</h2>\n<div class=\"scroll\" tabindex=\"0\" role=\"region\" aria-labelledby=\"rows\">\n<table>\n<thead><tr><th scope=\"col\">Row</th><th scope=\"col\">State</th><th scope=\"col\">Job</th><th scope=\"col\">If</th><th scope=\"col\">Gives</th><th scope=\"col\">Then</th><th scope=\"col\">Marks</th></tr></thead>\n<tbody>\n")
    ⊕ each table_row_html lines
    ⊕ markup (codes "</tbody>\n</table>\n</div>\n</section>\n")

-- what is marked, the picture and the rows, if there are some
abbrev pub states_html : List RowPath → List PictureRow → Html
states_html paths lines = if nat_eq (length lines) 0 then nothing else legend_html paths ⊕ picture_html paths lines ⊕ table_html lines

-- the page
unfoldable pub page_html : Drawing → Html
page_html drawing =
    front_html drawing
    ⊕ items_html (codes "Faults") drawing.checked.faults
    ⊕ items_html (codes "Warnings") drawing.checked.warnings
    ⊕ promises_html drawing.checked.promises
    ⊕ states_html drawing.paths drawing.lines
    ⊕ markup (codes "</main>\n</body>\n</html>\n")
