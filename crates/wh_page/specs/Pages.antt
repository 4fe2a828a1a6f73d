-- The whole page.
use Rattle.std.specs.Prelude.{List, codes}
use Rattle.wh_html.specs.declared.page.Page.{Page}
use Rattle.wh_html.specs.declared.axis.Stop.{Stop}
use Rattle.wh_html.specs.Html.{Html, markup, ◌⊕◌}
use Rattle.wh_page.specs.Frames.{frame_html}
use Rattle.wh_html.specs.Pictures.{picture_html}
use Rattle.wh_page.specs.Sums.{sums_html}
use Rattle.wh_page.specs.Tables.{table_html}
use Rattle.wh_page.specs.TaskTexts.{tasks_html, waits_html, notes_html}

-- the page, but for its end, with its times at these stops
unfoldable pub body_html : List Stop → Page → Html
body_html stops page =
    frame_html page
    ⊕ waits_html page.waits
    ⊕ notes_html page.notes
    ⊕ picture_html page.fault stops page.lanes page.rows page.things page.tasks
    ⊕ sums_html page.sums
    ⊕ table_html page.fault page.lanes page.things
    ⊕ tasks_html page.tasks page.earlier page.all_tasks

-- the end of a page
abbrev pub end_html : Html
end_html = markup (codes "</main>\n<footer class=\"soft\"><p>Times are in UTC.</p></footer>\n</body>\n</html>\n")

-- the page, with further HTML before its end
abbrev pub page_html : List Stop → Page → (more : Html) → Html
page_html stops page more = body_html stops page ⊕ more ⊕ end_html
