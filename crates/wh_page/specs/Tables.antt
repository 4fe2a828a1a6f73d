-- The things of a run as a table.
use Rattle.std.specs.Prelude.{ℕ, ◌-◌, ◌==◌, if◌then◌else◌, Option, Some, None, List, codes, length}
use Rattle.wh_html.specs.declared.page.Lane.{Lane}
use Rattle.wh_html.specs.declared.page.Moment.{Moment}
use Rattle.wh_html.specs.Html.{Html, markup, plain, hole, ◌⊕◌, number, stamp, each}
use Rattle.wh_html.specs.Words.{kind_word}
use Rattle.wh_html.specs.Lanes.{classes_html}

-- how many of all things are shown, and how many are left out
abbrev pub count_html : (shown total : ℕ) → Html
count_html shown total =
    if shown == total
    then (markup (codes "<p class=\"soft\">") ⊕ number total ⊕ markup (codes " in all.</p>\n"))
    else (markup (codes "<p class=\"soft\">") ⊕ number shown ⊕ markup (codes " of ") ⊕ number total
    ⊕ markup (codes " are shown; ") ⊕ number (total - shown) ⊕ markup (codes " are left out.</p>\n"))

-- a cell with a time and its event, or an empty one
abbrev pub moment_html : Option Moment → Html
moment_html None = markup (codes "<td></td>")
moment_html (Some moment) =
    markup (codes "<td class=\"time\">") ⊕ stamp moment.millis ⊕ markup (codes " <span class=\"event\">event ")
    ⊕ number moment.event ⊕ markup (codes "</span></td>")

-- a cell with a length of time, or an empty one
abbrev pub length_html : Option (List ℕ) → Html
length_html None = markup (codes "<td></td>")
length_html (Some length) = markup (codes "<td class=\"time\">") ⊕ hole 100 length ⊕ markup (codes "</td>")

-- the label of a thing: its type and below it its id, or else its id alone
abbrev pub label_html : Option (List ℕ) → List ℕ → Html
label_html None name = hole 300 name
label_html (Some type_name) name =
    hole 300 type_name ⊕ markup (codes " <span class=\"event\">") ⊕ hole 300 name ⊕ markup (codes "</span>")

-- a cell with a number of attempts, or an empty one
abbrev pub attempts_html : Option ℕ → Html
attempts_html None = markup (codes "<td></td>")
attempts_html (Some attempts) = markup (codes "<td>") ⊕ number attempts ⊕ markup (codes "</td>")

-- the head of the row of a thing
abbrev pub row_head_html : Option Moment → Lane → Html
row_head_html fault lane =
    markup (codes "<tr class=\"")
    ⊕ classes_html lane fault
    ⊕ markup (codes "\"><th scope=\"row\">")
    ⊕ label_html lane.type_name lane.name
    ⊕ markup (codes "</th><td class=\"kind\">")
    ⊕ plain (kind_word lane.kind)
    ⊕ markup (codes "</td>")

-- the row of a thing
unfoldable pub row_html : Option Moment → Lane → Html
row_html fault lane =
    row_head_html fault lane
    ⊕ moment_html (Some lane.opened)
    ⊕ moment_html lane.started
    ⊕ moment_html lane.ended
    ⊕ length_html lane.waited
    ⊕ length_html lane.took
    ⊕ markup (codes "<td class=\"words\">")
    ⊕ hole 600 lane.words
    ⊕ markup (codes "</td>")
    ⊕ attempts_html lane.attempts
    ⊕ markup (codes "</tr>\n")

-- the table of the things that are shown, out of so many in all
unfoldable pub table_html : Option Moment → List Lane → (total : ℕ) → Html
table_html fault lanes total =
    markup (codes "<section>\n<h2 id=\"things\">What was opened</h2>\n")
    ⊕ count_html (length lanes) total
    ⊕ markup (codes "<div class=\"scroll\" tabindex=\"0\" role=\"region\" aria-labelledby=\"things\">\n<table>\n<thead><tr><th scope=\"col\">Name</th><th scope=\"col\">Kind</th><th scope=\"col\">Opened</th><th scope=\"col\">Started</th><th scope=\"col\">Ended</th><th scope=\"col\">Waited</th><th scope=\"col\">Took</th><th scope=\"col\">Outcome</th><th scope=\"col\">Attempts</th></tr></thead>\n<tbody>\n")
    ⊕ each (row_html fault) lanes
    ⊕ markup (codes "</tbody>\n</table>\n</div>\n</section>\n")
