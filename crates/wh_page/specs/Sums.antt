-- What the things of each type come to, as a table.
use Rattle.std.specs.Prelude.{ℕ, Option, Some, None, List, [], ◌∷◌, take, codes, length}
use Rattle.wh_html.specs.declared.page.Longest.{Longest}
use Rattle.wh_html.specs.declared.page.SumOfType.{SumOfType}
use Rattle.wh_html.specs.Html.{Html, nothing, markup, hole, ◌⊕◌, number, each}
use Rattle.wh_page.specs.Tables.{count_html, length_html}

-- a cell with the longest time and a link to the event that opened what took so long, or an empty one
abbrev pub longest_html : Option Longest → Html
longest_html None = markup (codes "<td></td>")
longest_html (Some longest) =
    markup (codes "<td class=\"time\">") ⊕ hole 100 longest.words ⊕ markup (codes " <a class=\"event\" href=\"#event-")
    ⊕ number longest.event ⊕ markup (codes "\">event ") ⊕ number longest.event ⊕ markup (codes "</a></td>")

-- the cells with how many things of a type there are, failed and are open
abbrev pub counts_html : (times failed pending : ℕ) → Html
counts_html times failed pending =
    markup (codes "<td>") ⊕ number times ⊕ markup (codes "</td><td>") ⊕ number failed ⊕ markup (codes "</td><td>")
    ⊕ number pending ⊕ markup (codes "</td>")

-- the row of a type
unfoldable pub sum_html : SumOfType → Html
sum_html sum =
    markup (codes "<tr><th scope=\"row\">")
    ⊕ hole 300 sum.name
    ⊕ markup (codes "</th>")
    ⊕ counts_html sum.times sum.failed sum.pending
    ⊕ length_html sum.median
    ⊕ longest_html sum.longest
    ⊕ markup (codes "</tr>\n")

-- the table of the first 100 types, out of all
unfoldable pub filled_html : List SumOfType → Html
filled_html sums =
    markup (codes "<section class=\"sums\">\n<h2 id=\"sums\">By type</h2>\n")
    ⊕ count_html (length (take 100 sums)) (length sums)
    ⊕ markup (codes "<div class=\"scroll\" tabindex=\"0\" role=\"region\" aria-labelledby=\"sums\">\n<table>\n<thead><tr><th scope=\"col\">Type</th><th scope=\"col\">Times</th><th scope=\"col\">Failed</th><th scope=\"col\">Open</th><th scope=\"col\">Median</th><th scope=\"col\">Longest</th></tr></thead>\n<tbody>\n")
    ⊕ each sum_html (take 100 sums)
    ⊕ markup (codes "</tbody>\n</table>\n</div>\n</section>\n")

-- that table, if there are some
abbrev pub sums_html : List SumOfType → Html
sums_html [] = nothing
sums_html (sum ∷ sums) = filled_html (sum ∷ sums)
