-- What stands above the picture: the verdict, the facts of the run, and the difference.
use Rattle.std.specs.Prelude.{ℕ, Bool, true, false, Option, Some, None, List, codes}
use Rattle.wh_html.specs.declared.page.Fact.{Fact}
use Rattle.wh_html.specs.declared.page.Difference.{Difference}
use Rattle.wh_html.specs.declared.page.Page.{Page}
use Rattle.wh_page.specs.declared.style.TheConstants.{STYLE_OF_TEXT, STYLE_OF_PARTS, STYLE_OF_PICTURE}
use Rattle.wh_html.specs.Html.{Html, nothing, markup, plain, hole, ◌⊕◌, number, each}

-- what precedes the body: the title of the page and the style sheet
unfoldable pub head_html : Page → Html
head_html page =
    markup (codes "<!doctype html>\n<html lang=\"en\">\n<head>\n<meta charset=\"utf-8\">\n<meta name=\"viewport\" content=\"width=device-width, initial-scale=1\">\n<meta name=\"color-scheme\" content=\"light dark\">\n<meta http-equiv=\"Content-Security-Policy\" content=\"default-src 'none'; style-src 'unsafe-inline'\">\n<title>")
    ⊕ hole 300 page.title
    ⊕ markup (codes ": ")
    ⊕ hole 400 page.verdict
    ⊕ markup (codes "</title>\n<style>\n")
    ⊕ markup STYLE_OF_TEXT.now
    ⊕ markup STYLE_OF_PARTS.now
    ⊕ markup STYLE_OF_PICTURE.now
    ⊕ markup (codes "</style>\n</head>\n<body>\n")

-- the class of a verdict in the style sheet
abbrev pub verdict_class : Option Bool → List ℕ
verdict_class (Some true) = codes "ok"
verdict_class (Some false) = codes "bad"
verdict_class None = codes "unjudged"

-- the verdict
unfoldable pub verdict_html : Page → Html
verdict_html page =
    markup (codes "<header>\n<h1>")
    ⊕ hole 300 page.title
    ⊕ markup (codes "</h1>\n<p class=\"verdict ")
    ⊕ plain (verdict_class page.good)
    ⊕ markup (codes "\">")
    ⊕ hole 400 page.verdict
    ⊕ markup (codes "</p>\n")

-- a fact
abbrev pub fact_html : Fact → Html
fact_html fact =
    markup (codes "<div><dt>")
    ⊕ hole 300 fact.name
    ⊕ markup (codes "</dt><dd>")
    ⊕ hole 300 fact.value
    ⊕ markup (codes "</dd></div>\n")

-- the event at which a difference is found, if there is one
abbrev pub at_html : Option ℕ → Html
at_html None = nothing
at_html (Some event) = markup (codes ", at event ") ⊕ number event

-- both sides of a difference
unfoldable pub sides_html : Difference → Html
sides_html difference =
    markup (codes "<section class=\"difference\">\n<h2>The difference")
    ⊕ at_html difference.event
    ⊕ markup (codes "</h2>\n<div class=\"sides\">\n<div class=\"side\"><h3>Your code gives</h3><pre><code>")
    ⊕ hole 2000 difference.code
    ⊕ markup (codes "</code></pre></div>\n<div class=\"side\"><h3>The history has</h3><pre><code>")
    ⊕ hole 2000 difference.history
    ⊕ markup (codes "</code></pre></div>\n</div>\n</section>\n")

-- the difference, if there is one
abbrev pub difference_html : Option Difference → Html
difference_html None = nothing
difference_html (Some difference) = sides_html difference

-- all that precedes the picture
unfoldable pub frame_html : Page → Html
frame_html page =
    head_html page
    ⊕ verdict_html page
    ⊕ markup (codes "<dl class=\"facts\">\n")
    ⊕ each fact_html page.facts
    ⊕ markup (codes "</dl>\n</header>\n<main>\n")
    ⊕ difference_html page.difference
