-- The picture: time from left to right, and each thing in its row.
use Rattle.std.specs.Prelude.{ℕ, ◌+◌, ◌-◌, ◌/◌, ◌==◌, nat_le, if◌then◌else◌, Option, Some, None, List, [], ◌∷◌, length, codes}
use Rattle.wh_html.specs.declared.axis.Gap.{Gap}
use Rattle.wh_html.specs.declared.axis.Stop.{Stop}
use Rattle.wh_html.specs.declared.page.Moment.{Moment}
use Rattle.wh_html.specs.declared.page.Task.{Task}
use Rattle.wh_html.specs.declared.page.Lane.{Lane}
use Rattle.wh_html.specs.Axes.{place_of}
use Rattle.wh_html.specs.Html.{Html, nothing, markup, plain, hole, ◌⊕◌, number, stamp, span, each}
use Rattle.wh_html.specs.Lanes.{hit_class, top_of, lane_html}

-- how many of the things are drawn, if not all are
abbrev pub undrawn_html : (lanes total : ℕ) → Html
undrawn_html lanes total =
    if lanes == total then nothing
    else (markup (codes "<p class=\"soft\">") ⊕ number lanes ⊕ markup (codes " of ") ⊕ number total
    ⊕ markup (codes " things are drawn: first those of the fault, then those that failed, then those that are open, and of the others the slowest.</p>\n"))

-- the beginning of the picture
abbrev pub opening_html : (lanes rows total : ℕ) → Html
opening_html lanes rows total =
    markup (codes "<section>\n<h2 id=\"picture\">Timeline</h2>\n")
    ⊕ undrawn_html lanes total
    ⊕ markup (codes "<div class=\"scroll picture\" tabindex=\"0\" role=\"region\" aria-labelledby=\"picture\">\n<svg viewBox=\"0 0 1000 ")
    ⊕ number (top_of rows + 10)
    ⊕ markup (codes "\" role=\"img\" aria-labelledby=\"picture\" aria-describedby=\"picture-words\">\n<desc id=\"picture-words\">")
    ⊕ number lanes
    ⊕ markup (codes " things in ")
    ⊕ number rows
    ⊕ markup (codes " rows, from opening to end. The table below has the same times.</desc>\n<defs><pattern id=\"gap\" width=\"6\" height=\"6\" patternUnits=\"userSpaceOnUse\" patternTransform=\"rotate(45)\"><line class=\"hatch\" y2=\"6\"/></pattern></defs>\n")

-- the words of a gap, if there is room for them
abbrev pub gap_word_html : (from to millis : ℕ) → Html
gap_word_html from to millis =
    if nat_le 48 (to - from)
    then (markup (codes "<text class=\"scale\" x=\"")
    ⊕ number (from / 2 + to / 2)
    ⊕ markup (codes "\" y=\"34\">")
    ⊕ span millis
    ⊕ markup (codes "</text>"))
    else nothing

-- a gap up to a place
abbrev pub gap_html : (bottom to : ℕ) → Gap → Html
gap_html bottom to gap =
    markup (codes "<g><title>")
    ⊕ span gap.millis
    ⊕ markup (codes ", drawn shorter</title><rect class=\"gap\" x=\"")
    ⊕ number gap.from
    ⊕ markup (codes "\" y=\"20\" width=\"")
    ⊕ number (to - gap.from)
    ⊕ markup (codes "\" height=\"")
    ⊕ number (bottom - 20)
    ⊕ markup (codes "\"/>")
    ⊕ gap_word_html gap.from to gap.millis
    ⊕ markup (codes "</g>\n")

-- a mark of the scale, with the time since the first stop
abbrev pub mark_html : (bottom first : ℕ) → Stop → Html
mark_html bottom first stop =
    markup (codes "<text class=\"scale\" x=\"")
    ⊕ number stop.x
    ⊕ markup (codes "\" y=\"14\">+")
    ⊕ span (stop.millis - first)
    ⊕ markup (codes "</text><line class=\"grid\" x1=\"")
    ⊕ number stop.x
    ⊕ markup (codes "\" x2=\"")
    ⊕ number stop.x
    ⊕ markup (codes "\" y1=\"20\" y2=\"")
    ⊕ number bottom
    ⊕ markup (codes "\"/>\n")

-- the mark of a stop that has one
abbrev pub mark_at_html : (bottom first : ℕ) → Stop → Html
mark_at_html bottom first stop = if stop.marked then mark_html bottom first stop else nothing

-- the gap before a stop, if it has one
abbrev pub before_html : (bottom to : ℕ) → Option Gap → Html
before_html bottom to None = nothing
before_html bottom to (Some gap) = gap_html bottom to gap

-- the gap and the mark of the scale at a stop
abbrev pub stop_html : (bottom first : ℕ) → Stop → Html
stop_html bottom first stop =
    before_html bottom stop.x stop.gap ⊕ mark_at_html bottom first stop

-- the first of the times; 0 if there is none
abbrev pub first_time : List Stop → ℕ
first_time [] = 0
first_time (stop ∷ stops) = stop.millis

-- the tick of a task
abbrev pub tick_html : List Stop → Task → Html
tick_html stops task =
    markup (codes "<rect class=\"tick")
    ⊕ plain (hit_class task.faulty)
    ⊕ markup (codes "\" x=\"")
    ⊕ number (place_of stops task.started.millis - 1)
    ⊕ markup (codes "\" y=\"47\" width=\"3\" height=\"14\" rx=\"1\"><title>")
    ⊕ hole 100 task.heading
    ⊕ markup (codes ", event ")
    ⊕ number task.started.event
    ⊕ markup (codes ", ")
    ⊕ stamp task.started.millis
    ⊕ markup (codes "</title></rect>\n")

-- the line of the fault, if there is one
abbrev pub fault_html : List Stop → (bottom : ℕ) → Option Moment → Html
fault_html stops bottom None = nothing
fault_html stops bottom (Some fault) =
    markup (codes "<g><title>event ")
    ⊕ number fault.event
    ⊕ markup (codes "</title><path class=\"fault\" d=\"M")
    ⊕ number (place_of stops fault.millis)
    ⊕ markup (codes " 40V")
    ⊕ number bottom
    ⊕ markup (codes "\"/><text class=\"fault-word\" x=\"")
    ⊕ number (place_of stops fault.millis)
    ⊕ markup (codes "\" y=\"36\">event ")
    ⊕ number fault.event
    ⊕ markup (codes "</text></g>\n")

-- the end of the picture, with the key to its signs
abbrev pub closing_html : Html
closing_html =
    markup (codes "</svg>\n</div>\n<p class=\"soft key\"><span class=\"activity\">activity</span><span class=\"timer\">timer</span><span class=\"child\">child</span><span class=\"signal\">signal</span><span class=\"request\">request</span><span class=\"marker\">marker</span><span class=\"none\">pale: not started yet, still open, or canceled</span><span class=\"none\">red edge: failed</span><span class=\"none\">upright stroke: its cancellation was requested</span><span class=\"none\">Many things of a type share a row; 8 of 412: of 412 in all, 8 are drawn.</span><span class=\"none\">Time runs to the right, with some room for each step; hatched: longer than it is drawn.</span></p>\n</section>\n")

-- the picture of things in so many rows, out of so many things in all, and of tasks
unfoldable pub picture_html : Option Moment → List Stop → List Lane → (rows total : ℕ) → List Task → Html
picture_html fault stops lanes rows total tasks =
    opening_html (length lanes) rows total
    ⊕ each (stop_html (top_of rows) (first_time stops)) stops
    ⊕ markup (codes "<text x=\"12\" y=\"58\">workflow tasks</text>\n")
    ⊕ each (tick_html stops) tasks
    ⊕ each (lane_html fault stops) lanes
    ⊕ fault_html stops (top_of rows) fault
    ⊕ closing_html
