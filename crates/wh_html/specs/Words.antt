-- The words of a page.
use Rattle.std.specs.Prelude.{ℕ, List, codes}
use Rattle.wh_html.specs.declared.page.Kind.{Kind}
use Rattle.wh_html.specs.declared.page.Kind.TheVariants.{Activity, Timer, Child, Signal, Request, Marker}
use Rattle.wh_html.specs.declared.page.ThingOutcome.{ThingOutcome}
use Rattle.wh_html.specs.declared.page.ThingOutcome.TheVariants.{Open, Done, Failed, Canceled}
use Rattle.wh_html.specs.declared.page.Side.{Side}
use Rattle.wh_html.specs.declared.page.Side.TheVariants.{Told, Gives, Recorded, Fault, Note}

-- the kind of a lane, in words
abbrev pub kind_word : Kind → List ℕ
kind_word Activity = codes "activity"
kind_word Timer = codes "timer"
kind_word Child = codes "child"
kind_word Signal = codes "signal"
kind_word Request = codes "request"
kind_word Marker = codes "marker"

-- the outcome of a thing, as a class of the style sheet
abbrev pub outcome_class : ThingOutcome → List ℕ
outcome_class Open = codes "open"
outcome_class Done = codes "done"
outcome_class Failed = codes "failed"
outcome_class Canceled = codes "canceled"

-- the side of a line, in a word
abbrev pub side_word : Side → List ℕ
side_word Told = codes "told"
side_word Gives = codes "gives"
side_word Recorded = codes "recorded"
side_word Fault = codes "fault"
side_word Note = codes "note"
