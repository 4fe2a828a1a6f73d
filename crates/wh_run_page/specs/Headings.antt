-- The headings of the workflow tasks of a page.
use Rattle.std.specs.Prelude.{ℕ, ◌-◌, nat_lt, Bool, true, false, if◌then◌else◌, Option, Some, None, List, [], ◌∷◌, ◌++◌, codes, decimal, count_by}
use Rattle.wh_events.specs.declared.kind.EventKind.{EventKind}
use Rattle.wh_events.specs.Cuts.{is_task_started_kind}
use Rattle.wh_view.specs.declared.parts.EventUse.{EventUse}
use Rattle.wh_view.specs.declared.parts.EventUse.TheVariants as words
use Rattle.wh_view.specs.declared.view.View.{View}
use Rattle.wh_view.specs.declared.view.ViewedEvent.{ViewedEvent}
use Rattle.wh_view.specs.Parts.{word_of}
use Rattle.wh_run_page.specs.declared.headings.Sought.{Sought}
use Rattle.wh_run_page.specs.declared.headings.Sought.TheVariants.{Start, Told, Given}
use Rattle.wh_run_page.specs.EventWords.{title_text}

-- a workflow task starts with an event of the kind
abbrev pub starting_kind : Option EventKind → Bool
starting_kind None = false
starting_kind (Some kind) = is_task_started_kind kind

-- an event of the word becomes an activation job, or records a command
abbrev pub is_told : EventUse → Bool
is_told words.Told = true
is_told _ = false

abbrev pub is_given : EventUse → Bool
is_given words.Gives = true
is_given _ = false

-- an event is one that is looked for
abbrev pub is_sought : Sought → ViewedEvent → Bool
is_sought Start event = starting_kind event.read.kind
is_sought Told event = is_told (word_of event)
is_sought Given event = is_given (word_of event)

-- the first event that is looked for
unfoldable pub first_like : Sought → List ViewedEvent → Option ViewedEvent
first_like sought [] = None
first_like sought (event ∷ events) = if is_sought sought event then Some event else first_like sought events

-- how many events are looked for
abbrev pub count_like : Sought → List ViewedEvent → ℕ
count_like sought events = count_by (is_sought sought) events

-- how many more there are than one, if there are more
abbrev pub more_text : ℕ → List ℕ
more_text count = if nat_lt 1 count then codes " and " ++ (decimal (count - 1) ++ codes " more") else []

-- a label, and the first of so many events by its type and what it is about; nothing if there is none
abbrev pub part_text : View → List ℕ → ℕ → Option ViewedEvent → List ℕ
part_text view label count None = []
part_text view label count (Some event) = label ++ (title_text view event ++ more_text count)

-- the heading of a task: its number, its activation jobs, and its commands
unfoldable pub heading : View → ℕ → List ViewedEvent → List ℕ
heading view number events =
    codes "Task " ++ (decimal number
    ++ (part_text view (codes ": told ") (count_like Told events) (first_like Told events)
    ++ part_text view (codes ", gives ") (count_like Given events) (first_like Given events)))
