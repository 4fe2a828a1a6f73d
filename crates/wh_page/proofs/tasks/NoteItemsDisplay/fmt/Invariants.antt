use Rattle.std.proofs.Common.{take}
use Rattle.std.specs.Fmt.{HasWritten, IsPlainFormatter}
use Rattle.wh_html.specs.Html.{bytes, each}
use Rattle.wh_page.specs.TaskTexts.{note_html}
use Rattle.wh_page.proofs.tasks.NoteItemsDisplay.fmt.Given as goal

-- the notes so far have been written
abbrev pub invariant-loop-note : goal.invariant-loop-note
invariant-loop-note g l =
    IsPlainFormatter l.initial.f → HasWritten g.W.Write.write_str_gives l.initial.f (bytes (each (note_html) (take l.note-index l.note-items))) l.f
