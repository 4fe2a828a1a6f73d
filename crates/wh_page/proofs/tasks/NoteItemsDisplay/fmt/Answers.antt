use Rattle.std.proofs.Common.{rules}
use Rattle.std.proofs.Output.{has_written_append, has_written_of_eq}
use Rattle.wh_page.specs.TaskTexts.{note_html}
use Rattle.wh_html.proofs.Each.{each_more}
use Rattle.wh_page.proofs.tasks.NoteItemsDisplay.fmt.Goals as goal

pub loop-note-preserved : goal.loop-note-preserved
loop-note-preserved g c = λ plain.
    has_written_of_eq _ _ _ _ _
    (each_more note_html c.args.self.now.0.now c.loop-note.note-index c.note-item.result c.loop-note-test.true c.note-item.is)
    (has_written_append _ _ _ _ _ _ (c.loop-note.invariant plain) (search rules))
