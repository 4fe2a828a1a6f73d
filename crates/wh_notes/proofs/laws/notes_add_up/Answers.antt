use Rattle.wh_notes.proofs.Adding.{answers_add_up, answers_count_once, counts_are_of_notes, polls_add_up}
use Rattle.wh_notes.proofs.laws.notes_add_up.Goals as goal

pub returns : goal.returns
returns c = record {
  once = answers_count_once;
  counts = counts_are_of_notes;
  answers = answers_add_up;
  polls = polls_add_up;
}
