use Rattle.std.proofs.Common.{◌≡◌, ◌-◌, None, length, drop, ap, sym, ◌∙◌, length-drop, arith}
use Rattle.std.proofs.lemmas.List.{take_all, drop_all}
use Rattle.wh_events.specs.Cuts.{cuts}
use Rattle.wh_split.specs.Splits.{first_of}
use Rattle.wh_split.proofs.Numbered.{next_cut-drop}
use Rattle.wh_split.proofs.split.next_cut.Goals as goal

pub returns-then-from-events : goal.returns-then-from-events
returns-then-from-events c =
    let events = c.args.events.now in
    let from = c.args.from in
    let none : None ≡ first_of (cuts (drop from events)) = sym (ap (λ list. first_of (cuts list)) (drop_all from events (omega arith))) in
    record { next = none; after = λ numbered. none ∙ sym (next_cut-drop from events numbered) }

pub returns : goal.returns
returns c =
    let events = c.args.events.now in
    let from = c.args.from in
    let size = length-drop from events in
    let first = c.first_cut.ensures ∙ ap (λ list. first_of (cuts list)) (take_all (length events - from) (drop from events) (omega arith)) in
    record { next = first; after = λ numbered. first ∙ sym (next_cut-drop from events numbered) }
