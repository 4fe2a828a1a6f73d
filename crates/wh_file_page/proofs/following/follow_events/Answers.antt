use Rattle.std.proofs.Common.{ap, sym, ◌∙◌}
use Rattle.wh_file_page.proofs.Followed.{another_type, copy_read, taken}
use Rattle.wh_file_page.proofs.following.follow_events.Goals as goal
use Rattle.wh_table.specs.Program.{is_table}

-- a type that is not that of tables
pub returns-then-not-handles : goal.returns-then-not-handles
returns-then-not-handles c bytes is =
    another_type bytes c.args.events.now is
    (ap is_table (sym c.workflow_of.ensures) ∙ (sym c.handles.ensures ∙ c.if-not-handles.true))

-- the tasks of a copy are those of the file
pub returns : goal.returns
returns c bytes is =
    let copy = copy_read bytes c.args.events.now c.in_ok-copy.copy is (c.in_ok-copy.ensures.items_if_clones_equal (λ event own same. same)) in
    taken bytes c.in_ok-explanation.explanation.tasks c.get.result.now c.way_over.result
    (c.in_ok-explanation.ensures.explained bytes copy).explained c.get.ensures c.way_over.ensures
