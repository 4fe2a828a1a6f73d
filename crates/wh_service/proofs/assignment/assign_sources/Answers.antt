use Rattle.std.proofs.Common.{◌≡◌, ◌∙◌, ap, length, map, rules}
use Rattle.wh_host.proofs.Marks.{written}
use Rattle.wh_recorded.specs.Rounds.{opening_stage}
use Rattle.wh_service.specs.Assignment.{histories_seen}
use Rattle.wh_service.specs.Readings.{reading}
use Rattle.wh_service.proofs.Assigned.{sources_are}
use Rattle.wh_service.proofs.assignment.assign_sources.Goals as goal

-- each source is over what its worker was assigned
pub returns-clause-histories : goal.returns-clause-histories
returns-clause-histories c =
    let lists = c.in_ok-lists.lists in
    let long : length c.assign_files.new.lists ≡ lists.len = search rules in
    let old = c.as_mut_slice.result.now in
    let new = c.assign_files.new.lists in
    let made = c.in_ok-sources.ensures ∙ ap (map (λ list. opening_stage (histories_seen list))) (written lists.len c.assign_files.new.lists lists.items long) in
    sources_are old new c.in_ok-sources.sources.items c.args.workers (map reading c.args.files.items)
    (search rules) (search rules) (search rules) made
