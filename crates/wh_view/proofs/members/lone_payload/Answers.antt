use Rattle.std.proofs.Common.{◌≡◌, [], ◌∷◌, ◌++◌, ap, ◌∙◌}
use Rattle.wh_view.specs.Each.{none, more}
use Rattle.wh_view.proofs.members.lone_payload.Goals as goal

pub returns : goal.returns
returns c =
    rw (c.in_ok-push.ensures.items, c.new-texts.ensures.items) (more 0 _ _ [] [] c.in_ok-text.ensures (none 1))
