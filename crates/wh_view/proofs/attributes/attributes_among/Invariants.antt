use Rattle.std.proofs.Common.{◌≡◌}
use Rattle.serde_json.specs.View.{members_view}
use Rattle.wh_view.specs.Attributes.{attributes_among}
use Rattle.wh_view.proofs.attributes.attributes_among.Given as goal

-- none of the members passed so far holds attributes
abbrev pub invariant-loop-name : goal.invariant-loop-name
invariant-loop-name l = attributes_among (members_view l.name-iterator) ≡ attributes_among (members_view l.members.entries)
