use Rattle.std.proofs.Common.{ℕ, List, ◌++◌}
use Rattle.serde_json.specs.View.{members_view}
use Rattle.wh_view.specs.Details.{AreMembers}
use Rattle.wh_view.proofs.members.member_texts.Given as goal

-- with the texts of the members that are left, those so far are the texts of all
abbrev pub invariant-loop-name : goal.invariant-loop-name
invariant-loop-name l =
    (rest : List (List ℕ)) → AreMembers (members_view l.name-iterator) rest → AreMembers (members_view l.members.entries) (l.texts.items ++ rest)
