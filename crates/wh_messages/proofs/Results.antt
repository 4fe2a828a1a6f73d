-- The results of queries are written if there are any.
use Rattle.std.proofs.Common.{◌≡◌, List, [], ◌∷◌, length, codes, refl, String, Global}
use Rattle.serde_json.specs.Data.{Members, object, put}
use Rattle.serde_json.specs.View.{members_view}
use Rattle.serde_json.specs.declared.value.Value.{Value}
use Rattle.wh_messages.specs.Requests.{with_results}

pub with_some : (es : List (String Global × Value)) (others : Members) → (length es ≡ 0 → ⊥)
    → put (codes "queryResults") (object (members_view es)) others ≡ with_results (members_view es) others
with_some [] others some = absurd (some refl)
with_some (e ∷ es) others some = refl
