-- What becomes of a completion, by the queries of its task.
use Rattle.std.proofs.Common.{◌≡◌, List, [], ◌∷◌, length, refl, arith, String, Global}
use Rattle.serde_json.specs.View.{members_view}
use Rattle.serde_json.specs.declared.value.Value.{Value}
use Rattle.wh_live.specs.Private.Answering.{ByQueries}

-- without queries it is the one alone
pub by_none : (queries : List (String Global × Value)) (alone queried : Type 0) → length queries ≡ 0 → alone
    → ByQueries (members_view queries) alone queried
by_none [] alone queried none is = is
by_none (query ∷ queries) alone queried none is = absurd (omega (arith, none))

-- with queries it is the one with their results
pub by_some : (queries : List (String Global × Value)) (alone queried : Type 0) → (length queries ≡ 0 → ⊥) → queried
    → ByQueries (members_view queries) alone queried
by_some [] alone queried some is = absurd (some refl)
by_some (query ∷ queries) alone queried some is = is
