-- The sums of the first things, one by one.
use Rattle.std.proofs.Common.{◌≡◌, ◌<◌, ℕ, ◌+◌, List, [], ◌∷◌, ◌++◌, length, get_or, take, filter, Bool, true, false, cond, sym, ap, ◌∙◌, subst, append-nil}
use Rattle.std.specs.List.{AllZip}
use Rattle.std.proofs.lemmas.List.Elements.{filter_more}
use Rattle.std.proofs.lemmas.Slice.Zip.{all_zipped_more}
use Rattle.wh_times.specs.declared.sums.TypedThing.{TypedThing}
use Rattle.wh_times.specs.declared.sums.TypeSum.{TypeSum}
use Rattle.wh_times.specs.Sums.{IsOwnSum, is_first}

one_more : (things : List TypedThing) (i : ℕ) (typed : TypedThing) (b : Bool) → i < length things → typed ≡ get_or things i typed → is_first things typed ≡ b
    → filter (is_first things) (take (i + 1) things) ≡ filter (is_first things) (take i things) ++ cond b (typed ∷ []) []
one_more things i typed b below is first =
    filter_more (is_first things) things i typed below
    ∙ ap (λ one. filter (is_first things) (take i things) ++ cond (is_first things one) (one ∷ []) []) (sym is)
    ∙ ap (λ c. filter (is_first things) (take i things) ++ cond c (typed ∷ []) []) first

-- after one that is the first of its type
pub more_first : (things : List TypedThing) (i : ℕ) (typed : TypedThing) (sum : TypeSum) (sums : List TypeSum) → i < length things → typed ≡ get_or things i typed
    → is_first things typed ≡ true → IsOwnSum things typed sum → AllZip (IsOwnSum things) (filter (is_first things) (take i things)) sums
    → AllZip (IsOwnSum things) (filter (is_first things) (take (i + 1) things)) (sums ++ sum ∷ [])
more_first things i typed sum sums below is first own so_far =
    subst (λ firsts. AllZip (IsOwnSum things) firsts (sums ++ sum ∷ [])) (sym (one_more things i typed true below is first))
    (all_zipped_more (IsOwnSum things) (filter (is_first things) (take i things)) sums typed sum so_far own)

-- after another one
pub more_other : (things : List TypedThing) (i : ℕ) (typed : TypedThing) (sums : List TypeSum) → i < length things → typed ≡ get_or things i typed
    → is_first things typed ≡ false → AllZip (IsOwnSum things) (filter (is_first things) (take i things)) sums
    → AllZip (IsOwnSum things) (filter (is_first things) (take (i + 1) things)) sums
more_other things i typed sums below is first so_far =
    subst (λ firsts. AllZip (IsOwnSum things) firsts sums)
    (sym (one_more things i typed false below is first ∙ append-nil (filter (is_first things) (take i things)))) so_far
