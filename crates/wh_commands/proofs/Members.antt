-- The value under a name of an object after values were added, as far as they are present.
use Rattle.std.proofs.Common.{◌≡◌, ℕ, List, [], ◌∷◌, Bool, true, false, cond, Option, Some, None, option_map, refl, sym, ap, ◌∙◌}
use Rattle.std.proofs.lemmas.Bool.{true≢false}
use Rattle.std.proofs.lemmas.Slice.Eq.{bytes_eq-Decides}
use Rattle.std.specs.Str.{bytes_eq}
use Rattle.serde_json.specs.Data.{Data, Members, put}
use Rattle.serde_json.specs.Find.{get_member}
use Rattle.serde_json.proofs.Views.{get_member-put, get_member-put_other}
use Rattle.wh_commands.specs.Objects.{put_given, with_member, value_or, found_at}

one_at : (name other : List ℕ) (value : Option Data) (members : Members)
    → get_member name (with_member other value members)
    ≡ cond (bytes_eq name other) (value_or value (get_member name members)) (get_member name members)
one_at name other None members = by (bytes_eq name other)
  where
    by : (b : Bool) → get_member name members ≡ cond b (get_member name members) (get_member name members)
    by true = refl
    by false = refl
one_at name other (Some d) members = by (bytes_eq name other) refl
  where
    by : (b : Bool) → bytes_eq name other ≡ b → get_member name (put other d members) ≡ cond b (Some d) (get_member name members)
    by true e =
        let same = (bytes_eq-Decides name other).0 e in
        ap (λ n. get_member name (put n d members)) (sym same) ∙ get_member-put name d members
    by false e =
        get_member-put_other name other d members (λ same. true≢false (sym ((bytes_eq-Decides name other).1 same) ∙ e))

pub given_at : (name : List ℕ) (values : List (List ℕ × Option Data)) (members : Members)
    → get_member name (put_given values members) ≡ found_at name values (get_member name members)
given_at name [] members = refl
given_at name (v ∷ vs) members =
    given_at name vs (with_member v.0 v.1 members) ∙ ap (found_at name vs) (one_at name v.0 v.1 members)

pub or_none : (value : Option Data) → value_or value None ≡ value
or_none None = refl
or_none (Some d) = refl

-- a value that was put at a name where nothing stood is there, or nothing is
pub asked_at : (name : List ℕ) (values : List (List ℕ × Option Data)) (members : Members) (value : Option Data)
    → found_at name values (get_member name members) ≡ value_or value None → get_member name (put_given values members) ≡ value
asked_at name values members value is = given_at name values members ∙ is ∙ or_none value

pub same_three : {A B C D : Type 0} (f : A → B → C → D) (a x : A) (b y : B) (c z : C) → a ≡ x → b ≡ y → c ≡ z → f a b c ≡ f x y z
same_three f a x b y c z p q r = cc

pub same_two : {A B D : Type 0} (f : A → B → D) (a x : A) (b y : B) → a ≡ x → b ≡ y → f a b ≡ f x y
same_two f a x b y p q = cc
