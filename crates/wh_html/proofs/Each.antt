-- The bytes of templates one after another.
use Rattle.std.proofs.Common.{◌≡◌, ◌∙◌, ◌<◌, ◌+◌, ℕ, List, [], ◌∷◌, ◌++◌, map, take, get_or, length, sym, refl, ap, append_assoc}
use Rattle.std.proofs.lemmas.List.{append-nil, take_more}
use Rattle.std.specs.List.{flat_map}
use Rattle.std.specs.Str.{chars}
use Rattle.wh_html.specs.Escaping.{escaped_char, escaped_first}
use Rattle.wh_html.specs.Html.{Html, bytes, each}

module _ {A : Type 0} where
  -- the bytes of the templates of items are those of each, one after another
  pub bytes-each : (f : A → Html) (xs : List A) → bytes (each f xs) ≡ flat_map (λ x. bytes (f x)) xs
  bytes-each f [] = refl
  bytes-each f (x ∷ xs) = ap (λ rest. bytes (f x) ++ rest) (bytes-each f xs)

  -- one more item
  pub bytes-each-more : (f : A → Html) (xs : List A) (x : A) → bytes (each f (xs ++ x ∷ [])) ≡ bytes (each f xs) ++ bytes (f x)
  bytes-each-more f [] x = append-nil (bytes (f x))
  bytes-each-more f (y ∷ xs) x =
      ap (λ rest. bytes (f y) ++ rest) (bytes-each-more f xs x) ∙ sym (append_assoc (bytes (f y)) (bytes (each f xs)) (bytes (f x)))

same : (xs : List ℕ) → map (λ x. x) xs ≡ xs
same [] = refl
same (x ∷ xs) = ap (λ ys. x ∷ ys) (same xs)

-- the characters that were taken, each as it is written
pub whole : (xs : List ℕ) (most : ℕ) (text : List ℕ) → map (λ x. x) xs ≡ take most (chars text) → flat_map escaped_char xs ≡ escaped_first most text
unfolding escaped_first
whole xs most text e = ap (flat_map escaped_char) (sym (same xs) ∙ e)

module _ {A : Type 0} where
  -- the bytes so far and one more item
  pub each_more : (f : A → Html) (xs : List A) (i : ℕ) (x : A) → i < length xs → x ≡ get_or xs i x → bytes (each f (take i xs)) ++ bytes (f x) ≡ bytes (each f (take (i + 1) xs))
  each_more f xs i x h e =
      let next : take (i + 1) xs ≡ take i xs ++ x ∷ [] = take_more xs i x h ∙ ap (λ y. take i xs ++ y ∷ []) (sym e) in
      sym (ap (λ ys. bytes (each f ys)) next ∙ bytes-each-more f (take i xs) x)

  -- the same, where the item is read with a default
  pub each_more_or : (f : A → Html) (xs : List A) (i : ℕ) (d : A) → i < length xs → bytes (each f (take i xs)) ++ bytes (f (get_or xs i d)) ≡ bytes (each f (take (i + 1) xs))
  each_more_or f xs i d h = sym (ap (λ ys. bytes (each f ys)) (take_more xs i d h) ∙ bytes-each-more f (take i xs) (get_or xs i d))
