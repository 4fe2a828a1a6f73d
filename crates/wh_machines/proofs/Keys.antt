-- One entry more, one less, and one changed, in a table of entries that are found by their numbers.
use Rattle.std.proofs.Common.{◌≡◌, ◌≢◌, ℕ, Bool, true, false, cond, eqb, Option, Some, None, length, option_map, option_and_then, refl, sym, ap, ◌∙◌, inl, inr, ◌⊎◌, ◌<◌, arith}
use Rattle.std.proofs.lemmas.Bool.{eqb-true, eqb-false, eq-eqb, ne_eqb, cases_eq}
use Rattle.std.proofs.lemmas.Bool.Decides.{nat_tests}
use Rattle.std.proofs.lemmas.List.{get_or-set_same, get_or-set_other, get_or_past}
use Rattle.std.specs.Ordering.{nat_cmp}
use Rattle.std.specs.BTreeMap.{is_at}
use Rattle.slab.specs.Slab as slab
use Rattle.wh_machines.specs.declared.opening.Opening.{Opening}
use Rattle.wh_events.specs.declared.kind.Effect.{Effect}
use Rattle.wh_events.specs.declared.kind.Effect.TheVariants.{Starts, Cancels, Closes}
use Rattle.wh_machines.specs.Private.Changes.{with_effect}
use Rattle.wh_machines.specs.Private.Tables.{IsKeyed, has_number}

-- a test by `cmp` is one by `==`
pub is_at-eqb : (a b : ℕ) → is_at (nat_cmp a) b ≡ eqb a b
is_at-eqb a b = grind (arith, nat_tests)

none_lacks : (number : ℕ) (o : Option Opening) → o ≡ None → has_number number o ≡ true → ⊥
none_lacks number None h k = cc
none_lacks number (Some opening) h k = cc

number_is : (number : ℕ) (o : Option Opening) (opening : Opening) → o ≡ Some opening → has_number number o ≡ true → number ≡ opening.number
number_is number o opening at h = eqb-true number opening.number (rw at at h)

same_number : (a b : ℕ) (o : Option Opening) → has_number a o ≡ true → has_number b o ≡ true → a ≡ b
same_number a b None h k = cc
same_number a b (Some opening) h k = eqb-true a opening.number h ∙ sym (eqb-true b opening.number k)

module _ (keys : ℕ → Option ℕ) (entries : ℕ → Option Opening) (sound : IsKeyed keys entries) where
  pub key_unknown : (number : ℕ) → option_and_then entries (keys number) ≡ None → keys number ≡ None
  key_unknown number unknown = by (keys number) refl unknown
    where
      by : (o : Option ℕ) → keys number ≡ o → option_and_then entries o ≡ None → o ≡ None
      by None e h = refl
      by (Some key) e h = absurd (none_lacks number (entries key) h (sound.keyed number key e))

  -- a key whose entry is another's leaves what is found
  same_found : (new_entries : ℕ → Option Opening) (key q : ℕ) → ((other : ℕ) → other ≢ key → new_entries other ≡ entries other) → (keys q ≡ Some key → ⊥) → option_and_then new_entries (keys q) ≡ option_and_then entries (keys q)
  same_found new_entries key q others apart = by (keys q) refl
    where
      by : (o : Option ℕ) → keys q ≡ o → option_and_then new_entries o ≡ option_and_then entries o
      by None e = refl
      by (Some k) e = others k (λ same. apart (e ∙ ap Some same))

  module _ (new_keys : ℕ → Option ℕ) (new_entries : ℕ → Option Opening) (key : ℕ) (opening : Opening) (unknown : option_and_then entries (keys opening.number) ≡ None) (vacant : entries key ≡ None)
      (keys_are : (q : ℕ) → new_keys q ≡ cond (eqb opening.number q) (Some key) (keys q)) (changed : new_entries key ≡ Some opening) (others : (other : ℕ) → other ≢ key → new_entries other ≡ entries other) where
    unused : (q : ℕ) → keys q ≡ Some key → ⊥
    unused q e = none_lacks q (entries key) vacant (sound.keyed q key e)

    insert_keyed : (q k : ℕ) (b : Bool) → eqb opening.number q ≡ b → cond b (Some key) (keys q) ≡ Some k → has_number q (new_entries k) ≡ true
    insert_keyed q k true e h =
        let same : key ≡ k = cc in
        rw (← same, changed) (eq-eqb q opening.number (sym (eqb-true opening.number q e)))
    insert_keyed q k false e h =
        rw (others k (λ same. unused q (h ∙ ap Some same))) (sound.keyed q k h)

    insert_entered : (k : ℕ) (o : Opening) → new_entries k ≡ Some o → (k ≡ key) ⊎ (k ≡ key → ⊥) → new_keys o.number ≡ Some k
    insert_entered k o at (inl same) =
        let there : new_entries key ≡ Some o = rw same at at in
        let is : opening ≡ o = cc in
        keys_are o.number ∙ ap (λ b. cond b (Some key) (keys o.number)) (eq-eqb opening.number o.number (ap (λ x. x.number) is)) ∙ ap Some (sym same)
    insert_entered k o at (inr apart) =
        let was = sound.entered k o (sym (others k apart) ∙ at) in
        let nothing = key_unknown opening.number unknown in
        let differ : opening.number ≡ o.number → ⊥ = λ e. (let here = rw (← e) at was in cc) in
        keys_are o.number ∙ ap (λ b. cond b (Some key) (keys o.number)) (ne_eqb opening.number o.number differ) ∙ was

    pub insert_sound : IsKeyed new_keys new_entries
    insert_sound = record {
      keyed = λ q k at. insert_keyed q k (eqb opening.number q) refl (sym (keys_are q) ∙ at);
      entered = λ k o at. insert_entered k o at (cases_eq k key);
    }

    pub insert_found : (q : ℕ) → option_and_then new_entries (new_keys q) ≡ cond (eqb opening.number q) (Some opening) (option_and_then entries (keys q))
    insert_found q = ap (option_and_then new_entries) (keys_are q) ∙ by (eqb opening.number q)
      where
        by : (b : Bool) → option_and_then new_entries (cond b (Some key) (keys q)) ≡ cond b (Some opening) (option_and_then entries (keys q))
        by true = changed
        by false = same_found new_entries key q others (unused q)

  module _ (new_keys : ℕ → Option ℕ) (new_entries : ℕ → Option Opening) (number key : ℕ) (there : keys number ≡ Some key)
      (keys_are : (q : ℕ) → new_keys q ≡ cond (eqb number q) None (keys q)) (changed : new_entries key ≡ None) (others : (other : ℕ) → other ≢ key → new_entries other ≡ entries other) where
    apart : (q : ℕ) → eqb number q ≡ false → keys q ≡ Some key → ⊥
    apart q e h = eqb-false number q e (same_number number q (entries key) (sound.keyed number key there) (sound.keyed q key h))

    remove_keyed : (q k : ℕ) (b : Bool) → eqb number q ≡ b → cond b None (keys q) ≡ Some k → has_number q (new_entries k) ≡ true
    remove_keyed q k true e h = cc
    remove_keyed q k false e h = rw (others k (λ same. apart q e (h ∙ ap Some same))) (sound.keyed q k h)

    remove_entered : (k : ℕ) (o : Opening) → new_entries k ≡ Some o → (k ≡ key) ⊎ (k ≡ key → ⊥) → new_keys o.number ≡ Some k
    remove_entered k o at (inl same) = let there : new_entries key ≡ Some o = rw same at at in cc
    remove_entered k o at (inr differ) =
        let was = sound.entered k o (sym (others k differ) ∙ at) in
        let elsewhere : number ≡ o.number → ⊥ = λ e. differ (let here = rw (← e) at was in cc) in
        keys_are o.number ∙ ap (λ b. cond b None (keys o.number)) (ne_eqb number o.number elsewhere) ∙ was

    pub remove_sound : IsKeyed new_keys new_entries
    remove_sound = record {
      keyed = λ q k at. remove_keyed q k (eqb number q) refl (sym (keys_are q) ∙ at);
      entered = λ k o at. remove_entered k o at (cases_eq k key);
    }

    pub remove_found : (q : ℕ) → option_and_then new_entries (new_keys q) ≡ cond (eqb number q) None (option_and_then entries (keys q))
    remove_found q = ap (option_and_then new_entries) (keys_are q) ∙ by (eqb number q) refl
      where
        by : (b : Bool) → eqb number q ≡ b → option_and_then new_entries (cond b None (keys q)) ≡ cond b None (option_and_then entries (keys q))
        by true e = refl
        by false e = same_found new_entries key q others (apart q e)

  module _ (new_entries : ℕ → Option Opening) (number key : ℕ) (old new : Opening) (there : keys number ≡ Some key) (was : entries key ≡ Some old) (numbered : new.number ≡ old.number)
      (changed : new_entries key ≡ Some new) (others : (other : ℕ) → other ≢ key → new_entries other ≡ entries other) where
    change_keyed : (q k : ℕ) → keys q ≡ Some k → (k ≡ key) ⊎ (k ≡ key → ⊥) → has_number q (new_entries k) ≡ true
    change_keyed q k at (inl same) =
        let before : has_number q (entries key) ≡ true = rw same at (sound.keyed q k at) in
        let had = number_is q (entries key) old was before in
        rw (same, changed) (eq-eqb q new.number (had ∙ sym numbered))
    change_keyed q k at (inr differ) = rw (others k differ) (sound.keyed q k at)

    change_entered : (k : ℕ) (o : Opening) → new_entries k ≡ Some o → (k ≡ key) ⊎ (k ≡ key → ⊥) → keys o.number ≡ Some k
    change_entered k o at (inl same) =
        let here : new_entries key ≡ Some o = rw same at at in
        let is : new ≡ o = cc in
        ap keys (ap (λ x. x.number) (sym is) ∙ numbered) ∙ sound.entered key old was ∙ ap Some (sym same)
    change_entered k o at (inr differ) = sound.entered k o (sym (others k differ) ∙ at)

    pub change_sound : IsKeyed keys new_entries
    change_sound = record {
      keyed = λ q k at. change_keyed q k at (cases_eq k key);
      entered = λ k o at. change_entered k o at (cases_eq k key);
    }

    pub change_found : (mark : Opening → Opening) → new ≡ mark old → (q : ℕ) → option_and_then new_entries (keys q) ≡ cond (eqb q number) (option_map mark (option_and_then entries (keys q))) (option_and_then entries (keys q))
    change_found mark is q = by (eqb q number) refl
      where
        by : (b : Bool) → eqb q number ≡ b → option_and_then new_entries (keys q) ≡ cond b (option_map mark (option_and_then entries (keys q))) (option_and_then entries (keys q))
        by true e =
            let at = ap keys (eqb-true q number e) ∙ there in
            rw at (changed ∙ ap Some is ∙ sym (ap (option_map mark) was))
        by false e =
            same_found new_entries key q others (λ h. eqb-false q number e (same_number q number (entries key) (sound.keyed q key h) (sound.keyed number key there)))

-- a value written over a value of a slab
module _ (s : slab.Slab Opening) (key : ℕ) (old new : Opening) (was : slab.get s key ≡ Some old) where
  within : key < length s.slots
  within = grind (arith, get_or_past)

  pub value_written : slab.get (slab.with_value s key new) key ≡ Some new
  value_written = get_or-set_same s.slots key (Some new) None within

  pub others_kept : (other : ℕ) → other ≢ key → slab.get (slab.with_value s key new) other ≡ slab.get s other
  others_kept other apart = get_or-set_other s.slots key other (Some new) None apart

pub marked-number : (effect : Effect) (by : ℕ) (opening : Opening) → (with_effect effect by opening).number ≡ opening.number
marked-number Starts by opening = refl
marked-number Cancels by opening = refl
marked-number Closes by opening = refl
