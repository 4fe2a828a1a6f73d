-- What is looked up by a name after it was put under a key of that name, or used; and that nothing is kept where nothing was seen.
use Rattle.std.proofs.Common.{◌≡◌, ◌⊎◌, ◌-◌, ◌<◌, ◌≤◌, inl, inr, ℕ, zero, suc, List, [], ◌∷◌, length, take, slice_get, Bool, true, false, cond, is_none, IsSomeAnd, Option, Some, None, option_map, refl, sym, ap, ◌∙◌, eqb-true, arith, String, Global, string_bytes, bytes_eq, subst}
use Rattle.std.proofs.lemmas.Bool.{false≢true}
use Rattle.std.specs.Cmp.Lexicographic.{nat_list_eq_equiv}
use Rattle.std.specs.Map.{lookup, lookup_entry, remove_entry}
use Rattle.std.specs.Option.{option_map_or}
use Rattle.std.specs.String.{string_eq, string_eq_equiv}
use Rattle.serde_json.specs.Data.{Data, Members, no_members, member}
use Rattle.wh_payload_metadata.specs.Seen.{is_nothing}
use Rattle.wh_payload_metadata.specs.declared.kept.KeptRuns.{KeptRuns}
use Rattle.wh_payload_metadata.specs.declared.seen.SeenPayloads.{SeenPayloads}
use Rattle.wh_payload_metadata.specs.Kept.{OthersStay}
use Rattle.lru.specs.LruCache.{LruCache, promoted, put_entries, displaced}
use Rattle.lru.proofs.CallerLemmas.{Contains-lookup_entry, lookup-put_entries}

pub lookup-put_name : {V : Type 0} (cache : LruCache (String Global) V) (name : List ℕ) (key : String Global) (value : V) → string_bytes key ≡ name
    → lookup (λ k. bytes_eq name (string_bytes k)) (put_entries string_eq cache key value) ≡ Some value
lookup-put_name cache name key value is =
    subst (λ n. lookup (λ k. bytes_eq n (string_bytes k)) (put_entries string_eq cache key value) ≡ Some value) is
    (lookup-put_entries string_eq cache key value string_eq_equiv)

found_value : {K V : Type 0} (test : K → Bool) (es : List (K × V)) (e : K × V) → lookup_entry test es ≡ Some e → lookup test es ≡ Some e.1
found_value test [] e found = cc
found_value test (f ∷ es) e found = (elim (test f.0) as (λ b. cond b (Some f) (lookup_entry test es) ≡ Some e → cond b (Some f.1) (lookup test es) ≡ Some e.1) [
  | true ↦ λ is. ap (option_map (λ g. g.1)) is
  | false ↦ λ is. found_value test es e is
]) found

promoted_at : {K V : Type 0} (test : K → Bool) (es : List (K × V)) (o : Option (K × V)) → lookup_entry test es ≡ o
    → lookup test (option_map_or (λ e. e ∷ remove_entry test es) o es) ≡ lookup test es
promoted_at test es None is = refl
promoted_at test es (Some e) is = rw (Contains-lookup_entry test es e is).1 (sym (found_value test es e is))

-- what is found at a key is the same once it is used
pub lookup-promoted : {K V : Type 0} (test : K → Bool) (es : List (K × V)) → lookup test (promoted test es) ≡ lookup test es
lookup-promoted test es = promoted_at test es (lookup_entry test es) refl

-- where nothing was seen there are no metadata
pub nothing_metadata : (metadata : Members) (header : Option Data) → is_nothing metadata header ≡ true → metadata ≡ no_members
nothing_metadata no_members header nothing = refl
nothing_metadata (member name d rest) None nothing = absurd (omega (arith, eqb-true _ _ nothing))
nothing_metadata (member name d rest) (Some h) nothing = absurd (false≢true nothing)

-- a key of one name has no other name
pub apart_names : (name other key : List ℕ) → bytes_eq name other ≡ false → bytes_eq name key ≡ true → bytes_eq other key ≡ false
apart_names name other key differ same = nat_list_eq_equiv.symm other key ∙ sym (nat_list_eq_equiv.congr name key other same) ∙ differ

module _ {K V : Type 0} (test other : K → Bool) where
  -- what is found by another test is the same without the entry of a key
  pub lookup-removed : ((key : K) → test key ≡ true → other key ≡ false) → (es : List (K × V)) → lookup other (remove_entry test es) ≡ lookup other es
  lookup-removed apart [] = refl
  lookup-removed apart (e ∷ es) = (elim (test e.0) as (λ b. test e.0 ≡ b → lookup other (cond b es (e ∷ remove_entry test es)) ≡ cond (other e.0) (Some e.1) (lookup other es)) [
    | true ↦ λ is. sym (ap (λ b. cond b (Some e.1) (lookup other es)) (apart e.0 is))
    | false ↦ λ is. ap (cond (other e.0) (Some e.1)) (lookup-removed apart es)
  ]) refl

  promoted_other_at : ((key : K) → test key ≡ true → other key ≡ false) → (es : List (K × V)) (o : Option (K × V)) → lookup_entry test es ≡ o
      → lookup other (option_map_or (λ e. e ∷ remove_entry test es) o es) ≡ lookup other es
  promoted_other_at apart es None is = refl
  promoted_other_at apart es (Some e) is =
      ap (λ b. cond b (Some e.1) (lookup other (remove_entry test es))) (apart e.0 (Contains-lookup_entry test es e is).1) ∙ lookup-removed apart es

  -- what is found by another test is the same once a key is used
  pub lookup-promoted_other : ((key : K) → test key ≡ true → other key ≡ false) → (es : List (K × V)) → lookup other (promoted test es) ≡ lookup other es
  lookup-promoted_other apart es = promoted_other_at apart es (lookup_entry test es) refl

absent : {K V : Type 0} (test : K → Bool) (es : List (K × V)) → lookup_entry test es ≡ None → lookup test es ≡ None
absent test [] none = refl
absent test (e ∷ es) none = (elim (test e.0) as (λ b. cond b (Some e) (lookup_entry test es) ≡ None → cond b (Some e.1) (lookup test es) ≡ None) [
  | true ↦ λ is. absurd (false≢true (ap is_none is))
  | false ↦ λ is. absent test es is
]) none

-- the last of as many entries as fit is found, or what is found is the same without it
one_less : {K V : Type 0} (test : K → Bool) (n : ℕ) (es : List (K × V)) → length es ≤ suc n
    → (lookup test (take n es) ≡ lookup test es) ⊎ IsSomeAnd (slice_get es n) (λ e. test e.0 ≡ true)
one_less test zero [] fits = inl refl
one_less test zero (e ∷ []) fits = (elim (test e.0) as (λ b. test e.0 ≡ b → (None ≡ cond b (Some e.1) None) ⊎ (test e.0 ≡ true)) [
  | true ↦ λ is. inr is
  | false ↦ λ is. inl refl
]) refl
one_less test zero (e ∷ f ∷ es) fits = absurd (omega (arith, fits))
one_less test (suc n) [] fits = inl refl
one_less test (suc n) (e ∷ es) fits = elim (one_less test n es (omega (arith, fits))) [
  | inl same ↦ inl (ap (cond (test e.0) (Some e.1)) same)
  | inr last ↦ inr last
]

module _ {V : Type 0} (cache : LruCache (String Global) V) (key : String Global) (value : V) (other : List ℕ) where
  abbrev at : String Global → Bool
  at k = bytes_eq other (string_bytes k)

  abbrev put_at : Option (String Global × V) → List (String Global × V)
  put_at found = option_map_or (λ e. (e.0, value) ∷ remove_entry (string_eq key) cache.entries) found ((key, value) ∷ take (cache.cap - 1) cache.entries)

  pushed_at : (found : Option (String Global × V)) → lookup_entry (string_eq key) cache.entries ≡ found
      → length cache.entries ≤ cache.cap → 0 < cache.cap → bytes_eq (string_bytes key) other ≡ false
      → (lookup at (put_at found) ≡ lookup at cache.entries) ⊎ IsSomeAnd (displaced string_eq cache key value) (λ run. at run.0 ≡ true)
  pushed_at None none fits some differ =
      let new : at key ≡ false = apart_names (string_bytes key) other (string_bytes key) differ (string_eq_equiv.refl key) in
      let rest = lookup at (take (cache.cap - 1) cache.entries) in
      let out = ap (λ old. option_map_or (λ v. Some (key, v)) old (slice_get cache.entries (cache.cap - 1))) (absent (string_eq key) cache.entries none) in
      elim (one_less at (cache.cap - 1) cache.entries (omega (arith, fits, some))) [
        | inl same ↦ inl (ap (λ b. cond b (Some value) rest) new ∙ same)
        | inr last ↦ inr (subst (λ run. IsSomeAnd run (λ e. at e.0 ≡ true)) (sym out) last)
      ]
  pushed_at (Some e) found fits some differ =
      let apart = λ (k : String Global) (is : string_eq key k ≡ true). apart_names (string_bytes key) other (string_bytes k) differ is in
      let old = apart e.0 (Contains-lookup_entry (string_eq key) cache.entries e found).1 in
      inl (ap (λ b. cond b (Some value) (lookup at (remove_entry (string_eq key) cache.entries))) old ∙ lookup-removed (string_eq key) at apart cache.entries)

  -- what is found at another name stays when a value is put under a key, or is what is displaced
  pub lookup-pushed : length cache.entries ≤ cache.cap → 0 < cache.cap → bytes_eq (string_bytes key) other ≡ false
      → (lookup at (put_entries string_eq cache key value) ≡ lookup at cache.entries)
      ⊎ IsSomeAnd (displaced string_eq cache key value) (λ run. at run.0 ≡ true)
  lookup-pushed = pushed_at (lookup_entry (string_eq key) cache.entries) refl

-- what stays when a name is forgotten, and then something is kept under it
pub others_stay_after : (before middle after : KeptRuns) (name : List ℕ) (last : Option (String Global × SeenPayloads))
    → OthersStay before middle name None → OthersStay middle after name last → OthersStay before after name last
others_stay_after before middle after name last first second other differ = elim (first other differ) [
  | inl same ↦ elim (second other differ) [
    | inl stays ↦ inl (stays ∙ same)
    | inr goes ↦ inr goes
  ]
  | inr nothing ↦ absurd nothing
]
