-- Lists of runs: one removed, one put in front, some dropped from the back.
use Rattle.std.proofs.Common.{◌≡◌, ℕ, suc, ◌+◌, ◌-◌, ◌<◌, ◌≤◌, Bool, true, false, cond, List, [], ◌∷◌, ◌++◌, length, take, reverse, Option, Some, None, refl, sym, ap, ◌∙◌, subst, arith, append_assoc, length-append, inl, inr}
use Rattle.std.specs.Prelude.{is_some, map, slice_get}
use Rattle.std.proofs.lemmas.List.{map-append, reverse-append, take_all, length-reverse, length-map}
use Rattle.std.proofs.lemmas.Option.{same_Some, none-some, slice_get_cases}
use Rattle.std.specs.Map.{lookup, lookup_entry, remove_entry}
use Rattle.std.specs.List.{IsDistinct, AllByRecursion}
use Rattle.std.specs.Map.{keys_of}
use Rattle.std.specs.Option.{option_map_or}
use Rattle.lru.specs.LruCache.{LruCache, put_entries}
use Rattle.wh_events.specs.declared.key.RunKey.{RunKey}
use Rattle.wh_events.specs.Keys.{same_key, same_key-true}
use Rattle.wh_workflow.specs.Law.{Program}
use Rattle.wh_replay.specs.Runs.{HistoryView, Held}
use Rattle.wh_host.specs.Cache.{Entry, cache_view, entry_of, held_by, AllReplayed, IsSound, with_first}
use Rattle.wh_host.specs.Weights.{weight_of}

module _ (t : RunKey → Bool) where
  pub remove_entry-none : (es : List Entry) → lookup_entry t es ≡ None → remove_entry t es ≡ es
  remove_entry-none [] e = refl
  remove_entry-none (x ∷ es) e = (elim (t x.0) as (λ b. t x.0 ≡ b → remove_entry t (x ∷ es) ≡ x ∷ es) [
    | true ↦ λ h. let a = rw h at e in cc
    | false ↦ λ h. rw h (ap (λ l. x ∷ l) (remove_entry-none es (rw h at e)))
  ]) refl

  pub held_by-remove : (es : List Entry) (e : Entry) → lookup_entry t es ≡ Some e → held_by (remove_entry t es) + weight_of e.1.events ≡ held_by es
  held_by-remove [] e h = cc
  held_by-remove (x ∷ es) e h = (elim (t x.0) as (λ b. t x.0 ≡ b → held_by (remove_entry t (x ∷ es)) + weight_of e.1.events ≡ held_by (x ∷ es)) [
    | true ↦ λ at. let a = rw at at h in let same : x ≡ e = cc in rw at (let n = ap (λ (r : Entry). weight_of r.1.events) same in omega (arith, n))
    | false ↦ λ at. rw at (let rest = held_by-remove es e (rw at at h) in omega (arith, rest))
  ]) refl

  pub held_by-remove_le : (es : List Entry) → held_by (remove_entry t es) ≤ held_by es
  held_by-remove_le [] = omega arith
  held_by-remove_le (x ∷ es) = elim (t x.0) as (λ b. held_by (cond b es (x ∷ remove_entry t es)) ≤ held_by (x ∷ es)) [
    | true ↦ omega arith
    | false ↦ let rest = held_by-remove_le es in omega (arith, rest)
  ]

  pub length-remove : (es : List Entry) (e : Entry) → lookup_entry t es ≡ Some e → length (remove_entry t es) + 1 ≡ length es
  length-remove [] e h = cc
  length-remove (x ∷ es) e h = (elim (t x.0) as (λ b. t x.0 ≡ b → length (remove_entry t (x ∷ es)) + 1 ≡ length (x ∷ es)) [
    | true ↦ λ at. rw at (omega arith)
    | false ↦ λ at. rw at (let rest = length-remove es e (rw at at h) in omega (arith, rest))
  ]) refl

  pub length-remove_le : (es : List Entry) → length (remove_entry t es) ≤ length es
  length-remove_le [] = omega arith
  length-remove_le (x ∷ es) = elim (t x.0) as (λ b. length (cond b es (x ∷ remove_entry t es)) ≤ length (x ∷ es)) [
    | true ↦ omega arith
    | false ↦ let rest = length-remove_le es in omega (arith, rest)
  ]

  pub AllReplayed-remove : {S : Type 0} (program : Program S) (es : List Entry) → AllReplayed program es → AllReplayed program (remove_entry t es)
  AllReplayed-remove program [] all = all
  AllReplayed-remove program (x ∷ es) all = elim (t x.0) as (λ b. AllReplayed program (cond b es (x ∷ remove_entry t es))) [
    | true ↦ all.1
    | false ↦ (all.0, AllReplayed-remove program es all.1)
  ]

  -- both look-ups find the same run
  pub is_some-lookup : (es : List Entry) → is_some (lookup_entry t es) ≡ is_some (lookup t es)
  is_some-lookup [] = refl
  is_some-lookup (x ∷ es) = elim (t x.0) as (λ b. is_some (cond b (Some x) (lookup_entry t es)) ≡ is_some (cond b (Some x.1) (lookup t es))) [
    | true ↦ refl
    | false ↦ is_some-lookup es
  ]

  pub lookup-entry : (es : List Entry) (e : Entry) → lookup_entry t es ≡ Some e → (lookup t es ≡ Some e.1) × (t e.0 ≡ true)
  lookup-entry [] e h = cc
  lookup-entry (x ∷ es) e h = (elim (t x.0) as (λ b. t x.0 ≡ b → (lookup t (x ∷ es) ≡ Some e.1) × (t e.0 ≡ true)) [
    | true ↦ λ at. let a = rw at at h in let same : x ≡ e = cc in rw at (ap (λ (r : Entry). Some r.1) same, subst (λ (r : Entry). t r.0 ≡ true) same at)
    | false ↦ λ at. rw at (lookup-entry es e (rw at at h))
  ]) refl

  pub lookup-none : (es : List Entry) → lookup_entry t es ≡ None → lookup t es ≡ None
  lookup-none [] h = refl
  lookup-none (x ∷ es) h = (elim (t x.0) as (λ b. t x.0 ≡ b → lookup t (x ∷ es) ≡ None) [
    | true ↦ λ at. let a = rw at at h in cc
    | false ↦ λ at. rw at (lookup-none es (rw at at h))
  ]) refl

  pub lookup-some : (es : List Entry) (held : HistoryView) → lookup t es ≡ Some held → (k : RunKey) × (lookup_entry t es ≡ Some (k, held)) × (t k ≡ true)
  lookup-some [] held h = cc
  lookup-some (x ∷ es) held h = (elim (t x.0) as (λ b. t x.0 ≡ b → (k : RunKey) × (lookup_entry t (x ∷ es) ≡ Some (k, held)) × (t k ≡ true)) [
    | true ↦ λ at. let a = rw at at h in let same : x.1 ≡ held = cc in (x.0, rw at (ap (λ (l : HistoryView). Some (x.0, l)) same), at)
    | false ↦ λ at. rw at (lookup-some es held (rw at at h))
  ]) refl

  pub lookup_entry-none : (es : List Entry) → lookup t es ≡ None → lookup_entry t es ≡ None
  lookup_entry-none [] h = refl
  lookup_entry-none (x ∷ es) h = (elim (t x.0) as (λ b. t x.0 ≡ b → lookup_entry t (x ∷ es) ≡ None) [
    | true ↦ λ at. let a = rw at at h in cc
    | false ↦ λ at. rw at (lookup_entry-none es (rw at at h))
  ]) refl

  apart-remove : (key : RunKey) (es : List Entry) → AllByRecursion (λ y. same_key key y ≡ false) (keys_of es) → AllByRecursion (λ y. same_key key y ≡ false) (keys_of (remove_entry t es))
  apart-remove key [] all = all
  apart-remove key (x ∷ es) all = elim (t x.0) as (λ b. AllByRecursion (λ y. same_key key y ≡ false) (keys_of (cond b es (x ∷ remove_entry t es)))) [
    | true ↦ all.1
    | false ↦ (all.0, apart-remove key es all.1)
  ]

  pub IsDistinct-remove : (es : List Entry) → IsDistinct same_key (keys_of es) → IsDistinct same_key (keys_of (remove_entry t es))
  unfolding IsDistinct
  IsDistinct-remove [] apart = apart
  IsDistinct-remove (x ∷ es) apart = elim (t x.0) as (λ b. IsDistinct same_key (keys_of (cond b es (x ∷ remove_entry t es)))) [
    | true ↦ apart.1
    | false ↦ (apart-remove x.0 es apart.0, IsDistinct-remove es apart.1)
  ]

  pub IsSound-remove : {S : Type 0} (program : Program S) (es : List Entry) (capacity bound : ℕ) → IsSound program (cache_view es capacity bound) → IsSound program (cache_view (remove_entry t es) capacity bound)
  IsSound-remove program es capacity bound old =
      let shorter = length-remove_le es in
      let fewer = held_by-remove_le es in
      record {
        fits = ((let f = old.fits.0 in omega (arith, f)), λ some. let f = old.fits.1 some in omega (arith, f));
        distinct = IsDistinct-remove es old.distinct;
        replayed = AllReplayed-remove program es old.replayed;
        capacity = old.capacity;
        bound = old.bound;
      }

pub held_by-append : (xs ys : List Entry) → held_by (xs ++ ys) ≡ held_by xs + held_by ys
held_by-append [] ys = omega arith
held_by-append (x ∷ xs) ys = let rest = held_by-append xs ys in omega (arith, rest)

-- the last run and those before it
pub last_parts : (es : List Entry) (e : Entry) → slice_get es (length es - 1) ≡ Some e → take (length es - 1) es ++ e ∷ [] ≡ es
last_parts [] e h = cc
last_parts (x ∷ []) e h = let same : x ≡ e = same_Some x e (subst (λ n. slice_get (x ∷ []) n ≡ Some e) (let z : length (x ∷ []) - 1 ≡ 0 = omega arith in z) h) in
    subst (λ n. take n (x ∷ []) ++ e ∷ [] ≡ x ∷ []) (let z : 0 ≡ length (x ∷ []) - 1 = omega arith in z) (ap (λ r. r ∷ []) (sym same))
last_parts (x ∷ y ∷ es) e h =
    let more : length (x ∷ y ∷ es) - 1 ≡ suc (length (y ∷ es) - 1) = omega arith in
    subst (λ n. take n (x ∷ y ∷ es) ++ e ∷ [] ≡ x ∷ y ∷ es) (sym more)
    (ap (λ l. x ∷ l) (last_parts (y ∷ es) e (subst (λ n. slice_get (x ∷ y ∷ es) n ≡ Some e) more h)))

pub held_by-last : (es : List Entry) (e : Entry) → slice_get es (length es - 1) ≡ Some e → held_by (take (length es - 1) es) + weight_of e.1.events ≡ held_by es
held_by-last es e h =
    let parts = ap held_by (last_parts es e h) in
    let sum = held_by-append (take (length es - 1) es) (e ∷ []) in omega (arith, parts, sum)

-- the last run goes to the end of those that went
pub one_more_gone : (es : List Entry) (gone : List Held) (run : Held) (all : List Entry) → slice_get es (length es - 1) ≡ Some (entry_of run) → es ++ reverse (map entry_of gone) ≡ all
    → take (length es - 1) es ++ reverse (map entry_of (gone ++ run ∷ [])) ≡ all
one_more_gone es gone run all h parts =
    let out = map entry_of gone in
    ap (λ l. take (length es - 1) es ++ reverse l) (map-append entry_of gone (run ∷ []))
    ∙ ap (λ l. take (length es - 1) es ++ l) (reverse-append out (entry_of run ∷ []))
    ∙ sym (append_assoc (take (length es - 1) es) (entry_of run ∷ []) (reverse out))
    ∙ ap (λ l. l ++ reverse out) (last_parts es (entry_of run) h)
    ∙ parts

-- where some have to go still, there is a last run
pub some_left : (es : List Entry) (gone : List Held) (all : List Entry) (turn count : ℕ) → es ++ reverse (map entry_of gone) ≡ all → length gone ≡ turn → turn < count → count ≤ length all
    → slice_get es (length es - 1) ≡ None → ⊥
some_left es gone all turn count parts went more most none =
    let sum = ap length parts in
    let joined = length-append es (reverse (map entry_of gone)) in
    let turned = length-reverse (map entry_of gone) in
    let out = length-map gone entry_of in
    elim (slice_get_cases es (length es - 1)).1 [
      | inl found ↦ none-some found.0 (sym none ∙ found.2)
      | inr past ↦ let beyond = past.0 in omega (arith, sum, joined, turned, out, beyond, went, more, most)
    ]

-- a cache with room for one more puts the run in front, in place of the one of its key
pub put_entries-first : (c : LruCache RunKey (HistoryView)) (run : Entry) → length c.entries < c.cap → put_entries same_key c run.0 run.1 ≡ with_first run c.entries
put_entries-first c run room = (elim (lookup_entry (same_key run.0) c.entries) as (λ (o : Option Entry). lookup_entry (same_key run.0) c.entries ≡ o
    → option_map_or (λ (e : Entry). (e.0, run.1) ∷ remove_entry (same_key run.0) c.entries) o (run ∷ take (c.cap - 1) c.entries) ≡ with_first run c.entries) [
      | Some e ↦ λ at. let found = lookup-entry (same_key run.0) c.entries e at in ap (λ (k : RunKey). (k, run.1) ∷ remove_entry (same_key run.0) c.entries) (sym (same_key-true run.0 e.0 found.1))
      | None ↦ λ at. ap (λ (l : List Entry). run ∷ l) (take_all (c.cap - 1) c.entries (omega arith) ∙ sym (remove_entry-none (same_key run.0) c.entries at))
    ]) refl

pub none_alike : IsDistinct same_key (keys_of {X = HistoryView} [])
unfolding IsDistinct
none_alike = tt
