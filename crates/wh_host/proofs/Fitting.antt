-- The count of the runs that stay is that of the longest beginning that fits.
use Rattle.std.proofs.Common.{◌≡◌, ◌≢◌, ℕ, zero, suc, ◌+◌, ◌-◌, ◌*◌, ◌<◌, ◌≤◌, ◌==◌, ◌||◌, true, false, cond, List, [], ◌∷◌, ◌++◌, length, take, reverse, refl, sym, ap, ◌∙◌, subst, arith, add-one, length-append, append-nil}
use Rattle.std.specs.Prelude.{map, nat_lt}
use Rattle.std.specs.List.{IsDistinct, AllByRecursion}
use Rattle.std.specs.Map.{keys_of, remove_entry}
use Rattle.std.proofs.lemmas.Bool.Decides.{nat_tests}
use Rattle.std.proofs.lemmas.List.{length-take-le, length-reverse}
use Rattle.std.proofs.Math.Seq.{take-length, take-append_seam}
use Rattle.std.proofs.lemmas.Map.Keys.{IsDistinct-head, IsDistinct-tail}
use Rattle.wh_events.specs.declared.key.RunKey.{RunKey}
use Rattle.wh_events.specs.Keys.{same_key, same_key-true}
use Rattle.wh_workflow.specs.Law.{Program}
use Rattle.wh_replay.specs.Runs.{Held, history_of, IsReplayed}
use Rattle.wh_host.specs.Cache.{CacheView, Entry, entry_of, held_by, AllReplayed, Fits, FitMost, IsSound, KeepsMost, Enters, with_first, fitting, PutReply, IsKept, HasPushedOut, IsOff, IsShort, IsLarge, HasNoMemory, Puts}
use Rattle.wh_host.specs.Weights.{weight_of}
use Rattle.wh_host.proofs.Weights.{weight_of-most}
use Rattle.wh_host.proofs.Runs.{held_by-append, held_by-remove_le, AllReplayed-remove, IsDistinct-remove}

-- the runs of other keys
abbrev pub beside : RunKey → List Entry → List Entry
beside key [] = []
beside key (r ∷ rs) = cond (same_key key r.0) (beside key rs) (r ∷ beside key rs)

-- no run has the key
beside-no_key : (key : RunKey) (rs : List Entry) → AllByRecursion (λ y. same_key key y ≡ false) (keys_of rs) → beside key rs ≡ rs
beside-no_key key [] none = refl
beside-no_key key (r ∷ rs) none = rw (none.0) (ap (λ (l : List Entry). r ∷ l) (beside-no_key key rs none.1))

-- at most one run has the key
pub beside-others : (key : RunKey) (rs : List Entry) → IsDistinct same_key (keys_of rs) → beside key rs ≡ remove_entry (same_key key) rs
beside-others key [] apart = refl
beside-others key (r ∷ rs) apart = (elim (same_key key r.0) as (λ b. same_key key r.0 ≡ b → beside key (r ∷ rs) ≡ remove_entry (same_key key) (r ∷ rs)) [
  | true ↦ λ at.
      let others = IsDistinct-head same_key r.0 (keys_of rs) apart in
      let none = subst (λ (k : RunKey). AllByRecursion (λ y. same_key k y ≡ false) (keys_of rs)) (sym (same_key-true key r.0 at)) others in
      rw at (beside-no_key key rs none)
  | false ↦ λ at. rw at (ap (λ (l : List Entry). r ∷ l) (beside-others key rs (IsDistinct-tail same_key r.0 (keys_of rs) apart)))
]) refl

beside-last : (key : RunKey) (rs : List Entry) (r : Entry) → beside key (rs ++ r ∷ []) ≡ beside key rs ++ beside key (r ∷ [])
beside-last key [] r = refl
beside-last key (x ∷ rs) r = elim (same_key key x.0) as (λ b. cond b (beside key (rs ++ r ∷ [])) (x ∷ beside key (rs ++ r ∷ [])) ≡ cond b (beside key rs) (x ∷ beside key rs) ++ beside key (r ∷ [])) [
  | true ↦ beside-last key rs r
  | false ↦ ap (λ (l : List Entry). x ∷ l) (beside-last key rs r)
]

-- the last run has the key
pub beside-last_same : (key : RunKey) (rs : List Entry) (r : Entry) → same_key key r.0 ≡ true → beside key (rs ++ r ∷ []) ≡ beside key rs
beside-last_same key rs r at = let last : beside key (r ∷ []) ≡ [] = rw at refl in beside-last key rs r ∙ ap (λ (l : List Entry). beside key rs ++ l) last ∙ append-nil (beside key rs)

-- the last run has another key
pub beside-last_other : (key : RunKey) (rs : List Entry) (r : Entry) → same_key key r.0 ≡ false → beside key (rs ++ r ∷ []) ≡ beside key rs ++ r ∷ []
beside-last_other key rs r at = let last : beside key (r ∷ []) ≡ r ∷ [] = rw at refl in beside-last key rs r ∙ ap (λ (l : List Entry). beside key rs ++ l) last

-- the count stops where there is no room or too few events are left
stops : (room left len : ℕ) → (room == 0 || nat_lt left len) ≡ true → 0 < room → len ≤ left → ⊥
stops zero left len e some enough = omega arith
stops (suc room) left len e some enough = grind (arith, nat_tests)

goes_on : (room left len : ℕ) → (room == 0 || nat_lt left len) ≡ false → (0 < room) × (len ≤ left)
goes_on zero left len e = cc
goes_on (suc room) left len e = grind (arith, nat_tests)

-- where not all fit, the last run adds nothing to the count
pub fitting-last : (room left : ℕ) (rs : List Entry) (r : Entry) → (length (rs ++ r ∷ []) ≤ room → held_by (rs ++ r ∷ []) ≤ left → ⊥) → fitting room left (rs ++ r ∷ []) ≡ fitting room left rs
fitting-last room left [] r over = (elim (room == 0 || nat_lt left (weight_of r.1.events)) as (λ b. (room == 0 || nat_lt left (weight_of r.1.events)) ≡ b → cond b 0 (fitting (room - 1) (left - weight_of r.1.events) [] + 1) ≡ 0) [
  | true ↦ λ e. refl
  | false ↦ λ e. let some = goes_on room left (weight_of r.1.events) e in absurd (over (omega (arith, some.0)) (omega (arith, some.1)))
]) refl
fitting-last room left (x ∷ rs) r over = (elim (room == 0 || nat_lt left (weight_of x.1.events)) as (λ b. (room == 0 || nat_lt left (weight_of x.1.events)) ≡ b
    → cond b 0 (fitting (room - 1) (left - weight_of x.1.events) (rs ++ r ∷ []) + 1) ≡ cond b 0 (fitting (room - 1) (left - weight_of x.1.events) rs + 1)) [
      | true ↦ λ e. refl
      | false ↦ λ e.
          let some = goes_on room left (weight_of x.1.events) e in
          ap (λ n. n + 1) (fitting-last (room - 1) (left - weight_of x.1.events) rs r (λ fits enough. over (omega (arith, some.0, fits)) (omega (arith, some.1, enough))))
    ]) refl

-- where all fit, the count is theirs
pub fitting-all : (room left : ℕ) (rs : List Entry) → length rs ≤ room → held_by rs ≤ left → fitting room left rs ≡ length rs
fitting-all room left [] fits enough = refl
fitting-all room left (r ∷ rs) fits enough = (elim (room == 0 || nat_lt left (weight_of r.1.events)) as (λ b. (room == 0 || nat_lt left (weight_of r.1.events)) ≡ b → cond b 0 (fitting (room - 1) (left - weight_of r.1.events) rs + 1) ≡ length (r ∷ rs)) [
  | true ↦ λ e. absurd (stops room left (weight_of r.1.events) e (omega arith) (omega arith))
  | false ↦ λ e. let rest = fitting-all (room - 1) (left - weight_of r.1.events) rs (omega arith) (omega arith) in omega (arith, rest)
]) refl

one_less : (room left : ℕ) (before after : List Entry) (r : Entry) → before ≡ after ++ r ∷ [] → (length before ≤ room → held_by before ≤ left → ⊥)
    → (length before ≡ length after + 1) × (held_by before ≡ held_by after + weight_of r.1.events) × (fitting room left before ≡ fitting room left after)
one_less room left before after r last over =
    let long = ap length last ∙ length-append after (r ∷ []) in
    let sum = ap held_by last ∙ held_by-append after (r ∷ []) in
    let over = subst (λ (l : List Entry). length l ≤ room → held_by l ≤ left → ⊥) last over in
    (omega (arith, long), omega (arith, sum), ap (fitting room left) last ∙ fitting-last room left after r over)

-- where not all fit, the last run goes with its events, and as many fit as before
pub one_goes : (key : RunKey) (before after : List Entry) (r : Entry) (room left count held : ℕ) → before ≡ after ++ r ∷ [] → same_key key r.0 ≡ false
    → count ≡ length (beside key before) → held ≡ held_by (beside key before) → (count ≤ room → held ≤ left → ⊥)
    → (count ≡ length (beside key after) + 1) × (held ≡ held_by (beside key after) + weight_of r.1.events) × (fitting room left (beside key after) ≡ fitting room left (beside key before))
one_goes key before after r room left count held last at counted sum over =
    let others = ap (beside key) last ∙ beside-last_other key after r at in
    let less = one_less room left (beside key before) (beside key after) r others (λ fits enough. over (omega (arith, counted, fits)) (omega (arith, sum, enough))) in
    (counted ∙ less.0, sum ∙ less.1, sym less.2)

pub fitting-within : (room left : ℕ) (rs : List Entry) → (fitting room left rs ≤ length rs) × (fitting room left rs ≤ room) × (held_by (take (fitting room left rs) rs) ≤ left)
fitting-within room left [] = (omega arith, omega arith, omega arith)
fitting-within room left (r ∷ rs) = (elim (room == 0 || nat_lt left (weight_of r.1.events)) as (λ b. (room == 0 || nat_lt left (weight_of r.1.events)) ≡ b →
    let n : ℕ = cond b 0 (fitting (room - 1) (left - weight_of r.1.events) rs + 1) in (n ≤ length (r ∷ rs)) × (n ≤ room) × (held_by (take n (r ∷ rs)) ≤ left)) [
      | true ↦ λ e. (omega arith, omega arith, omega arith)
      | false ↦ λ e.
          let more = goes_on room left (weight_of r.1.events) e in
          let rest = fitting-within (room - 1) (left - weight_of r.1.events) rs in
          (omega (arith, rest.0), omega (arith, rest.1, more.0), rw add-one (omega (arith, rest.2, more.1)))
    ]) refl

pub fitting-most : (room left : ℕ) (rs : List Entry) (m : ℕ) → fitting room left rs < m → m ≤ length rs → m ≤ room → held_by (take m rs) ≤ left → ⊥
fitting-most room left [] m more within fits enough = omega arith
fitting-most room left (r ∷ rs) zero more within fits enough = omega arith
fitting-most room left (r ∷ rs) (suc m) more within fits enough = (elim (room == 0 || nat_lt left (weight_of r.1.events)) as (λ b. (room == 0 || nat_lt left (weight_of r.1.events)) ≡ b → cond b 0 (fitting (room - 1) (left - weight_of r.1.events) rs + 1) < suc m → ⊥) [
  | true ↦ λ e. λ less. stops room left (weight_of r.1.events) e (omega arith) (omega arith)
  | false ↦ λ e. λ less.
      let some = goes_on room left (weight_of r.1.events) e in
      fitting-most (room - 1) (left - weight_of r.1.events) rs m (omega (arith, less)) (omega arith) (omega (arith, some.0)) (omega (arith, some.1))
]) refl more

held_by-take_le : (n : ℕ) (rs : List Entry) → held_by (take n rs) ≤ held_by rs
held_by-take_le zero rs = omega arith
held_by-take_le (suc n) [] = omega arith
held_by-take_le (suc n) (r ∷ rs) = let rest = held_by-take_le n rs in omega (arith, rest)

pub held_by-most : {S : Type 0} (program : Program S) (rs : List Entry) → AllReplayed program rs → held_by rs ≤ 4245504 * length rs
held_by-most program [] all = omega arith
held_by-most program (r ∷ rs) all = let rest = held_by-most program rs all.1 in let one = weight_of-most r.1.events all.0.most in omega (arith, rest, one)

-- where the bound lets them in, there is room for these
enough_left : (bound left held len : ℕ) → (bound ≢ 0 → len + held ≤ bound) → (bound ≢ 0 → left + len ≡ bound) → (bound ≡ 0 → 42455040000 ≤ left) → held ≤ 42455040000 → held ≤ left
enough_left zero left held len within bounded free few = let most = free refl in omega (arith, most)
enough_left (suc bound) left held len within bounded free few =
    let some : suc bound ≢ 0 = λ e. absurd (omega arith) in
    let one = within some in
    let two = bounded some in omega (arith, one, two)

-- no longer beginning fits
beyond : (c : CacheView) (run : Entry) (left : ℕ) → 0 < c.capacity → held_by c.runs ≤ 42455040000 → (c.bound ≢ 0 → left + weight_of run.1.events ≡ c.bound) → (c.bound ≡ 0 → 42455040000 ≤ left)
    → (m : ℕ) → suc (fitting (c.capacity - 1) left (remove_entry (same_key run.0) c.runs)) < m → m ≤ length (with_first run c.runs) → Fits c.capacity c.bound (take m (with_first run c.runs)) → ⊥
beyond c run left some few bounded free zero more within fits = omega arith
beyond c run left some few bounded free (suc m) more within fits =
    let rest = remove_entry (same_key run.0) c.runs in
    let long = length-take-le m rest (omega arith) in
    let fewer = held_by-take_le m rest in
    let fewest = held_by-remove_le (same_key run.0) c.runs in
    let one = fits.0 in
    let two = fits.1 in
    fitting-most (c.capacity - 1) left rest m (omega arith) (omega arith) (omega (arith, long, one)) (enough_left c.bound left (held_by (take m rest)) (weight_of run.1.events) two bounded free (omega (arith, fewer, fewest)))

-- the run in front and those that fit beside it are the longest beginning that fits
pub FitMost-fitting : (c : CacheView) (run : Entry) (left : ℕ) → 0 < c.capacity → held_by c.runs ≤ 42455040000 → (c.bound ≢ 0 → left + weight_of run.1.events ≡ c.bound) → (c.bound ≡ 0 → 42455040000 ≤ left)
    → FitMost c (with_first run c.runs) (suc (fitting (c.capacity - 1) left (remove_entry (same_key run.0) c.runs)))
FitMost-fitting c run left some few bounded free =
    let rest = remove_entry (same_key run.0) c.runs in
    let n : ℕ = fitting (c.capacity - 1) left rest in
    let facts = fitting-within (c.capacity - 1) left rest in
    let long = length-take-le n rest facts.0 in
    record {
      within = omega (arith, facts.0);
      fits = (omega (arith, long, facts.1), λ bound. let all = bounded bound in omega (arith, all, facts.2));
      most = λ m more within fits. beyond c run left some few bounded free m more within fits;
    }

-- where some have to go, not all fit
pub not_all_fit : (c : CacheView) (runs : List Entry) (going : ℕ) → FitMost c runs (length runs - going) → 0 < going → going < length runs → Fits c.capacity c.bound runs → ⊥
not_all_fit c runs going h some less fits =
    h.most (length runs) (omega arith) (omega arith) (subst (λ (rs : List Entry). Fits c.capacity c.bound rs) (sym (take-length runs)) fits)

pub going_parts : (c : CacheView) (run : Entry) (left going : ℕ) → going + fitting (c.capacity - 1) left (remove_entry (same_key run.0) c.runs) ≡ length (remove_entry (same_key run.0) c.runs)
    → 0 < c.capacity → held_by c.runs ≤ 42455040000 → (c.bound ≢ 0 → left + weight_of run.1.events ≡ c.bound) → (c.bound ≡ 0 → 42455040000 ≤ left)
    → FitMost c (with_first run c.runs) (length (with_first run c.runs) - going)
going_parts c run left going rest some few bounded free =
    let most = FitMost-fitting c run left some few bounded free in
    let stays : suc (fitting (c.capacity - 1) left (remove_entry (same_key run.0) c.runs)) ≡ length (with_first run c.runs) - going = omega (arith, rest) in
    subst (λ (n : ℕ). FitMost c (with_first run c.runs) n) stays most

AllReplayed-front : {S : Type 0} (program : Program S) (xs ys : List Entry) → AllReplayed program (xs ++ ys) → AllReplayed program xs
AllReplayed-front program [] ys all = tt
AllReplayed-front program (x ∷ xs) ys all = (all.0, AllReplayed-front program xs ys all.1)

others_apart : (key : RunKey) (rs : List Entry) → IsDistinct same_key (keys_of rs) → AllByRecursion (λ y. same_key key y ≡ false) (keys_of (remove_entry (same_key key) rs))
others_apart key [] apart = tt
others_apart key (r ∷ rs) apart = (elim (same_key key r.0) as (λ b. same_key key r.0 ≡ b → AllByRecursion (λ y. same_key key y ≡ false) (keys_of (cond b rs (r ∷ remove_entry (same_key key) rs)))) [
  | true ↦ λ at. subst (λ (k : RunKey). AllByRecursion (λ y. same_key k y ≡ false) (keys_of rs)) (sym (same_key-true key r.0 at)) (IsDistinct-head same_key r.0 (keys_of rs) apart)
  | false ↦ λ at. (at, others_apart key rs (IsDistinct-tail same_key r.0 (keys_of rs) apart))
]) refl

with_first-distinct : (run : Entry) (rs : List Entry) → IsDistinct same_key (keys_of rs) → IsDistinct same_key (keys_of (with_first run rs))
unfolding IsDistinct
with_first-distinct run rs apart = (others_apart run.0 rs apart, IsDistinct-remove (same_key run.0) rs apart)

apart-front : (key : RunKey) (xs ys : List Entry) → AllByRecursion (λ y. same_key key y ≡ false) (keys_of (xs ++ ys)) → AllByRecursion (λ y. same_key key y ≡ false) (keys_of xs)
apart-front key [] ys all = tt
apart-front key (x ∷ xs) ys all = (all.0, apart-front key xs ys all.1)

distinct-front : (xs ys : List Entry) → IsDistinct same_key (keys_of (xs ++ ys)) → IsDistinct same_key (keys_of xs)
unfolding IsDistinct
distinct-front [] ys apart = tt
distinct-front (x ∷ xs) ys apart = (apart-front x.0 xs ys apart.0, distinct-front xs ys apart.1)

-- a cache in which a run is first stays sound
IsSound-first : {S : Type 0} (program : Program S) (c : CacheView) (run : Entry) (new gone : List Entry) → IsSound program c → IsReplayed program run.1 → KeepsMost c (with_first run c.runs) new gone → IsSound program (record c { runs = new })
IsSound-first program c run new gone sound replayed keeps =
    let all = with_first run c.runs in
    let parts = keeps.parts in
    let front : take (length new) all ≡ new = ap (λ (l : List Entry). take (length new) l) parts ∙ take-append_seam new (reverse gone) in
    let every : AllReplayed program all = (replayed, AllReplayed-remove (same_key run.0) program c.runs sound.replayed) in
    record {
      fits = subst (λ (rs : List Entry). Fits c.capacity c.bound rs) front keeps.most.fits;
      distinct = distinct-front new (reverse gone) (subst (λ (rs : List Entry). IsDistinct same_key (keys_of rs)) parts (with_first-distinct run c.runs sound.distinct));
      replayed = AllReplayed-front program new (reverse gone) (subst (λ (rs : List Entry). AllReplayed program rs) parts every);
      capacity = sound.capacity;
      bound = sound.bound;
    }

-- what is kept is sound, and the longest beginning that fits
pub entered : {S : Type 0} (program : Program S) (c : CacheView) (run : Entry) (new gone : List Entry) (going : ℕ) → IsSound program c → IsReplayed program run.1
    → FitMost c (with_first run c.runs) (length (with_first run c.runs) - going) → with_first run c.runs ≡ new ++ reverse gone → length gone ≡ going
    → KeepsMost c (with_first run c.runs) new gone × IsSound program (record c { runs = new })
entered program c run new gone going sound replayed most parts counted =
    let all = with_first run c.runs in
    let sum = ap length parts ∙ length-append new (reverse gone) in
    let turned = length-reverse gone in
    let kept : length all - going ≡ length new = omega (arith, sum, turned, counted) in
    let best : FitMost c all (length new) = subst (λ (n : ℕ). FitMost c all n) kept most in
    let keeps : KeepsMost c all new gone = record { parts = parts; most = best } in
    (keeps, IsSound-first program c run new gone sound replayed keeps)

IsSound-same : {S : Type 0} (program : Program S) (old new : CacheView) → new ≡ old → IsSound program old → IsSound program new
IsSound-same program old new same sound = subst (λ (v : CacheView). IsSound program v) (sym same) sound

IsSound-enters : {S : Type 0} (program : Program S) (old : CacheView) (run : Held) (new : CacheView) (gone : List Held) → IsSound program old → IsReplayed program (history_of run) → Enters old run new gone → IsSound program new
IsSound-enters program old run new gone sound replayed e = IsSound-same program _ new e.same (IsSound-first program old (entry_of run) new.runs (map entry_of gone) sound replayed e.keeps)

-- whatever the answer, the cache stays sound
pub Puts-keeps : {S : Type 0} (program : Program S) (old : CacheView) (run : Held) (new : CacheView) (reply : PutReply) → IsSound program old → IsReplayed program (history_of run) → Puts old run new reply → IsSound program new
Puts-keeps program old run new IsKept sound replayed p = IsSound-enters program old run new [] sound replayed p
Puts-keeps program old run new (HasPushedOut gone) sound replayed p = IsSound-enters program old run new gone sound replayed p.0
Puts-keeps program old run new (IsOff back) sound replayed p = IsSound-same program old new p.2 sound
Puts-keeps program old run new (IsShort back) sound replayed p = IsSound-same program old new p.3 sound
Puts-keeps program old run new (IsLarge back) sound replayed p = IsSound-same program old new p.4 sound
Puts-keeps program old run new (HasNoMemory back) sound replayed p = IsSound-same program old new p.3 sound

-- how much a sound cache may hold
pub held_by-few : {S : Type 0} (program : Program S) (c : CacheView) → IsSound program c → held_by c.runs ≤ 42455040000
held_by-few program c sound =
    let most = held_by-most program c.runs sound.replayed in
    let few = sound.fits.0 in
    let capacity = sound.capacity in omega (arith, most, few, capacity)

pub no_items : {X : Type 0} (xs : List X) → length xs ≡ 0 → xs ≡ []
no_items [] e = refl
no_items (x ∷ xs) e = absurd (omega (arith, e))
