-- Cut counters decide the conditions on counters.
use Rattle.std.proofs.Common.{◌≡◌, ℕ, suc, ◌≤◌, Bool, true, false, ◌&&◌, List, [], ◌∷◌, refl, ap, ap₂, ◌∙◌, arith}
use Rattle.std.specs.Prelude.{min, leb, ltb, if◌then◌else◌}
use Rattle.std.proofs.lemmas.Bool.{and_parts, leb-true, ltb-true, ltb-false}
use Rattle.std.proofs.lemmas.Bool.Decides.{nat_tests}
use Rattle.wh_workflow.specs.declared.job.Job.{Job}
use Rattle.wh_rows.specs.declared.row.Condition.{Condition}
use Rattle.wh_rows.specs.declared.row.Condition.TheVariants as conditions
use Rattle.wh_rows.specs.declared.row.RowEffect.{RowEffect}
use Rattle.wh_rows.specs.declared.row.RowEffect.TheVariants as effects
use Rattle.wh_rows.specs.declared.row.Counter.{Counter}
use Rattle.wh_rows.specs.declared.row.Counter.TheVariants as counters
use Rattle.wh_rows.specs.declared.row.Counters.{Counters}
use Rattle.wh_rows.specs.declared.row.RowsState.{RowsState}
use Rattle.wh_rows.specs.Rows.{all_hold, count_of, with_count, raised, after_one, after_effects}
use Rattle.wh_rows.specs.Deciding.{cut_one, cut_all, asks_within, are_cuts}

-- counters cut at these numbers
abbrev pub cut : Counters → Counters → Counters
cut tops counts =
    record { a = min counts.a tops.a; b = min counts.b tops.b; c = min counts.c tops.c; d = min counts.d tops.d }

count_cut : (counter : Counter) (tops counts : Counters)
    → count_of counter (cut tops counts) ≡ min (count_of counter counts) (count_of counter tops)
count_cut counters.A tops counts = refl
count_cut counters.B tops counts = refl
count_cut counters.C tops counts = refl
count_cut counters.D tops counts = refl

below : (n top bound : ℕ) → bound ≤ top → ltb (min n top) bound ≡ ltb n bound
below n top bound few = grind (arith, nat_tests)

at_least : (n top bound : ℕ) → bound ≤ top → leb bound (min n top) ≡ leb bound n
at_least n top bound few = grind (arith, nat_tests)

-- conditions hold for cut counters exactly if they hold for the counters
pub all_hold_cut : (asked : List Condition) (tops counts : Counters) → asks_within tops asked ≡ true
    → all_hold asked (cut tops counts) ≡ all_hold asked counts
all_hold_cut [] tops counts fit = refl
all_hold_cut (conditions.Below counter bound ∷ rest) tops counts fit =
    let parts : (leb bound (count_of counter tops) ≡ true) × (asks_within tops rest ≡ true) =
    and_parts (leb bound (count_of counter tops)) (asks_within tops rest) fit in
    ap₂ (λ a b. a && b)
    (ap (λ n. ltb n bound) (count_cut counter tops counts)
    ∙ below (count_of counter counts) (count_of counter tops) bound (leb-true bound (count_of counter tops) parts.0))
    (all_hold_cut rest tops counts parts.1)
all_hold_cut (conditions.AtLeast counter bound ∷ rest) tops counts fit =
    let parts : (leb bound (count_of counter tops) ≡ true) × (asks_within tops rest ≡ true) =
    and_parts (leb bound (count_of counter tops)) (asks_within tops rest) fit in
    ap₂ (λ a b. a && b)
    (ap (λ n. leb bound n) (count_cut counter tops counts)
    ∙ at_least (count_of counter counts) (count_of counter tops) bound (leb-true bound (count_of counter tops) parts.0))
    (all_hold_cut rest tops counts parts.1)

-- a counter rises the same way if it is cut at no more than its bound
raised_cut : (n bound top : ℕ) → top ≤ bound → min (raised n bound) top ≡ raised (min n top) top
raised_cut n bound top few = by (ltb n bound) refl (ltb (min n top) top) refl
  where
    by : (t : Bool) → ltb n bound ≡ t → (u : Bool) → ltb (min n top) top ≡ u
        → min (if t then suc n else bound) top ≡ (if u then suc (min n top) else top)
    by true p true q =
        let a = ltb-true n bound p in
        let b = ltb-true (min n top) top q in
        omega (arith, a, b, few)
    by true p false q =
        let a = ltb-true n bound p in
        let b = ltb-false (min n top) top q in
        omega (arith, a, b, few)
    by false p true q =
        let a = ltb-false n bound p in
        let b = ltb-true (min n top) top q in
        omega (arith, a, b, few)
    by false p false q =
        let a = ltb-false n bound p in
        let b = ltb-false (min n top) top q in
        omega (arith, a, b, few)

pub zero_cut : (top : ℕ) → min 0 top ≡ 0
zero_cut top = omega arith

-- no counter is cut above its bound
pub record Cuts (bounds tops : Counters) : Type 0 where
  pub a : tops.a ≤ bounds.a
  pub b : tops.b ≤ bounds.b
  pub c : tops.c ≤ bounds.c
  pub d : tops.d ≤ bounds.d

pub cuts_from : (bounds tops : Counters) → are_cuts bounds tops ≡ true → Cuts bounds tops
cuts_from bounds tops fit =
    let halves = and_parts (leb tops.a bounds.a && leb tops.b bounds.b) (leb tops.c bounds.c && leb tops.d bounds.d) fit in
    let first = and_parts (leb tops.a bounds.a) (leb tops.b bounds.b) halves.0 in
    let second = and_parts (leb tops.c bounds.c) (leb tops.d bounds.d) halves.1 in
    record {
      a = leb-true _ _ first.0;
      b = leb-true _ _ first.1;
      c = leb-true _ _ second.0;
      d = leb-true _ _ second.1;
    }

up_cut : (counter : Counter) (bounds tops counts : Counters) → Cuts bounds tops
    → cut tops (with_count counter counts (raised (count_of counter counts) (count_of counter bounds)))
    ≡ with_count counter (cut tops counts) (raised (count_of counter (cut tops counts)) (count_of counter tops))
up_cut counters.A bounds tops counts few = ap (λ n. record (cut tops counts) { a = n }) (raised_cut counts.a bounds.a tops.a few.a)
up_cut counters.B bounds tops counts few = ap (λ n. record (cut tops counts) { b = n }) (raised_cut counts.b bounds.b tops.b few.b)
up_cut counters.C bounds tops counts few = ap (λ n. record (cut tops counts) { c = n }) (raised_cut counts.c bounds.c tops.c few.c)
up_cut counters.D bounds tops counts few = ap (λ n. record (cut tops counts) { d = n }) (raised_cut counts.d bounds.d tops.d few.d)

reset_cut : (counter : Counter) (tops counts : Counters) → cut tops (with_count counter counts 0) ≡ with_count counter (cut tops counts) 0
reset_cut counters.A tops counts = ap (λ n. record (cut tops counts) { a = n }) (zero_cut tops.a)
reset_cut counters.B tops counts = ap (λ n. record (cut tops counts) { b = n }) (zero_cut tops.b)
reset_cut counters.C tops counts = ap (λ n. record (cut tops counts) { c = n }) (zero_cut tops.c)
reset_cut counters.D tops counts = ap (λ n. record (cut tops counts) { d = n }) (zero_cut tops.d)

one_cut : (one : RowEffect) (bounds tops : Counters) (state : RowsState) (job : Job) → Cuts bounds tops
    → cut tops (after_one one bounds state job).counts ≡ cut_one tops one (cut tops state.counts)
one_cut (effects.Up counter) bounds tops state job few = up_cut counter bounds tops state.counts few
one_cut (effects.Zero counter) bounds tops state job few = reset_cut counter tops state.counts
one_cut effects.Keep bounds tops state job few = refl

-- effects change cut counters as they change counters
pub effects_cut : (all : List RowEffect) (bounds tops : Counters) (state : RowsState) (job : Job) → Cuts bounds tops
    → cut tops (after_effects all bounds state job).counts ≡ cut_all tops all (cut tops state.counts)
unfolding after_effects
effects_cut [] bounds tops state job few = refl
effects_cut (one ∷ rest) bounds tops state job few =
    effects_cut rest bounds tops (after_one one bounds state job) job few
    ∙ ap (cut_all tops rest) (one_cut one bounds tops state job few)

at_one : (one : RowEffect) (bounds : Counters) (state : RowsState) (job : Job) → (after_one one bounds state job).at ≡ state.at
at_one (effects.Up counter) bounds state job = refl
at_one (effects.Zero counter) bounds state job = refl
at_one effects.Keep bounds state job = refl

-- effects leave the state as it is
pub effects_at : (all : List RowEffect) (bounds : Counters) (state : RowsState) (job : Job)
    → (after_effects all bounds state job).at ≡ state.at
unfolding after_effects
effects_at [] bounds state job = refl
effects_at (one ∷ rest) bounds state job =
    effects_at rest bounds (after_one one bounds state job) job ∙ at_one one bounds state job
