-- Which place polls which queue.
use Rattle.std.proofs.Common.{◌≡◌, ◌/◌, ◌<◌, ◌≤◌, ◌∷◌, [], ◌⊎◌, ℕ, zero, suc, Bool, true, false, max, arith, inl, inr, refl, subst, sym}
use Rattle.std.proofs.lemmas.Bool.Decides.{nat_tests}
use Rattle.std.proofs.lemmas.List.Elements.{Contains-append_left, Contains-append_right}
use Rattle.std.specs.List.{Contains}
use Rattle.std.specs.Prelude.{nat_lt}
use Rattle.wh_client.specs.declared.options.TaskQueueKind.{TaskQueueKind}
use Rattle.wh_client.specs.declared.options.TaskQueueKind.TheVariants.{Normal, Sticky, Activities}
use Rattle.wh_crew.specs.Crews.{CrewsPollAll, normal_workers, role_at, roles_of}

-- a list of one has it
alone : (role : TaskQueueKind) → Contains (role ∷ []) role
alone role = (0, omega arith, refl)

by_test : (count place : ℕ) (b : Bool) → nat_lt place count ≡ b → place < suc count → (place < count) ⊎ (place ≡ count)
by_test count place true e within = inl (grind (arith, nat_tests))
by_test count place false e within = inr (grind (arith, nat_tests))

-- below the next number are those below this one, and this one
below_or_same : (count place : ℕ) → place < suc count → (place < count) ⊎ (place ≡ count)
below_or_same count place within = by_test count place (nat_lt place count) refl within

-- the role of each place is among those of the workers
role_is_there : (normal workers count place : ℕ) → place < count → Contains (roles_of normal workers count) (role_at normal workers place)
role_is_there normal workers zero place within = absurd (omega (arith, within))
role_is_there normal workers (suc count) place within = elim (below_or_same count place within) [
  | inl before ↦ Contains-append_left _ (role_at normal workers count ∷ []) _ (role_is_there normal workers count place before)
  | inr same ↦ subst (λ p. Contains (roles_of normal workers (suc count)) (role_at normal workers p)) (sym same)
      (Contains-append_right (roles_of normal workers count) _ _ (alone (role_at normal workers count)))
]

normal_at : (normal workers place : ℕ) → place < workers → place < normal → role_at normal workers place ≡ Normal
normal_at normal workers place h k = grind (arith, nat_tests)

sticky_at : (normal workers place : ℕ) → place < workers → normal ≤ place → role_at normal workers place ≡ Sticky
sticky_at normal workers place h k = grind (arith, nat_tests)

activities_at : (normal workers place : ℕ) → workers ≤ place → role_at normal workers place ≡ Activities
activities_at normal workers place h = grind (arith, nat_tests)

some_normal : (workers : ℕ) (has_cache : Bool) → 1 ≤ workers → 1 ≤ normal_workers workers has_cache
some_normal workers true h = omega arith
some_normal workers false h = h

fewer_normal : (workers : ℕ) → 2 ≤ workers → max (workers / 5) 1 < workers
fewer_normal workers h = omega (arith, h)

-- a role that is at a place is polled for
at_place : (normal workers count place : ℕ) (role : TaskQueueKind) → place < count → role_at normal workers place ≡ role → Contains (roles_of normal workers count) role
at_place normal workers count place role within is =
    subst (λ r. Contains (roles_of normal workers count) r) is (role_is_there normal workers count place within)

with_cache : (workers count : ℕ) → workers ≤ count → 2 ≤ workers → Contains (roles_of (normal_workers workers true) workers count) Sticky
with_cache workers count fits two =
    let normal = max (workers / 5) 1 in
    let fewer = fewer_normal workers two in
    let within : normal < count = omega (arith, fewer, fits) in
    let here : normal ≤ normal = omega arith in
    at_place normal workers count normal Sticky within (sticky_at normal workers normal fewer here)

pub crews_poll_all : CrewsPollAll
crews_poll_all workers count has_cache fits = record {
  normal = λ some.
      let normal = normal_workers workers has_cache in
      let within : 0 < count = omega (arith, some, fits) in
      let first : 0 < normal = some_normal workers has_cache some in
      at_place normal workers count 0 Normal within (normal_at normal workers 0 some first);
  sticky = λ cached two.
      subst (λ b. Contains (roles_of (normal_workers workers b) workers count) Sticky) (sym cached) (with_cache workers count fits two);
  activities = λ more.
      let here : workers ≤ workers = omega arith in
      at_place (normal_workers workers has_cache) workers count workers Activities more (activities_at (normal_workers workers has_cache) workers workers here);
}
