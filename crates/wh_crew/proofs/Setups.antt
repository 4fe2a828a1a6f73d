-- The setups of a crew, as they grow with it.
use Rattle.std.proofs.Common.{◌≡◌, ◌∙◌, ◌++◌, ◌∷◌, ◌+◌, [], List, ℕ, suc, length, map, replicate, ap, arith}
use Rattle.std.proofs.lemmas.Grind.{replicate_next}
use Rattle.std.proofs.lemmas.List.{length-append, map-append}
use Rattle.wh_crew.specs.Crews.{role_at, roles_of, sources_of}
use Rattle.wh_live.specs.Deliveries.{fresh}
use Rattle.wh_commands.specs.declared.names.WorkerNames.{WorkerNames}

-- what contracts see of the setups, with one setup more
pub shown_more : {X Y : Type 0} (show : X → Y) (setups new : List X) (setup : X) (before : List Y) → new ≡ setups ++ setup ∷ [] → map show setups ≡ before → map show new ≡ before ++ show setup ∷ []
shown_more show setups new setup before grown known =
    ap (map show) grown ∙ map-append show setups (setup ∷ []) ∙ ap (λ l. l ++ show setup ∷ []) known

-- how many there are, with one member more
pub count_more : {X : Type 0} (old new : ℕ) (yielded : List X) (member : X) → new ≡ old + 1 → old ≡ length yielded → new ≡ length (yielded ++ member ∷ [])
count_more old new yielded member more count = omega (arith, more, count, length-append yielded (member ∷ []))

-- their roles, with one worker more
pub roles_more : {X : Type 0} (normal workers : ℕ) (yielded : List X) (member : X) → roles_of normal workers (length (yielded ++ member ∷ [])) ≡ roles_of normal workers (length yielded) ++ role_at normal workers (length yielded) ∷ []
roles_more normal workers yielded member =
    let long : length (yielded ++ member ∷ []) ≡ suc (length yielded) = omega (arith, length-append yielded (member ∷ [])) in
    ap (roles_of normal workers) long

-- their sources, with one worker more
pub sources_more : {X : Type 0} (names : WorkerNames) (normal workers : ℕ) (yielded : List X) (member : X) → sources_of names normal workers (length (yielded ++ member ∷ [])) ≡ sources_of names normal workers (length yielded) ++ fresh (role_at normal workers (length yielded)) names ∷ []
sources_more names normal workers yielded member =
    ap (map (λ role. fresh role names)) (roles_more normal workers yielded member)
    ∙ map-append (λ role. fresh role names) (roles_of normal workers (length yielded)) (role_at normal workers (length yielded) ∷ [])

-- how many turns each has, with one worker more
pub turns_more : {X : Type 0} (turns : ℕ) (yielded : List X) (member : X) → replicate (length (yielded ++ member ∷ [])) turns ≡ replicate (length yielded) turns ++ turns ∷ []
turns_more turns yielded member =
    let long : length (yielded ++ member ∷ []) ≡ length yielded + 1 = omega (arith, length-append yielded (member ∷ [])) in
    ap (λ n. replicate n turns) long ∙ replicate_next (length yielded) turns
