-- What workers are assigned, file by file.
use Rattle.std.proofs.Common.{◌≡◌, ◌∙◌, ◌⊎◌, inl, inr, ℕ, ◌+◌, ◌<◌, List, [], ◌∷◌, ◌++◌, length, map, refl, sym, ap, arith}
use Rattle.std.specs.Prelude.{◌≢◌, ◌%◌, get_or, replicate, if◌then◌else◌, eqb, true, false, String, Vec}
use Rattle.std.specs.declared.alloc.Global.{Global}
use Rattle.std.proofs.Math.ListN.{set}
use Rattle.std.proofs.Math.Nat.{mod-lt}
use Rattle.std.proofs.lemmas.Bool.Decides.{eqb_tells}
use Rattle.std.proofs.lemmas.Grind.{get_or-set_at}
use Rattle.std.proofs.lemmas.List.{append-nil, append_assoc, get_or-map, get_or-replicate, get_or-set_other, length-map, length-replicate}
use Rattle.wh_events.specs.declared.event.Event.{Event}
use Rattle.wh_recorded.specs.Rounds.{Scripted, Stage, opening_stage}
use Rattle.wh_service.specs.Readings.{Reading}
use Rattle.wh_service.specs.Assignment.{history_of, hand_from, assigned_to, no_source}
use Rattle.wh_service.specs.Assignment.{histories_seen}

-- what a worker is assigned of one more file
more_dealt : (count worker before : ℕ) (files : List Reading) (file : Reading)
    → hand_from count worker before (files ++ (file ∷ [])) ≡ hand_from count worker before files ++ (if eqb ((before + length files) % count) worker then history_of (before + length files) file else [])
more_dealt count worker before [] file =
    let none : before ≡ before + 0 = omega arith in
    append-nil (if eqb (before % count) worker then history_of before file else []) ∙ ap (λ n. if eqb (n % count) worker then history_of n file else []) none
more_dealt count worker before (f ∷ fs) file =
    let one : before + 1 + length fs ≡ before + length (f ∷ fs) = omega arith in
    let own : List Scripted = if eqb (before % count) worker then history_of before f else [] in
    ap (λ l. own ++ l) (more_dealt count worker (before + 1) fs file ∙ ap (λ n. hand_from count worker (before + 1) fs ++ (if eqb (n % count) worker then history_of n file else [])) one)
    ∙ sym (append_assoc own (hand_from count worker (before + 1) fs) (if eqb ((before + length (f ∷ fs)) % count) worker then history_of (before + length (f ∷ fs)) file else []))

dealt_by : (seen first : List (List Scripted)) (files : List Reading) (file : Reading) (count turn : ℕ) (new : List Scripted) (worker : ℕ)
    → turn < length seen → turn ≡ length files % count
    → new ≡ get_or seen turn [] ++ history_of (length files) file
    → get_or seen worker [] ≡ get_or first worker [] ++ assigned_to count worker files
    → ((eqb (length files % count) worker ≡ true) × (length files % count ≡ worker)) ⊎ ((eqb (length files % count) worker ≡ false) × (length files % count ≢ worker))
    → get_or (set seen turn new) worker [] ≡ get_or first worker [] ++ assigned_to count worker (files ++ (file ∷ []))
dealt_by seen first files file count turn new worker inside at is before (inl same) =
    let list = assigned_to count worker files in
    let none : 0 + length files ≡ length files = omega arith in
    let here : turn ≡ worker = at ∙ same.1 in
    let more : assigned_to count worker (files ++ (file ∷ [])) ≡ list ++ history_of (length files) file =
    more_dealt count worker 0 files file
    ∙ ap (λ k. list ++ (if eqb (k % count) worker then history_of k file else [])) none
    ∙ ap (λ b. list ++ (if b then history_of (length files) file else [])) same.0 in
    get_or-set_at seen turn worker new [] (sym here) inside
    ∙ is
    ∙ ap (λ k. get_or seen k [] ++ history_of (length files) file) here
    ∙ ap (λ l. l ++ history_of (length files) file) before
    ∙ append_assoc (get_or first worker []) list (history_of (length files) file)
    ∙ ap (λ l. get_or first worker [] ++ l) (sym more)
dealt_by seen first files file count turn new worker inside at is before (inr other) =
    let list = assigned_to count worker files in
    let none : 0 + length files ≡ length files = omega arith in
    let apart : worker ≢ turn = λ e. other.1 (sym at ∙ sym e) in
    let more : assigned_to count worker (files ++ (file ∷ [])) ≡ list =
    more_dealt count worker 0 files file
    ∙ ap (λ k. list ++ (if eqb (k % count) worker then history_of k file else [])) none
    ∙ ap (λ b. list ++ (if b then history_of (length files) file else [])) other.0
    ∙ append-nil list in
    get_or-set_other seen turn worker new [] apart ∙ before ∙ ap (λ l. get_or first worker [] ++ l) (sym more)

-- one more file goes to the worker whose turn it is, and leaves the other lists as they are
pub dealt_push : (seen first : List (List Scripted)) (files : List Reading) (file : Reading) (count turn : ℕ) (new : List Scripted)
    → length seen ≡ count → 0 < count → turn ≡ length files % count
    → new ≡ get_or seen turn [] ++ history_of (length files) file
    → ((worker : ℕ) → worker < count → get_or seen worker [] ≡ get_or first worker [] ++ assigned_to count worker files)
    → (worker : ℕ) → worker < count → get_or (set seen turn new) worker [] ≡ get_or first worker [] ++ assigned_to count worker (files ++ (file ∷ []))
dealt_push seen first files file count turn new long some at is before worker below =
    let low : length files % count < count = mod-lt (length files) some in
    let inside : turn < length seen = omega (arith, low, at, long) in
    dealt_by seen first files file count turn new worker inside at is (before worker below) (eqb_tells (length files % count) worker)

-- a map of a map
pub map-twice : {A B C : Type 0} (f : A → B) (g : B → C) (xs : List A) → map g (map f xs) ≡ map (λ x. g (f x)) xs
map-twice f g [] = refl
map-twice f g (x ∷ xs) = ap (λ l. g (f x) ∷ l) (map-twice f g xs)

-- each source is over the list of its worker
pub sources_are : (old new : List (Vec (ℕ × String Global × Vec Event Global) Global)) (sources : List Stage) (count : ℕ) (files : List Reading)
    → map histories_seen old ≡ replicate count [] → length new ≡ length old
    → ((worker : ℕ) → worker < length old → get_or (map histories_seen new) worker [] ≡ get_or (map histories_seen old) worker [] ++ assigned_to (length old) worker files)
    → sources ≡ map (λ list. opening_stage (histories_seen list)) new
    → (worker : ℕ) → worker < count → get_or sources worker no_source ≡ opening_stage (assigned_to count worker files)
sources_are old new sources count files empty same assigned are worker below =
    let few : length old ≡ count = sym (length-map old histories_seen) ∙ (ap length empty ∙ length-replicate count []) in
    let inside : worker < length old = omega (arith, below, few) in
    let within : worker < length (map histories_seen new) = omega (arith, inside, same, length-map new histories_seen) in
    let nothing : get_or (map histories_seen old) worker [] ≡ [] = ap (λ l. get_or l worker []) empty ∙ get_or-replicate count worker [] [] below in
    let list : get_or (map histories_seen new) worker [] ≡ assigned_to count worker files =
    assigned worker inside ∙ ap (λ l. l ++ assigned_to (length old) worker files) nothing ∙ ap (λ n. assigned_to n worker files) few in
    ap (λ l. get_or l worker no_source) (are ∙ sym (map-twice histories_seen opening_stage new))
    ∙ get_or-map opening_stage (map histories_seen new) worker [] no_source within
    ∙ ap opening_stage list
