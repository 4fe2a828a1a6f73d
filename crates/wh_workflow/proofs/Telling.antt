-- Each event gives a workflow its job once, and the start is given at the first cut.
use Rattle.std.proofs.Common.{◌≡◌, ℕ, zero, suc, ◌<◌, false, List, [], ◌∷◌, ◌++◌, length, Some, refl, ap, ◌∙◌, inl, inr, arith, slice_get, IsTrue, length-append}
use Rattle.wh_events.specs.declared.event.Event.{Event}
use Rattle.wh_events.specs.declared.kind.EventKind.{EventKind}
use Rattle.wh_events.specs.declared.kind.EventKind.TheVariants.{WorkflowExecutionStarted}
use Rattle.wh_events.specs.Kinds.{class_of}
use Rattle.wh_events.specs.Places.{is_start, is_start_class}
use Rattle.wh_events.specs.InPlace.{InPlace}
use Rattle.wh_events.proofs.Placing.{at_index, bool_cases}
use Rattle.wh_workflow.specs.Jobs.{start_job, jobs_by}
use Rattle.wh_workflow.specs.JobRules.{TellsOnce, EachTellsOnce, StartsOnce}
use Rattle.wh_workflow.proofs.Faulting.{at_left, at_right}

tells_once : (seen : List Event) (kind : EventKind) → TellsOnce seen kind
tells_once seen (WorkflowExecutionStarted workflow input) = record { start = refl; signal = refl; outside = refl }
tells_once seen _ = record { start = refl; signal = refl; outside = refl }

pub each_tells_once : EachTellsOnce
each_tells_once = tells_once

silent_kind : (kind : EventKind) → is_start_class (class_of kind) ≡ false → start_job kind ≡ []
silent_kind (WorkflowExecutionStarted workflow input) h = cc
silent_kind _ h = refl

no_starts : (events : List Event) → ((k : ℕ) (e : Event) → slice_get events k ≡ Some e → ¬ IsTrue (is_start e)) → jobs_by start_job events ≡ []
no_starts [] none = refl
no_starts (event ∷ rest) none =
    elim (bool_cases (is_start event)) [
      | inl starts ↦ absurd (none zero event refl starts)
      | inr silent ↦ ap (λ l. l ++ jobs_by start_job rest) (silent_kind event.body silent) ∙ no_starts rest (λ k. none (suc k))
    ]

starts_here : (passed : List Event) (between : List Event) (cut : Event) → InPlace (passed ++ (between ++ cut ∷ [])) → ¬ IsTrue (is_start cut) → length passed ≡ 0 → length (jobs_by start_job between) ≡ 1
starts_here (x ∷ passed) between cut placed plain none = absurd (omega arith)
starts_here [] [] cut placed plain none = absurd (plain ((placed.started 1 cut (at_index (cut ∷ []) zero cut refl)).1 refl))
starts_here [] (first ∷ rest) cut placed plain none =
    let starts = (placed.started 1 first (at_index (first ∷ (rest ++ cut ∷ [])) zero first refl)).1 refl in
    let later = no_starts rest (λ k e at starts. let at_place = at_index (first ∷ (rest ++ cut ∷ [])) (suc k) e (at_left rest (cut ∷ []) k e at) in let one = (placed.started (suc (suc k)) e at_place).0 starts in omega arith) in
    let here : length (start_job first.body) ≡ 1 = (tells_once [] first.body).start ∙ rw starts refl in
    length-append (start_job first.body) (jobs_by start_job rest) ∙ (let none_later : length (jobs_by start_job rest) ≡ 0 = ap length later in omega arith)

starts_before : (passed between : List Event) (cut : Event) → InPlace (passed ++ (between ++ cut ∷ [])) → 0 < length passed → jobs_by start_job between ≡ []
starts_before passed between cut placed some =
    no_starts between (λ k e at starts.
    let r = at_right passed (between ++ cut ∷ []) k e (at_left between (cut ∷ []) k e at) in
    let one = (placed.started (suc r.0) e (at_index (passed ++ (between ++ cut ∷ [])) r.0 e r.2)).0 starts in
    let place = r.1 in
    omega arith)

pub starts_once : StartsOnce
starts_once passed between cut placed plain = (starts_here passed between cut placed plain, starts_before passed between cut placed)
