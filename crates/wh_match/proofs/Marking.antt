-- After each call of a script its marks are those of its context.
use Rattle.std.proofs.Common.{◌≡◌, ℕ, ℤ, Bool, true, false, List, [], ◌∷◌, ◌++◌, refl, sym, ap, ◌∙◌}
use Rattle.std.proofs.lemmas.List.{append-nil}
use Rattle.wh_workflow.specs.declared.command.Command.{Command}
use Rattle.wh_workflow.specs.declared.command.Command.TheVariants.{Ask, Marker}
use Rattle.wh_workflow.specs.Activations.{marker_if}
use Rattle.wh_workflow.specs.Scripts.{ActivationContext, act_of}
use Rattle.wh_match.specs.Issuing.{context_at, context_in, is_late_act, late_marks, unmarked_if, reduced_by}
use Rattle.wh_match.specs.Calls.{after_call, after_calls, begun, CallsKeepMarks, CallsReduce}
use Rattle.wh_match.specs.Calls.Call.{issue, ask}
use Rattle.wh_match.proofs.Reducing.{late_marks-push, reduced_by-context}

ask_marks : (context : ActivationContext) (issued : List Command) (change_id : List ℕ) (low high : ℤ) (marked : Bool) (version : ℤ)
    → (late_marks context issued ++ false ∷ []) ++ unmarked_if marked ≡ late_marks context ((issued ++ Ask change_id low high ∷ []) ++ marker_if marked change_id version)
ask_marks context issued change_id low high true version =
    ap (λ l. l ++ false ∷ []) (sym (late_marks-push context issued (Ask change_id low high)))
    ∙ sym (late_marks-push context (issued ++ Ask change_id low high ∷ []) (Marker change_id version))
ask_marks context issued change_id low high false version =
    append-nil (late_marks context issued ++ false ∷ [])
    ∙ sym (late_marks-push context issued (Ask change_id low high))
    ∙ ap (late_marks context) (sym (append-nil (issued ++ Ask change_id low high ∷ [])))

issue_marks : (context : ActivationContext) (issued : List Command) (late : List Bool) (command : Command) → late ≡ late_marks context issued
    → late ++ is_late_act context issued (act_of command) ∷ [] ≡ late_marks context (issued ++ command ∷ [])
issue_marks context issued late command h = ap (λ l. l ++ is_late_act context issued (act_of command) ∷ []) h ∙ sym (late_marks-push context issued command)

pub keep_marks : CallsKeepMarks
keep_marks events recorded script [] h = h
keep_marks events recorded script (issue command ∷ calls) h =
    keep_marks events recorded (after_call events recorded script (issue command)) calls (issue_marks (context_in events script recorded) script.issued script.late command h)
keep_marks events recorded script (ask change_id low high choice ∷ calls) h =
    keep_marks events recorded (after_call events recorded script (ask change_id low high choice)) calls
    (ap (λ l. (l ++ false ∷ []) ++ unmarked_if choice.marked) h ∙ ask_marks (context_in events script recorded) script.issued change_id low high choice.marked choice.version)

pub calls_reduce : CallsReduce
calls_reduce events recorded previous cut calls =
    let context = context_at events previous cut recorded in
    let script = after_calls events recorded (begun previous cut) calls in
    ap (λ l. reduced_by l script.issued) (keep_marks events recorded (begun previous cut) calls refl) ∙ reduced_by-context context script.issued
