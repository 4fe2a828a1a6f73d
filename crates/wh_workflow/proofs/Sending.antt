-- All issued commands except the dropped ones are sent, in their order.
use Rattle.std.proofs.Common.{◌≡◌, suc, Bool, true, false, not, ◌&&◌, ◌||◌, cond, List, [], ◌∷◌, ◌++◌, length, Some, refl, sym, ap, subst, ◌∙◌, inl, slice_get, append_assoc}
use Rattle.std.specs.Bool.{Decides}
use Rattle.std.proofs.lemmas.Bool.Decides.{Decides-at, Decides-or}
use Rattle.std.proofs.lemmas.List.{append-nil}
use Rattle.wh_workflow.specs.declared.command.Command.{Command}
use Rattle.wh_workflow.specs.Scripts.{ActivationContext, Act, act_of, act_cancels, some_act, left_open, is_late, is_sent_act, sent_after}
use Rattle.wh_workflow.specs.Scripts.Act.{Opening, Cancelling, Closing, Asking, Other}
use Rattle.wh_workflow.specs.CommandFaults.{IsOfCut}
use Rattle.wh_workflow.specs.Sent.{IsDropped, marked, SendsAllButDropped, DropsPairs}
use Rattle.wh_workflow.proofs.Faulting.{some_cancels, left_decides, late_decides}

not_twice : (b : Bool) → not (not b) ≡ b
not_twice true = refl
not_twice false = refl

not_neither : (a b : Bool) → not (not a && not b) ≡ (a || b)
not_neither true b = refl
not_neither false b = not_twice b

dropped_decides : (context : ActivationContext) → IsOfCut context → (earlier later : List Command) (act : Act) → Decides (not (is_sent_act context earlier later act)) (IsDropped context earlier later act)
dropped_decides context of_cut earlier later (Opening thing id) =
    let canceled : Bool = some_act (act_cancels thing id) later in
    Decides-at (not (not canceled)) canceled (not_twice canceled) (some_cancels thing id later)
dropped_decides context of_cut earlier later (Cancelling thing id) =
    let open_here : Bool = left_open thing id earlier in
    let late : Bool = is_late context earlier thing id in
    Decides-at (not (not open_here && not late)) (open_here || late) (not_neither open_here late) (Decides-or open_here late (left_decides thing id earlier) (late_decides context of_cut thing id earlier))
dropped_decides context of_cut earlier later (Asking _ _ _) = (λ h. tt, λ h. refl)
dropped_decides context of_cut earlier later Closing = (λ h. cc, λ h. absurd h)
dropped_decides context of_cut earlier later Other = (λ h. cc, λ h. absurd h)

-- a mark for each command that is sent
marks_after : ActivationContext → List Command → List Command → List Bool
marks_after context earlier [] = []
marks_after context earlier (command ∷ later) = is_sent_act context earlier later (act_of command) ∷ marks_after context (earlier ++ command ∷ []) later

marks_each : (context : ActivationContext) (earlier commands : List Command) → length (marks_after context earlier commands) ≡ length commands
unfolding marks_after
marks_each context earlier [] = refl
marks_each context earlier (command ∷ later) = ap suc (marks_each context (earlier ++ command ∷ []) later)

marks_tell : (context : ActivationContext) (earlier commands : List Command) → sent_after context earlier commands ≡ marked (marks_after context earlier commands) commands
unfolding marks_after
marks_tell context earlier [] = refl
marks_tell context earlier (command ∷ later) = ap (λ l. cond (is_sent_act context earlier later (act_of command)) (command ∷ l) l) (marks_tell context (earlier ++ command ∷ []) later)

mark_at : (context : ActivationContext) (before earlier later : List Command) (command : Command) → slice_get (marks_after context before (earlier ++ command ∷ later)) (length earlier) ≡ Some (is_sent_act context (before ++ earlier) later (act_of command))
unfolding marks_after
mark_at context before [] later command = ap (λ l. Some (is_sent_act context l later (act_of command))) (sym (append-nil before))
mark_at context before (x ∷ earlier) later command = mark_at context (before ++ x ∷ []) earlier later command ∙ ap (λ l. Some (is_sent_act context l later (act_of command))) (append_assoc before (x ∷ []) earlier)

unset : (b : Bool) → not b ≡ true → b ≡ false
unset true h = cc
unset false h = refl

pub sends_all_but_dropped : SendsAllButDropped
sends_all_but_dropped context issued of_cut = record {
  marks = marks_after context [] issued;
  each = marks_each context [] issued;
  sent = marks_tell context [] issued;
  dropped = λ earlier later command is.
      let here : slice_get (marks_after context [] issued) (length earlier) ≡ Some (is_sent_act context earlier later (act_of command)) = ap (λ l. slice_get (marks_after context [] l) (length earlier)) is ∙ mark_at context [] earlier later command in
      let decides = dropped_decides context of_cut earlier later (act_of command) in (
        λ h. decides.0 (let none : is_sent_act context earlier later (act_of command) ≡ false = cc in ap not none),
        λ h. here ∙ ap Some (unset (is_sent_act context earlier later (act_of command)) (decides.1 h)),
      );
}

pub drops_pairs : DropsPairs
drops_pairs context before between after opening cancel thing id opens cancels none = (
  subst (IsDropped context before (between ++ cancel ∷ after)) (sym opens) (between, cancel, after, refl, cancels),
  subst (IsDropped context (before ++ opening ∷ between) after) (sym cancels) (inl (before, opening, between, refl, opens, none)),
)
