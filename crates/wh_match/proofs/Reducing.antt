-- What a script sends is what is to be sent in its context, if its marks are of that context.
use Rattle.std.proofs.Common.{◌≡◌, ℕ, ◌+◌, ◌-◌, ◌<◌, Bool, true, false, cond, List, [], ◌∷◌, ◌++◌, length, get_or, take, drop, refl, sym, ap, ◌∙◌, append_assoc, arith}
use Rattle.std.proofs.lemmas.List.{append-nil, take_more, drop_more, take_rest}
use Rattle.wh_workflow.specs.declared.command.Command.{Command}
use Rattle.wh_workflow.specs.Scripts.{ActivationContext, Act, act_of, is_sent_act, sent_after, reduced}
use Rattle.wh_workflow.specs.Scripts.Act.{Opening, Cancelling, Closing, Asking, Other}
use Rattle.wh_match.specs.Issuing.{is_late_act, late_after, late_marks, is_sent_by, sent_by, reduced_by}

late_after-push : (context : ActivationContext) (earlier issued : List Command) (command : Command) → late_after context earlier (issued ++ command ∷ []) ≡ late_after context earlier issued ++ is_late_act context (earlier ++ issued) (act_of command) ∷ []
late_after-push context earlier [] command = ap (λ l. is_late_act context l (act_of command) ∷ []) (sym (append-nil earlier))
late_after-push context earlier (first ∷ rest) command =
    let later = late_after-push context (earlier ++ first ∷ []) rest command in
    let joined = append_assoc earlier (first ∷ []) rest in
    ap (λ l. is_late_act context earlier (act_of first) ∷ l) (later ∙ ap (λ l. late_after context (earlier ++ first ∷ []) rest ++ is_late_act context l (act_of command) ∷ []) joined)

-- one more command has a mark more
pub late_marks-push : (context : ActivationContext) (issued : List Command) (command : Command) → late_marks context (issued ++ command ∷ []) ≡ late_marks context issued ++ is_late_act context issued (act_of command) ∷ []
late_marks-push context issued command = late_after-push context [] issued command

sent_alike : (context : ActivationContext) (earlier later : List Command) (act : Act) → is_sent_by (is_late_act context earlier act) earlier later act ≡ is_sent_act context earlier later act
sent_alike context earlier later (Opening thing id) = refl
sent_alike context earlier later (Cancelling thing id) = refl
sent_alike context earlier later (Asking change_id low high) = refl
sent_alike context earlier later Closing = refl
sent_alike context earlier later Other = refl

sent_by-context : (context : ActivationContext) (earlier issued : List Command) → sent_by earlier (late_after context earlier issued) issued ≡ sent_after context earlier issued
sent_by-context context earlier [] = refl
sent_by-context context earlier (command ∷ later) =
    let more = sent_by-context context (earlier ++ command ∷ []) later in
    let sent = sent_alike context earlier later (act_of command) in
    ap (λ l. cond (is_sent_by (is_late_act context earlier (act_of command)) earlier later (act_of command)) (command ∷ l) l) more
    ∙ ap (λ b. cond b (command ∷ sent_after context (earlier ++ command ∷ []) later) (sent_after context (earlier ++ command ∷ []) later)) sent

-- commands that are marked at a context are reduced as there
pub reduced_by-context : (context : ActivationContext) (issued : List Command) → reduced_by (late_marks context issued) issued ≡ reduced context issued
reduced_by-context context issued = sent_by-context context [] issued

module _ (late : List Bool) (issued : List Command) (place : ℕ) (command : Command) (within : place < length issued) (each : length late ≡ length issued) (here : command ≡ get_or issued place command) where
  -- what is sent of the commands after this one
  abbrev next_sent : List Command
  next_sent = sent_by (take (place + 1) issued) (drop (place + 1) late) (drop (place + 1) issued)

  -- this one is sent, as the code tells
  abbrev is_told : Bool
  is_told = is_sent_by (get_or late place false) (take place issued) (take (length issued - (place + 1)) (drop (place + 1) issued)) (act_of command)

  one_sent : sent_by (take place issued) (drop place late) (drop place issued) ≡ cond is_told (command ∷ next_sent) next_sent
  one_sent =
      let mark = get_or late place false in
      let earlier = take place issued in
      let later = drop (place + 1) issued in
      let marks = drop (place + 1) late in
      let inside : place < length late = omega arith in
      let marks_are : drop place late ≡ mark ∷ marks = drop_more late place false inside in
      let commands_are : drop place issued ≡ command ∷ later = drop_more issued place command within ∙ ap (λ x. x ∷ later) (sym here) in
      let taken : earlier ++ command ∷ [] ≡ take (place + 1) issued = ap (λ x. earlier ++ x ∷ []) here ∙ sym (take_more issued place command within) in
      let rest : take (length issued - (place + 1)) later ≡ later = take_rest issued (place + 1) in
      ap (λ l. sent_by earlier l (drop place issued)) marks_are
      ∙ ap (sent_by earlier (mark ∷ marks)) commands_are
      ∙ ap (λ l. cond (is_sent_by mark earlier later (act_of command)) (command ∷ sent_by l marks later) (sent_by l marks later)) taken
      ∙ ap (λ l. cond (is_sent_by mark earlier l (act_of command)) (command ∷ next_sent) next_sent) (sym rest)

  pub step_sent : (sent whole : List Command) → true ≡ is_told → sent ++ sent_by (take place issued) (drop place late) (drop place issued) ≡ whole → (sent ++ command ∷ []) ++ next_sent ≡ whole
  step_sent sent whole told h =
      append_assoc sent (command ∷ []) next_sent
      ∙ ap (λ b. sent ++ cond b (command ∷ next_sent) next_sent) told
      ∙ ap (λ l. sent ++ l) (sym one_sent) ∙ h

  pub step_dropped : (sent whole : List Command) → false ≡ is_told → sent ++ sent_by (take place issued) (drop place late) (drop place issued) ≡ whole → sent ++ next_sent ≡ whole
  step_dropped sent whole told h = ap (λ b. sent ++ cond b (command ∷ next_sent) next_sent) told ∙ ap (λ l. sent ++ l) (sym one_sent) ∙ h
