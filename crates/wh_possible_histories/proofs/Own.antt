-- What the commands that are sent do to one thing.
use Rattle.std.proofs.Common.{◌≡◌, ℕ, Bool, true, false, not, ◌&&◌, ◌||◌, cond, List, [], ◌∷◌, ◌++◌, refl, ap, ap₂, sym, subst, ◌∙◌}
use Rattle.std.specs.Prelude.{bytes_eq}
use Rattle.std.proofs.lemmas.Bool.{and_parts, and_from}
use Rattle.std.proofs.lemmas.Slice.Eq.{bytes_eq-Decides}
use Rattle.wh_events.specs.declared.place.Thing.{Thing}
use Rattle.wh_events.specs.Machines.{same_thing}
use Rattle.wh_workflow.specs.declared.command.Command.{Command}
use Rattle.wh_workflow.specs.Scripts.{ActivationContext, Act, act_of, act_opens, act_cancels, some_act, left_open, withdrawn, is_timer, open_at, is_cancel_sent, is_sent_act, sent_after, reduced}
use Rattle.wh_workflow.specs.Scripts.Act.{Opening, Cancelling, Asking, Closing, Other}
use Rattle.wh_possible_runs.specs.Rules.{IsWell, AreWell}
use Rattle.wh_possible_runs.proofs.Rules.{so, both, two, opens_well, cancels_well, is_sound, so_then, some_more, left_more, things_are, append_one, append_none, Sound, asked, ended, Right, right, goes_on, sound_first}

-- what comes of a command before the rest: true if it opens the thing, false if it cancels it
abbrev pub mark : Bool → Bool → List Bool → List Bool
mark true cancels rest = true ∷ rest
mark false true rest = false ∷ rest
mark false false rest = rest

-- what commands do to the thing, one after another
abbrev pub own : Thing → List ℕ → List Command → List Bool
own thing id [] = []
own thing id (command ∷ rest) =
    mark (act_opens thing id (act_of command)) (act_cancels thing id (act_of command)) (own thing id rest)

-- without what opens it
abbrev drop : List Bool → List Bool
drop [] = []
drop (true ∷ rest) = drop rest
drop (false ∷ rest) = false ∷ drop rest

-- what is sent, by what is so of the thing at the cut and of the commands
abbrev pub sends : Bool → Bool → Bool → List Bool
sends here canceled left = cond (here && canceled) (false ∷ []) [] ++ cond left (true ∷ []) []

abbrev own_if : Bool → Bool → Bool → List Bool → List Bool
own_if sent opens cancels rest = cond sent (mark opens cancels rest) rest

module _ (thing : Thing) (id : List ℕ) where
  own_sent : (sent : Bool) (command : Command) (rest : List Command)
      → own thing id (cond sent (command ∷ rest) rest)
      ≡ own_if sent (act_opens thing id (act_of command)) (act_cancels thing id (act_of command)) (own thing id rest)
  own_sent true command rest = refl
  own_sent false command rest = refl

  step : (opens cancels last sent more : Bool) (rest later here : List Bool)
      → (opens ≡ true → more ≡ (sent && not last)) → (cancels ≡ true → more ≡ sent)
      → later ≡ cond last (drop rest) rest ++ here
      → own_if more opens cancels later ≡ cond last (drop (own_if sent opens cancels rest)) (own_if sent opens cancels rest) ++ here
  step true cancels true true more rest later here opened canceled is = rw (opened refl) is
  step true cancels true false more rest later here opened canceled is = rw (opened refl) is
  step true cancels false true more rest later here opened canceled is = rw (opened refl) (ap (λ (list : List Bool). true ∷ list) is)
  step true cancels false false more rest later here opened canceled is = rw (opened refl) is
  step false true true true more rest later here opened canceled is = rw (canceled refl) (ap (λ (list : List Bool). false ∷ list) is)
  step false true true false more rest later here opened canceled is = rw (canceled refl) is
  step false true false true more rest later here opened canceled is = rw (canceled refl) (ap (λ (list : List Bool). false ∷ list) is)
  step false true false false more rest later here opened canceled is = rw (canceled refl) is
  step false false true true true rest later here opened canceled is = is
  step false false true true false rest later here opened canceled is = is
  step false false true false true rest later here opened canceled is = is
  step false false true false false rest later here opened canceled is = is
  step false false false true true rest later here opened canceled is = is
  step false false false true false rest later here opened canceled is = is
  step false false false false true rest later here opened canceled is = is
  step false false false false false rest later here opened canceled is = is

  -- it is the same thing
  same_name : (other : Thing) (other_id : List ℕ) → (same_thing thing other && bytes_eq id other_id) ≡ true
      → (thing ≡ other) × (id ≡ other_id)
  same_name other other_id is =
      let parts : (same_thing thing other ≡ true) × (bytes_eq id other_id ≡ true) = and_parts (same_thing thing other) (bytes_eq id other_id) is in
      (things_are thing other parts.0, (bytes_eq-Decides id other_id).0 parts.1)

  module _ (context : ActivationContext) (last : Command) where
    -- what the last command does if it is sent
    abbrev at_end : List Command → List Bool
    at_end earlier = own thing id (cond (is_sent_act context earlier [] (act_of last)) (last ∷ []) [])

    alike : (earlier later : List Command) (act : Act)
        → (act_opens thing id act ≡ true
        → is_sent_act context earlier (later ++ last ∷ []) act
        ≡ (is_sent_act context earlier later act && not (act_cancels thing id (act_of last))))
        × (act_cancels thing id act ≡ true
        → is_sent_act context earlier (later ++ last ∷ []) act ≡ is_sent_act context earlier later act)
    alike earlier later (Opening other other_id) = (
      λ is.
          let names = same_name other other_id is in
          rw (sym names.0, sym names.1, some_more (act_cancels thing id) later last)
          (by (some_act (act_cancels thing id) later) (act_cancels thing id (act_of last))),
      λ is. cc,
    )
      where
        by : (a b : Bool) → not (a || b) ≡ (not a && not b)
        by true b = refl
        by false b = refl
    alike earlier later (Cancelling other other_id) = (λ is. cc, λ is. refl)
    alike earlier later Closing = (λ is. cc, λ is. cc)
    alike earlier later (Asking _ _ _) = (λ is. cc, λ is. cc)
    alike earlier later Other = (λ is. cc, λ is. cc)

    more : (earlier list : List Command)
        → own thing id (sent_after context earlier (list ++ last ∷ []))
        ≡ cond (act_cancels thing id (act_of last)) (drop (own thing id (sent_after context earlier list)))
        (own thing id (sent_after context earlier list)) ++ at_end (earlier ++ list)
    more earlier [] =
        by (act_cancels thing id (act_of last))
        ∙ ap (λ l. cond (act_cancels thing id (act_of last)) (drop []) [] ++ at_end l) (sym (append_none earlier))
      where
        by : (t : Bool) → at_end earlier ≡ cond t (drop []) [] ++ at_end earlier
        by true = refl
        by false = refl
    more earlier (first ∷ list) =
        own_sent (is_sent_act context earlier (list ++ last ∷ []) (act_of first)) first
        (sent_after context (earlier ++ first ∷ []) (list ++ last ∷ []))
        ∙ step (act_opens thing id (act_of first)) (act_cancels thing id (act_of first)) (act_cancels thing id (act_of last))
        (is_sent_act context earlier list (act_of first)) (is_sent_act context earlier (list ++ last ∷ []) (act_of first))
        (own thing id (sent_after context (earlier ++ first ∷ []) list))
        (own thing id (sent_after context (earlier ++ first ∷ []) (list ++ last ∷ [])))
        (at_end (earlier ++ first ∷ list))
        (alike earlier list (act_of first)).0 (alike earlier list (act_of first)).1
        (more (earlier ++ first ∷ []) list
        ∙ ap (λ l. cond (act_cancels thing id (act_of last)) (drop (own thing id (sent_after context (earlier ++ first ∷ []) list)))
        (own thing id (sent_after context (earlier ++ first ∷ []) list)) ++ at_end l) (append_one earlier first list))
        ∙ sym (ap (λ l. cond (act_cancels thing id (act_of last)) (drop l) l ++ at_end (earlier ++ first ∷ list))
        (own_sent (is_sent_act context earlier list (act_of first)) first (sent_after context (earlier ++ first ∷ []) list)))

    sent_one : (earlier : List Command) → at_end earlier
        ≡ cond (is_sent_act context earlier [] (act_of last)) (mark (act_opens thing id (act_of last)) (act_cancels thing id (act_of last)) []) []
    sent_one earlier = own_sent (is_sent_act context earlier [] (act_of last)) last []

    -- by what the last command does
    end_is : (earlier : List Command) (act : Act) → act_of last ≡ act
        → at_end earlier ≡ cond (act_opens thing id act) (true ∷ [])
        (cond (act_cancels thing id act) (cond (is_cancel_sent context earlier thing id) (false ∷ []) []) [])
    end_is earlier (Opening other other_id) is =
        sent_one earlier ∙ ap (λ act. cond (is_sent_act context earlier [] act) (mark (act_opens thing id act) (act_cancels thing id act) []) []) is
        ∙ by (same_thing thing other && bytes_eq id other_id)
      where
        by : (t : Bool) → mark t false [] ≡ cond t (true ∷ []) []
        by true = refl
        by false = refl
    end_is earlier (Cancelling other other_id) is =
        sent_one earlier ∙ ap (λ act. cond (is_sent_act context earlier [] act) (mark (act_opens thing id act) (act_cancels thing id act) []) []) is
        ∙ by (same_thing thing other && bytes_eq id other_id) refl
      where
        none : (t : Bool) → cond t (mark false false []) [] ≡ []
        none true = refl
        none false = refl

        by : (t : Bool) → (same_thing thing other && bytes_eq id other_id) ≡ t
            → cond (is_cancel_sent context earlier other other_id) (mark false t []) []
            ≡ cond t (cond (is_cancel_sent context earlier thing id) (false ∷ []) []) []
        by true p = let names = same_name other other_id p in rw (sym names.0, sym names.1) refl
        by false p = none (is_cancel_sent context earlier other other_id)
    end_is earlier Closing is =
        sent_one earlier ∙ ap (λ act. cond (is_sent_act context earlier [] act) (mark (act_opens thing id act) (act_cancels thing id act) []) []) is
    end_is earlier (Asking _ _ _) is =
        sent_one earlier ∙ ap (λ act. cond (is_sent_act context earlier [] act) (mark (act_opens thing id act) (act_cancels thing id act) []) []) is
    end_is earlier Other is =
        sent_one earlier ∙ ap (λ act. cond (is_sent_act context earlier [] act) (mark (act_opens thing id act) (act_cancels thing id act) []) []) is

-- both lists are equal
abbrev same_bools : List Bool → List Bool → Bool
same_bools [] [] = true
same_bools (true ∷ rest) (true ∷ others) = same_bools rest others
same_bools (false ∷ rest) (false ∷ others) = same_bools rest others
same_bools _ _ = false

bools_are : (one other : List Bool) → same_bools one other ≡ true → one ≡ other
bools_are [] [] is = refl
bools_are (true ∷ rest) (true ∷ others) is = ap (λ (list : List Bool). true ∷ list) (bools_are rest others is)
bools_are (false ∷ rest) (false ∷ others) is = ap (λ (list : List Bool). false ∷ list) (bools_are rest others is)
bools_are (true ∷ rest) (false ∷ others) is = cc
bools_are (false ∷ rest) (true ∷ others) is = cc
bools_are [] (true ∷ others) is = cc
bools_are [] (false ∷ others) is = cc
bools_are (true ∷ rest) [] is = cc
bools_are (false ∷ rest) [] is = cc

-- what one more command, that opens the thing or cancels it, adds to what is sent
abbrev adds : Bool → Bool → Bool → Bool → Bool → Bool → Bool → Bool → Bool → Bool → Bool
adds timer here asked ended opened canceled left gone opens cancels =
    so (is_sound timer here asked ended opened canceled left gone
    && (so opens (opens_well timer here asked ended opened canceled left gone)
    && (so cancels (cancels_well timer here asked ended opened canceled left gone) && not (opens && cancels))))
    (same_bools
    (cond cancels (drop (sends here canceled left)) (sends here canceled left)
    ++ cond opens (true ∷ []) (cond cancels (cond (not left && not (not here && (not opened && ended))) (false ∷ []) []) []))
    (sends here (canceled || cancels) ((left && not cancels) || opens)))

abbrev adds_ever : Bool
adds_ever =
    two (λ t. two (λ a. two (λ b. two (λ c. two (λ d. two (λ e. two (λ f. two (λ g. two (λ h. two (λ i. adds t a b c d e f g h i))))))))))

adds_all : adds_ever ≡ true
adds_all = refl

adds_so : (t a b c d e f g h i : Bool) → adds t a b c d e f g h i ≡ true
adds_so t a b c d e f g h i =
    both (λ i. adds t a b c d e f g h i)
    (both (λ h. two (λ i. adds t a b c d e f g h i))
    (both (λ g. two (λ h. two (λ i. adds t a b c d e f g h i)))
    (both (λ f. two (λ g. two (λ h. two (λ i. adds t a b c d e f g h i))))
    (both (λ e. two (λ f. two (λ g. two (λ h. two (λ i. adds t a b c d e f g h i)))))
    (both (λ d. two (λ e. two (λ f. two (λ g. two (λ h. two (λ i. adds t a b c d e f g h i))))))
    (both (λ c. two (λ d. two (λ e. two (λ f. two (λ g. two (λ h. two (λ i. adds t a b c d e f g h i)))))))
    (both (λ b. two (λ c. two (λ d. two (λ e. two (λ f. two (λ g. two (λ h. two (λ i. adds t a b c d e f g h i))))))))
    (both (λ a. two (λ b. two (λ c. two (λ d. two (λ e. two (λ f. two (λ g. two (λ h. two (λ i. adds t a b c d e f g h i)))))))))
    (both (λ t. two (λ a. two (λ b. two (λ c. two (λ d. two (λ e. two (λ f. two (λ g. two (λ h. two (λ i. adds t a b c d e f g h i))))))))))
    adds_all t) a) b) c) d) e) f) g) h) i

module _ (context : ActivationContext) (thing : Thing) (id : List ℕ) where
  -- what is sent of commands
  abbrev Sends : List Command → Type 0
  Sends issued =
      own thing id (sent_after context [] issued)
      ≡ sends (open_at context thing id) (some_act (act_cancels thing id) issued) (left_open thing id issued)

  one_more : (earlier : List Command) (command : Command) → Sound context thing id earlier → Sends earlier
      → IsWell context earlier (act_of command) → Sends (earlier ++ command ∷ [])
  one_more earlier command sound is well =
      let o : Bool = act_opens thing id (act_of command) in
      let c : Bool = act_cancels thing id (act_of command) in
      let fine : Right context thing id earlier (act_of command) = right context thing id earlier (act_of command) well in
      let all =
      so_then _ _
      (adds_so (is_timer thing) (open_at context thing id) (asked context thing id) (ended context thing id)
      (some_act (act_opens thing id) earlier) (some_act (act_cancels thing id) earlier) (left_open thing id earlier) (withdrawn thing id earlier) o c)
      (and_from _ _ sound (and_from _ _ fine.0 (and_from _ _ fine.1 fine.2))) in
      more thing id context command [] earlier
      ∙ ap₂ (λ (l e : List Bool). cond (act_cancels thing id (act_of command)) (drop l) l ++ e) is
      (end_is thing id context command earlier (act_of command) refl)
      ∙ bools_are _ _ all
      ∙ sym (ap₂ (λ (a b : Bool). sends (open_at context thing id) a b) (some_more (act_cancels thing id) earlier command)
      (left_more thing id earlier command))

  all_more : (earlier rest : List Command) → Sound context thing id earlier → Sends earlier → AreWell context earlier rest
      → Sends (earlier ++ rest)
  all_more earlier [] sound is wells = subst (λ list. Sends list) (sym (append_none earlier)) is
  all_more earlier (one ∷ rest) sound is wells =
      subst (λ list. Sends list) (append_one earlier one rest)
      (all_more (earlier ++ one ∷ []) rest (goes_on context thing id earlier one sound wells.0).0
      (one_more earlier one sound is wells.0) wells.1)

  -- what is sent for the thing: a cancel if it was open at the cut and is canceled, and an opening if it is left open
  pub own_reduced : (issued : List Command) → AreWell context [] issued
      → own thing id (reduced context issued)
      ≡ sends (open_at context thing id) (some_act (act_cancels thing id) issued) (left_open thing id issued)
  own_reduced issued wells = all_more [] issued (sound_first context thing id) (by (open_at context thing id)) wells
    where
      by : (t : Bool) → [] ≡ sends t false false
      by true = refl
      by false = refl
