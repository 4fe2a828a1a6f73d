-- What a script holds after an ask, and the marker of its version if one is issued.
use Rattle.std.proofs.Common.{◌≡◌, ℕ, ℤ, ◌+◌, Bool, true, false, ◌||◌, List, [], ◌∷◌, ◌++◌, length, refl, sym, ap, ◌∙◌, append_assoc}
use Rattle.std.proofs.lemmas.List.{append-nil}
use Rattle.wh_workflow.specs.declared.command.Command.{Command}
use Rattle.wh_workflow.specs.declared.command.Command.TheVariants.{Ask, Marker}
use Rattle.wh_workflow.specs.Activations.{marker_if}
use Rattle.wh_workflow.specs.Scripts.{Choice, act_of, act_closes, some_act, given}
use Rattle.wh_match.specs.Issuing.{Issuing, unmarked_if, with_asked}
use Rattle.wh_match.proofs.Counts.{count_more, count_same, each_more}

ends_alike : (issued : List Command) (command : Command) → act_closes (act_of command) ≡ false → some_act act_closes issued ≡ some_act act_closes (issued ++ command ∷ [])
ends_alike [] command h = rw h refl
ends_alike (first ∷ rest) command h = ap (λ b. act_closes (act_of first) || b) (ends_alike rest command h)

module _ (issued : List Command) (change_id : List ℕ) (low high : ℤ) where
  -- the commands with the ask
  abbrev asked : List Command
  asked = issued ++ Ask change_id low high ∷ []

  -- and with the marker, where one is issued
  abbrev pub after_ask : Bool → ℤ → List Command
  after_ask marked version = asked ++ marker_if marked change_id version

  pub ask_joined : (marked : Bool) (version : ℤ) → issued ++ Ask change_id low high ∷ marker_if marked change_id version ≡ after_ask marked version
  ask_joined marked version = sym (append_assoc issued (Ask change_id low high ∷ []) (marker_if marked change_id version))

  pub asked_each : (late : List Bool) (marked : Bool) (version : ℤ) → length late ≡ length issued → length ((late ++ false ∷ []) ++ unmarked_if marked) ≡ length (after_ask marked version)
  asked_each late true version h = each_more (late ++ false ∷ []) asked false (Marker change_id version) (each_more late issued false (Ask change_id low high) h)
  asked_each late false version h =
      ap length (append-nil (late ++ false ∷ [])) ∙ each_more late issued false (Ask change_id low high) h ∙ ap length (sym (append-nil asked))

  pub asked_count : (count : ℕ) (marked : Bool) (version : ℤ) → count ≡ length (given issued) → count + 1 ≡ length (given (after_ask marked version))
  asked_count count true version h = count_same (count + 1) asked (Marker change_id version) refl (count_more count issued (Ask change_id low high) refl h)
  asked_count count false version h = count_more count issued (Ask change_id low high) refl h ∙ ap (λ l. length (given l)) (sym (append-nil asked))

  pub asked_ended : (marked : Bool) (version : ℤ) → some_act act_closes issued ≡ some_act act_closes (after_ask marked version)
  asked_ended true version = ends_alike issued (Ask change_id low high) refl ∙ ends_alike asked (Marker change_id version) refl
  asked_ended false version = ends_alike issued (Ask change_id low high) refl ∙ ap (some_act act_closes) (sym (append-nil asked))

pub asked_view : (script : Issuing) (issued : List Command) (late : List Bool) (change_id : List ℕ) (low high : ℤ) (choice chosen : Choice) → choice ≡ chosen
    → issued ≡ after_ask script.issued change_id low high chosen.marked chosen.version → late ≡ (script.late ++ false ∷ []) ++ unmarked_if chosen.marked
    → record { previous = script.previous; cut = script.cut; issued = issued; late = late } ≡ with_asked script change_id low high choice
asked_view script issued late change_id low high choice chosen same i l = rw (i, l) (ap (with_asked script change_id low high) (sym same))
