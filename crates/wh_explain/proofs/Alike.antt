-- The commands that are sent beside the recorded events, one event after another.
use Rattle.std.proofs.Common.{◌≡◌, ◌∙◌, ℕ, ◌+◌, ◌<◌, Bool, true, if◌then◌else◌, List, [], ◌∷◌, ◌++◌, drop, length, get_or, Result, Ok, Err, IfOk, IsOkAnd, ap, sym, append_assoc}
use Rattle.std.proofs.lemmas.List.{drop_more}
use Rattle.wh_events.specs.declared.event.Event.{Event}
use Rattle.wh_events.specs.Cuts.{is_commanded, commanded}
use Rattle.wh_events.specs.declared.memory.OutOfMemory.{OutOfMemory}
use Rattle.wh_workflow.specs.declared.command.Command.{Command}
use Rattle.wh_workflow.specs.Names.{names}
use Rattle.wh_explained_tasks.specs.declared.Pairing.{Pairing}
use Rattle.wh_explain.specs.Pairings.{pairing_of, pairings}

first_left : {A : Type 0} (xs : List A) (i : ℕ) (x : A) → i < length xs → x ≡ get_or xs i x → drop i xs ≡ x ∷ drop (i + 1) xs
first_left xs i x within is = drop_more xs i x within ∙ ap (λ y. y ∷ drop (i + 1) xs) (sym is)

-- an event that a command gave is the next
pub commanded_next : (events : List Event) (i : ℕ) (event : Event) → i < length events → event ≡ get_or events i event → is_commanded event ≡ true → commanded (drop i events) ≡ event ∷ commanded (drop (i + 1) events)
commanded_next events i event within is so =
    let rest = commanded (drop (i + 1) events) in
    ap commanded (first_left events i event within is) ∙ ap (λ (b : Bool). if b then event ∷ rest else rest) so

-- what was made is added
pub made_is : (made : Result Pairing OutOfMemory) (pairing : Pairing) (before after : List Pairing) → IfOk made (λ p. p ≡ pairing) → IsOkAnd made (λ p. after ≡ before ++ p ∷ []) → after ≡ before ++ pairing ∷ []
made_is (Ok p) pairing before after is added = added ∙ ap (λ x. before ++ x ∷ []) is
made_is (Err full) pairing before after is added = absurd added

module _ (history : List Event) (sent : List Command) (place : ℕ) (command : Command) (event : Event) (rest : List Event) (before after whole : List Pairing) (within : place < length sent) (is : command ≡ get_or sent place command) (added : after ≡ before ++ pairing_of history command event ∷ []) (held : before ++ pairings history (drop place sent) (event ∷ rest) ≡ whole) where
  abbrev behind : Bool → List Pairing
  behind alike = if alike then pairings history (drop (place + 1) sent) rest else []

  -- with a pair one more command and event are beside one another
  pub one_more : (alike : Bool) → alike ≡ names history command event.body → after ++ behind alike ≡ whole
  one_more alike so =
      ap (λ list. list ++ behind alike) added
      ∙ append_assoc before (pairing_of history command event ∷ []) (behind alike)
      ∙ ap (λ (b : Bool). before ++ pairing_of history command event ∷ behind b) so
      ∙ ap (λ left. before ++ pairings history left (event ∷ rest)) (sym (first_left sent place command within is))
      ∙ held
