-- No command but the last one asks.
use Rattle.std.proofs.Common.{◌≡◌, Bool, true, false, not, ◌&&◌, List, [], ◌∷◌, refl, ap, ◌∙◌}
use Rattle.std.specs.Prelude.{if◌then◌else◌}
use Rattle.wh_workflow.specs.declared.command.Command.{Command}
use Rattle.wh_workflow.specs.Law.{is_ask, asks_last}

-- none of these follows one that asks, if the one before them asks or not
abbrev pub goes_on : Bool → List Command → Bool
goes_on asked [] = true
goes_on asked (one ∷ rest) = if asked then false else goes_on (is_ask one) rest

unless : (asks rest : Bool) → (if asks then false else rest) ≡ (not asks && rest)
unless true rest = refl
unless false rest = refl

pub goes_on_asks : (given : List Command) → goes_on false given ≡ asks_last given
goes_on_asks [] = refl
goes_on_asks (one ∷ []) = refl
goes_on_asks (one ∷ next ∷ rest) =
    unless (is_ask one) (goes_on (is_ask next) rest) ∙ ap (λ more. not (is_ask one) && more) (goes_on_asks (next ∷ rest))
