use Rattle.std.proofs.Common.{◌≡◌, ◌==◌, List, [], ◌∷◌, length, true, false, Err, refl, sym, ap, ◌∙◌, arith}
use Rattle.std.proofs.lemmas.Bool.Decides.{nat_tests}
use Rattle.wh_events.specs.declared.event.Event.{Event}
use Rattle.wh_events.specs.declared.place.PlaceFault.TheVariants.{FirstNotStart}
use Rattle.wh_events.specs.Places.{history_fault}
use Rattle.wh_replay.specs.declared.fault.Fault.TheVariants.{Place}
use Rattle.wh_replay.specs.Tracking.{in_place, joined}
use Rattle.wh_replay.proofs.Walking.{answers_err}
use Rattle.wh_replay.proofs.pushing.track_of.Goals as goal

-- a history has a first event
none_first : (events : List Event) → (length events == 0) ≡ true → in_place (history_fault events) events ≡ Err (Place 1 FirstNotStart)
none_first [] none = refl
none_first (event ∷ rest) none = absurd (grind (arith, nat_tests))

-- its events are joined to none
joined_first : (events : List Event) → (length events == 0) ≡ false → in_place (history_fault events) events ≡ joined [] events
joined_first [] some = cc
joined_first (event ∷ rest) some = refl

pub returns-then-is_empty : goal.returns-then-is_empty
returns-then-is_empty c =
    none_first c.args.events.items (ap (λ n. n == 0) (sym c.args.events.ok.0) ∙ (sym c.is_empty.ensures ∙ c.if-is_empty.true))

pub returns-in-Err : goal.returns-in-Err
returns-in-Err c =
    let events = c.args.events.items in
    let some : (length events == 0) ≡ false = ap (λ n. n == 0) (sym c.args.events.ok.0) ∙ (sym c.is_empty.ensures ∙ c.if-is_empty.false) in
    answers_err c.in-Err.fault (joined c.new-track.result events) (in_place (history_fault events) events) _ _
    (λ fault e. joined_first events some ∙ (ap (λ l. joined l events) (sym c.new-track.ensures) ∙ e)) c.in-Err.ensures

pub returns-in-Ok : goal.returns-in-Ok
returns-in-Ok c =
    let events = c.args.events.items in
    let some : (length events == 0) ≡ false = ap (λ n. n == 0) (sym c.args.events.ok.0) ∙ (sym c.is_empty.ensures ∙ c.if-is_empty.false) in
    joined_first events some ∙ (ap (λ l. joined l events) (sym c.new-track.ensures) ∙ c.in-Ok.ensures)
