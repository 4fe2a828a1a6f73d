-- The ends of tasks are in order, and within the history.
use Rattle.std.proofs.Common.{◌≡◌, ℕ, zero, suc, ◌+◌, ◌-◌, ◌<◌, ◌≤◌, List, [], ◌∷◌, Bool, true, false, cond, length, get_or, eqb, ap, ◌∙◌, arith}
use Rattle.std.proofs.lemmas.Bool.Decides.{nat_tests}
use Rattle.std.proofs.lemmas.List.{get_or_default}
use Rattle.wh_events.specs.declared.event.Event.{Event}
use Rattle.wh_events.specs.Cuts.{is_task_started}
use Rattle.wh_recorded.specs.Rounds.{ends_after, ends_of, begin_at}

-- each end is past the events before the list, and within the list
pub end_within : (before : ℕ) (events : List Event) (i : ℕ) → i < length (ends_after before events) → (before < get_or (ends_after before events) i 0) × (get_or (ends_after before events) i 0 ≤ before + length events)
end_within before [] i within = absurd (omega (arith, within))
end_within before (x ∷ rest) i within =
    by (ends_after (before + 1) rest) (is_task_started x) i (λ j there. end_within (before + 1) rest j there) within
  where
    by : (later : List ℕ) (b : Bool) (k : ℕ) → ((j : ℕ) → j < length later → (before + 1 < get_or later j 0) × (get_or later j 0 ≤ before + 1 + length rest)) → k < length (cond b ((before + 1) ∷ later) later) → (before < get_or (cond b ((before + 1) ∷ later) later) k 0) × (get_or (cond b ((before + 1) ∷ later) later) k 0 ≤ before + suc (length rest))
    by later true zero others there = (omega arith, omega arith)
    by later true (suc k) others there = let r = others k (omega (arith, there)) in let low = r.0 in let high = r.1 in (omega (arith, low), omega (arith, high))
    by later false k others there = let r = others k there in let low = r.0 in let high = r.1 in (omega (arith, low), omega (arith, high))

-- ends rise
pub ends_rise : (before : ℕ) (events : List Event) (i j : ℕ) → i < j → j < length (ends_after before events) → get_or (ends_after before events) i 0 < get_or (ends_after before events) j 0
ends_rise before [] i j order within = absurd (omega (arith, within))
ends_rise before (x ∷ rest) i j order within =
    by (ends_after (before + 1) rest) (is_task_started x) i j (λ k there. (end_within (before + 1) rest k there).0) (λ k l first there. ends_rise (before + 1) rest k l first there) order within
  where
    by : (later : List ℕ) (b : Bool) (k l : ℕ) → ((m : ℕ) → m < length later → before + 1 < get_or later m 0) → ((m n : ℕ) → m < n → n < length later → get_or later m 0 < get_or later n 0) → k < l → l < length (cond b ((before + 1) ∷ later) later) → get_or (cond b ((before + 1) ∷ later) later) k 0 < get_or (cond b ((before + 1) ∷ later) later) l 0
    by later true k zero past others first there = absurd (omega (arith, first))
    by later true zero (suc l) past others first there = past l (omega (arith, there))
    by later true (suc k) (suc l) past others first there = others k l (omega (arith, first)) (omega (arith, there))
    by later false k l past others first there = others k l first there

-- a task has an event
pub begins_before : (events : List Event) (n : ℕ) → n < length (ends_of events) → begin_at (ends_of events) n < get_or (ends_of events) n 0
begins_before events zero within = (end_within 0 events 0 within).0
begins_before events (suc n) within =
    let one : suc n - 1 ≡ n = omega arith in let more : eqb (suc n) 0 ≡ false = grind (arith, nat_tests) in rw (one, more) (ends_rise 0 events n (suc n) (omega arith) within)

-- so a task begins before it ends, and ends within the history
pub task_within : (events : List Event) (ends : List ℕ) (n begin end : ℕ) → ends ≡ ends_of events → n < length (ends_of events) → begin ≡ begin_at (ends_of events) n → end ≡ get_or ends n end → (begin ≤ end) × (end ≤ length events)
task_within events ends n begin end same within is found =
    let at : end ≡ get_or (ends_of events) n 0 = found ∙ ap (λ list. get_or list n end) same ∙ get_or_default (ends_of events) n end 0 within in
    let begins = begins_before events n within in
    let high = (end_within 0 events n within).1 in
    (omega (arith, at, begins, is), omega (arith, at, high))
