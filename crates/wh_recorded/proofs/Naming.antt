-- Tasks of histories with different indices and rising event numbers have different names.
use Rattle.std.proofs.Common.{◌≡◌, ◌∙◌, ℕ, ◌+◌, ◌-◌, ◌<◌, ◌≤◌, ◌⊎◌, inl, inr, List, Some, None, take, drop, length, get_or, slice_get, ap, sym, length-take, length-drop, arith}
use Rattle.std.proofs.lemmas.Bool.{cases_lt}
use Rattle.std.proofs.lemmas.Option.{same_Some, slice_get_cases}
use Rattle.wh_events.specs.declared.event.Event.{Event}
use Rattle.wh_tasks.specs.declared.source.WorkflowTask.{WorkflowTask}
use Rattle.wh_tasks.specs.Numbers.{number_or_zero, last_number}
use Rattle.wh_recorded.specs.Rounds.{Scripted, ends_of, begin_at, events_of, tasks_in}
use Rattle.wh_recorded.specs.Order.{in_rounds, rank_of, StandsAt, HaveOwnNumbers, NamesAreOwn}
use Rattle.wh_recorded.specs.Calls.{polls_in, GivenNamesAreOwn}
use Rattle.wh_recorded.proofs.Ends.{end_within, ends_rise, begins_before}
use Rattle.wh_recorded.proofs.Listing.{polls_go_in_rounds}
use Rattle.wh_recorded.proofs.Reading.{slice_get-drop, slice_get-take, at_beginning}
use Rattle.wh_recorded.proofs.Standing.{nothing_else_stands}

-- ---- the number of a task

-- the number of a part's last event is that of the event right before its end
last_of_part : (events : List Event) (begin end : ℕ) → begin < end → end ≤ length events → last_number (take (end - begin) (drop begin events)) ≡ number_or_zero (slice_get events (end - 1))
last_of_part events begin end some within =
    let taken = length-take (end - begin) (drop begin events) in
    let dropped = length-drop begin events in
    let size : length (take (end - begin) (drop begin events)) - 1 ≡ end - begin - 1 = omega (arith, taken, dropped, some, within) in
    let place : begin + (end - begin - 1) ≡ end - 1 = omega (arith, some) in
    ap (λ k. number_or_zero (slice_get (take (end - begin) (drop begin events)) k)) size
    ∙ ap number_or_zero (slice_get-take (end - begin) (end - begin - 1) (drop begin events) (omega (arith, some)))
    ∙ ap number_or_zero (slice_get-drop begin events (end - begin - 1))
    ∙ ap (λ k. number_or_zero (slice_get events k)) place

-- a task has the number of the event right before its end
record EndsAt (history : Scripted) (n : ℕ) : Type 0 where
  event : Event
  at : slice_get history.events (get_or (ends_of history.events) n 0 - 1) ≡ Some event
  number : last_number (events_of history.events n) ≡ event.number

ends_at : (history : Scripted) (n : ℕ) → n < tasks_in history → EndsAt history n
ends_at history n has =
    by (slice_get_cases history.events (get_or (ends_of history.events) n 0 - 1)).1
  where
    number : last_number (events_of history.events n) ≡ number_or_zero (slice_get history.events (get_or (ends_of history.events) n 0 - 1))
    number = last_of_part history.events (begin_at (ends_of history.events) n) (get_or (ends_of history.events) n 0) (begins_before history.events n has) (let high = (end_within 0 history.events n has).1 in omega (arith, high))

    by : ((x : Event) × (get_or (ends_of history.events) n 0 - 1 < length history.events) × (slice_get history.events (get_or (ends_of history.events) n 0 - 1) ≡ Some x) × (get_or history.events (get_or (ends_of history.events) n 0 - 1) x ≡ x)) ⊎ ((length history.events ≤ get_or (ends_of history.events) n 0 - 1) × (slice_get history.events (get_or (ends_of history.events) n 0 - 1) ≡ None)) → EndsAt history n
    by (inl r) = record { event = r.0; at = r.2; number = number ∙ ap number_or_zero r.2 }
    by (inr r) =
        let low = (end_within 0 history.events n has).0 in
        let high = (end_within 0 history.events n has).1 in
        let past = r.0 in
        absurd (omega (arith, low, high, past))

-- ---- names

module _ (histories : List Scripted) (own : HaveOwnNumbers histories) where
  -- earlier tasks of a history have lesser numbers
  numbers_rise : (place : ℕ) (history : Scripted) → slice_get histories place ≡ Some history → (n m : ℕ) → n < m → m < tasks_in history → last_number (events_of history.events n) < last_number (events_of history.events m)
  numbers_rise place history at n m order has =
      let few : n < tasks_in history = omega (arith, order, has) in
      let e = ends_at history n few in
      let f = ends_at history m has in
      let low = (end_within 0 history.events n few).0 in
      let ends = ends_rise 0 history.events n m order has in
      let places : get_or (ends_of history.events) n 0 - 1 < get_or (ends_of history.events) m 0 - 1 = omega (arith, low, ends) in
      let rise = own.rising place (get_or (ends_of history.events) n 0 - 1) (get_or (ends_of history.events) m 0 - 1) history e.event f.event at e.at f.at places in
      let first = e.number in
      let second = f.number in
      omega (arith, rise, first, second)

  number_bounded : (place : ℕ) (history : Scripted) → slice_get histories place ≡ Some history → (n : ℕ) → n < tasks_in history → last_number (events_of history.events n) < 0x1_0000_0000_0000_0000
  number_bounded place history at n has =
      let e = ends_at history n has in
      let bound = own.bounded place (get_or (ends_of history.events) n 0 - 1) history e.event at e.at in
      let is = e.number in
      omega (arith, bound, is)

  -- tasks of one history and one number are one
  same_task : (place : ℕ) (history : Scripted) → slice_get histories place ≡ Some history → (n m : ℕ) → n < tasks_in history → m < tasks_in history → last_number (events_of history.events n) ≡ last_number (events_of history.events m) → n ≡ m
  same_task place history at n m has has_too same = by (cases_lt n m) (cases_lt m n)
    where
      by : (n < m) ⊎ (m ≤ n) → (m < n) ⊎ (n ≤ m) → n ≡ m
      by (inl below) either = let rise = numbers_rise place history at n m below has_too in absurd (omega (arith, rise, same))
      by (inr high) (inl above) = let rise = numbers_rise place history at m n above has in absurd (omega (arith, rise, same))
      by (inr high) (inr low) = omega (arith, high, low)

  same_rank : (i j : ℕ) (a b : WorkflowTask) → StandsAt histories i a → StandsAt histories j b → a.name ≡ b.name → i ≡ j
  same_rank i j a b s t same =
      let one = ap (λ (task : WorkflowTask). task.name.0) s.is in
      let other = ap (λ (task : WorkflowTask). task.name.0) t.is in
      let token = ap (λ name. name.0) same in
      let first = number_bounded s.place s.history s.at s.n s.has in
      let second = number_bounded t.place t.history t.at t.n t.has in
      let indices : s.history.index ≡ t.history.index = omega (arith, one, other, token, first, second) in
      let numbers : last_number (events_of s.history.events s.n) ≡ last_number (events_of t.history.events t.n) = omega (arith, one, other, token, first, second) in
      let places : s.place ≡ t.place = own.indices s.place t.place s.history t.history s.at t.at indices in
      let histories_same : s.history ≡ t.history = same_Some s.history t.history (sym s.at ∙ ap (λ p. slice_get histories p) places ∙ t.at) in
      let rounds : s.n ≡ t.n = same_task t.place t.history t.at s.n t.n (rw (← histories_same) s.has) t.has (ap (λ (h : Scripted). last_number (events_of h.events s.n)) (sym histories_same) ∙ numbers) in
      s.rank_is ∙ ap (λ p. rank_of histories p s.n) places ∙ ap (λ n. rank_of histories t.place n) rounds ∙ sym t.rank_is

pub names_are_own : NamesAreOwn
names_are_own histories own i j a b first second same =
    same_rank histories own i j a b (nothing_else_stands histories i a first) (nothing_else_stands histories j b second) same

pub given_names_are_own : GivenNamesAreOwn
given_names_are_own histories calls last made own i j a b first second same =
    let order = polls_go_in_rounds histories calls last made in
    names_are_own histories own i j a b (at_beginning (polls_in calls) (in_rounds histories) i a (sym (ap (λ tasks. slice_get tasks i) order) ∙ first)) (at_beginning (polls_in calls) (in_rounds histories) j b (sym (ap (λ tasks. slice_get tasks j) order) ∙ second)) same
