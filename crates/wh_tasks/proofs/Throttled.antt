-- Which heartbeats of a task are sent.
use Rattle.std.proofs.Common.{◌≡◌, ◌≢◌, ◌&&◌, ℕ, List, [], ◌∷◌, Bool, true, false, Option, Some, None, is_some, refl, subst, ap, arith, ◌∙◌}
use Rattle.std.proofs.lemmas.Bool.Decides.{nat_tests}
use Rattle.std.specs.Prelude.{if◌then◌else◌, not}
use Rattle.wh_events.specs.declared.event.Payload.{Payload}
use Rattle.wh_tasks.specs.Cells.{has_due, holding, known, later, may_send, sending}
use Rattle.wh_tasks.specs.Pace.{interval_of, is_due}
use Rattle.wh_tasks.specs.Throttling.{AreApart, AreQuiet, CancelIsTold, EndSendsLast, FirstIsSent, IsApart, is_quiet, is_timed, IsWarned, LastDetailsAreHeld, Moment, NoneAfterEnd, NothingIsLost, SendsApart, after, after_all, sent_by, sent_in, sent_times, time_of}
use Rattle.wh_tasks.specs.Throttling.Moment.{Gives, Looks, Hears, Ends}
use Rattle.wh_tasks.specs.declared.cell.HeartbeatStep.TheVariants.{Send, Hold}
use Rattle.wh_tasks.specs.declared.cell.RunningActivity.{RunningActivity}
use Rattle.wh_tasks.specs.declared.heartbeat.HeartbeatResponse.TheVariants.{GoOn, CancelRequested, Gone, Unheard}

both_left : (a b : Bool) → (a && b) ≡ true → a ≡ true
both_left true b both = refl
both_left false b both = cc

both_right : (a b : Bool) → (a && b) ≡ true → b ≡ true
both_right true b both = both
both_right false b both = cc

-- what both tasks have in common with a third one, the one that is chosen has
of_both : {A : Type 0} (f : RunningActivity → A) (b : Bool) (x y running : RunningActivity) → f x ≡ f running
    → f y ≡ f running
    → f (if b then x else y) ≡ f running
of_both f true x y running p q = p
of_both f false x y running p q = q

-- a heartbeat that is due is an interval after the last one
due_apart : (interval : ℕ) (last next : Option ℕ) → is_due last next interval ≡ true → IsApart interval last next
due_apart interval None next due = tt
due_apart interval (Some last) None due = tt
due_apart interval (Some last) (Some next) due = λ forth. grind (arith, nat_tests)

abbrev interval : RunningActivity → ℕ
interval running = interval_of running.info.times.heartbeat_timeout

may_send_apart : (running : RunningActivity) (now : Option ℕ) → may_send running now ≡ true
    → IsApart (interval running) running.sent now
may_send_apart running now may =
    due_apart (interval running) running.sent now (both_right _ _ (both_right _ _ may))

-- no moment changes the interval
same_interval : (running : RunningActivity) (moment : Moment) → interval (after running moment) ≡ interval running
same_interval running (Gives details now) =
    of_both interval (may_send running now) (sending running now) (holding running details) running refl
    (of_both interval running.is_over running (record running { held = Some details }) running refl refl)
same_interval running (Looks now) =
    of_both interval (has_due running now) (sending running now) running running refl refl
same_interval running (Hears details GoOn) = refl
same_interval running (Hears details CancelRequested) = refl
same_interval running (Hears details Gone) = refl
same_interval running (Hears details Unheard) = refl
same_interval running Ends = refl

given_apart : (running : RunningActivity) (details : List Payload) (now : Option ℕ) (b : Bool)
    → may_send running now ≡ b
    → is_some (sent_in (if b then Send details else Hold (known running))) ≡ true
    → IsApart (interval running) running.sent now
    × ((if b then sending running now else holding running details).sent ≡ now)
given_apart running details now true may sends = (may_send_apart running now may, refl)
given_apart running details now false may sends = cc

looked_apart : (running : RunningActivity) (now : Option ℕ) (b : Bool) → has_due running now ≡ b
    → is_some (if b then running.held else None) ≡ true
    → IsApart (interval running) running.sent now × ((if b then sending running now else running).sent ≡ now)
looked_apart running now true due sends = (may_send_apart running now (both_right _ _ due), refl)
looked_apart running now false due sends = cc

-- what is sent is sent an interval after the last one, and is then the last one
next_apart : (running : RunningActivity) (moment : Moment) → is_timed running moment ≡ true
    → IsApart (interval running) running.sent (time_of moment) × ((after running moment).sent ≡ time_of moment)
next_apart running (Gives details now) sends = given_apart running details now (may_send running now) refl sends
next_apart running (Looks now) sends = looked_apart running now (has_due running now) refl sends
next_apart running (Hears details response) sends = cc
next_apart running Ends sends = cc

given_last : (running : RunningActivity) (details : List Payload) (now : Option ℕ) (b : Bool)
    → is_some (sent_in (if b then Send details else Hold (known running))) ≡ false
    → (if b then sending running now else holding running details).sent ≡ running.sent
given_last running details now true sends = cc
given_last running details now false sends =
    of_both (λ r. r.sent) running.is_over running (record running { held = Some details }) running refl refl

looked_last : (running : RunningActivity) (now : Option ℕ) (b : Bool) → has_due running now ≡ b
    → is_some (if b then running.held else None) ≡ false
    → (if b then sending running now else running).sent ≡ running.sent
looked_last running now true due sends = let some = both_left (is_some running.held) (may_send running now) due in cc
looked_last running now false due sends = refl

-- otherwise the last one stays
same_last : (running : RunningActivity) (moment : Moment) → is_timed running moment ≡ false
    → (after running moment).sent ≡ running.sent
same_last running (Gives details now) sends = given_last running details now (may_send running now) sends
same_last running (Looks now) sends = looked_last running now (has_due running now) refl sends
same_last running (Hears details GoOn) sends = refl
same_last running (Hears details CancelRequested) sends = refl
same_last running (Hears details Gone) sends = refl
same_last running (Hears details Unheard) sends = refl
same_last running Ends sends = refl

apart_after : (running next : RunningActivity) (last : Option ℕ) (times : List (Option ℕ))
    → interval next ≡ interval running
    → next.sent ≡ last → AreApart (interval next) next.sent times → AreApart (interval running) last times
apart_after running next last times long same apart =
    subst (λ i. AreApart i last times) long (subst (λ at. AreApart (interval next) at times) same apart)

step_apart : (running : RunningActivity) (moment : Moment) (times : List (Option ℕ)) (b : Bool)
    → is_timed running moment ≡ b
    → AreApart (interval (after running moment)) (after running moment).sent times
    → AreApart (interval running) running.sent (if b then time_of moment ∷ times else times)
step_apart running moment times true sends rest =
    let next = next_apart running moment sends in
    let same = same_interval running moment in
    (next.0, apart_after running (after running moment) (time_of moment) times same next.1 rest)
step_apart running moment times false sends rest =
    apart_after running (after running moment) running.sent times (same_interval running moment)
    (same_last running moment sends) rest

pub sends_apart : SendsApart
sends_apart running [] = tt
sends_apart running (moment ∷ moments) =
    step_apart running moment (sent_times (after running moment) moments) (is_timed running moment) refl
    (sends_apart (after running moment) moments)

-- ---- What is held

looked_held : (running : RunningActivity) (now : Option ℕ) (details : List Payload) (b : Bool)
    → running.held ≡ Some details
    → is_some (if b then running.held else None) ≡ false
    → (if b then sending running now else running).held ≡ Some details
looked_held running now details true held sends = let some = ap is_some held in cc
looked_held running now details false held sends = held

-- at a quiet moment at which nothing is sent, what is held stays
held_after : (running : RunningActivity) (moment : Moment) (details : List Payload) → running.held ≡ Some details
    → is_quiet moment ≡ true → is_timed running moment ≡ false → (after running moment).held ≡ Some details
held_after running (Gives given now) details held quiet sends = cc
held_after running (Looks now) details held quiet sends =
    looked_held running now details (has_due running now) held sends
held_after running (Hears heard GoOn) details held quiet sends = held
held_after running (Hears heard CancelRequested) details held quiet sends = held
held_after running (Hears heard Gone) details held quiet sends = cc
held_after running (Hears heard Unheard) details held quiet sends = ap (λ h. later h heard) held
held_after running Ends details held quiet sends = cc

none_now : (b : Bool) (time : Option ℕ) (times : List (Option ℕ))
    → (if b then time ∷ times else times) ≡ [] → (b ≡ false) × (times ≡ [])
none_now true time times none = cc
none_now false time times none = (refl, none)

held_after_all : (running : RunningActivity) (moments : List Moment) (details : List Payload)
    → running.held ≡ Some details
    → AreQuiet moments → sent_times running moments ≡ [] → (after_all running moments).held ≡ Some details
held_after_all running [] details held quiet none = held
held_after_all running (moment ∷ moments) details held quiet none =
    let next = after running moment in
    let so = none_now (is_timed running moment) (time_of moment) (sent_times next moments) none in
    let still = held_after running moment details held quiet.0 so.0 in
    held_after_all next moments details still quiet.1 so.1

held_by : (running : RunningActivity) (details : List Payload) (gone : Bool) → gone ≡ false
    → (if gone then running else record running { held = Some details }).held ≡ Some details
held_by running details true has = cc
held_by running details false has = refl

given_held : (running : RunningActivity) (details : List Payload) (now : Option ℕ) (b : Bool) → running.is_over ≡ false
    → sent_in (if b then Send details else Hold (known running)) ≡ None
    → (if b then sending running now else holding running details).held ≡ Some details
given_held running details now true has none = cc
given_held running details now false has none = held_by running details running.is_over has

pub last_details_are_held : LastDetailsAreHeld
last_details_are_held running details now moments has held quiet none =
    held_after_all (after running (Gives details now)) moments details
    (given_held running details now (may_send running now) has held) quiet none

pub end_sends_last : EndSendsLast
end_sends_last = last_details_are_held

later_some : (held : Option (List Payload)) (details : List Payload) → is_some (later held details) ≡ true
later_some None details = refl
later_some (Some held) details = refl

some_by : (running : RunningActivity) (details : List Payload) (gone : Bool) → is_some running.held ≡ true
    → is_some (if gone then running else record running { held = Some details }).held ≡ true
some_by running details true some = some
some_by running details false some = refl

given_some : (running : RunningActivity) (details : List Payload) (now : Option ℕ) (b : Bool)
    → is_some (sent_in (if b then Send details else Hold (known running))) ≡ false → is_some running.held ≡ true
    → is_some (if b then sending running now else holding running details).held ≡ true
given_some running details now true sends some = cc
given_some running details now false sends some = some_by running details running.is_over some

looked_some : (running : RunningActivity) (now : Option ℕ) (b : Bool)
    → is_some (if b then running.held else None) ≡ false
    → is_some running.held ≡ true → is_some (if b then sending running now else running).held ≡ true
looked_some running now true sends some = cc
looked_some running now false sends some = some

some_after : (running : RunningActivity) (moment : Moment) → is_some (sent_by running moment) ≡ false
    → (after running moment).is_over ≡ false → is_some running.held ≡ true → is_some (after running moment).held ≡ true
some_after running (Gives details now) sends has some = given_some running details now (may_send running now) sends some
some_after running (Looks now) sends has some = looked_some running now (has_due running now) sends some
some_after running (Hears details GoOn) sends has some = some
some_after running (Hears details CancelRequested) sends has some = some
some_after running (Hears details Gone) sends has some = cc
some_after running (Hears details Unheard) sends has some = later_some running.held details
some_after running Ends sends has some = cc

pub nothing_is_lost : NothingIsLost
nothing_is_lost = record { held = some_after; unheard = λ running details. later_some running.held details }

-- ---- The end

abbrev over : RunningActivity → Bool
over running = running.is_over

-- the heartbeats of a task that have ended stay so
over_after : (running : RunningActivity) (moment : Moment) → over running ≡ true → over (after running moment) ≡ true
over_after running (Gives details now) is =
    of_both over (may_send running now) (sending running now) (holding running details) running refl
    (of_both over running.is_over running (record running { held = Some details }) running refl refl) ∙ is
over_after running (Looks now) is =
    of_both over (has_due running now) (sending running now) running running refl refl ∙ is
over_after running (Hears details GoOn) is = is
over_after running (Hears details CancelRequested) is = is
over_after running (Hears details Gone) is = refl
over_after running (Hears details Unheard) is = is
over_after running Ends is = refl

-- then none may be sent
over_may_not : (running : RunningActivity) (now : Option ℕ) → over running ≡ true → may_send running now ≡ false
over_may_not running now is =
    ap (λ b. not b && (not running.is_sending && is_due running.sent now (interval running))) is

not_both : (b : Bool) (held : Option (List Payload)) → is_some (if b && false then held else None) ≡ false
not_both true held = refl
not_both false held = refl

over_silent : (running : RunningActivity) (moment : Moment) → over running ≡ true → is_timed running moment ≡ false
over_silent running (Gives details now) is =
    ap (λ b. is_some (sent_in (if b then Send details else Hold (known running)))) (over_may_not running now is)
over_silent running (Looks now) is =
    ap (λ b. is_some (if is_some running.held && b then running.held else None)) (over_may_not running now is)
    ∙ not_both (is_some running.held) running.held
over_silent running (Hears details response) is = refl
over_silent running Ends is = refl

none_if : (b : Bool) (time : Option ℕ) (times : List (Option ℕ)) → b ≡ false → times ≡ []
    → (if b then time ∷ times else times) ≡ []
none_if true time times silent none = cc
none_if false time times silent none = none

over_none : (running : RunningActivity) (moments : List Moment) → over running ≡ true → sent_times running moments ≡ []
over_none running [] is = refl
over_none running (moment ∷ moments) is =
    none_if (is_timed running moment) (time_of moment) (sent_times (after running moment) moments)
    (over_silent running moment is) (over_none (after running moment) moments (over_after running moment is))

pub none_after_end : NoneAfterEnd
none_after_end running moments = over_none (after running Ends) moments refl

-- ---- What is told

pub first_is_sent : FirstIsSent
first_is_sent token info details now = refl

abbrev canceled : RunningActivity → Bool
canceled running = running.is_canceled

-- a task that is to be canceled stays so
canceled_after : (running : RunningActivity) (moment : Moment) → canceled running ≡ true
    → canceled (after running moment) ≡ true
canceled_after running (Gives details now) is =
    of_both canceled (may_send running now) (sending running now) (holding running details) running refl
    (of_both canceled running.is_over running (record running { held = Some details }) running refl refl) ∙ is
canceled_after running (Looks now) is =
    of_both canceled (has_due running now) (sending running now) running running refl refl ∙ is
canceled_after running (Hears details GoOn) is = is
canceled_after running (Hears details CancelRequested) is = refl
canceled_after running (Hears details Gone) is = is
canceled_after running (Hears details Unheard) is = is
canceled_after running Ends is = is

canceled_after_all : (running : RunningActivity) (moments : List Moment) → canceled running ≡ true
    → canceled (after_all running moments) ≡ true
canceled_after_all running [] is = is
canceled_after_all running (moment ∷ moments) is =
    canceled_after_all (after running moment) moments (canceled_after running moment is)

known_warns : (gone stopped : Bool) → stopped ≡ true
    → (if gone then Gone else (if stopped then CancelRequested else GoOn)) ≢ GoOn
known_warns true stopped is same = cc
known_warns false true is same = cc
known_warns false false is same = cc

step_warns : (running : RunningActivity) (details : List Payload) (b : Bool) → canceled running ≡ true
    → IsWarned (if b then Send details else Hold (known running))
step_warns running details true is = tt
step_warns running details false is = known_warns running.is_over running.is_canceled is

pub cancel_is_told : CancelIsTold
cancel_is_told running details next now moments =
    let before = after running (Hears details CancelRequested) in
    let last = after_all before moments in
    step_warns last next (may_send last now) (canceled_after_all before moments refl)
