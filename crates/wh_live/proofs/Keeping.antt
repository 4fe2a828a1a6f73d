-- What a source keeps while it polls, fetches and answers.
use Rattle.std.proofs.Common.{◌≡◌, ◌∙◌, ◌↔◌, ℕ, ◌≤◌, ◌+◌, [], ◌∷◌, ◌++◌, Bool, true, false, cond, length, length-append, Option, None, option_map, Result, Ok, Err, IsOk, IsTrue, OnErr, OnOk, append_assoc, append-nil, ap, arith, count_by, refl, subst, sym, true≢false}
use Rattle.std.proofs.lemmas.Grind.{flat_map-append}
use Rattle.std.proofs.lemmas.List.Sums.{sum_by-append}
use Rattle.wh_client.specs.Calls.{Gives}
use Rattle.wh_client.specs.Codes.{is_taken}
use Rattle.wh_client.specs.declared.codes.Receipt.{Receipt}
use Rattle.wh_client.specs.declared.notes.SourceNote.{SourceNote}
use Rattle.wh_notes.specs.Laws.{is_poll_with, is_task}
use Rattle.wh_notes.specs.Notes.{is_answer}
use Rattle.wh_live.specs.Deliveries.{ComesFrom, Delivers, Fetches, LiveView, is_not_empty, open_count}
use Rattle.wh_live.specs.Kinds.{kind_noted, kind_sent, kinds_noted, kinds_sent}
use Rattle.wh_live.specs.Private.Noting.{Notes}
use Rattle.wh_live.specs.Private.Opening.{later_kept}
use Rattle.wh_live.specs.declared.tasks.OpenTask.{OpenTask}
use Rattle.wh_live.proofs.Adding.{AddsPolls, IsNotedAs, if_taken, opened}
use Rattle.wh_slots.specs.declared.TaskName.{TaskName}
use Rattle.wh_tasks.specs.Source.{Answers, FailsOnly, KeepsOrigin, KeepsSource, SameTasks}
use Rattle.wh_tasks.specs.declared.source.Sent.{Sent}
use Rattle.wh_tasks.specs.declared.source.SourceFault.{SourceFault}
use Rattle.wh_tasks.specs.declared.source.SourceFault.TheVariants.{OutOfMemory, Source}

-- the answer is added if it counts as taken
answers_by : (b : Bool) (sent : Result (Unit {0}) SourceFault) (old new : Answers) (one : TaskName × Sent)
    → IsTrue b ↔ IsOk sent → OnOk sent (new ≡ old ++ one ∷ []) → OnErr sent (new ≡ old) → new ≡ old ++ if_taken b one
answers_by true (Ok done) old new one taken added kept = added
answers_by true (Err fault) old new one taken added kept = absurd (true≢false (sym (taken.0 refl)))
answers_by false (Ok done) old new one taken added kept = absurd (true≢false (sym (taken.1 refl)))
answers_by false (Err fault) old new one taken added kept = kept ∙ sym (append-nil old)

-- the count of failures does not fall
rose_by : {A : Type 0} (result : Result A SourceFault) (old new : ℕ) → FailsOnly result old new → old ≤ new
rose_by (Ok done) old new fails = fails
rose_by (Err Source) old new fails = omega (arith, fails)
rose_by (Err OutOfMemory) old new fails = fails

-- ---- One call after another

kinds_on : (one other : Notes) (first last : Answers) → kinds_noted one ≡ kinds_sent first → kinds_noted other ≡ kinds_sent last
    → kinds_noted (one ++ other) ≡ kinds_sent (first ++ last)
kinds_on one other first last was is =
    flat_map-append kind_noted one other
    ∙ (ap (λ l. l ++ kinds_noted other) was ∙ (ap (λ l. kinds_sent first ++ l) is ∙ sym (flat_map-append kind_sent first last)))

count_append : (test : SourceNote → Bool) (one other : Notes)
    → count_by test (one ++ other) ≡ count_by test one + count_by test other
count_append test one other = sum_by-append (λ n. cond (test n) 1 0) one other

-- what is no more than polls allow, call by call, is so together
most_on : (one other both polls more all first between last : ℕ) → both ≡ one + other → all ≡ polls + more
    → one + between ≤ polls + first → other + last ≤ more + between → both + last ≤ all + first
most_on one other both polls more all first between last sum sums was is = omega (arith, sum, sums, was, is)

-- a source that comes from one comes from all that this one comes from
comes_on : (old new : LiveView) → ComesFrom new old → KeepsOrigin ComesFrom old new
comes_on old new is = λ first was.
    let tasks = count_append (is_poll_with is_task) was.more_notes is.more_notes in
    let filled = count_append (is_poll_with is_not_empty) was.more_notes is.more_notes in
    let answers = count_append is_answer was.more_notes is.more_notes in
    record {
      role = is.role ∙ was.role;
      names = is.names ∙ was.names;
      more = was.more ++ is.more;
      answers = is.answers ∙ (ap (λ l. l ++ is.more) was.answers ∙ append_assoc first.answers was.more is.more);
      failures = omega (arith, is.failures, was.failures);
      more_notes = was.more_notes ++ is.more_notes;
      notes = is.notes ∙ (ap (λ l. l ++ is.more_notes) was.notes ∙ append_assoc first.notes was.more_notes is.more_notes);
      kinds = kinds_on was.more_notes is.more_notes was.more is.more was.kinds is.kinds;
      polled = most_on _ _ _ _ _ _ _ _ _ (length-append was.more is.more) tasks was.polled is.polled;
      noted = most_on _ _ _ _ _ _ _ _ _ answers filled was.noted is.noted;
    }

-- a source of the same names and role has the same tasks
same_tasks : (gives : Gives) (old new : LiveView) → new.role ≡ old.role → new.names ≡ old.names
    → SameTasks (Delivers gives old.names old.role) (Fetches gives old.names old.role) (Delivers gives new.names new.role) (Fetches gives new.names new.role)
same_tasks gives old new role names =
    subst (λ n. SameTasks (Delivers gives old.names old.role) (Fetches gives old.names old.role) (Delivers gives n new.role) (Fetches gives n new.role)) (sym names)
    (subst (λ r. SameTasks (Delivers gives old.names old.role) (Fetches gives old.names old.role) (Delivers gives old.names r) (Fetches gives old.names r)) (sym role)
    (record { delivers = λ task. (λ has. has, λ has. has); fetches = λ key up_to history. (λ has. has, λ has. has) }))

-- a source that a call made of another has the same tasks, and comes from all that the other one comes from
keeps : (gives : Gives) (seen old new : LiveView) → seen ≡ old → ComesFrom new seen
    → KeepsSource (λ s. Delivers gives s.names s.role) (λ s. Fetches gives s.names s.role) ComesFrom old new
keeps gives seen old new is came =
    subst (λ s. KeepsSource (λ s. Delivers gives s.names s.role) (λ s. Fetches gives s.names s.role) ComesFrom s new) is
    (record { same = same_tasks gives seen new came.role came.names; origin = comes_on seen new came })

-- ---- Calls

-- a task that is answered is not open any more
most_answered : (answers task was is polls : ℕ) → answers ≤ task → was ≡ task → is ≡ 0 → answers + is ≤ polls + was
most_answered answers task was is polls few held closed = omega (arith, few, held, closed)

-- a source that answers a task keeps its names and its role, may add the answer, and notes it
pub answered : (gives : Gives) (seen old new : LiveView) (sent : Result (Unit {0}) SourceFault) (one : TaskName × Sent)
    (of : Receipt) (current : Option OpenTask) → seen ≡ old → new.role ≡ seen.role → new.names ≡ seen.names
    → seen.later ≡ option_map later_kept current → new.later ≡ None
    → OnOk sent (new.answers ≡ seen.answers ++ one ∷ []) → OnErr sent (new.answers ≡ seen.answers)
    → IsTrue (is_taken of) ↔ IsOk sent → FailsOnly sent seen.tally.failures new.tally.failures
    → IsNotedAs one of current seen.notes new.notes
    → KeepsSource (λ s. Delivers gives s.names s.role) (λ s. Fetches gives s.names s.role) ComesFrom old new
answered gives seen old new sent one of current is role names held closed added kept taken fails noted =
    let was : open_count seen.later ≡ opened current = ap open_count held in
    let left : open_count new.later ≡ 0 = ap open_count closed in
    keeps gives seen old new is (record {
      role = role;
      names = names;
      more = if_taken (is_taken of) one;
      answers = answers_by (is_taken of) sent seen.answers new.answers one taken added kept;
      failures = rose_by sent seen.tally.failures new.tally.failures fails;
      more_notes = noted.adds.more;
      notes = noted.adds.notes;
      kinds = noted.adds.are;
      polled = most_answered _ _ _ _ _ noted.sent was left;
      noted = most_answered _ _ _ _ _ noted.noted was left;
    })

-- a source that polls or fetches keeps its names, its role and its answers, and notes polls
pub polled : {A : Type 0} (gives : Gives) (seen old new : LiveView) (result : Result A SourceFault) (was is : Option OpenTask)
    → seen ≡ old → new.role ≡ seen.role → new.names ≡ seen.names → new.answers ≡ seen.answers
    → seen.later ≡ option_map later_kept was → new.later ≡ option_map later_kept is
    → FailsOnly result seen.tally.failures new.tally.failures → AddsPolls was is seen.notes new.notes
    → KeepsSource (λ s. Delivers gives s.names s.role) (λ s. Fetches gives s.names s.role) ComesFrom old new
polled gives seen old new result was is same role names answers held later fails adds =
    let before : open_count seen.later ≡ opened was = ap open_count held in
    let after : open_count new.later ≡ opened is = ap open_count later in
    keeps gives seen old new same (record {
      role = role;
      names = names;
      more = [];
      answers = answers ∙ sym (append-nil seen.answers);
      failures = rose_by result seen.tally.failures new.tally.failures fails;
      more_notes = adds.more;
      notes = adds.notes;
      kinds = adds.none;
      polled = omega (arith, adds.polled, before, after);
      noted = omega (arith, adds.noted, before, after);
    })
