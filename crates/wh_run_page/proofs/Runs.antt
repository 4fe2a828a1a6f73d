-- Groups of events are the longest runs of one number, and have all events.
use Rattle.std.proofs.Common.{◌≡◌, ℕ, ◌+◌, ◌<◌, ◌≤◌, Bool, true, false, cond, List, [], ◌∷◌, ◌++◌, length, map, take, drop, refl, sym, ap, subst, ◌∙◌, Option, append_assoc, append-nil, replicate, arith}
use Rattle.std.specs.Prelude.{◌≢◌, ◌==◌}
use Rattle.std.specs.List.{flat_map}
use Rattle.std.proofs.lemmas.Bool.{eqb-true, eqb-false}
use Rattle.std.proofs.lemmas.List.{replicate_more, length-replicate, length-append, take_all, take-take, take-append-drop, drop-take, drop-drop}
use Rattle.std.proofs.lemmas.List.Concat.{flat_map-append}
use Rattle.wh_html.specs.declared.page.TaskLine.{TaskLine}
use Rattle.wh_html.specs.declared.page.Task.{Task}
use Rattle.wh_view.specs.declared.view.View.{View}
use Rattle.wh_view.specs.declared.view.ViewedEvent.{ViewedEvent}
use Rattle.wh_run_page.specs.declared.said.Said.{Said}
use Rattle.wh_run_page.specs.declared.tasks.Group.{Group}
use Rattle.wh_run_page.specs.Laws.{written_out, FollowOn, BeginsApart, AreApart, AreRuns, GroupsAreRuns, LinesAreAllEvents}
use Rattle.wh_run_page.specs.Moments.{times_of}
use Rattle.wh_run_page.specs.Tasks.{closed_by, groups_from, groups_of, next_group, events_of, line_if, lines_of, task_of, task_at, tasks_of}

-- the groups after one so far and these numbers
record AreRunsFrom (group : Group) (numbers : List ℕ) (groups : List Group) : Type 0 where
  all : written_out groups ≡ replicate group.count group.number ++ numbers
  follow : FollowOn group.first groups
  apart : AreApart groups
  begins : (other : ℕ) → group.number ≢ other → BeginsApart other groups

-- one more event of the same number
same_run : (group : Group) (number : ℕ) (numbers : List ℕ) (groups : List Group) → number ≡ group.number
    → AreRunsFrom (record group { count = group.count + 1 }) numbers groups → AreRunsFrom group (number ∷ numbers) groups
same_run group number numbers groups e h =
    record {
      all =
          h.all ∙ ap (λ xs. xs ++ numbers) (sym (replicate_more group.count group.number))
          ∙ append_assoc (replicate group.count group.number) (group.number ∷ []) numbers
          ∙ ap (λ n. replicate group.count group.number ++ n ∷ numbers) (sym e);
      follow = h.follow;
      apart = h.apart;
      begins = h.begins;
    }

-- the first event of another number
other_run : (group : Group) (number : ℕ) (numbers : List ℕ) (groups : List Group) → number ≢ group.number → 0 < group.count
    → AreRunsFrom (record { number = number; first = group.first + group.count; count = 1 }) numbers groups
    → AreRunsFrom group (number ∷ numbers) (group ∷ groups)
other_run group number numbers groups e filled h =
    record {
      all = ap (λ xs. replicate group.count group.number ++ xs) h.all;
      follow = (filled, refl, h.follow);
      apart = (h.begins group.number e, h.apart);
      begins = λ other differs. differs;
    }

-- one more number
more_by : (group : Group) (number : ℕ) (numbers : List ℕ) (same : Bool) (rest : List Group) → (number == group.number) ≡ same
    → 0 < group.count → AreRunsFrom (next_group group number) numbers rest → AreRunsFrom group (number ∷ numbers) (closed_by group number ++ rest)
unfolding closed_by next_group
more_by group number numbers true rest e filled h =
    let next : next_group group number ≡ record group { count = group.count + 1 }
    = ap (λ b. cond b (record group { count = group.count + 1 }) (record { number = number; first = group.first + group.count; count = 1 })) e in
    let closed : closed_by group number ++ rest ≡ rest = ap (λ b. cond b [] (group ∷ []) ++ rest) e in
    subst (AreRunsFrom group (number ∷ numbers)) (sym closed)
    (same_run group number numbers rest (eqb-true number group.number e) (subst (λ g. AreRunsFrom g numbers rest) next h))
more_by group number numbers false rest e filled h =
    let next : next_group group number ≡ record { number = number; first = group.first + group.count; count = 1 }
    = ap (λ b. cond b (record group { count = group.count + 1 }) (record { number = number; first = group.first + group.count; count = 1 })) e in
    let closed : closed_by group number ++ rest ≡ group ∷ rest = ap (λ b. cond b [] (group ∷ []) ++ rest) e in
    subst (AreRunsFrom group (number ∷ numbers)) (sym closed)
    (other_run group number numbers rest (eqb-false number group.number e) filled (subst (λ g. AreRunsFrom g numbers rest) next h))

-- the next group has an event
filled_by : (group : Group) (number : ℕ) (same : Bool) → (number == group.number) ≡ same → 0 < (next_group group number).count
unfolding next_group
filled_by group number true e = rw e (omega arith)
filled_by group number false e = rw e (omega arith)

runs_from : (numbers : List ℕ) (group : Group) → 0 < group.count → AreRunsFrom group numbers (groups_from group numbers)
unfolding groups_from
runs_from [] group filled =
    record { all = refl; follow = (filled, refl, tt); apart = (tt, tt); begins = λ other differs. differs }
runs_from (number ∷ numbers) group filled =
    more_by group number numbers (number == group.number) (groups_from (next_group group number) numbers) refl filled
    (runs_from numbers (next_group group number) (filled_by group number (number == group.number) refl))

pub groups_are_runs : GroupsAreRuns
unfolding groups_of
groups_are_runs [] = record { all = refl; follow = tt; apart = tt }
groups_are_runs (number ∷ numbers) =
    let runs = runs_from numbers (record { number = number; first = 0; count = 1 }) (omega arith) in
    record { all = runs.all; follow = runs.follow; apart = runs.apart }

-- a part of a list, and the part after it
module _ {A : Type 0} where
  parts : (n m : ℕ) (items : List A) → take n items ++ take m (drop n items) ≡ take (n + m) items
  parts n m items =
      let within : n ≤ n + m = omega arith in
      ap (λ front. front ++ take m (drop n items)) (sym (take-take n (n + m) items within))
      ∙ ap (λ back. take n (take (n + m) items) ++ back) (sym (drop-take n m items))
      ∙ take-append-drop n (take (n + m) items)

-- how many events groups have
count_of : List Group → ℕ
count_of groups = length (written_out groups)

count-more : (group : Group) (groups : List Group) → count_of (group ∷ groups) ≡ group.count + count_of groups
unfolding count_of
count-more group groups =
    length-append (replicate group.count group.number) (written_out groups)
    ∙ ap (λ n. n + length (written_out groups)) (length-replicate group.count group.number)

-- the events of groups that follow on are those from the first on
joined : (events : List ViewedEvent) (groups : List Group) (first : ℕ) → FollowOn first groups
    → flat_map (events_of events) groups ≡ take (count_of groups) (drop first events)
unfolding count_of
joined events [] first h = refl
joined events (group ∷ groups) first h =
    ap (λ n. take group.count (drop n events) ++ flat_map (events_of events) groups) h.1
    ∙ ap (λ rest. take group.count (drop first events) ++ rest) (joined events groups (first + group.count) h.2)
    ∙ ap (λ rest. take group.count (drop first events) ++ take (count_of groups) rest) (sym (drop-drop group.count first events))
    ∙ parts group.count (count_of groups) (drop first events)
    ∙ ap (λ n. take n (drop first events)) (sym (count-more group groups))

-- the lines of the events of groups
lines-joined : (view : View) (fault : Option ℕ) (events : List ViewedEvent) (groups : List Group)
    → flat_map (λ group. lines_of view fault (events_of events group)) groups ≡ lines_of view fault (flat_map (events_of events) groups)
lines-joined view fault events [] = refl
lines-joined view fault events (group ∷ groups) =
    ap (λ rest. lines_of view fault (events_of events group) ++ rest) (lines-joined view fault events groups)
    ∙ sym (flat_map-append (line_if view fault) (events_of events group) (flat_map (events_of events) groups))

-- the lines of the tasks of groups
lines-of-tasks : (view : View) (times : List ℕ) (fault : Option ℕ) (groups : List Group)
    → flat_map (λ task. task.lines) (map (task_at view times fault) groups) ≡ flat_map (λ group. lines_of view fault (events_of view.events group)) groups
unfolding task_of
lines-of-tasks view times fault [] = refl
lines-of-tasks view times fault (group ∷ groups) =
    ap (λ rest. lines_of view fault (events_of view.events group) ++ rest) (lines-of-tasks view times fault groups)

pub lines_are_all_events : LinesAreAllEvents
unfolding count_of
lines_are_all_events view said alike =
    let times = times_of view.events in
    let groups = groups_of view.tasks in
    let runs = groups_are_runs view.tasks in
    let all : length view.events ≤ count_of groups = let e = ap length runs.all in omega arith in
    lines-of-tasks view times said.place groups
    ∙ lines-joined view said.place view.events groups
    ∙ ap (lines_of view said.place) (joined view.events groups 0 runs.follow ∙ take_all (count_of groups) view.events all)
