-- Tasks that are folded repeat tasks that are shown before them, and one of the four before them.
use Rattle.std.proofs.Common.{◌≡◌, ◌∙◌, ℕ, ◌+◌, ◌<◌, Bool, true, false, cond, ◌||◌, zero, suc, List, [], ◌∷◌, ◌++◌, length, take, reverse, refl, sym, ap, subst, append_assoc, append-nil, arith, All, Contains, inl, inr, ◌⊎◌}
use Rattle.std.proofs.lemmas.Bool.{false≢true, or_cases, or_left, or_right}
use Rattle.std.proofs.lemmas.List.{length-append, length-reverse, reverse-append, reverse-reverse}
use Rattle.std.proofs.lemmas.List.Concat.{flat_map-append}
use Rattle.std.proofs.lemmas.List.Elements.{All-from_recursion, Contains-append_left, Contains-append_right}
use Rattle.std.specs.List.{AllByRecursion, flat_map, list_any}
use Rattle.wh_view.specs.declared.view.View.{View}
use Rattle.wh_view_report.specs.Alike.{alike_tasks}
use Rattle.wh_view_report.specs.Folding.{Part, Task, folded_part, parts_from, parts_of, repeats, tasks_in}
use Rattle.wh_view_report.specs.Folding.Part.{Folded, Shown}
use Rattle.wh_view_report.specs.Laws.{FoldedAreLikeOneOfFour, FoldedAreLikeShown, IsLikeOneOfFour, IsLikeShown, ShownAreLikeNoneOfFour, part_tasks, tasks_of}
use Rattle.wh_view_report.proofs.Likening.{tasks}
use Rattle.wh_view_report.proofs.Parts.{parts_at, with_folded}

-- ---- one of the last tasks

reverse_more : {A : Type 0} (x : A) (xs : List A) → reverse (x ∷ xs) ≡ reverse xs ++ x ∷ []
reverse_more x xs = reverse-append (x ∷ []) xs

-- one of the last so many of these tasks is like the task
record IsNear (view : View) (task : Task) (n : ℕ) (tasks : List Task) : Type 0 where
  earlier : List Task
  other : Task
  between : List Task
  stands : tasks ≡ earlier ++ other ∷ between
  near : length between < n
  alike : alike_tasks view task other ≡ true

near_behind : (view : View) (task : Task) (n : ℕ) (before : List Task) (last : Task) → IsNear view task n (reverse before) → IsNear view task (suc n) (reverse (last ∷ before))
near_behind view task n before last h =
    let own : length (h.between ++ last ∷ []) ≡ length h.between + 1 = length-append h.between (last ∷ []) in
    record {
      earlier = h.earlier;
      other = h.other;
      between = h.between ++ last ∷ [];
      stands = reverse_more last before ∙ (ap (λ l. l ++ last ∷ []) h.stands ∙ append_assoc h.earlier (h.other ∷ h.between) (last ∷ []));
      near = omega (arith, own, h.near);
      alike = h.alike;
    }

-- one of the first so many, where the last of them comes first
found : (view : View) (task : Task) (n : ℕ) (before : List Task) → list_any (alike_tasks view task) (take n before) ≡ true → IsNear view task n (reverse before)
found view task zero before h = absurd (false≢true h)
found view task (suc n) [] h = absurd (false≢true h)
found view task (suc n) (last ∷ before) h =
    by (found view task n before) (or_cases (alike_tasks view task last) (list_any (alike_tasks view task) (take n before)) h)
  where
    by : (list_any (alike_tasks view task) (take n before) ≡ true → IsNear view task n (reverse before))
        → ((alike_tasks view task last ≡ true) ⊎ (list_any (alike_tasks view task) (take n before) ≡ true)) → IsNear view task (suc n) (reverse (last ∷ before))
    by further (inl p) =
        record { earlier = reverse before; other = last; between = []; stands = reverse_more last before; near = omega arith; alike = p }
    by further (inr p) = near_behind view task n before last (further p)

-- a task is among so many
within : (P : Task → Bool) (n : ℕ) (front rest : List Task) (task : Task) → length front < n → P task ≡ true → list_any P (take n (front ++ task ∷ rest)) ≡ true
within P zero front rest task few p = absurd (omega (arith, few))
within P (suc n) [] rest task few p = or_left (P task) (list_any P (take n rest)) p
within P (suc n) (first ∷ front) rest task few p = or_right (P first) (list_any P (take n (front ++ task ∷ rest))) (within P n front rest task (omega (arith, few)) p)

turned : (earlier between : List Task) (other : Task) → reverse (earlier ++ other ∷ between) ≡ reverse between ++ other ∷ reverse earlier
turned earlier between other =
    reverse-append earlier (other ∷ between) ∙ (ap (λ l. l ++ reverse earlier) (reverse_more other between)
    ∙ append_assoc (reverse between) (other ∷ []) (reverse earlier))

one_of_four : (view : View) (before : List Task) (task : Task) → repeats view before task ≡ true → IsLikeOneOfFour view (reverse before) task
one_of_four view before task h =
    let p = found view task 4 before h in
    record { earlier = p.earlier; other = p.other; between = p.between; stands = p.stands; near = p.near; alike = p.alike }

repeats_one : (view : View) (before : List Task) (task : Task) → IsLikeOneOfFour view (reverse before) task → repeats view before task ≡ true
repeats_one view before task h =
    let e : before ≡ reverse h.between ++ h.other ∷ reverse h.earlier =
    sym (reverse-reverse before) ∙ (ap reverse h.stands ∙ turned h.earlier h.between h.other) in
    let few : length (reverse h.between) < 4 = omega (arith, length-reverse h.between, h.near) in
    ap (λ l. list_any (alike_tasks view task) (take 4 l)) e
    ∙ within (alike_tasks view task) 4 (reverse h.between) (reverse h.earlier) h.other few h.alike

-- ---- like a task that is shown

like_through : (view : View) (done : List Part) (task other : Task) → alike_tasks view task other ≡ true → IsLikeShown view done other → IsLikeShown view done task
like_through view done task other p h = record { shown = h.shown; stands = h.stands; alike = (tasks view).onward task other h.shown p h.alike }

like_any : (view : View) (done : List Part) (task : Task) (n : ℕ) (before : List Task) → AllByRecursion (IsLikeShown view done) before
    → list_any (alike_tasks view task) (take n before) ≡ true → IsLikeShown view done task
like_any view done task zero before all h = absurd (false≢true h)
like_any view done task (suc n) [] all h = absurd (false≢true h)
like_any view done task (suc n) (first ∷ before) all h =
    by (like_any view done task n before all.1) (or_cases (alike_tasks view task first) (list_any (alike_tasks view task) (take n before)) h)
  where
    by : (list_any (alike_tasks view task) (take n before) ≡ true → IsLikeShown view done task)
        → ((alike_tasks view task first ≡ true) ⊎ (list_any (alike_tasks view task) (take n before) ≡ true)) → IsLikeShown view done task
    by further (inl p) = like_through view done task first p all.0
    by further (inr p) = further p

like_longer : (view : View) (done more : List Part) (before : List Task) → AllByRecursion (IsLikeShown view done) before → AllByRecursion (IsLikeShown view (done ++ more)) before
like_longer view done more [] all = tt
like_longer view done more (task ∷ before) all =
    (record { shown = all.0.shown; stands = Contains-append_left done more (Shown all.0.shown) all.0.stands; alike = all.0.alike }, like_longer view done more before all.1)

like_itself : (view : View) (done : List Part) (task : Task) → IsLikeShown view (done ++ Shown task ∷ []) task
like_itself view done task = record {
  shown = task;
  stands = Contains-append_right done (Shown task ∷ []) (Shown task) (0, omega arith, refl);
  alike = (tasks view).itself task;
}

like_more : (view : View) (done : List Part) (folded : List Task) (task : Task) → AllByRecursion (IsLikeShown view done) folded → IsLikeShown view done task
    → AllByRecursion (IsLikeShown view done) (folded ++ task ∷ [])
like_more view done [] task all h = (h, tt)
like_more view done (first ∷ folded) task all h = (all.0, like_more view done folded task all.1 h)

-- ---- what holds of each part

-- each of these tasks is like one of the four before it
AreNear : View → (before : List Task) → List Task → Type 0
AreNear view before [] = Unit {0}
AreNear view before (task ∷ rest) = IsLikeOneOfFour view before task × AreNear view (before ++ task ∷ []) rest

near_more : (view : View) (before folded : List Task) (task : Task) → AreNear view before folded → IsLikeOneOfFour view (before ++ folded) task → AreNear view before (folded ++ task ∷ [])
unfolding AreNear
near_more view before [] task near h = (subst (λ l. IsLikeOneOfFour view l task) (append-nil before) h, tt)
near_more view before (first ∷ folded) task near h = (
  near.0,
  near_more view (before ++ first ∷ []) folded task near.1
      (subst (λ l. IsLikeOneOfFour view l task) (sym (append_assoc before (first ∷ []) folded)) h),
)

near_at : (view : View) (before first rest : List Task) (task : Task) → AreNear view before (first ++ task ∷ rest) → IsLikeOneOfFour view (before ++ first) task
unfolding AreNear
near_at view before [] rest task near = subst (λ l. IsLikeOneOfFour view l task) (sym (append-nil before)) near.0
near_at view before (one ∷ first) rest task near =
    subst (λ l. IsLikeOneOfFour view l task) (append_assoc before (one ∷ []) first) (near_at view (before ++ one ∷ []) first rest task near.1)

-- these tasks are rightly folded behind the parts
record AreFolded (view : View) (done : List Part) (folded : List Task) : Type 0 where
  like : AllByRecursion (IsLikeShown view done) folded
  near : AreNear view (tasks_of done) folded

-- the part stands rightly behind others
Holds : View → (done : List Part) → Part → Type 0
Holds view done (Shown task) = IsLikeOneOfFour view (tasks_of done) task → ⊥
Holds view done (Folded folded) = AreFolded view done folded

AllHold : View → (done : List Part) → List Part → Type 0
AllHold view done [] = Unit {0}
AllHold view done (part ∷ parts) = Holds view done part × AllHold view (done ++ part ∷ []) parts

holds_at : (view : View) (done before after : List Part) (part : Part) → AllHold view done (before ++ part ∷ after) → Holds view (done ++ before) part
unfolding AllHold
holds_at view done [] after part all = subst (λ l. Holds view l part) (sym (append-nil done)) all.0
holds_at view done (first ∷ before) after part all =
    subst (λ l. Holds view l part) (append_assoc done (first ∷ []) before) (holds_at view (done ++ first ∷ []) before after part all.1)

-- folded tasks, if there are some, and the parts behind them
hold_behind : (view : View) (done : List Part) (folded : List Task) (part : Part) (parts : List Part) → AreFolded view done folded
    → Holds view (done ++ folded_part folded) part → AllHold view ((done ++ folded_part folded) ++ part ∷ []) parts → AllHold view done (folded_part folded ++ part ∷ parts)
unfolding AllHold Holds
hold_behind view done [] part parts are own more =
    subst (λ l. Holds view l part × AllHold view (l ++ part ∷ []) parts) (append-nil done) (own, more)
hold_behind view done (task ∷ folded) part parts are own more = (are, (own, more))

hold_last : (view : View) (done : List Part) (folded : List Task) → AreFolded view done folded → AllHold view done (folded_part folded)
unfolding AllHold Holds
hold_last view done [] are = tt
hold_last view done (task ∷ folded) are = (are, tt)

-- ---- all parts

-- the tasks so far, the last one first, are those of the parts and then those that are folded last
record ArePassed (view : View) (done : List Part) (before folded : List Task) : Type 0 where
  all : reverse before ≡ tasks_of done ++ folded
  like : AllByRecursion (IsLikeShown view done) before
  last : AreFolded view done folded

pass_folded : (view : View) (done : List Part) (before folded : List Task) (task : Task) → ArePassed view done before folded → repeats view before task ≡ true
    → ArePassed view done (task ∷ before) (folded ++ task ∷ [])
pass_folded view done before folded task passed h =
    let shown = like_any view done task 4 before passed.like h in
    let near = subst (λ l. IsLikeOneOfFour view l task) passed.all (one_of_four view before task h) in
    record {
      all = reverse_more task before ∙ (ap (λ l. l ++ task ∷ []) passed.all ∙ append_assoc (tasks_of done) folded (task ∷ []));
      like = (shown, passed.like);
      last = record {
        like = like_more view done folded task passed.last.like shown;
        near = near_more view (tasks_of done) folded task passed.last.near near;
      };
    }

-- nothing is folded behind parts
none_folded : (view : View) (done : List Part) → AreFolded view done []
unfolding AreNear
none_folded view done = record { like = tt; near = tt }

pass_shown : (view : View) (done : List Part) (before folded : List Task) (task : Task) → ArePassed view done before folded
    → ArePassed view ((done ++ folded_part folded) ++ Shown task ∷ []) (task ∷ before) []
pass_shown view done before folded task passed =
    let here = done ++ folded_part folded in
    record {
      all =
          reverse_more task before ∙ (ap (λ l. l ++ task ∷ []) (passed.all ∙ sym (with_folded done folded))
          ∙ (sym (flat_map-append part_tasks here (Shown task ∷ [])) ∙ sym (append-nil (tasks_of (here ++ Shown task ∷ [])))));
      like = (
        like_itself view here task,
        like_longer view here (Shown task ∷ []) before (like_longer view done (folded_part folded) before passed.like),
      );
      last = none_folded view (here ++ Shown task ∷ []);
    }

shown_apart : (view : View) (done : List Part) (before folded : List Task) (task : Task) → ArePassed view done before folded → repeats view before task ≡ false
    → Holds view (done ++ folded_part folded) (Shown task)
unfolding Holds
shown_apart view done before folded task passed apart h =
    let own = subst (λ l. IsLikeOneOfFour view l task) (with_folded done folded ∙ sym passed.all) h in
    absurd (false≢true (sym apart ∙ repeats_one view before task own))

all_hold : (view : View) (done : List Part) (before folded rest : List Task) → ArePassed view done before folded → AllHold view done (parts_from view before folded rest)
unfolding parts_from
all_hold view done before folded [] passed = hold_last view done folded passed.last
all_hold view done before folded (task ∷ rest) passed =
    by (repeats view before task) refl (all_hold view done (task ∷ before) (folded ++ task ∷ []) rest)
    (all_hold view ((done ++ folded_part folded) ++ Shown task ∷ []) (task ∷ before) [] rest)
  where
    by : (t : Bool) → repeats view before task ≡ t
        → (ArePassed view done (task ∷ before) (folded ++ task ∷ []) → AllHold view done (parts_from view (task ∷ before) (folded ++ task ∷ []) rest))
        → (ArePassed view ((done ++ folded_part folded) ++ Shown task ∷ []) (task ∷ before) []
        → AllHold view ((done ++ folded_part folded) ++ Shown task ∷ []) (parts_from view (task ∷ before) [] rest))
        → AllHold view done (parts_from view before folded (task ∷ rest))
    by true is more other =
        subst (AllHold view done) (sym (parts_at view before folded rest task true is)) (more (pass_folded view done before folded task passed is))
    by false is more other =
        subst (AllHold view done) (sym (parts_at view before folded rest task false is))
        (hold_behind view done folded (Shown task) (parts_from view (task ∷ before) [] rest) passed.last
        (shown_apart view done before folded task passed is) (other (pass_shown view done before folded task passed)))

-- each part of a view stands rightly behind those before it
holds_of_view : (view : View) (before after : List Part) (part : Part) → parts_of view ≡ before ++ part ∷ after → Holds view before part
holds_of_view view before after part is =
    holds_at view [] before after part
    (subst (AllHold view []) is (all_hold view [] [] [] (tasks_in view view.events) (record { all = refl; like = tt; last = none_folded view [] })))

pub folded_are_like_shown : FoldedAreLikeShown
unfolding Holds
folded_are_like_shown view before after folded is =
    let holds : AreFolded view before folded = holds_of_view view before after (Folded folded) is in
    All-from_recursion (IsLikeShown view before) folded holds.like

pub folded_are_like_one_of_four : FoldedAreLikeOneOfFour
unfolding Holds
folded_are_like_one_of_four view before after first rest task is =
    let holds : AreFolded view before (first ++ task ∷ rest) = holds_of_view view before after (Folded (first ++ task ∷ rest)) is in
    near_at view (tasks_of before) first rest task holds.near

pub shown_are_like_none_of_four : ShownAreLikeNoneOfFour
unfolding Holds
shown_are_like_none_of_four view before after task is = holds_of_view view before after (Shown task) is
