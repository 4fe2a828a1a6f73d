-- A page contains its parts, and a task the line of its fault.
use Rattle.std.proofs.Common.{◌≡◌, ◌<◌, ℕ, suc, zero, true, List, [], ◌∷◌, ◌++◌, length, take, get_or, sym, ap, ◌∙◌, append_assoc, append-nil, arith}
use Rattle.std.specs.List.{list_any}
use Rattle.std.proofs.lemmas.List.{length-take}
use Rattle.wh_html.specs.Html.{Html, ◌⊕◌, bytes, each}
use Rattle.wh_html.specs.declared.axis.Stop.{Stop}
use Rattle.wh_html.specs.declared.page.TaskLine.{TaskLine}
use Rattle.wh_html.specs.declared.page.Page.{Page}
use Rattle.wh_html.specs.declared.page.SumOfType.{SumOfType}
use Rattle.wh_html.proofs.Shown.{any-taken, any-below, position-any}
use Rattle.wh_page.specs.Frames.{verdict_html, frame_html}
use Rattle.wh_page.specs.Sums.{sum_html, filled_html, sums_html}
use Rattle.wh_page.specs.Tables.{row_html, table_html}
use Rattle.wh_page.specs.TaskTexts.{is_fault, left_before, shown_lines, task_html, tasks_html}
use Rattle.wh_page.specs.Pages.{body_html, page_html}
use Rattle.wh_page.specs.Laws.{StandsIn, ShowsItsParts, FaultHasALine}

-- a template is a part of another
data IsPart : Html → Html → Type 0 where
  here : (a : Html) → IsPart a a
  left : (a b part : Html) → IsPart part a → IsPart part (a ⊕ b)
  right : (a b part : Html) → IsPart part b → IsPart part (a ⊕ b)

-- the bytes of a part stand among those of the whole
stands : (whole part : Html) → IsPart part whole → StandsIn (bytes whole) (bytes part)
stands whole part (here _) = record { before = []; after = []; joined = sym (append-nil (bytes part)) }
stands whole part (left a b _ h) =
    let own = stands a part h in
    record {
      before = own.before;
      after = own.after ++ bytes b;
      joined =
          ap (λ front. front ++ bytes b) own.joined
          ∙ append_assoc own.before (bytes part ++ own.after) (bytes b)
          ∙ ap (λ back. own.before ++ back) (append_assoc (bytes part) own.after (bytes b));
    }
stands whole part (right a b _ h) =
    let own = stands b part h in
    record {
      before = bytes a ++ own.before;
      after = own.after;
      joined = ap (λ back. bytes a ++ back) own.joined ∙ sym (append_assoc (bytes a) own.before (bytes part ++ own.after));
    }

module _ {A : Type 0} where
  -- the template of an item is a part of those of all
  each-part : (f : A → Html) (xs : List A) (k : ℕ) (d : A) → k < length xs → IsPart (f (get_or xs k d)) (each f xs)
  each-part f [] k d h = absurd (omega arith)
  each-part f (x ∷ xs) zero d h = left (f x) (each f xs) (f x) (here (f x))
  each-part f (x ∷ xs) (suc k) d h = right (f x) (each f xs) (f (get_or xs k d)) (each-part f xs k d (omega arith))

verdict-part : (stops : List Stop) (page : Page) → IsPart (verdict_html page) (body_html stops page)
unfolding body_html frame_html
verdict-part stops page = left _ _ _ (right _ _ _ (left _ _ _ (here _)))

row-part : (stops : List Stop) (page : Page) (part : Html) → IsPart part (each (row_html page.fault) page.lanes) → IsPart part (body_html stops page)
unfolding body_html table_html
row-part stops page part h = right _ _ _ (right _ _ _ (right _ _ _ (right _ _ _ (right _ _ _ (left _ _ _ (right _ _ _ (right _ _ _ (right _ _ _ (left _ _ _ h)))))))))

-- a part of the table of types, which has rows if there are some
sum-in-table : (sums : List SumOfType) (part : Html) → IsPart part (each sum_html (take 100 sums)) → 0 < length sums → IsPart part (sums_html sums)
unfolding filled_html
sum-in-table [] part h some = absurd (omega arith)
sum-in-table (sum ∷ sums) part h some = right _ _ _ (right _ _ _ (right _ _ _ (left _ _ _ h)))

sum-part : (stops : List Stop) (page : Page) (part : Html) → IsPart part (each sum_html (take 100 page.sums)) → 0 < length page.sums → IsPart part (body_html stops page)
unfolding body_html
sum-part stops page part h some = right _ _ _ (right _ _ _ (right _ _ _ (right _ _ _ (left _ _ _ (sum-in-table page.sums part h some)))))

some-taken : {A : Type 0} (xs : List A) (k : ℕ) → k < length (take 100 xs) → 0 < length xs
some-taken xs k h = let few = length-take 100 xs in omega arith

task-part : (stops : List Stop) (page : Page) (part : Html) → IsPart part (each task_html page.tasks) → IsPart part (body_html stops page)
unfolding body_html tasks_html
task-part stops page part h = right _ _ _ (right _ _ _ (right _ _ _ (right _ _ _ (right _ _ _ (right _ _ _ (right _ _ _ (right _ _ _ (left _ _ _ h))))))))

pub shows_its_parts : ShowsItsParts
shows_its_parts stops page more =
    let whole = page_html stops page more in
    let within : (part : Html) → IsPart part (body_html stops page) → IsPart part whole = λ part h. left _ _ _ h in
    record {
      verdict = stands whole (verdict_html page) (within _ (verdict-part stops page));
      sums = λ k d h. stands whole (sum_html (get_or (take 100 page.sums) k d)) (within _ (sum-part stops page _ (each-part sum_html (take 100 page.sums) k d h) (some-taken page.sums k h)));
      things = λ k d h. stands whole (row_html page.fault (get_or page.lanes k d)) (within _ (row-part stops page _ (each-part (row_html page.fault) page.lanes k d h)));
      tasks = λ k d h. stands whole (task_html (get_or page.tasks k d)) (within _ (task-part stops page _ (each-part task_html page.tasks k d h)));
    }

-- the line of the fault
line-shown : (lines : List TaskLine) → list_any (λ line. is_fault line.side) lines ≡ true → list_any (λ line. is_fault line.side) (shown_lines lines) ≡ true
line-shown lines h =
    let at = position-any (λ line. is_fault line.side) lines 0 h in
    let below = any-below (λ line. is_fault line.side) lines h in
    any-taken (λ line. is_fault line.side) lines (left_before lines) 40 h (omega arith) (omega arith)

pub fault_has_a_line : FaultHasALine
fault_has_a_line lines = (rw length-take (omega arith), line-shown lines)
