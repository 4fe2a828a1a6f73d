-- The tags of a page are those of the page without its texts.
use Rattle.std.proofs.Common.{◌≡◌, ◌+◌, ◌-◌, ℕ, Bool, true, false, cond, Option, Some, None, List, [], ◌∷◌, ◌∙◌, map, take, drop, length, refl, ap, subst, append-nil, sym}
use Rattle.std.proofs.lemmas.List.{length-map, take-map, drop-map}
use Rattle.std.specs.Prelude.{◌==◌, not, codes}
use Rattle.std.specs.Option.{option_map}
use Rattle.std.specs.List.{list_all, position_or_len}
use Rattle.wh_html.specs.Html.{nothing, bytes, each}
use Rattle.wh_html.specs.Tags.{tags}
use Rattle.wh_html.proofs.Alike.{Alike, is_inner, last, words, texts, both, none, mark, word, text, num, each-alike, decimal-inner}
use Rattle.wh_html.proofs.Inner.{time}
use Rattle.wh_html.specs.declared.axis.Stop.{Stop}
use Rattle.wh_html.specs.declared.page.Difference.{Difference}
use Rattle.wh_html.specs.declared.page.Fact.{Fact}
use Rattle.wh_html.specs.declared.page.Lane.{Lane}
use Rattle.wh_html.specs.declared.page.Longest.{Longest}
use Rattle.wh_html.specs.declared.page.SumOfType.{SumOfType}
use Rattle.wh_html.specs.declared.page.TaskLine.{TaskLine}
use Rattle.wh_html.specs.declared.page.Moment.{Moment}
use Rattle.wh_html.specs.declared.page.Page.{Page}
use Rattle.wh_html.specs.declared.page.Task.{Task}
use Rattle.wh_html.specs.Without.{without_fact, without_difference, without_lane, without_longest, without_sum, without_line, without_task, without_texts}
use Rattle.wh_html.proofs.WordsInner.{kind-inner, side-inner}
use Rattle.wh_html.proofs.Drawn.{IsClosed, choose, classes-alike, picture-alike}
use Rattle.wh_page.specs.Frames.{head_html, verdict_class, verdict_html, fact_html, at_html, sides_html, difference_html, frame_html}
use Rattle.wh_page.specs.Tables.{count_html, moment_html, length_html, label_html, attempts_html, row_head_html, row_html, table_html}
use Rattle.wh_page.specs.Sums.{longest_html, counts_html, sum_html, filled_html, sums_html}
use Rattle.wh_page.specs.TaskTexts.{number_html, anchor_html, trace_line_html, more_html, folded_html, trace_html, line_head_html, line_html, left_html, is_fault, left_before, shown_lines, left_after, lines_html, open_words, task_html, task_count_html, tasks_html, note_html, waits_html, notes_html}
use Rattle.wh_page.specs.Pages.{body_html, page_html}
use Rattle.wh_page.specs.Laws.{TextsAreNoTags}

pub verdict-inner : (good : Option Bool) → list_all is_inner (verdict_class good) ≡ true
verdict-inner (Some true) = refl
verdict-inner (Some false) = refl
verdict-inner None = refl

pub open-inner : (faulty : Bool) → list_all is_inner (open_words faulty) ≡ true
open-inner true = refl
open-inner false = refl

fact-alike : (fact : Fact) → Alike false false (fact_html fact) (fact_html (without_fact fact))
fact-alike fact = mark _ (text _ _ _ (mark _ (text _ _ _ (last _))))

at-alike : (event : Option ℕ) → IsClosed (at_html event)
at-alike None = none
at-alike (Some event) = mark _ (words _ (decimal-inner event))

sides-alike : (d : Difference) → Alike false false (sides_html d) (sides_html (without_difference d))
unfolding sides_html
sides-alike d = mark _ (both (at-alike d.event) (mark _ (text _ _ _ (mark _ (text _ _ _ (last _))))))

pub difference-alike : (d : Option Difference) → Alike false false (difference_html d) (difference_html (option_map without_difference d))
difference-alike None = none
difference-alike (Some d) = sides-alike d

pub facts-alike : (facts : List Fact) → Alike false false (each fact_html facts) (each fact_html (map without_fact facts))
facts-alike facts = each-alike fact_html without_fact fact-alike facts

-- the table
count-alike : (shown total : ℕ) → IsClosed (count_html shown total)
count-alike shown total =
    choose (shown == total) _ _ (mark _ (num _ (last _))) (mark _ (num _ (mark _ (num _ (mark _ (num _ (last _)))))))

moment-alike : (moment : Option Moment) → IsClosed (moment_html moment)
moment-alike None = last _
moment-alike (Some moment) = mark _ (time _ (mark _ (num _ (last _))))

length-alike : (span : Option (List ℕ)) → Alike false false (length_html span) (length_html (option_map (λ _. []) span))
length-alike None = last _
length-alike (Some span) = mark _ (text _ _ _ (last _))

label-alike : (type_name : Option (List ℕ)) (name : List ℕ) → Alike false false (label_html type_name name) (label_html (option_map (λ _. []) type_name) [])
label-alike None name = texts _ _ _
label-alike (Some type_name) name = text _ _ _ (mark _ (text _ _ _ (last _)))

attempts-alike : (attempts : Option ℕ) → IsClosed (attempts_html attempts)
attempts-alike None = last _
attempts-alike (Some attempts) = mark _ (num _ (last _))

row-head-alike : (fault : Option Moment) (lane : Lane) → Alike false false (row_head_html fault lane) (row_head_html fault (without_lane lane))
row-head-alike fault lane =
    mark _ (both (classes-alike lane fault true) (mark _ (both (label-alike lane.type_name lane.name)
    (mark _ (word _ (kind-inner lane.kind) (last _))))))

row-alike : (fault : Option Moment) (lane : Lane) → Alike false false (row_html fault lane) (row_html fault (without_lane lane))
unfolding row_html
row-alike fault lane =
    both (row-head-alike fault lane) (both (moment-alike (Some lane.opened)) (both (moment-alike lane.started) (both (moment-alike lane.ended)
    (both (length-alike lane.waited) (both (length-alike lane.took) (mark _ (text _ _ _ (mark _ (both (attempts-alike lane.attempts) (last _))))))))))

pub table-alike : (fault : Option Moment) (lanes : List Lane) (total : ℕ) → Alike false false (table_html fault lanes total) (table_html fault (map without_lane lanes) total)
unfolding table_html
table-alike fault lanes total =
    rw (length-map lanes without_lane) (mark _ (both (count-alike (length lanes) total)
    (mark _ (both (each-alike (row_html fault) without_lane (row-alike fault) lanes) (last _)))))

-- the sums by type
longest-alike : (longest : Option Longest) → Alike false false (longest_html longest) (longest_html (option_map without_longest longest))
longest-alike None = last _
longest-alike (Some longest) = mark _ (text _ _ _ (mark _ (num _ (mark _ (num _ (last _))))))

sum-alike : (sum : SumOfType) → Alike false false (sum_html sum) (sum_html (without_sum sum))
unfolding sum_html
sum-alike sum =
    mark _ (text _ _ _ (mark _ (both (counts-alike sum.times sum.failed sum.pending)
    (both (length-alike sum.median) (both (longest-alike sum.longest) (last _))))))
  where
    counts-alike : (times failed pending : ℕ) → IsClosed (counts_html times failed pending)
    counts-alike times failed pending = mark _ (num _ (mark _ (num _ (mark _ (num _ (last _))))))

filled-alike : (sums : List SumOfType) → Alike false false (filled_html sums) (filled_html (map without_sum sums))
unfolding filled_html
filled-alike sums =
    rw (take-map without_sum 100 sums, length-map (take 100 sums) without_sum, length-map sums without_sum)
    (mark _ (both (count-alike (length (take 100 sums)) (length sums))
    (mark _ (both (each-alike sum_html without_sum sum-alike (take 100 sums)) (last _)))))

sums-alike : (sums : List SumOfType) → Alike false false (sums_html sums) (sums_html (map without_sum sums))
sums-alike [] = none
sums-alike (sum ∷ sums) = filled-alike (sum ∷ sums)

-- the tasks and the notes
number-alike : (event : Option ℕ) → IsClosed (number_html event)
number-alike None = none
number-alike (Some event) = mark _ (words _ (decimal-inner event))

anchor-alike : (event : Option ℕ) → Alike true true (anchor_html event) (anchor_html event)
anchor-alike None = none
anchor-alike (Some event) = mark _ (num _ (last _))

trace-line-alike : (line : List ℕ) → Alike false false (trace_line_html line) (trace_line_html [])
trace-line-alike line = text _ _ _ (last _)

more-alike : (left : ℕ) → IsClosed (more_html left)
more-alike left = choose (left == 0) _ _ none (mark _ (num _ (last _)))

folded-alike : (lines : List (List ℕ)) → Alike false false (folded_html lines) (folded_html (map (λ _. []) lines))
folded-alike lines =
    let blank : List ℕ → List ℕ = λ _. [] in
    rw (take-map blank 100 lines, length-map lines blank)
    (mark _ (both (each-alike trace_line_html (λ _. []) trace-line-alike (take 100 lines)) (mark _ (both (more-alike (length lines - 100)) (last _)))))

folded-if : (lines : List (List ℕ)) (b : Bool) → Alike false false (cond b nothing (folded_html lines)) (cond b nothing (folded_html (map (λ _. []) lines)))
folded-if lines true = none
folded-if lines false = folded-alike lines

trace-alike : (lines : List (List ℕ)) → Alike false false (trace_html lines) (trace_html (map (λ _. []) lines))
trace-alike lines =
    let blank : List ℕ → List ℕ = λ _. [] in
    subst (λ n. Alike false false (trace_html lines) (cond (n == 0) nothing (folded_html (map blank lines)))) (sym (length-map lines blank))
    (folded-if lines (length lines == 0))

line-head-alike : (line : TaskLine) → Alike false false (line_head_html line) (line_head_html (without_line line))
unfolding line_head_html
line-head-alike line =
    mark _ (word _ (side-inner line.side) (mark _ (both (anchor-alike line.event) (mark _ (word _ (side-inner line.side)
    (mark _ (both (number-alike line.event) (mark _ (text _ _ _ (last _))))))))))

line-alike : (line : TaskLine) → Alike false false (line_html line) (line_html (without_line line))
unfolding line_html
line-alike line = both (line-head-alike line) (both (trace-alike line.trace) (last _))

left-alike : (where-of : List ℕ) (left : ℕ) → list_all is_inner where-of ≡ true → IsClosed (left_html where-of left)
left-alike w left e = choose (left == 0) _ _ none (mark _ (num _ (word _ e (last _))))

-- the lines that are shown
before-fault : (lines : List TaskLine) → position_or_len (λ line. is_fault line.side) (map without_line lines) ≡ position_or_len (λ line. is_fault line.side) lines
before-fault [] = refl
before-fault (line ∷ lines) = ap (λ n. cond (not (is_fault line.side)) (1 + n) 0) (before-fault lines)

left-same : (lines : List TaskLine) → left_before (map without_line lines) ≡ left_before lines
left-same lines = rw (before-fault lines, length-map lines without_line) refl

after-same : (lines : List TaskLine) → left_after (map without_line lines) ≡ left_after lines
after-same lines = rw (before-fault lines, length-map lines without_line) refl

lines-shown : (lines : List TaskLine) → shown_lines (map without_line lines) ≡ map without_line (shown_lines lines)
lines-shown lines = rw (left-same lines, drop-map without_line (left_before lines) lines, take-map without_line 40 (drop (left_before lines) lines)) refl

before-alike : (lines : List TaskLine) → Alike false false (left_html (codes " before") (left_before lines)) (left_html (codes " before") (left_before (map without_line lines)))
before-alike lines =
    subst (λ n. Alike false false (left_html (codes " before") (left_before lines)) (left_html (codes " before") n)) (sym (left-same lines))
    (left-alike _ (left_before lines) refl)

after-alike : (lines : List TaskLine) → Alike false false (left_html (codes " more") (left_after lines)) (left_html (codes " more") (left_after (map without_line lines)))
after-alike lines =
    subst (λ n. Alike false false (left_html (codes " more") (left_after lines)) (left_html (codes " more") n)) (sym (after-same lines))
    (left-alike _ (left_after lines) refl)

rows-alike : (lines : List TaskLine) → Alike false false (each line_html (shown_lines lines)) (each line_html (shown_lines (map without_line lines)))
rows-alike lines =
    subst (λ ls. Alike false false (each line_html (shown_lines lines)) (each line_html ls)) (sym (lines-shown lines))
    (each-alike line_html without_line line-alike (shown_lines lines))

lines-alike : (lines : List TaskLine) → Alike false false (lines_html lines) (lines_html (map without_line lines))
unfolding lines_html
lines-alike lines = both (before-alike lines) (both (rows-alike lines) (after-alike lines))

task-alike : (task : Task) → Alike false false (task_html task) (task_html (without_task task))
unfolding task_html
task-alike task =
    mark _ (word _ (open-inner task.faulty) (mark _ (text _ _ _ (mark _ (num _ (mark _ (time _ (mark _
    (both (lines-alike task.lines) (last _))))))))))

task-count-alike : (shown before total : ℕ) → IsClosed (task_count_html shown before total)
task-count-alike shown before total =
    choose (shown == total) _ _ (mark _ (num _ (last _)))
    (mark _ (num _ (mark _ (num _ (mark _ (num _ (mark _ (num _ (last _)))))))))

pub tasks-alike : (tasks : List Task) (before total : ℕ) → Alike false false (tasks_html tasks before total) (tasks_html (map without_task tasks) before total)
unfolding tasks_html
tasks-alike tasks before total =
    rw (length-map tasks without_task) (mark _ (both (task-count-alike (length tasks) before total)
    (both (each-alike task_html without_task task-alike tasks) (last _))))

note-alike : (note : List ℕ) → Alike false false (note_html note) (note_html [])
note-alike note = mark _ (text _ _ _ (last _))

pub notes-alike : (notes : List (List ℕ)) → Alike false false (notes_html notes) (notes_html (map (λ _. []) notes))
notes-alike [] = none
notes-alike (note ∷ notes) = mark _ (both (each-alike note_html (λ _. []) note-alike (note ∷ notes)) (last _))

waits-alike : (waits : List (List ℕ)) → Alike false false (waits_html waits) (waits_html (map (λ _. []) waits))
waits-alike [] = none
waits-alike (wait ∷ waits) = mark _ (both (each-alike note_html (λ _. []) note-alike (wait ∷ waits)) (last _))

-- what stands above it
head-alike : (page : Page) → Alike false false (head_html page) (head_html (without_texts page))
unfolding head_html without_texts
head-alike page = mark _ (text _ _ _ (mark _ (text _ _ _ (mark _ (mark _ (mark _ (mark _ (last _))))))))

verdict-alike : (page : Page) → Alike false false (verdict_html page) (verdict_html (without_texts page))
unfolding verdict_html without_texts
verdict-alike page = mark _ (text _ _ _ (mark _ (word _ (verdict-inner page.good) (mark _ (text _ _ _ (last _))))))

frame-alike : (page : Page) → Alike false false (frame_html page) (frame_html (without_texts page))
unfolding frame_html without_texts
frame-alike page =
    both (head-alike page) (both (verdict-alike page) (mark _ (both (facts-alike page.facts) (mark _ (difference-alike page.difference)))))

body-alike : (stops : List Stop) (page : Page) → Alike false false (body_html stops page) (body_html stops (without_texts page))
unfolding body_html without_texts
body-alike stops page =
    (both (frame-alike page) (both (waits-alike page.waits) (both (notes-alike page.notes) (both (picture-alike page.fault stops page.lanes page.rows page.things page.tasks)
    (both (sums-alike page.sums) (both (table-alike page.fault page.lanes page.things) (tasks-alike page.tasks page.earlier page.all_tasks)))))))

pub texts_are_no_tags : TextsAreNoTags
texts_are_no_tags stops page more other same =
    let alike : Alike false false more other = record { same = same } in
    let whole : Alike false false (page_html stops page more) (page_html stops (without_texts page) other) =
    both (body-alike stops page) (both alike (last _)) in
    let plain_bytes = append-nil (bytes (page_html stops page more)) in
    let without_bytes = append-nil (bytes (page_html stops (without_texts page) other)) in
    ap tags (sym plain_bytes) ∙ whole.same [] [] refl ∙ ap tags without_bytes
