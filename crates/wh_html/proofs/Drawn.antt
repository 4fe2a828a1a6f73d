-- The tags of a picture are those of the picture without its texts.
use Rattle.std.proofs.Common.{◌≡◌, ◌+◌, ◌-◌, ℕ, Bool, true, false, cond, Option, Some, None, List, [], ◌∷◌, map, drop, length, refl, ap, ◌∙◌, min}
use Rattle.std.proofs.lemmas.List.{length-map, take-map, drop-map}
use Rattle.std.proofs.lemmas.List.Folds.{fold-map}
use Rattle.std.specs.Prelude.{◌%◌, nat_le, nat_lt, ◌==◌, not, count_by, codes, decimal}
use Rattle.std.specs.List.{list_all}
use Rattle.std.specs.Option.{option_map}
use Rattle.wh_html.specs.Html.{Html, plain, hole, number}
use Rattle.wh_html.proofs.Alike.{Alike, is_inner, last, words, cuts, texts, both, none, mark, word, text, num, each-alike, each-same, decimal-inner}
use Rattle.wh_html.proofs.Inner.{time, lapse, last-time}
use Rattle.wh_html.specs.declared.axis.Gap.{Gap}
use Rattle.wh_html.specs.declared.axis.Stop.{Stop}
use Rattle.wh_html.specs.declared.page.Kind.{Kind}
use Rattle.wh_html.specs.declared.page.Lane.{Lane}
use Rattle.wh_html.specs.declared.page.Moment.{Moment}
use Rattle.wh_html.specs.declared.page.Page.{Page}
use Rattle.wh_html.specs.declared.page.RowPart.{RowPart}
use Rattle.wh_html.specs.declared.page.RowPart.TheVariants.{Alone, First, Later}
use Rattle.wh_html.specs.declared.page.Task.{Task}
use Rattle.wh_html.specs.Without.{without_lane, without_task, without_texts}
use Rattle.wh_html.specs.Lanes.{is_hit, event_html, span_html, spans_html, thing_html, label_html, title_html, bar_html, bars_html, is_at_once, sign_html, cancel_html, classes_html, shared_label_html, said_html, count_html, times_html, counts_html, room_class, ground_html, row_html, row_part_html, part_html, lane_html}
use Rattle.wh_html.specs.Lanes.{top_of}
use Rattle.wh_html.specs.Pictures.{undrawn_html, opening_html, gap_word_html, mark_at_html, before_html, stop_html, first_time, tick_html, fault_html, picture_html}
use Rattle.wh_html.specs.Words.{kind_word}
use Rattle.wh_html.proofs.WordsInner.{kind-inner, outcome-inner, hit-inner}

-- a template that is alike itself
abbrev pub IsClosed : Html → Type 0
IsClosed html = Alike false false html html

-- the lanes
event-alike : (word-of : List ℕ) (moment : Option Moment) → list_all is_inner word-of ≡ true → IsClosed (event_html word-of moment)
event-alike w None e = none
event-alike w (Some moment) e = word _ e (mark _ (num _ (mark _ (last-time _))))

span-alike : (word-of : List ℕ) (span : Option (List ℕ)) → list_all is_inner word-of ≡ true
    → Alike false false (span_html word-of span) (span_html word-of (option_map (λ _. []) span))
span-alike w None e = none
span-alike w (Some span) e = word _ e (texts _ _ _)

spans-alike : (waited took : Option (List ℕ)) → Alike false false (spans_html waited took) (spans_html (option_map (λ _. []) waited) (option_map (λ _. []) took))
spans-alike waited took = both (span-alike _ waited refl) (span-alike _ took refl)

thing-alike : (type_name : Option (List ℕ)) (name : List ℕ) → Alike false false (thing_html type_name name) (thing_html (option_map (λ _. []) type_name) [])
thing-alike None name = texts _ _ _
thing-alike (Some type_name) name = text _ _ _ (mark _ (texts _ _ _))

label-alike : (type_name : Option (List ℕ)) (name : List ℕ) → Alike false false (label_html type_name name) (label_html (option_map (λ _. []) type_name) [])
label-alike None name = texts _ _ _
label-alike (Some type_name) name = both (cuts _ _ type_name []) (mark _ (both (cuts _ _ name []) (last _)))

title-alike : (lane : Lane) → Alike false false (title_html lane) (title_html (without_lane lane))
unfolding title_html
title-alike lane =
    mark _ (word _ (kind-inner lane.kind) (mark _ (both (thing-alike lane.type_name lane.name) (mark _ (both (event-alike _ (Some lane.opened) refl)
    (both (event-alike _ lane.started refl) (both (event-alike _ lane.ended refl) (both (spans-alike lane.waited lane.took)
    (mark _ (text _ _ _ (last _)))))))))))

bar-alike : (class : List ℕ) (from to : ℕ) → list_all is_inner class ≡ true → IsClosed (bar_html class from to)
bar-alike class from to e = mark _ (word _ e (mark _ (num _ (mark _ (num _ (last _))))))

bars-alike : (stops : List Stop) (opened : Moment) (started ended : Option Moment) → IsClosed (bars_html stops opened started ended)
bars-alike stops opened None ended = bar-alike _ _ _ refl
bars-alike stops opened (Some started) ended = both (bar-alike _ _ _ refl) (bar-alike _ _ _ refl)

pub choose : (b : Bool) (a c : Html) → IsClosed a → IsClosed c → IsClosed (cond b a c)
choose true a c p q = p
choose false a c p q = q

sign-alike : (stops : List Stop) (lane : Lane) → IsClosed (sign_html stops lane)
sign-alike stops lane =
    choose (is_at_once lane.kind) _ _ (mark _ (num _ (last _))) (bars-alike stops lane.opened lane.started lane.ended)

pub classes-alike : (lane : Lane) (fault : Option Moment) (s : Bool) → Alike s s (classes_html lane fault) (classes_html lane fault)
classes-alike lane fault true = word _ (kind-inner lane.kind) (mark _ (word _ (outcome-inner lane.outcome) (words _ (hit-inner (is_hit lane fault)))))
classes-alike lane fault false = word _ (kind-inner lane.kind) (mark _ (word _ (outcome-inner lane.outcome) (words _ (hit-inner (is_hit lane fault)))))

cancel-alike : (stops : List Stop) (moment : Option Moment) → IsClosed (cancel_html stops moment)
cancel-alike stops None = none
cancel-alike stops (Some moment) = mark _ (num _ (last _))

said-alike : (words-of : List ℕ) → Alike false false (said_html words-of) (said_html [])
said-alike w = mark _ (text _ _ _ (last _))

shared-label-alike : (kind : Kind) (type_name : Option (List ℕ)) (name : List ℕ) → Alike false false (shared_label_html kind type_name name) (shared_label_html kind (option_map (λ _. []) type_name) [])
shared-label-alike kind (Some type_name) name = texts _ _ _
shared-label-alike kind None name = by (is_at_once kind)
  where
    by : (b : Bool) → Alike false false (cond b (hole 25 name) (plain (kind_word kind))) (cond b (hole 25 []) (plain (kind_word kind)))
    by true = texts _ _ _
    by false = words _ (kind-inner kind)

count-alike : (outcome : List ℕ) (count : ℕ) → list_all is_inner outcome ≡ true → IsClosed (count_html outcome count)
count-alike outcome count e = choose (count == 0) _ _ none (mark _ (num _ (mark _ (words _ e))))

last-number : (n : ℕ) → IsClosed (number n)
last-number n = words (decimal n) (decimal-inner n)

times-alike : (things drawn : ℕ) → IsClosed (times_html things drawn)
times-alike things drawn =
    choose (things == drawn) _ _ (num _ (last _)) (num _ (mark _ (last-number things)))

counts-alike : (things drawn failed pending : ℕ) → IsClosed (counts_html things drawn failed pending)
counts-alike things drawn failed pending =
    mark _ (both (times-alike things drawn) (both (count-alike _ failed refl) (both (count-alike _ pending refl) (last _))))

room-inner : (row : ℕ) → list_all is_inner (room_class row) ≡ true
room-inner row = by (row % 2 == 0)
  where
    by : (b : Bool) → list_all is_inner (cond b (codes "room") (codes "room odd")) ≡ true
    by true = refl
    by false = refl

row-alike : (row : ℕ) {label other said more : Html} → Alike false false label other → Alike false false said more → Alike false false (row_html row label said) (row_html row other more)
row-alike row h k = both (mark _ (word _ (room-inner row) (last _))) (mark _ (both h (mark _ k)))

row-part-alike : (part : RowPart) (lane : Lane) → Alike false false (row_part_html part lane) (row_part_html part (without_lane lane))
row-part-alike Alone lane = row-alike lane.row (label-alike lane.type_name lane.name) (said-alike lane.words)
row-part-alike (First things drawn failed pending) lane =
    row-alike lane.row (shared-label-alike lane.kind lane.type_name lane.name) (counts-alike things drawn failed pending)
row-part-alike Later lane = none

part-alike : (lane : Lane) → Alike false false (part_html lane) (part_html (without_lane lane))
unfolding part_html
part-alike lane = row-part-alike lane.part lane

lane-alike : (fault : Option Moment) (stops : List Stop) (lane : Lane) → Alike false false (lane_html fault stops lane) (lane_html fault stops (without_lane lane))
unfolding lane_html
lane-alike fault stops lane =
    mark _ (both (classes-alike lane fault true) (mark _ (num _ (mark _ (both (title-alike lane) (both (part-alike lane)
    (both (sign-alike stops lane) (both (cancel-alike stops lane.cancelling) (last _)))))))))

-- the picture beside them
gap-word-alike : (from to millis : ℕ) → IsClosed (gap_word_html from to millis)
gap-word-alike from to millis = choose (nat_le 48 (to - from)) _ _ (mark _ (num _ (mark _ (lapse _ (last _))))) none

before-alike : (bottom to : ℕ) (gap : Option Gap) → IsClosed (before_html bottom to gap)
before-alike bottom to None = none
before-alike bottom to (Some gap) =
    mark _ (lapse _ (mark _ (num _ (mark _ (num _ (mark _ (num _ (mark _ (both (gap-word-alike gap.from to gap.millis) (last _))))))))))

mark-alike : (bottom first : ℕ) (stop : Stop) → IsClosed (mark_at_html bottom first stop)
mark-alike bottom first stop =
    choose stop.marked _ _ (mark _ (num _ (mark _ (lapse _ (mark _ (num _ (mark _ (num _ (mark _ (num _ (last _))))))))))) none

stop-alike : (bottom first : ℕ) (stop : Stop) → IsClosed (stop_html bottom first stop)
stop-alike bottom first stop = both (before-alike bottom stop.x stop.gap) (mark-alike bottom first stop)

tick-alike : (stops : List Stop) (task : Task) → Alike false false (tick_html stops task) (tick_html stops (without_task task))
tick-alike stops task =
    mark _ (word _ (hit-inner task.faulty) (mark _ (num _ (mark _ (text _ _ _ (mark _ (num _ (mark _ (time _ (last _))))))))))

fault-alike : (stops : List Stop) (bottom : ℕ) (fault : Option Moment) → IsClosed (fault_html stops bottom fault)
fault-alike stops bottom None = none
fault-alike stops bottom (Some fault) =
    mark _ (num _ (mark _ (num _ (mark _ (num _ (mark _ (num _ (mark _ (num _ (last _))))))))))

undrawn-alike : (lanes total : ℕ) → IsClosed (undrawn_html lanes total)
undrawn-alike lanes total = choose (lanes == total) _ _ none (mark _ (num _ (mark _ (num _ (last _)))))

opening-alike : (lanes rows total : ℕ) → IsClosed (opening_html lanes rows total)
opening-alike lanes rows total = mark _ (both (undrawn-alike lanes total) (mark _ (num _ (mark _ (num _ (mark _ (num _ (last _))))))))

-- the picture
pub picture-alike : (fault : Option Moment) (stops : List Stop) (lanes : List Lane) (rows total : ℕ) (tasks : List Task) → Alike false false (picture_html fault stops lanes rows total tasks) (picture_html fault stops (map without_lane lanes) rows total (map without_task tasks))
unfolding picture_html
picture-alike fault stops lanes rows total tasks =
    let bottom = top_of rows in
    rw (length-map lanes without_lane) (both (opening-alike (length lanes) rows total) (both (each-same (stop_html bottom (first_time stops)) (stop-alike bottom (first_time stops)) stops)
    (mark _ (both (each-alike (tick_html stops) without_task (tick-alike stops) tasks) (both (each-alike (lane_html fault stops) without_lane (lane-alike fault stops) lanes)
    (both (fault-alike stops bottom fault) (last _)))))))
