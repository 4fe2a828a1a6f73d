-- As many lanes tell of their row as there are rows.
use Rattle.std.proofs.Common.{◌≡◌, ◌∙◌, ℕ, zero, suc, ◌+◌, Bool, true, false, cond, List, [], ◌∷◌, length, map, drop, get_or, refl, sym, ap, arith}
use Rattle.std.specs.Prelude.{◌==◌, count_by}
use Rattle.std.proofs.lemmas.List.{length-map, drop-drop}
use Rattle.std.proofs.lemmas.List.Sums.{sum_by-cons}
use Rattle.wh_html.specs.declared.page.RowPart.{RowPart}
use Rattle.wh_html.specs.declared.page.RowPart.TheVariants.{Alone, First, Later}
use Rattle.wh_view.specs.declared.view.View.{View}
use Rattle.wh_view.specs.declared.view.ViewedThing.{ViewedThing}
use Rattle.wh_run_page.specs.Lanes.{lane_of}
use Rattle.wh_run_page.specs.Laws.{tells, RowsAreTold}
use Rattle.wh_run_page.specs.Moments.{times_of}
use Rattle.wh_run_page.specs.Pages.{timed_page}
use Rattle.wh_run_page.specs.Rows.{first_of, firsts_of, part_of, placed_at, placed_from, rows_from, are_many, share_row}

-- the first of a row tells of it
first-tells : (c : Bool) (things drawn failed pending : ℕ) → tells (cond c Alone (First things drawn failed pending)) ≡ true
first-tells true things drawn failed pending = refl
first-tells false things drawn failed pending = refl

tells-by : (b : Bool) (part : RowPart) → tells part ≡ true → tells (cond b part Later) ≡ b
tells-by true part h = h
tells-by false part h = refl

tells-part : (view : View) (all : List ViewedThing) (index first : ℕ) (thing : ViewedThing) → tells (part_of view all index first thing) ≡ (first == index)
tells-part view all index first thing =
    tells-by (first == index) _ (first-tells (count_by (λ other. share_row view (are_many all) thing other) view.things == 1) _ _ _ _)

-- the lane of a thing stands as the thing does
lane-tells : (view : View) (times : List ℕ) (all : List ViewedThing) (firsts : List ℕ) (index first : ℕ) (thing : ViewedThing) → get_or firsts index 0 ≡ first
    → tells (lane_of view times (placed_at view all firsts index thing)).part ≡ (first == index)
unfolding lane_of
lane-tells view times all firsts index first thing e =
    tells-part view all index (get_or firsts index 0) thing ∙ ap (λ n. n == index) e

module _ {A : Type 0} where
  -- the item at an index, and those after it
  pub at-drop : (i : ℕ) (xs rest : List A) (x d : A) → drop i xs ≡ x ∷ rest → get_or xs i d ≡ x
  at-drop zero [] rest x d e = ap (λ l. get_or l 0 d) e
  at-drop zero (y ∷ ys) rest x d e = ap (λ l. get_or l 0 d) e
  at-drop (suc i) [] rest x d e = cc
  at-drop (suc i) (y ∷ ys) rest x d e = at-drop i ys rest x d e

  pub rest-drop : (i : ℕ) (xs rest : List A) (x : A) → drop i xs ≡ x ∷ rest → drop (i + 1) xs ≡ rest
  rest-drop i xs rest x e = sym (drop-drop 1 i xs) ∙ ap (drop 1) e

told-from : (view : View) (times : List ℕ) (all : List ViewedThing) (firsts : List ℕ) (index : ℕ) (xs : List ViewedThing) (rest : List ℕ)
    → drop index firsts ≡ rest → length rest ≡ length xs
    → count_by (λ lane. tells lane.part) (map (lane_of view times) (placed_from view all firsts index xs)) ≡ rows_from index rest
told-from view times all firsts index [] [] e n = refl
told-from view times all firsts index [] (first ∷ rest) e n = absurd (omega arith)
told-from view times all firsts index (x ∷ xs) [] e n = absurd (omega arith)
told-from view times all firsts index (x ∷ xs) (first ∷ rest) e n =
    let lane = lane_of view times (placed_at view all firsts index x) in
    let later = map (lane_of view times) (placed_from view all firsts (index + 1) xs) in
    let own : cond (tells lane.part) 1 0 ≡ cond (first == index) 1 0
    = ap (λ b. cond b 1 0) (lane-tells view times all firsts index first x (at-drop index firsts rest first 0 e)) in
    let after : count_by (λ lane. tells lane.part) later ≡ rows_from (index + 1) rest
    = told-from view times all firsts (index + 1) xs rest (rest-drop index firsts rest first e) (omega arith) in
    sum_by-cons (λ lane. cond (tells lane.part) 1 0) lane later ∙ ap (λ m. m + count_by (λ lane. tells lane.part) later) own
    ∙ ap (λ m. cond (first == index) 1 0 + m) after

pub rows_are_told : RowsAreTold
unfolding timed_page
rows_are_told view said page own =
    let times = times_of view.events in
    let firsts = firsts_of view own.shown in
    ap (λ one. count_by (λ lane. tells lane.part) one.lanes) own.is
    ∙ told-from view times own.shown firsts 0 own.shown firsts refl (length-map own.shown (first_of view own.shown))
    ∙ sym (ap (λ one. one.rows) own.is)
