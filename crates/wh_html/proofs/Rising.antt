-- A later time never stands further left.
use Rattle.std.proofs.Common.{◌≡◌, ◌≤◌, ℕ, Bool, true, false, cond, List, [], ◌∷◌, refl, arith}
use Rattle.std.proofs.lemmas.Bool.{ltb-true, ltb-false}
use Rattle.std.specs.Prelude.{nat_lt}
use Rattle.wh_html.specs.declared.axis.Stop.{Stop}
use Rattle.wh_html.specs.Axes.{left, right, place_from, place_of, GoesRight}
use Rattle.wh_html.specs.PictureLaws.{PlacesRise, PlacesEnd}

-- the stops end within the picture
last : (y : ℕ) (stops : List Stop) → GoesRight y stops → y ≤ right
last y [] h = h
last y (stop ∷ stops) h = let later = last stop.x stops h.1 in let step = h.0 in omega arith

-- one of two places within bounds
between : (b : Bool) (x p : ℕ) → x ≤ p → p ≤ right → (x ≤ cond b x p) × (cond b x p ≤ right)
between true x p low high = (omega arith, omega arith)
between false x p low high = (low, high)

-- a place is between the first and the right end
within : (x : ℕ) (stops : List Stop) (t : ℕ) → GoesRight x stops → (x ≤ place_from x stops t) × (place_from x stops t ≤ right)
within x [] t h = (omega arith, h)
within x (stop ∷ stops) t h =
    let later = within stop.x stops t h.1 in
    let low = later.0 in
    let step = h.0 in
    between (nat_lt t stop.millis) x (place_from stop.x stops t) (omega arith) later.1

-- of two times the later one
choose : (x p q t u m : ℕ) (a b : Bool) → nat_lt t m ≡ a → nat_lt u m ≡ b → t ≤ u → x ≤ q → p ≤ q → cond a x p ≤ cond b x q
choose x p q t u m true true e f h i j = omega arith
choose x p q t u m true false e f h i j = i
choose x p q t u m false true e f h i j = let before = ltb-false t m e in let after = ltb-true u m f in omega arith
choose x p q t u m false false e f h i j = j

rises : (x : ℕ) (stops : List Stop) (t u : ℕ) → GoesRight x stops → t ≤ u → place_from x stops t ≤ place_from x stops u
rises x [] t u h e = omega arith
rises x (stop ∷ stops) t u h e =
    let later = within stop.x stops u h.1 in
    let low = later.0 in
    let step = h.0 in
    choose x (place_from stop.x stops t) (place_from stop.x stops u) t u stop.millis (nat_lt t stop.millis) (nat_lt u stop.millis) refl refl e (omega arith) (rises stop.x stops t u h.1 e)

pub places_rise : PlacesRise
unfolding place_of
places_rise stops h t u e = rises left stops t u h e

pub places_end : PlacesEnd
unfolding place_of
places_end stops h t = (within left stops t h).1
