-- Stops that go to the right, one after another.
use Rattle.std.proofs.Common.{◌≡◌, ◌≤◌, ℕ, ◌<◌, ◌+◌, ◌-◌, nat_le, ◌∙◌, List, [], ◌∷◌, ◌++◌, map, take, get_or, length, sym, refl, ap, subst, arith}
use Rattle.std.proofs.lemmas.List.{take_more, map-append}
use Rattle.wh_html.specs.declared.axis.Stop.{Stop}
use Rattle.wh_html.specs.Axes.{left, right, GoesRight, BeginsLeft, last_place, gap_of, Gaps, next_free, Marks, next_place, steps_to, length_to, Places}

-- the stops go to the right from one place on, and no further than another
abbrev pub GoesTo : (x : ℕ) → List Stop → (y : ℕ) → Type 0
GoesTo x [] y = x ≤ y
GoesTo x (stop ∷ stops) y = (x ≤ stop.x) × GoesTo stop.x stops y

-- one more stop
pub GoesTo-more : (x : ℕ) (stops : List Stop) (y : ℕ) (stop : Stop) → GoesTo x stops y → y ≤ stop.x → GoesTo x (stops ++ stop ∷ []) stop.x
GoesTo-more x [] y stop h e = (omega arith, omega arith)
GoesTo-more x (s ∷ stops) y stop h e = (h.0, GoesTo-more s.x stops y stop h.1 e)

-- and no further than the right end
pub GoesRight_from : (x : ℕ) (stops : List Stop) (y : ℕ) → GoesTo x stops y → y ≤ right → GoesRight x stops
GoesRight_from x [] y h e = omega arith
GoesRight_from x (s ∷ stops) y h e = (h.0, GoesRight_from s.x stops y h.1 e)

-- the time of one more stop
pub times_more : (stops new : List Stop) (times : List ℕ) (i : ℕ) (stop : Stop) → map (λ s. s.millis) stops ≡ take i times → i < length times → new ≡ stops ++ stop ∷ [] → stop.millis ≡ get_or times i 0 → map (λ s. s.millis) new ≡ take (i + 1) times
times_more stops new times i stop e h f g =
    ap (map (λ s. s.millis)) f
    ∙ (map-append (λ s. s.millis) stops (stop ∷ [])
    ∙ (ap (λ ts. ts ++ stop.millis ∷ []) e
    ∙ (ap (λ t. take i times ++ t ∷ []) g ∙ sym (take_more times i 0 h))))

-- before the first stop, no time has been read and the way is at the left end; then the first is there
abbrev pub Begun : List Stop → (read x : ℕ) → Type 0
Begun [] read x = (read ≡ 0) × (x ≡ left)
Begun (stop ∷ stops) read x = stop.x ≡ left

pub Begun-more : (stops : List Stop) (read x m : ℕ) (times : List ℕ) (stop : Stop) → Begun stops read x → m ≡ get_or times (read - 1) 0 → stop.millis ≡ get_or times read 0 → (stop.millis ≡ m → stop.x ≡ x) → Begun (stops ++ stop ∷ []) (read + 1) stop.x
Begun-more [] read x m times stop h e f g =
    g (f ∙ ap (λ j. get_or times j 0) h.0 ∙ sym (e ∙ ap (λ j. get_or times (j - 1) 0) h.0)) ∙ h.1
Begun-more (s ∷ stops) read x m times stop h e f g = h

pub BeginsLeft_from : (stops : List Stop) (read x : ℕ) → Begun stops read x → BeginsLeft stops
BeginsLeft_from [] read x h = tt
BeginsLeft_from (s ∷ stops) read x h = h

-- where the last of one more stop stands
pub last_place-more : (x : ℕ) (stops : List Stop) (stop : Stop) → last_place x (stops ++ stop ∷ []) ≡ stop.x
last_place-more x [] stop = refl
last_place-more x (s ∷ stops) stop = last_place-more s.x stops stop

-- the gaps of stops that end at a place and time
abbrev pub GapsTo : (longest x m : ℕ) → List Stop → (y n : ℕ) → Type 0
GapsTo longest x m [] y n = (x ≡ y) × (m ≡ n)
GapsTo longest x m (stop ∷ stops) y n = (stop.gap ≡ gap_of x (stop.millis - m) longest) × GapsTo longest stop.x stop.millis stops y n

pub GapsTo-more : (longest x m : ℕ) (stops : List Stop) (y n : ℕ) (stop : Stop) → GapsTo longest x m stops y n → stop.gap ≡ gap_of y (stop.millis - n) longest → GapsTo longest x m (stops ++ stop ∷ []) stop.x stop.millis
GapsTo-more longest x m [] y n stop h e = (e ∙ sym (ap (λ z. gap_of z (stop.millis - m) longest) h.0 ∙ ap (λ t. gap_of y (stop.millis - t) longest) h.1), (refl, refl))
GapsTo-more longest x m (s ∷ stops) y n stop h e = (h.0, GapsTo-more longest s.x s.millis stops y n stop h.1 e)

pub Gaps_from : (longest x m : ℕ) (stops : List Stop) (y n : ℕ) → GapsTo longest x m stops y n → Gaps longest x m stops
Gaps_from longest x m [] y n h = tt
Gaps_from longest x m (s ∷ stops) y n h = (h.0, Gaps_from longest s.x s.millis stops y n h.1)

-- the places of stops after which so many steps, so long together, have led to a time and its place
pub record Way : Type 0 where
  pub steps : ℕ
  pub far : ℕ
  pub millis : ℕ
  pub x : ℕ

-- where one more stop leads
abbrev pub way_after : (longest : ℕ) → Way → Stop → Way
way_after longest way stop =
    record {
      steps = steps_to way.steps (stop.millis - way.millis);
      far = length_to longest way.far (stop.millis - way.millis);
      millis = stop.millis;
      x = stop.x;
    }

abbrev pub PlacesTo : (all whole longest last : ℕ) → Way → List Stop → Way → Type 0
PlacesTo all whole longest last way [] end = way ≡ end
PlacesTo all whole longest last way (stop ∷ stops) end =
    (stop.x ≡ next_place all whole longest last way.steps way.far way.millis way.x stop.millis)
    × PlacesTo all whole longest last (way_after longest way stop) stops end

pub PlacesTo-more : (all whole longest last : ℕ) (way : Way) (stops : List Stop) (end : Way) (stop : Stop) → PlacesTo all whole longest last way stops end
    → stop.x ≡ next_place all whole longest last end.steps end.far end.millis end.x stop.millis
    → PlacesTo all whole longest last way (stops ++ stop ∷ []) (way_after longest end stop)
PlacesTo-more all whole longest last way [] end stop h e =
    subst (λ w. PlacesTo all whole longest last w (stop ∷ []) (way_after longest end stop)) (sym h) (e, refl)
PlacesTo-more all whole longest last way (s ∷ stops) end stop h e =
    (h.0, PlacesTo-more all whole longest last (way_after longest way s) stops end stop h.1 e)

pub Places_from : (all whole longest last : ℕ) (way : Way) (stops : List Stop) (end : Way) → PlacesTo all whole longest last way stops end
    → Places all whole longest last way.steps way.far way.millis way.x stops
unfolding Places
Places_from all whole longest last way [] end h = tt
Places_from all whole longest last way (s ∷ stops) end h =
    (h.0, Places_from all whole longest last (way_after longest way s) stops end h.1)

-- the marks of stops after which the next may stand at a place
abbrev pub MarksTo : (free : ℕ) → List Stop → (last : ℕ) → Type 0
MarksTo free [] last = free ≡ last
MarksTo free (stop ∷ stops) last = (stop.marked ≡ nat_le free stop.x) × MarksTo (next_free free stop.x) stops last

pub MarksTo-more : (free : ℕ) (stops : List Stop) (last : ℕ) (stop : Stop) → MarksTo free stops last → stop.marked ≡ nat_le last stop.x → MarksTo free (stops ++ stop ∷ []) (next_free last stop.x)
MarksTo-more free [] last stop h e = (e ∙ sym (ap (λ z. nat_le z stop.x) h), ap (λ z. next_free z stop.x) h)
MarksTo-more free (s ∷ stops) last stop h e = (h.0, MarksTo-more (next_free free s.x) stops last stop h.1 e)

pub Marks_from : (free : ℕ) (stops : List Stop) (last : ℕ) → MarksTo free stops last → Marks free stops
Marks_from free [] last h = tt
Marks_from free (s ∷ stops) last h = (h.0, Marks_from (next_free free s.x) stops last h.1)

-- one more stop at the end of one more step
pub places_on : (all whole longest last : ℕ) (way : Way) (stops new : List Stop) (steps far millis x : ℕ) (stop : Stop)
    (next_steps next_far next_millis next_x : ℕ)
    → PlacesTo all whole longest last way stops (record { steps = steps; far = far; millis = millis; x = x })
    → stop.x ≡ next_place all whole longest last steps far millis x stop.millis
    → next_steps ≡ steps_to steps (stop.millis - millis) → next_far ≡ length_to longest far (stop.millis - millis)
    → next_millis ≡ stop.millis → next_x ≡ stop.x → new ≡ stops ++ stop ∷ []
    → PlacesTo all whole longest last way new (record { steps = next_steps; far = next_far; millis = next_millis; x = next_x })
places_on all whole longest last way stops new steps far millis x stop ns nf nm nx h e a b m p g =
    rw (g, a, b, m, p) (PlacesTo-more all whole longest last way stops (record { steps = steps; far = far; millis = millis; x = x }) stop h e)
