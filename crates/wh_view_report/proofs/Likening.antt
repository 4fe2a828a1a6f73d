-- What is like a second thing, which is like a third one, is like the third one.
use Rattle.std.proofs.Common.{◌≡◌, ◌∙◌, Bool, true, false, ◌&&◌, ℕ, List, [], ◌∷◌, refl, is_some, Option, Some, None}
use Rattle.std.specs.Bool.{beq}
use Rattle.std.specs.Cmp.Lexicographic.{pointwise}
use Rattle.std.specs.Str.{bytes_eq}
use Rattle.std.proofs.lemmas.Bool.{and_from, and_parts, false≢true}
use Rattle.std.proofs.lemmas.Slice.Eq.{bytes_eq-Decides}
use Rattle.wh_view.specs.Lookups.{event_name, event_type, opening_of, thing_of}
use Rattle.wh_view.specs.declared.view.Ending.{Ending}
use Rattle.wh_view.specs.declared.view.View.{View}
use Rattle.wh_view.specs.declared.view.ViewedEvent.{ViewedEvent}
use Rattle.wh_view.specs.declared.view.ViewedFailure.{ViewedFailure}
use Rattle.wh_view.specs.declared.view.ViewedThing.{ViewedThing}
use Rattle.wh_markers.specs.declared.markers.RecordedMarker.{RecordedMarker}
use Rattle.wh_view_report.specs.Alike.{alike_endings, alike_event, alike_failure, alike_markers, alike_names, alike_reasons, alike_states, alike_tasks, alike_things, name_by, shared_name}
use Rattle.wh_view_report.specs.Digits.{alike_texts, plain}
use Rattle.wh_view_report.specs.Folding.{Task}
use Rattle.wh_view_report.specs.Subjects.{marker_words}
use Rattle.wh_view_report.specs.Words.{told_mark}

-- each thing is like itself, and like what those are like that it is like
pub record IsLikening {A : Type 0} (r : A → A → Bool) : Type 0 where
  pub itself : (x : A) → r x x ≡ true
  pub onward : (x y z : A) → r x y ≡ true → r y z ≡ true → r x z ≡ true

-- what has the same text
by_text : {A : Type 0} (f : A → List ℕ) → IsLikening (λ x y. bytes_eq (f x) (f y))
by_text f = record {
  itself = λ x. (bytes_eq-Decides (f x) (f x)).1 refl;
  onward = λ x y z p q. (bytes_eq-Decides (f x) (f z)).1 ((bytes_eq-Decides (f x) (f y)).0 p ∙ (bytes_eq-Decides (f y) (f z)).0 q);
}

same_bit : (b : Bool) → beq b b ≡ true
same_bit true = refl
same_bit false = refl

bits_onward : (a b c : Bool) → beq a b ≡ true → beq b c ≡ true → beq a c ≡ true
bits_onward true true c p q = q
bits_onward true false c p q = absurd (false≢true p)
bits_onward false true c p q = absurd (false≢true p)
bits_onward false false c p q = q

-- what answers a question alike
by_bit : {A : Type 0} (f : A → Bool) → IsLikening (λ x y. beq (f x) (f y))
by_bit f = record { itself = λ x. same_bit (f x); onward = λ x y z p q. bits_onward (f x) (f y) (f z) p q }

-- what is alike in both ways
both : {A : Type 0} {r s : A → A → Bool} → IsLikening r → IsLikening s → IsLikening (λ x y. r x y && s x y)
both {A} {r} {s} one other = record {
  itself = λ x. and_from (r x x) (s x x) (one.itself x) (other.itself x);
  onward = λ x y z p q.
      let a = and_parts (r x y) (s x y) p in
      let b = and_parts (r y z) (s y z) q in
      and_from (r x z) (s x z) (one.onward x y z a.0 b.0) (other.onward x y z a.1 b.1);
}

-- what has alike parts
by_part : {A B : Type 0} (f : A → B) {r : B → B → Bool} → IsLikening r → IsLikening (λ x y. r (f x) (f y))
by_part f h = record { itself = λ x. h.itself (f x); onward = λ x y z p q. h.onward (f x) (f y) (f z) p q }

list_itself : {A : Type 0} (r : A → A → Bool) → IsLikening r → (xs : List A) → pointwise r xs xs ≡ true
list_itself r h [] = refl
list_itself r h (x ∷ xs) = and_from (r x x) (pointwise r xs xs) (h.itself x) (list_itself r h xs)

list_onward : {A : Type 0} (r : A → A → Bool) → IsLikening r → (xs ys zs : List A) → pointwise r xs ys ≡ true → pointwise r ys zs ≡ true → pointwise r xs zs ≡ true
list_onward r h [] [] zs p q = q
list_onward r h [] (y ∷ ys) zs p q = absurd (false≢true p)
list_onward r h (x ∷ xs) [] zs p q = absurd (false≢true p)
list_onward r h (x ∷ xs) (y ∷ ys) [] p q = absurd (false≢true q)
list_onward r h (x ∷ xs) (y ∷ ys) (z ∷ zs) p q =
    let a = and_parts (r x y) (pointwise r xs ys) p in
    let b = and_parts (r y z) (pointwise r ys zs) q in
    and_from (r x z) (pointwise r xs zs) (h.onward x y z a.0 b.0) (list_onward r h xs ys zs a.1 b.1)

-- lists of alike things, in the same order
by_list : {A : Type 0} (r : A → A → Bool) → IsLikening r → IsLikening (pointwise r)
by_list r h = record { itself = list_itself r h; onward = list_onward r h }

texts : IsLikening alike_texts
unfolding alike_texts
texts = by_text plain

names : (view : View) → IsLikening (alike_names view)
names view =
    both (by_text event_name)
    (both (by_text (λ (e : ViewedEvent). name_by e.read.kind)) (by_text (λ (e : ViewedEvent). event_type (opening_of view e))))

markers : IsLikening alike_markers
markers =
    both (by_text (λ (m : RecordedMarker). marker_words m.kind))
    (both (by_text (λ (m : RecordedMarker). shared_name m.kind m.name)) (by_bit (λ (m : RecordedMarker). m.deprecated)))

states : IsLikening alike_states
states =
    both (by_bit (λ (t : ViewedThing). is_some t.started))
    (both (by_bit (λ (t : ViewedThing). is_some t.cancelling)) (by_bit (λ (t : ViewedThing). is_some t.ended)))

things_itself : (x : Option ViewedThing) → alike_things x x ≡ true
things_itself None = refl
things_itself (Some x) = states.itself x

things_onward : (x y z : Option ViewedThing) → alike_things x y ≡ true → alike_things y z ≡ true → alike_things x z ≡ true
things_onward None None z p q = q
things_onward None (Some y) z p q = absurd (false≢true p)
things_onward (Some x) None z p q = absurd (false≢true p)
things_onward (Some x) (Some y) None p q = absurd (false≢true q)
things_onward (Some x) (Some y) (Some z) p q = states.onward x y z p q

things : IsLikening alike_things
things = record { itself = things_itself; onward = things_onward }

failures : IsLikening alike_failure
failures = both (by_text (λ (f : ViewedFailure). f.kind)) (by_part (λ (f : ViewedFailure). f.message) texts)

endings : IsLikening alike_endings
endings =
    both (by_text (λ (e : Ending). e.cause))
    (both (by_text (λ (e : Ending). e.timeout_type)) (by_text (λ (e : Ending). e.retry_state)))

reasons : (view : View) → IsLikening (alike_reasons view)
reasons view =
    both (by_part (λ (e : ViewedEvent). e.failure) texts)
    (both (by_part (λ (e : ViewedEvent). e.details.failures) (by_list alike_failure failures))
    (both (by_part (λ (e : ViewedEvent). e.details.ending) endings) (by_text (told_mark view))))

events : (view : View) → IsLikening (alike_event view)
unfolding alike_event
events view =
    both (names view)
    (both (by_part (λ (e : ViewedEvent). e.details.marker) markers)
    (both (by_part (thing_of view) things) (reasons view)))

-- being alike is so for tasks
pub tasks : (view : View) → IsLikening (alike_tasks view)
tasks view = by_list (alike_event view) (events view)
