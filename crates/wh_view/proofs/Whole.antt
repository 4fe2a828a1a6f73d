-- If the reader accepts a history, its view has the same bodies and no fault.
use Rattle.std.proofs.Common.{◌≡◌, ℕ, ◌+◌, Bool, true, false, cond, List, [], ◌∷◌, refl, sym, ap, subst, ◌∙◌, Option, Some, None, Result, Ok, Err}
use Rattle.std.specs.Prelude.{map, nat_lt, length}
use Rattle.serde_json.specs.Data.{Data}
use Rattle.wh_events.specs.declared.event.Event.{Event}
use Rattle.wh_json.specs.declared.fault.ReadFault.{ReadFault}
use Rattle.wh_json.specs.declared.fault.ReadFault.TheVariants.{TooLong, BadJson, NoEvents}
use Rattle.wh_json.specs.declared.partial.PartialEvent.{PartialEvent}
use Rattle.wh_json.specs.Outcome.{◌>>=◌, all_of, or_fault}
use Rattle.wh_json.specs.Fields.{document}
use Rattle.wh_json.specs.Events.{members_from, event_at, event_number, events_in, history, document_within, longest}
use Rattle.wh_json.specs.Partial.{partial_event}
use Rattle.wh_view.specs.declared.view.View.{View}
use Rattle.wh_view.specs.declared.view.ViewedEvent.{ViewedEvent}
use Rattle.wh_view.specs.Views.{reads_from, reads_of, IsViewIn}
use Rattle.wh_view.specs.Laws.{BodiesAreViewed, NoneHasAFault}

-- what is read first, and the rest
record IsFront (r : Result Event ReadFault) (rs : Result (List Event) ReadFault) (events : List Event) : Type 0 where
  first : Event
  rest : List Event
  reads : r ≡ Ok first
  goes_on : rs ≡ Ok rest
  all : events ≡ first ∷ rest

front_of : (r : Result Event ReadFault) (rs : Result (List Event) ReadFault) (events : List Event)
    → (r >>= (λ x. rs >>= (λ xs. Ok (x ∷ xs)))) ≡ Ok events → IsFront r rs events
front_of (Ok x) (Ok xs) events e = record { first = x; rest = xs; reads = refl; goes_on = refl; all = cc }
front_of (Ok x) (Err f) events e = cc
front_of (Err f) rs events e = cc

kind_read : (at : ℕ) (before : Option ℕ) (d : Data) (event : Event) → event_at at before d ≡ Ok event
    → (partial_event at before d).kind ≡ Some event.body
kind_read at before d event is = cc

fault_read : (at : ℕ) (before : Option ℕ) (d : Data) (event : Event) → event_at at before d ≡ Ok event
    → (partial_event at before d).fault ≡ None
fault_read at before d event is = cc

kinds_from : (ds : List Data) (at : ℕ) (before : Option ℕ) (events : List Event) → all_of (members_from at before ds) ≡ Ok events
    → map (λ p. p.kind) (reads_from at before ds) ≡ map (λ event. Some event.body) events
unfolding reads_from members_from
kinds_from [] at before events e =
    let none : [] ≡ events = cc in
    ap (map (λ event. Some event.body)) none
kinds_from (d ∷ ds) at before events e =
    let f = front_of (event_at at before d) (all_of (members_from (at + 1) (event_number d) ds)) events e in
    ap (λ k. k ∷ map (λ p. p.kind) (reads_from (at + 1) (event_number d) ds)) (kind_read at before d f.first f.reads)
    ∙ ap (λ ks. Some f.first.body ∷ ks) (kinds_from ds (at + 1) (event_number d) f.rest f.goes_on)
    ∙ ap (map (λ event. Some event.body)) (sym f.all)

faults_from : (ds : List Data) (at : ℕ) (before : Option ℕ) (events : List Event) → all_of (members_from at before ds) ≡ Ok events
    → map (λ p. p.fault) (reads_from at before ds) ≡ map (λ event. None) events
unfolding reads_from members_from
faults_from [] at before events e =
    let none : [] ≡ events = cc in
    ap (map (λ event. None)) none
faults_from (d ∷ ds) at before events e =
    let f = front_of (event_at at before d) (all_of (members_from (at + 1) (event_number d) ds)) events e in
    ap (λ k. k ∷ map (λ p. p.fault) (reads_from (at + 1) (event_number d) ds)) (fault_read at before d f.first f.reads)
    ∙ ap (λ ks. None ∷ ks) (faults_from ds (at + 1) (event_number d) f.rest f.goes_on)
    ∙ ap (map (λ event. None)) (sym f.all)

after : (r : Result (List Data) ReadFault) (members : List Data) (events : List Event) → r ≡ Ok members
    → (r >>= (λ ds. all_of (members_from 1 None ds))) ≡ Ok events → all_of (members_from 1 None members) ≡ Ok events
after (Ok ds) members events a h =
    let same : ds ≡ members = cc in
    subst (λ ms. all_of (members_from 1 None ms) ≡ Ok events) same h
after (Err f) members events a h = cc

agree : (long : Bool) (q : Result Data ReadFault) (members : List Data) (events : List Event)
    → (cond long (Err TooLong) q >>= (λ d. or_fault NoEvents (events_in d))) ≡ Ok members
    → cond long (Err TooLong) (q >>= (λ d. or_fault NoEvents (events_in d) >>= (λ ds. all_of (members_from 1 None ds)))) ≡ Ok events
    → all_of (members_from 1 None members) ≡ Ok events
agree true q members events a h = cc
agree false (Err f) members events a h = cc
agree false (Ok d) members events a h = after (or_fault NoEvents (events_in d)) members events a h

members_read : (bytes : List ℕ) (events : List Event) (view : View) (v : IsViewIn bytes view) → history bytes ≡ Ok events
    → all_of (members_from 1 None v.members) ≡ Ok events
unfolding history document_within
members_read bytes events view v h =
    agree (nat_lt longest (length bytes)) (or_fault BadJson (document bytes)) v.members events v.reads h

seen : {A : Type 0} (part : PartialEvent → A) (events : List ViewedEvent) → map (λ viewed. part viewed.read) events ≡ map part (reads_of events)
seen part [] = refl
seen part (e ∷ events) = ap (λ rest. part e.read ∷ rest) (seen part events)

pub bodies_viewed : BodiesAreViewed
bodies_viewed bytes events view h v =
    seen (λ p. p.kind) view.events ∙ ap (map (λ p. p.kind)) v.viewed.reads
    ∙ kinds_from v.members 1 None events (members_read bytes events view v h)

pub none_has_a_fault : NoneHasAFault
none_has_a_fault bytes events view h v =
    seen (λ p. p.fault) view.events ∙ ap (map (λ p. p.fault)) v.viewed.reads
    ∙ faults_from v.members 1 None events (members_read bytes events view v h)
