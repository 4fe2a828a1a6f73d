-- The rows of the picture in which the things of a run stand.
use Rattle.std.specs.Prelude.{ℕ, ◌+◌, ◌==◌, ◌&&◌, Bool, true, false, Some, nat_lt, if◌then◌else◌, bytes_eq, get_or, unwrap_or, position, count_by, length, map, take, List, [], ◌∷◌}
use Rattle.wh_html.specs.declared.page.RowPart.{RowPart}
use Rattle.wh_html.specs.declared.page.RowPart.TheVariants.{Alone, First, Later}
use Rattle.wh_html.specs.declared.page.ThingOutcome.{ThingOutcome}
use Rattle.wh_html.specs.declared.page.ThingOutcome.TheVariants.{Open, Done, Failed, Canceled}
use Rattle.wh_html.specs.Words.{kind_word}
use Rattle.wh_view.specs.declared.view.View.{View}
use Rattle.wh_view.specs.declared.view.ViewedThing.{ViewedThing}
use Rattle.wh_view.specs.declared.view.ThingKind.{ThingKind}
use Rattle.wh_view.specs.declared.view.ThingKind.TheVariants as things
use Rattle.wh_run_page.specs.Moments.{event_at}
use Rattle.wh_run_page.specs.Lanes.{lane_kind, id_at, type_at, outcome_at}
use Rattle.wh_run_page.specs.declared.rows.PlacedThing.{PlacedThing}

-- things of the kind happen at once
abbrev pub is_at_once : ThingKind → Bool
is_at_once things.Signal = true
is_at_once things.Marker = true
is_at_once _ = false

-- the type, or else the id
abbrev pub type_or_id : (type_name id : List ℕ) → List ℕ
type_or_id [] id = id
type_or_id (c ∷ cs) id = c ∷ cs

-- the name by which many things of a kind share a row: their type, or else that of what happens at once
abbrev pub shared_name : View → ViewedThing → List ℕ
shared_name view thing =
    let opening = event_at view.events (Some thing.opened) in
    if is_at_once thing.kind then type_or_id (type_at opening) (id_at opening) else type_at opening

-- things are of one kind, and share a name
abbrev pub are_alike : View → ViewedThing → ViewedThing → Bool
are_alike view one other =
    bytes_eq (kind_word (lane_kind one.kind)) (kind_word (lane_kind other.kind))
    && bytes_eq (shared_name view one) (shared_name view other)

-- things share a row: each has its own, or where there are many those that are alike have one
abbrev pub share_row : View → (many : Bool) → ViewedThing → ViewedThing → Bool
share_row view many one other = if many then are_alike view one other else one.opened == other.opened

-- there are so many things that those that are alike share a row
abbrev pub are_many : List ViewedThing → Bool
are_many all = nat_lt 40 (length all)

-- the index of the first of the things that shares its row with this one
abbrev pub first_of : View → List ViewedThing → ViewedThing → ℕ
first_of view all thing =
    unwrap_or (position (λ other. share_row view (are_many all) thing other) all) (length all)

-- those of all things
abbrev pub firsts_of : View → List ViewedThing → List ℕ
firsts_of view all = map (first_of view all) all

-- how many of these are their own index, where the first has this index: each is the first of its row
abbrev pub rows_from : (index : ℕ) → List ℕ → ℕ
rows_from index [] = 0
rows_from index (first ∷ firsts) = (if first == index then 1 else 0) + rows_from (index + 1) firsts

-- how many rows there are
abbrev pub row_count : List ℕ → ℕ
row_count firsts = rows_from 0 firsts

-- a thing failed, and is open
abbrev pub is_failed : ThingOutcome → Bool
is_failed Failed = true
is_failed _ = false

abbrev pub is_open : ThingOutcome → Bool
is_open Open = true
is_open _ = false

-- the outcome of a thing
abbrev pub outcome_of : View → ViewedThing → ThingOutcome
outcome_of view thing = outcome_at (event_at view.events thing.ended)

-- how the first of a row that is drawn stands there, in a row that tells of so many: the row tells of all that the run
-- opened, of which so many are drawn, so many failed and so many are open
abbrev pub first_part : View → List ViewedThing → ViewedThing → (count : ℕ) → RowPart
first_part view all thing count =
    let shares : ViewedThing → Bool = λ other. share_row view (are_many all) thing other in
    if count == 1 then Alone
    else First count
    (count_by shares all)
    (count_by (λ other. shares other && is_failed (outcome_of view other)) view.things)
    (count_by (λ other. shares other && is_open (outcome_of view other)) view.things)

-- how a thing at an index stands in its row, whose first thing has this index
abbrev pub part_of : View → List ViewedThing → (index first : ℕ) → ViewedThing → RowPart
part_of view all index first thing =
    if first == index
    then first_part view all thing (count_by (λ other. share_row view (are_many all) thing other) view.things)
    else Later

-- a thing at an index, with its row
abbrev pub placed_at : View → List ViewedThing → List ℕ → (index : ℕ) → ViewedThing → PlacedThing
placed_at view all firsts index thing =
    let first = get_or firsts index 0 in
    record {
      thing = thing;
      row = rows_from 0 (take first firsts);
      part = part_of view all index first thing;
    }

-- things, of which the first has this index, with their rows
abbrev pub placed_from : View → List ViewedThing → List ℕ → (index : ℕ) → List ViewedThing → List PlacedThing
placed_from view all firsts index [] = []
placed_from view all firsts index (thing ∷ rest) =
    placed_at view all firsts index thing ∷ placed_from view all firsts (index + 1) rest

-- things with their rows
abbrev pub placed_things : View → List ViewedThing → List PlacedThing
placed_things view all = placed_from view all (firsts_of view all) 0 all
