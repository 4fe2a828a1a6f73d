-- What holds of every axis, and of labels.
use Rattle.std.specs.Prelude.{◌≤◌, ◌+◌, ℕ, List, min}
use Rattle.wh_html.specs.declared.axis.Stop.{Stop}
use Rattle.wh_html.specs.Axes.{left, right, place_of, GoesRight}
use Rattle.wh_html.specs.Lanes.{id_room, type_room}

-- a later time never stands further left
abbrev pub PlacesRise : Type 0
PlacesRise =
    (stops : List Stop) → GoesRight left stops → (earlier later : ℕ) → earlier ≤ later
    → place_of stops earlier ≤ place_of stops later

-- no time stands beyond the right end
abbrev pub PlacesEnd : Type 0
PlacesEnd = (stops : List Stop) → GoesRight left stops → (millis : ℕ) → place_of stops millis ≤ right

-- a type and an id of so many characters have at most 27 in a label
abbrev pub LabelsFit : Type 0
LabelsFit = (name id : ℕ) → min name (type_room id) + min id (id_room name id) ≤ 27

-- an id of 14 characters or fewer is shown whole, whatever its type
abbrev pub ShortIdsAreWhole : Type 0
ShortIdsAreWhole = (name id : ℕ) → id ≤ 14 → id ≤ id_room name id
