-- Which member of an event's attributes holds its values.
use Rattle.std.specs.Prelude.{codes, Option}
use Rattle.serde_json.specs.Data.{Data}
use Rattle.wh_json.specs.Fields.{field}
use Rattle.wh_view.specs.Attributes.{or_other, inner}
use Rattle.wh_view.specs.Updates.{arguments_in}

-- the search attributes, or else the memo, that an event changes
abbrev pub changes_of : Option Data → Option Data
changes_of attributes =
    or_other (inner (codes "searchAttributes") (codes "indexedFields") attributes)
    (inner (codes "upsertedMemo") (codes "fields") attributes)

-- the result of an update, or else what an event changes
abbrev pub outcome_or_changes : Option Data → Option Data
outcome_or_changes attributes = or_other (inner (codes "outcome") (codes "success") attributes) (changes_of attributes)

-- the arguments of an update, or else its result, or else what an event changes
abbrev pub update_values : Option Data → Option Data
update_values attributes = or_other (arguments_in attributes) (outcome_or_changes attributes)

-- the values of an event
abbrev pub values_of : Option Data → Option Data
values_of attributes =
    or_other (field (codes "input") attributes)
    (or_other (field (codes "result") attributes)
    (or_other (field (codes "details") attributes) (update_values attributes)))
