-- What can be read of an event, whatever it lacks.
use Rattle.std.specs.Prelude.{ℕ, pos, List, [], codes, Option, Some, None, Result, Ok, Err, option_map, option_and_then, unwrap_or, if◌then◌else◌}
use Rattle.std.specs.Option.{option_map_or}
use Rattle.serde_json.specs.Data.{Data}
use Rattle.wh_events.specs.declared.event.Event.{Event}
use Rattle.wh_events.specs.declared.kind.EventKind.{EventKind}
use Rattle.wh_json.specs.declared.fault.ReadFault.{ReadFault}
use Rattle.wh_json.specs.declared.partial.PartialEvent.{PartialEvent}
use Rattle.wh_json.specs.declared.types.Fields.{Fields}
use Rattle.wh_json.specs.Fields.{field, text_of, time_of}
use Rattle.wh_json.specs.Types.{Rule}
use Rattle.wh_json.specs.Events.{type_name, rule_for, attributes_of, event_number, read_path, number_or_zero, event_at}

-- the attributes of an event whose type is read
abbrev pub attributes_in : Data → Option Data
attributes_in d = option_and_then (λ rule. attributes_of rule d) (rule_for d)

-- the name of a marker, or the first text of an event of another type; empty if it is absent
abbrev pub first_text : Rule → Option Data → List ℕ
first_text rule attributes =
    if rule.marks then text_of (field (codes "markerName") attributes)
    else text_of (read_path rule.first attributes)

-- what is read of an event by the rule of its type: an absent text is empty, a reference is 0 if it is absent or no
-- number, and payloads and versions are omitted
abbrev pub partial_fields : Rule → Option Data → Fields
partial_fields rule attributes = record {
  reference = unwrap_or (number_or_zero (read_path rule.reference attributes)) 0;
  first = first_text rule attributes;
  second = text_of (read_path rule.second attributes);
  payloads = [];
  version = pos 0;
}

-- the kind of an event by the rule of its type
abbrev pub partial_kind : Data → Rule → EventKind
partial_kind d rule = rule.kind (partial_fields rule (attributes_of rule d))

-- the whole kind, if the reader reads the event, or else the kind that its type gives
abbrev pub kind_from : Result Event ReadFault → Option EventKind → Option EventKind
kind_from (Ok event) other = Some event.body
kind_from (Err fault) other = other

-- the fault, if the reader refuses the event
abbrev pub fault_from : Result Event ReadFault → Option ReadFault
fault_from (Ok event) = None
fault_from (Err fault) = Some fault

-- the plain name of a type that is read, or else the name that the event gives
abbrev pub name_of : Data → List ℕ
name_of d = option_map_or (λ rule. rule.name) (rule_for d) (type_name d)

-- what can be read of the event at a place, which follows the event with the number before
abbrev pub partial_event : ℕ → Option ℕ → Data → PartialEvent
partial_event at before d = record {
  number = event_number d;
  time = time_of (text_of (field (codes "eventTime") (Some d)));
  name = name_of d;
  kind = kind_from (event_at at before d) (option_map (partial_kind d) (rule_for d));
  fault = fault_from (event_at at before d);
}
