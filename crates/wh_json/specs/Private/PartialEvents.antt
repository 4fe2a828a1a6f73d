-- What is read of an event with a fault, and of one without.
use Rattle.std.specs.Prelude.{ℤ, List, ℕ, codes, Option, Some, None, option_map}
use Rattle.serde_json.specs.Data.{Data}
use Rattle.wh_events.specs.declared.event.Event.{Event}
use Rattle.wh_json.specs.declared.fault.ReadFault.{ReadFault}
use Rattle.wh_json.specs.declared.partial.PartialEvent.{PartialEvent}
use Rattle.wh_json.specs.Events.{event_number}
use Rattle.wh_json.specs.Fields.{field, text_of, time_of}
use Rattle.wh_json.specs.Partial.{partial_kind}
use Rattle.wh_json.specs.Types.{Rule}

-- when an event happened, if it says so
abbrev pub time_in : Data → Option ℤ
time_in d = time_of (text_of (field (codes "eventTime") (Some d)))

-- what is read of an event that has no fault, by its name
abbrev pub whole_event : List ℕ → Event → PartialEvent
whole_event name event = record {
  number = Some event.number;
  time = Some event.time;
  name = name;
  kind = Some event.body;
  fault = None;
}

-- what can be read of one that has this fault, by its name and the rule of its type
abbrev pub faulty_event : Data → Option Rule → List ℕ → ReadFault → PartialEvent
faulty_event d rule name fault = record {
  number = event_number d;
  time = time_in d;
  name = name;
  kind = option_map (partial_kind d) rule;
  fault = Some fault;
}
