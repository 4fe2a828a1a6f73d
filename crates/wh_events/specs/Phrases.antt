-- What is shown of events, commands and jobs: a kind, ids and types, and seconds or versions.
use Rattle.std.specs.Prelude.{ℕ, List, Option, Some, None, option_map}
use Rattle.wh_events.specs.declared.phrase.Detail.{Detail}
use Rattle.wh_events.specs.declared.phrase.Detail.TheVariants.{Nothing}
use Rattle.wh_events.specs.declared.phrase.Phrase as code

-- what is shown of an event, a command or a job
pub record Phrase : Type 0 where
  pub kind : List ℕ
  -- an id, or another name
  pub id : Option (List ℕ)
  -- a type, the name of a signal, or how something ended
  pub name : Option (List ℕ)
  pub detail : Detail

-- the phrase that a value of the code's type stands for
abbrev pub phrase_seen : code.Phrase → Phrase
phrase_seen p =
    record {
      kind = p.kind.now;
      id = option_map (λ s. s.now) p.id;
      name = option_map (λ s. s.now) p.name;
      detail = p.detail;
    }

-- a kind alone
abbrev pub bare : List ℕ → Phrase
bare kind = record { kind = kind; id = None; name = None; detail = Nothing }

-- a kind with an id
abbrev pub named : List ℕ → List ℕ → Phrase
named kind id = record { kind = kind; id = Some id; name = None; detail = Nothing }

-- a kind with an id and a type
abbrev pub typed : List ℕ → List ℕ → List ℕ → Phrase
typed kind id name = record { kind = kind; id = Some id; name = Some name; detail = Nothing }

-- a kind with an id and what follows it
abbrev pub detailed : List ℕ → List ℕ → Detail → Phrase
detailed kind id detail = record { kind = kind; id = Some id; name = None; detail = detail }
