-- The responses to answers of workflow tasks.
use Rattle.std.specs.Prelude.{◌≡◌, ◌≢◌, ◌<◌, ◌^◌, ℕ, ◌∷◌, [], Bool, true, false, Option, Some, None, codes, decimal, nat_lt}
use Rattle.serde_json.specs.Data.{Data, null, string}
use Rattle.wh_commands.specs.Objects.{object_of}
use Rattle.wh_json.specs.Fields.{field, number_of}

-- the number names an event to which a run is set back; one that can't be read may name one
abbrev pub sets_back : Option ℕ → Bool
sets_back (Some event) = nat_lt 0 event
sets_back None = true

-- the event to which the run is set back, if there is one, says that the task is discarded
abbrev pub discards : Option Data → Bool
discards (Some event) = sets_back (number_of event)
discards None = false

-- the server has discarded the task: it sets the run back to an event
abbrev pub is_discarded : Data → Bool
is_discarded d = discards (field (codes "resetHistoryEventId") (Some d))

-- the number is read as the server writes it, as a text of digits; a server may omit a zero; what can't be read as a
-- number says that the task is discarded
pub record DiscardIsRead : Type 0 where
  pub written : (event : ℕ) → event < 2 ^ 63
      → is_discarded (object_of ((codes "resetHistoryEventId", string (decimal event)) ∷ [])) ≡ nat_lt 0 event
  pub absent : is_discarded (object_of []) ≡ false
  pub unread : (event : Data) → event ≢ null → number_of event ≡ None
      → is_discarded (object_of ((codes "resetHistoryEventId", event) ∷ [])) ≡ true
