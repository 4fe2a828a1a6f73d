use Rattle.std.proofs.Common.{◌≡◌, ◌≢◌, true, Some, None, refl}
use Rattle.serde_json.specs.Data.{Data, null, boolean, number, string, array, object}
use Rattle.wh_json.specs.Fields.{field, number_of, unless_null}
use Rattle.wh_messages.specs.Completions.{discards}
use Rattle.wh_messages.proofs.Digits.{number_text_back}
use Rattle.wh_messages.proofs.laws.discards_are_read.Goals as goal

-- what is not null is there
discards_unread : (event : Data) → event ≢ null → number_of event ≡ None → discards (unless_null (Some event)) ≡ true
discards_unread null some unread = absurd (some refl)
discards_unread (boolean b) some unread = rw unread refl
discards_unread (number n) some unread = rw unread refl
discards_unread (string s) some unread = rw unread refl
discards_unread (array items) some unread = rw unread refl
discards_unread (object members) some unread = rw unread refl

pub returns : goal.returns
unfolding field
returns c = record {
  written = λ event small. rw (number_text_back event small) refl;
  absent = refl;
  unread = discards_unread;
}
