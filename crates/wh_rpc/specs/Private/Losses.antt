-- Malformed lines that may have been responses, and so are lost.
use Rattle.std.specs.Prelude.{◌≡◌, ◌==◌, ℕ, List, [], ◌∷◌, Bool, true, false, Option, Some, Result, Ok, Err, ⊤}
use Rattle.wh_rpc.specs.declared.bad_line.BadLine.{BadLine}
use Rattle.wh_rpc.specs.declared.bad_line.BadLine.TheVariants as bad
use Rattle.wh_rpc.specs.declared.reader.Unused.{Unused}
use Rattle.wh_rpc.specs.declared.reader.Unused.TheVariants.{Unread, NotOpen, Lost}
use Rattle.wh_rpc.specs.Responses.{Meaning, meaning}
use Rattle.wh_rpc.specs.Private.Input.{next_of, after_read}

-- the text begins as a JSON object
abbrev pub begins_object : List ℕ → Bool
begins_object [] = false
begins_object (byte ∷ bytes) = byte == 123

-- a line that is malformed for this reason may have been a response
abbrev pub may_be_response : BadLine → List ℕ → Bool
may_be_response bad.TooLong bytes = true
may_be_response bad.NotUtf8 bytes = begins_object bytes
may_be_response bad.NotJson bytes = begins_object bytes
may_be_response bad.NumberOutOfRange bytes = begins_object bytes
may_be_response bad.NotObject bytes = false
may_be_response bad.NotResponse bytes = false
may_be_response bad.TwoOutcomes bytes = false
may_be_response bad.BadId bytes = false
may_be_response bad.NoOutcome bytes = false
may_be_response bad.BadError bytes = false
may_be_response bad.OutOfMemory bytes = true

-- by what was read from it, the line may have been a response, and is lost
abbrev pub lost_by : Result Meaning BadLine → List ℕ → Bool
lost_by (Ok said) bytes = false
lost_by (Err fault) bytes = may_be_response fault bytes

abbrev pub is_lost : List ℕ → Bool
is_lost bytes = lost_by (meaning bytes) bytes

-- the connection ends
abbrev pub Ends : Result Unit Unused → Type 0
Ends (Ok done) = ⊥
Ends (Err (Unread fault)) = ⊥
Ends (Err (NotOpen id)) = ⊥
Ends (Err (Lost fault)) = ⊤

-- the connection ends after a line that is lost
abbrev pub EndsAtLoss : List ℕ → Result Unit Unused → Type 0
EndsAtLoss bytes result = is_lost bytes ≡ true → Ends result

-- the next line of the input is not lost, and what remains begins after it
pub record IsFollowed (bytes : List ℕ) (rest : Option (List ℕ)) : Type 0 where
  pub line : List ℕ
  pub next : next_of bytes ≡ Some line
  pub kept : is_lost line ≡ false
  pub left : rest ≡ Some (after_read bytes)
