-- The detail of a file's fault.
use Rattle.std.specs.Prelude.{◌≡◌, ◌||◌, ℕ, Bool, true, false, List, [], ◌∷◌, nat_eq, Option, Some, None, IsSome, if◌then◌else◌}
use Rattle.std.specs.List.{starts_with}
use Rattle.wh_json.specs.Events.{document_within, history}
use Rattle.wh_json.specs.Fields.{document}
use Rattle.wh_json.specs.declared.fault.ReadFault.TheVariants.{BadJson, MissingField}
use Rattle.wh_replay.specs.declared.fault.Fault.TheVariants.{Place}
use Rattle.wh_tester.specs.declared.line.Verdict.{Verdict}
use Rattle.wh_tester.specs.declared.line.Verdict.TheVariants.{Faulty, Unreadable}
use Rattle.wh_file_faults.specs.declared.detail.FaultDetail.{FaultDetail}
use Rattle.wh_file_faults.specs.declared.detail.FaultDetail.TheVariants.{NotJson}
use Rattle.wh_file_faults.specs.declared.position.EncodingMark.{EncodingMark}
use Rattle.wh_file_faults.specs.declared.position.EncodingMark.TheVariants.{ByteOrderMark, Utf16}
use Rattle.wh_file_faults.specs.Fields.{lacks}
use Rattle.wh_file_faults.specs.Places.{misplaced}

-- what bytes begin with that are not JSON text in UTF-8: EF BB BF, FE FF or FF FE
abbrev pub mark_of : List ℕ → Option EncodingMark
mark_of bytes =
    if starts_with nat_eq bytes (239 ∷ 187 ∷ 191 ∷ []) then Some ByteOrderMark
    else (if starts_with nat_eq bytes (254 ∷ 255 ∷ []) || starts_with nat_eq bytes (255 ∷ 254 ∷ []) then Some Utf16
    else None)

-- the bytes are not JSON, and the mark is what they begin with
pub record IsUnread (bytes : List ℕ) (mark : Option EncodingMark) : Type 0 where
  pub no_json : document bytes ≡ None
  pub marked : mark ≡ mark_of bytes

-- the detail is that bytes are not JSON
abbrev pub IsNoJson : List ℕ → FaultDetail → Type 0
IsNoJson bytes (NotJson position mark) = IsUnread bytes mark
IsNoJson bytes _ = ⊥

-- that detail of bytes: there is one exactly when they are not JSON
abbrev pub IsJsonDetail : List ℕ → Option FaultDetail → Type 0
IsJsonDetail bytes None = IsSome (document bytes)
IsJsonDetail bytes (Some detail) = IsNoJson bytes detail

-- that detail of bytes with a verdict: there is one only if they can't be read because of it
abbrev pub IsUnreadDetail : Verdict → List ℕ → Option FaultDetail → Type 0
IsUnreadDetail (Unreadable BadJson) bytes detail = IsJsonDetail bytes detail
IsUnreadDetail _ bytes detail = detail ≡ None

-- the verdict has a detail of an event: the event lacks a field, or is out of place
abbrev pub has_detail : Verdict → Bool
has_detail (Unreadable (MissingField at)) = true
has_detail (Faulty (Place at fault)) = true
has_detail _ = false

-- the field that an event lacks, or what an event that is out of place contradicts
abbrev pub detail_of : Verdict → List ℕ → Option FaultDetail
detail_of (Unreadable (MissingField at)) bytes = lacks (document_within bytes) at
detail_of (Faulty (Place at fault)) bytes = misplaced (history bytes) at fault
detail_of _ bytes = None

-- the detail of a file with this verdict: where it is not JSON, or what the fault omits of an event
abbrev pub IsDetailBy : Verdict → List ℕ → Option FaultDetail → Type 0
IsDetailBy (Unreadable BadJson) bytes detail = IsJsonDetail bytes detail
IsDetailBy verdict bytes detail = detail ≡ detail_of verdict bytes

-- bytes with the verdict are parsed again for its detail
abbrev pub is_parsed_again : Verdict → Bool
is_parsed_again (Unreadable BadJson) = true
is_parsed_again verdict = has_detail verdict
