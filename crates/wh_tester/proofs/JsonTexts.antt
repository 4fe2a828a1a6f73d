-- In the texts of faults only names have characters that JSON escapes.
use Rattle.std.proofs.Common.{◌≡◌, ◌∙◌, ℕ, zero, suc, ◌+◌, ◌/◌, ◌%◌, ◌<◌, Bool, true, false, cond, ◌&&◌, List, [], ◌∷◌, ◌++◌, Option, Some, None, refl, sym, ap, append-nil, arith}
use Rattle.std.specs.Prelude.{◌==◌, nat_lt, nat_le, codes, decimal, encode_utf8}
use Rattle.std.specs.List.{flat_map}
use Rattle.std.specs.Fmt.{digits, digits_onto, digit_glyph}
use Rattle.std.proofs.lemmas.Bool.Decides.{nat_tests}
use Rattle.std.proofs.lemmas.List.Concat.{flat_map-append}
use Rattle.std.proofs.lemmas.Str.{encode_ascii}
use Rattle.wh_events.specs.declared.place.PlaceFault.{PlaceFault}
use Rattle.wh_events.specs.declared.place.PlaceFault.TheVariants as places
use Rattle.wh_workflow.specs.declared.fault.WorkflowFault.{WorkflowFault}
use Rattle.wh_workflow.specs.declared.fault.WorkflowFault.TheVariants as workflows
use Rattle.wh_workflow.specs.declared.fault.Mismatch.{Mismatch}
use Rattle.wh_workflow.specs.declared.fault.Mismatch.TheVariants.{Different, CommandMissing, CommandExtra}
use Rattle.wh_json.specs.declared.fault.ReadFault.{ReadFault}
use Rattle.wh_json.specs.declared.fault.ReadFault.TheVariants as read_faults
use Rattle.wh_replay.specs.declared.fault.Fault.{Fault}
use Rattle.wh_replay.specs.declared.fault.Fault.TheVariants as faults
use Rattle.wh_tester.specs.Faults.{place_fault_name, workflow_fault_name, mismatch_text, replay_fault_text}
use Rattle.wh_tester.specs.declared.line.Verdict.{Verdict}
use Rattle.wh_tester.specs.declared.line.Verdict.TheVariants as verdicts
use Rattle.wh_tester.specs.Report.{shown_char, shown, event_of, fault_text}
use Rattle.wh_tester.specs.Private.Report.{words_of, name_of, event_text}
use Rattle.wh_tester.specs.Json.{escaped_char, escaped, text_member, following, subject_members, fault_members}
use Rattle.wh_tester.proofs.FaultTexts.{text_by_parts}

-- what is no quote and no backslash is not escaped
char_stays : (c : ℕ) → (c == 34) ≡ false → (c == 92) ≡ false → escaped_char c ≡ c ∷ []
char_stays c quote backslash = rw (quote, backslash) refl

-- a digit is neither
digit_stays : (d : ℕ) → escaped_char (digit_glyph false d) ≡ digit_glyph false d ∷ []
digit_stays d = by (nat_lt d 10) refl
  where
    by : (b : Bool) → nat_lt d 10 ≡ b → escaped_char (cond b (48 + d) (87 + d)) ≡ cond b (48 + d) (87 + d) ∷ []
    by true e = char_stays (48 + d) (grind (arith, nat_tests)) (grind (arith, nat_tests))
    by false e = char_stays (87 + d) (grind (arith, nat_tests)) (grind (arith, nat_tests))

-- a digit before what is not escaped
digit_more : (d : ℕ) (acc : List ℕ) → escaped acc ≡ acc → escaped (digit_glyph false d ∷ acc) ≡ digit_glyph false d ∷ acc
digit_more d acc h = ap (λ t. t ++ escaped acc) (digit_stays d) ∙ ap (λ t. digit_glyph false d ∷ t) h

-- two texts that are not escaped, whichever it is
either_stays : (b : Bool) (xs ys : List ℕ) → escaped xs ≡ xs → escaped ys ≡ ys → escaped (cond b xs ys) ≡ cond b xs ys
either_stays true xs ys p q = p
either_stays false xs ys p q = q

-- digits before what is not escaped
digits_stay : (k n : ℕ) (acc : List ℕ) → escaped acc ≡ acc → escaped (digits_onto k 10 false n acc) ≡ digits_onto k 10 false n acc
digits_stay zero n acc h = h
digits_stay (suc k) n acc h =
    let more : List ℕ = digit_glyph false (n % 10) ∷ acc in
    let stays : escaped more ≡ more = digit_more (n % 10) acc h in
    either_stays (n / 10 == 0) more (digits_onto k 10 false (n / 10) more) stays (digits_stay k (n / 10) more stays)

-- a number has only digits
decimal_stays : (n : ℕ) → escaped (decimal n) ≡ decimal n
unfolding digits
decimal_stays n = digits_stay 64 n [] refl

-- the words of a fault of reading have no quotes
words_stay : (fault : ReadFault) → escaped (words_of fault) ≡ words_of fault
words_stay read_faults.TooLong = refl
words_stay read_faults.BadJson = refl
words_stay read_faults.NoEvents = refl
words_stay (read_faults.BadNumber at) = refl
words_stay (read_faults.OutOfOrder at) = refl
words_stay (read_faults.UnsupportedEvent at name) = refl
words_stay (read_faults.MissingField at) = refl
words_stay (read_faults.BadTime at) = refl
words_stay (read_faults.BadPayload at) = refl
words_stay (read_faults.ShorthandPayload at) = refl
words_stay (read_faults.UnsupportedMarker at name) = refl
words_stay read_faults.OutOfMemory = refl

-- nor has the event in words
event_stays : (event : Option ℕ) → escaped (event_text event) ≡ event_text event
event_stays None = refl
event_stays (Some at) = ap (λ t. codes "event " ++ t) (decimal_stays at)

-- of the text of a fault of reading only its name is escaped
pub escaped_by_parts : (fault : ReadFault) → escaped (fault_text fault) ≡ event_text (event_of fault) ++ (words_of fault ++ escaped (shown (name_of fault)))
escaped_by_parts fault = rw (text_by_parts fault) (parts (event_text (event_of fault)) (words_of fault) (shown (name_of fault)) (event_stays (event_of fault)) (words_stay fault))
  where
    parts : (event words name : List ℕ) → escaped event ≡ event → escaped words ≡ words → escaped (event ++ (words ++ name)) ≡ event ++ (words ++ escaped name)
    parts event words name e w = rw (flat_map-append escaped_char event (words ++ name), flat_map-append escaped_char words name, e, w) refl

-- nor has the name of a fault of place
place_name_stays : (fault : PlaceFault) → escaped (place_fault_name fault) ≡ place_fault_name fault
place_name_stays places.FirstNotStart = refl
place_name_stays places.WrongNumber = refl
place_name_stays places.AfterClose = refl
place_name_stays places.NoSuchRef = refl
place_name_stays places.WrongKindRef = refl
place_name_stays places.AlreadyClosed = refl
place_name_stays places.IdInUse = refl
place_name_stays places.TooManyEvents = refl

-- nor has the name of a fault of a workflow
workflow_name_stays : (fault : WorkflowFault) → escaped (workflow_fault_name fault) ≡ workflow_fault_name fault
workflow_name_stays workflows.AfterClosing = refl
workflow_name_stays workflows.TooManyCommands = refl
workflow_name_stays workflows.IdInUse = refl
workflow_name_stays workflows.IdReused = refl
workflow_name_stays workflows.NotOpen = refl
workflow_name_stays workflows.AlreadyCancelling = refl
workflow_name_stays workflows.BadRange = refl
workflow_name_stays workflows.VersionOutOfRange = refl
workflow_name_stays workflows.UnknownWorkflow = refl

-- a number, and a text after it
number_stays : (n : ℕ) (rest : List ℕ) → escaped rest ≡ rest → escaped (decimal n ++ rest) ≡ decimal n ++ rest
number_stays n rest e = rw (flat_map-append escaped_char (decimal n) rest, decimal_stays n, e) refl

-- nothing is escaped in the text of a difference
mismatch_stays : (at : ℕ) (mismatch : Mismatch) → escaped (mismatch_text at mismatch) ≡ mismatch_text at mismatch
mismatch_stays at (Different event) = ap (λ t. codes "event " ++ t) (number_stays event (codes " differs") refl)
mismatch_stays at (CommandMissing event) = ap (λ t. codes "event " ++ t) (number_stays event (codes " has no command") refl)
mismatch_stays at (CommandExtra index) =
    ap (λ t. codes "command " ++ t)
    (number_stays index _
    (ap (λ t. codes " of the task at " ++ t) (number_stays at (codes " has no event") refl)))

-- nothing is escaped in the text of a fault of replay
pub replay_fault_stays : (fault : Fault) → escaped (replay_fault_text fault) ≡ replay_fault_text fault
replay_fault_stays faults.NotATask = refl
replay_fault_stays (faults.Place at fault) =
    ap (λ t. codes "event " ++ t)
    (number_stays at _ (ap (λ t. codes " is not in place: " ++ t) (place_name_stays fault)))
replay_fault_stays (faults.Workflow at fault) =
    ap (λ t. codes "task at " ++ t)
    (number_stays at _ (ap (λ t. codes ": " ++ t) (workflow_name_stays fault)))
replay_fault_stays (faults.Mismatch at mismatch) = mismatch_stays at mismatch

-- a fault after other members
fault_after_text : (members : List (List ℕ)) (text : List ℕ) → escaped text ≡ text → following (members ++ text_member (codes "fault") text ∷ []) ≡ following members ++ (codes ",\"fault\":\"" ++ (text ++ codes "\""))
fault_after_text members text e =
    flat_map-append (λ member. codes "," ++ member) members (text_member (codes "fault") text ∷ [])
    ∙ ap (λ t. following members ++ t) last
  where
    last : following (text_member (codes "fault") text ∷ []) ≡ codes ",\"fault\":\"" ++ (text ++ codes "\"")
    last =
        append-nil (codes "," ++ text_member (codes "fault") text)
        ∙ ap (λ t. codes ",\"fault\":\"" ++ (t ++ codes "\"")) e

-- the members of a fault of replay
pub fault_by_parts : (fault : Fault) → following (fault_members fault) ≡ codes ",\"verdict\":\"fault\"" ++ (following (subject_members fault) ++ (codes ",\"fault\":\"" ++ (replay_fault_text fault ++ codes "\"")))
fault_by_parts fault =
    ap (λ t. codes ",\"verdict\":\"fault\"" ++ t)
    (fault_after_text (subject_members fault) (replay_fault_text fault) (replay_fault_stays fault))

-- a character that is shown is one byte
shown_is_ascii : (c d : ℕ) → d ∷ [] ≡ shown_char c → d < 128
shown_is_ascii c d shows = by (nat_le 32 c && nat_le c 126) refl shows
  where
    by : (b : Bool) → (nat_le 32 c && nat_le c 126) ≡ b → d ∷ [] ≡ cond b (c ∷ []) (63 ∷ []) → d < 128
    by true e same = let is : d ≡ c = cc in grind (arith, nat_tests)
    by false e same = let is : d ≡ 63 = cc in omega arith

-- one more character of a name, as it is shown and escaped
pub shown_more : (xs : List ℕ) (c d : ℕ) (escape : List ℕ) → d ∷ [] ≡ shown_char c → escape ++ d ∷ [] ≡ escaped_char d → escaped (flat_map shown_char xs) ++ (escape ++ encode_utf8 d) ≡ escaped (flat_map shown_char (xs ++ c ∷ []))
shown_more xs c d escape shows escapes =
    ap (λ t. escaped (flat_map shown_char xs) ++ t) written
    ∙ sym (flat_map-append escaped_char (flat_map shown_char xs) (d ∷ []))
    ∙ ap escaped (ap (λ t. flat_map shown_char xs ++ t) last ∙ sym (flat_map-append shown_char xs (c ∷ [])))
  where
    written : escape ++ encode_utf8 d ≡ flat_map escaped_char (d ∷ [])
    written = ap (λ t. escape ++ t) (encode_ascii d (shown_is_ascii c d shows)) ∙ escapes ∙ sym (append-nil (escaped_char d))

    last : d ∷ [] ≡ flat_map shown_char (c ∷ [])
    last = shows ∙ sym (append-nil (shown_char c))
