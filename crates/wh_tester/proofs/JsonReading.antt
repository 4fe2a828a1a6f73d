-- A line of the report as JSON reads as the object that it was written for.
use Rattle.std.proofs.Common.{◌≡◌, ◌∙◌, ℕ, zero, suc, ◌+◌, ◌/◌, ◌%◌, ◌≤◌, Bool, true, false, cond, ◌&&◌, List, [], ◌∷◌, ◌++◌, Option, Some, None, refl, sym, ap, subst, append_assoc, arith}
use Rattle.std.specs.Prelude.{◌==◌, nat_lt, nat_le, codes, decimal, take, length, IfSome}
use Rattle.std.specs.List.{flat_map, list_all}
use Rattle.std.specs.Fmt.{digits, digits_onto, digit_glyph}
use Rattle.std.specs.Str.{chars}
use Rattle.std.proofs.lemmas.Bool.Decides.{nat_tests}
use Rattle.std.proofs.lemmas.Bool.{eqb-true}
use Rattle.std.proofs.lemmas.List.Folds.{list_all-append}
use Rattle.json.specs.Token.{Token}
use Rattle.json.specs.Json.{Json, Members, null, array, number, string, object as object_of, boolean, no_members, member, max_depth}
use Rattle.json.specs.Tree.{json_tokens, members_tokens, depth, members_depth, HasNumbers, MembersHaveNumbers}
use Rattle.json.specs.Print.{escape, escape_byte, quoted, print, print_from}
use Rattle.json.proofs.Printed.Strings.{escape_byte_plain}
use Rattle.json.proofs.Printed.Decimals.{IsNumber-decimal}
use Rattle.json.proofs.Printed.Trees.{document-print}
use Rattle.wh_events.specs.declared.place.PlaceFault.{PlaceFault}
use Rattle.wh_events.specs.declared.place.PlaceFault.TheVariants as places
use Rattle.wh_workflow.specs.declared.fault.WorkflowFault.{WorkflowFault}
use Rattle.wh_workflow.specs.declared.fault.WorkflowFault.TheVariants as workflows
use Rattle.wh_workflow.specs.declared.fault.Mismatch.TheVariants.{Different, CommandMissing, CommandExtra}
use Rattle.wh_json.specs.declared.fault.ReadFault.{ReadFault}
use Rattle.wh_json.specs.declared.fault.ReadFault.TheVariants as read_faults
use Rattle.wh_replay.specs.declared.fault.Fault.{Fault}
use Rattle.wh_replay.specs.declared.fault.Fault.TheVariants as faults
use Rattle.wh_tester.specs.Faults.{place_fault_name, workflow_fault_name, replay_fault_text, unregistered}
use Rattle.wh_tester.specs.Report.{shown_char, shown, event_of, fault_text, good_count}
use Rattle.wh_tester.specs.Json.{escaped_char, escaped, text_member, plain_member, following, object, event_members, verdict_members}
use Rattle.wh_tester.specs.JsonReading.{event_json, subject_json, fault_json, verdict_json, line_json, IsSmall, HasSmallNumbers, ReadsAs, LinesReadBack, TotalsReadBack}
use Rattle.wh_tester.specs.declared.line.Verdict.{Verdict}
use Rattle.wh_tester.specs.declared.line.Verdict.TheVariants as verdicts

-- ---- characters that need no other escape

-- no control character is in the text
abbrev pub is_plain : List ℕ → Bool
is_plain text = list_all (λ c. nat_le 32 c) text

both : (a b : Bool) → (a && b) ≡ true → (a ≡ true) × (b ≡ true)
both true b h = (refl, h)
both false b h = absurd (cc)

and_true : (a b : Bool) → a ≡ true → b ≡ true → (a && b) ≡ true
and_true a b p q = rw (p, q) refl

plain_append : (xs ys : List ℕ) → is_plain xs ≡ true → is_plain ys ≡ true → is_plain (xs ++ ys) ≡ true
plain_append xs ys p q = list_all-append (λ c. nat_le 32 c) xs ys ∙ and_true (is_plain xs) (is_plain ys) p q

-- such a character is escaped in JSON as it is in the report
char_same : (c : ℕ) → nat_le 32 c ≡ true → escape_byte c ≡ escaped_char c
unfolding escape_byte
char_same c plain = at (c == 34) (c == 92) refl refl
  where
    at : (a b : Bool) → (c == 34) ≡ a → (c == 92) ≡ b → escape_byte c ≡ escaped_char c
    at true b quote backslash = let is : c ≡ 34 = eqb-true c 34 quote in subst (λ x. escape_byte x ≡ escaped_char x) (sym is) refl
    at false true quote backslash = let is : c ≡ 92 = eqb-true c 92 backslash in subst (λ x. escape_byte x ≡ escaped_char x) (sym is) refl
    at false false quote backslash =
        let here : 32 ≤ c = grind (arith, nat_tests) in
        escape_byte_plain c (λ is. grind (arith, nat_tests)) (λ is. grind (arith, nat_tests)) here ∙ sym (rw (quote, backslash) refl)

text_same : (text : List ℕ) → is_plain text ≡ true → escape text ≡ escaped text
text_same [] plain = refl
text_same (c ∷ text) plain =
    let parts = both (nat_le 32 c) (is_plain text) plain in
    ap (λ t. t ++ escape text) (char_same c parts.0) ∙ ap (λ t. escaped_char c ++ t) (text_same text parts.1)

-- ---- the texts of the report have no control characters

shown_plain : (c : ℕ) → is_plain (shown_char c) ≡ true
shown_plain c = by (nat_le 32 c && nat_le c 126) refl
  where
    by : (b : Bool) → (nat_le 32 c && nat_le c 126) ≡ b → is_plain (cond b (c ∷ []) (63 ∷ [])) ≡ true
    by true e = and_true (nat_le 32 c) true (both (nat_le 32 c) (nat_le c 126) e).0 refl
    by false e = refl

all_plain : (name : List ℕ) → is_plain (flat_map shown_char name) ≡ true
all_plain [] = refl
all_plain (c ∷ name) = plain_append (shown_char c) (flat_map shown_char name) (shown_plain c) (all_plain name)

name_plain : (name : List ℕ) → is_plain (shown name) ≡ true
unfolding shown
name_plain name = all_plain (take 255 (chars name))

glyph_plain : (d : ℕ) → nat_le 32 (digit_glyph false d) ≡ true
glyph_plain d = by (nat_lt d 10)
  where
    by : (b : Bool) → nat_le 32 (cond b (48 + d) (87 + d)) ≡ true
    by true = grind (arith, nat_tests)
    by false = grind (arith, nat_tests)

either_plain : (b : Bool) (xs ys : List ℕ) → is_plain xs ≡ true → is_plain ys ≡ true → is_plain (cond b xs ys) ≡ true
either_plain true xs ys p q = p
either_plain false xs ys p q = q

digits_plain : (k n : ℕ) (acc : List ℕ) → is_plain acc ≡ true → is_plain (digits_onto k 10 false n acc) ≡ true
digits_plain zero n acc h = h
digits_plain (suc k) n acc h =
    let more : List ℕ = digit_glyph false (n % 10) ∷ acc in
    let plain : is_plain more ≡ true = and_true (nat_le 32 (digit_glyph false (n % 10))) (is_plain acc) (glyph_plain (n % 10)) h in
    either_plain (n / 10 == 0) more (digits_onto k 10 false (n / 10) more) plain (digits_plain k (n / 10) more plain)

decimal_plain : (n : ℕ) → is_plain (decimal n) ≡ true
unfolding digits
decimal_plain n = digits_plain 64 n [] refl

-- a number, and a text after it
number_plain : (n : ℕ) (rest : List ℕ) → is_plain rest ≡ true → is_plain (decimal n ++ rest) ≡ true
number_plain n rest plain = plain_append (decimal n) rest (decimal_plain n) plain

fault_plain : (fault : ReadFault) → is_plain (fault_text fault) ≡ true
fault_plain read_faults.TooLong = refl
fault_plain read_faults.BadJson = refl
fault_plain read_faults.NoEvents = refl
fault_plain (read_faults.BadNumber at) = number_plain at _ refl
fault_plain (read_faults.OutOfOrder at) = number_plain at _ refl
fault_plain (read_faults.UnsupportedEvent at name) = number_plain at _ (name_plain name)
fault_plain (read_faults.MissingField at) = number_plain at _ refl
fault_plain (read_faults.BadTime at) = number_plain at _ refl
fault_plain (read_faults.BadPayload at) = number_plain at _ refl
fault_plain (read_faults.ShorthandPayload at) = number_plain at _ refl
fault_plain (read_faults.UnsupportedMarker at name) = number_plain at _ (name_plain name)
fault_plain read_faults.OutOfMemory = refl

place_plain : (fault : PlaceFault) → is_plain (place_fault_name fault) ≡ true
place_plain places.FirstNotStart = refl
place_plain places.WrongNumber = refl
place_plain places.AfterClose = refl
place_plain places.NoSuchRef = refl
place_plain places.WrongKindRef = refl
place_plain places.AlreadyClosed = refl
place_plain places.IdInUse = refl
place_plain places.TooManyEvents = refl

workflow_plain : (fault : WorkflowFault) → is_plain (workflow_fault_name fault) ≡ true
workflow_plain workflows.AfterClosing = refl
workflow_plain workflows.TooManyCommands = refl
workflow_plain workflows.IdInUse = refl
workflow_plain workflows.IdReused = refl
workflow_plain workflows.NotOpen = refl
workflow_plain workflows.AlreadyCancelling = refl
workflow_plain workflows.BadRange = refl
workflow_plain workflows.VersionOutOfRange = refl
workflow_plain workflows.UnknownWorkflow = refl

replay_plain : (fault : Fault) → is_plain (replay_fault_text fault) ≡ true
replay_plain faults.NotATask = refl
replay_plain (faults.Place at fault) = number_plain at _ (place_plain fault)
replay_plain (faults.Workflow at fault) = number_plain at _ (workflow_plain fault)
replay_plain (faults.Mismatch at (Different event)) = number_plain event _ refl
replay_plain (faults.Mismatch at (CommandMissing event)) = number_plain event _ refl
replay_plain (faults.Mismatch at (CommandExtra index)) = number_plain index _ (number_plain at _ refl)

-- ---- objects whose values are texts, numbers, `true` and `false`

-- a value that is written as in the report
abbrev IsFlatValue : Json → Type 0
IsFlatValue (string s) = escape s ≡ escaped s
IsFlatValue (number s) = Unit {0}
IsFlatValue (boolean b) = Unit {0}
IsFlatValue null = ⊥
IsFlatValue (array js) = ⊥
IsFlatValue (object_of ms) = ⊥

-- members of such values, whose names need no escape
abbrev AreFlat : Members → Type 0
AreFlat no_members = Unit {0}
AreFlat (member k j ms) = (escape k ≡ k) × IsFlatValue j × AreFlat ms

abbrev truth_text : Bool → List ℕ
truth_text true = codes "true"
truth_text false = codes "false"

-- how the report writes such a member, and members
abbrev member_text : List ℕ → Json → List ℕ
member_text k (string s) = text_member k s
member_text k (number s) = plain_member k s
member_text k (boolean b) = plain_member k (truth_text b)
member_text k null = []
member_text k (array js) = []
member_text k (object_of ms) = []

abbrev member_texts : Members → List (List ℕ)
member_texts no_members = []
member_texts (member k j ms) = member_text k j ∷ member_texts ms

flat_depth : (j : Json) → IsFlatValue j → depth j ≡ 0
flat_depth (string s) flat = refl
flat_depth (number s) flat = refl
flat_depth (boolean b) flat = refl
flat_depth null flat = absurd flat
flat_depth (array js) flat = absurd flat
flat_depth (object_of ms) flat = absurd flat

members_flat : (ms : Members) → AreFlat ms → members_depth ms ≡ 0
members_flat no_members flat = refl
members_flat (member k j ms) flat = omega (arith, flat_depth j flat.1, members_flat ms flat.2)

-- a name and its colon before a value
name_one : (k escaped_k value rest : List ℕ) → escaped_k ≡ k
    → ((34 ∷ (escaped_k ++ 34 ∷ [])) ++ 58 ∷ []) ++ (value ++ rest) ≡ (34 ∷ (k ++ (34 ∷ 58 ∷ value))) ++ rest
name_one k escaped_k value rest same =
    ap (λ l. ((34 ∷ (l ++ 34 ∷ [])) ++ 58 ∷ []) ++ (value ++ rest)) same
    ∙ ap (λ l. 34 ∷ l)
    (append_assoc (k ++ 34 ∷ []) (58 ∷ []) (value ++ rest)
    ∙ append_assoc k (34 ∷ []) (58 ∷ (value ++ rest))
    ∙ sym (append_assoc k (34 ∷ 58 ∷ value) rest))

-- a member is printed as the report writes it
flat_one : (k : List ℕ) (j : Json) (ms : Members) → escape k ≡ k → IsFlatValue j
    → print_from false (Token.key k ∷ (json_tokens j ++ members_tokens ms)) ≡ member_text k j ++ print_from true (members_tokens ms)
unfolding print_from
flat_one k (string s) ms name flat =
    ap (λ t. (quoted k ++ 58 ∷ []) ++ ((34 ∷ (t ++ 34 ∷ [])) ++ print_from true (members_tokens ms))) flat
    ∙ name_one k (escape k) (34 ∷ (escaped s ++ 34 ∷ [])) (print_from true (members_tokens ms)) name
flat_one k (number s) ms name flat = name_one k (escape k) s (print_from true (members_tokens ms)) name
flat_one k (boolean true) ms name flat = name_one k (escape k) (codes "true") (print_from true (members_tokens ms)) name
flat_one k (boolean false) ms name flat = name_one k (escape k) (codes "false") (print_from true (members_tokens ms)) name
flat_one k null ms name flat = absurd flat
flat_one k (array js) ms name flat = absurd flat
flat_one k (object_of others) ms name flat = absurd flat

-- a text after two parts
behind : (first others close : List ℕ) → first ++ (others ++ close) ≡ (first ++ others) ++ close
behind first others close = sym (append_assoc first others close)

flat_more : (ms : Members) → AreFlat ms → print_from true (members_tokens ms) ≡ following (member_texts ms) ++ codes "}"
unfolding print_from
flat_more no_members flat = refl
flat_more (member k j ms) flat =
    ap (λ l. 44 ∷ l)
    (flat_one k j ms flat.0 flat.1
    ∙ ap (λ l. member_text k j ++ l) (flat_more ms flat.2)
    ∙ behind (member_text k j) (following (member_texts ms)) (codes "}"))

-- an object of the report reads as the object that it was written for
object_reads : (k : List ℕ) (j : Json) (ms : Members) → AreFlat (member k j ms) → HasNumbers (object_of (member k j ms))
    → ReadsAs (object (member_text k j) (member_texts ms)) (object_of (member k j ms))
unfolding print_from
object_reads k j ms flat numbers =
    let value = object_of (member k j ms) in
    let shallow : depth value ≤ max_depth = omega (arith, flat_depth j flat.1, members_flat ms flat.2) in
    let printed : print (json_tokens value) ≡ 123 ∷ (member_text k j ++ (following (member_texts ms) ++ codes "}")) =
    ap (λ l. 123 ∷ l) (flat_one k j ms flat.0 flat.1 ∙ ap (λ l. member_text k j ++ l) (flat_more ms flat.2)) in
    record {
      text = print (json_tokens value);
      ends =
          ap (λ l. 123 ∷ l)
          (ap (λ l. member_text k j ++ l) (behind (following (member_texts ms)) (codes "}") (codes "\n"))
          ∙ behind (member_text k j) (following (member_texts ms) ++ codes "}") (codes "\n"))
          ∙ ap (λ l. l ++ codes "\n") (sym printed);
      reads = document-print value numbers shallow;
    }

-- ---- the lines of the report

verdict_texts : (verdict : Verdict) → verdict_members verdict ≡ member_texts (verdict_json verdict)
verdict_texts (verdicts.Good c) = truth c.live
  where
    truth : (b : Bool) → text_member (codes "verdict") (codes "ok") ∷ plain_member (codes "tasks") (decimal c.tasks) ∷ plain_member (codes "live") (cond b (codes "true") (codes "false")) ∷ []
        ≡ text_member (codes "verdict") (codes "ok") ∷ plain_member (codes "tasks") (decimal c.tasks) ∷ plain_member (codes "live") (truth_text b) ∷ []
    truth true = refl
    truth false = refl
verdict_texts (verdicts.Unreadable fault) = events (event_of fault)
  where
    events : (event : Option ℕ) → text_member (codes "verdict") (codes "unreadable") ∷ (event_members event ++ text_member (codes "fault") (fault_text fault) ∷ [])
        ≡ text_member (codes "verdict") (codes "unreadable") ∷ member_texts (event_json event (member (codes "fault") (string (fault_text fault)) no_members))
    events None = refl
    events (Some at) = refl
verdict_texts (verdicts.NoCode kind) = refl
verdict_texts (verdicts.Faulty faults.NotATask) = refl
verdict_texts (verdicts.Faulty (faults.Place at fault)) = refl
verdict_texts (verdicts.Faulty (faults.Workflow at fault)) = refl
verdict_texts (verdicts.Faulty (faults.Mismatch at (Different event))) = refl
verdict_texts (verdicts.Faulty (faults.Mismatch at (CommandMissing event))) = refl
verdict_texts (verdicts.Faulty (faults.Mismatch at (CommandExtra index))) = refl
verdict_texts verdicts.OutOfMemory = refl

fault_flat : (fault : Fault) → AreFlat (fault_json fault)
unfolding escape_byte
fault_flat fault = (refl, refl, subject fault (text_same (replay_fault_text fault) (replay_plain fault)))
  where
    subject : (about : Fault) → escape (replay_fault_text fault) ≡ escaped (replay_fault_text fault) → AreFlat (subject_json about (member (codes "fault") (string (replay_fault_text fault)) no_members))
    subject faults.NotATask same = (refl, same, tt)
    subject (faults.Place at f) same = (refl, tt, (refl, same, tt))
    subject (faults.Workflow at f) same = (refl, tt, (refl, same, tt))
    subject (faults.Mismatch at (Different event)) same = (refl, tt, (refl, same, tt))
    subject (faults.Mismatch at (CommandMissing event)) same = (refl, tt, (refl, same, tt))
    subject (faults.Mismatch at (CommandExtra index)) same = (refl, tt, (refl, same, tt))

verdict_flat : (verdict : Verdict) → AreFlat (verdict_json verdict)
unfolding escape_byte
verdict_flat (verdicts.Good c) = (refl, refl, (refl, tt, (refl, tt, tt)))
verdict_flat (verdicts.Unreadable fault) = (refl, refl, events (event_of fault))
  where
    events : (event : Option ℕ) → AreFlat (event_json event (member (codes "fault") (string (fault_text fault)) no_members))
    events None = (refl, text_same (fault_text fault) (fault_plain fault), tt)
    events (Some at) = (refl, tt, (refl, text_same (fault_text fault) (fault_plain fault), tt))
verdict_flat (verdicts.NoCode kind) = fault_flat unregistered
verdict_flat (verdicts.Faulty fault) = fault_flat fault
verdict_flat verdicts.OutOfMemory = (refl, refl, tt)

verdict_numbers : (verdict : Verdict) → HasSmallNumbers verdict → MembersHaveNumbers (verdict_json verdict)
verdict_numbers (verdicts.Good c) small = (tt, (IsNumber-decimal c.tasks small, (tt, tt)))
verdict_numbers (verdicts.Unreadable fault) small = (tt, events (event_of fault) small)
  where
    events : (event : Option ℕ) → IfSome event IsSmall → MembersHaveNumbers (event_json event (member (codes "fault") (string (fault_text fault)) no_members))
    events None small = (tt, tt)
    events (Some at) small = (IsNumber-decimal at small, (tt, tt))
verdict_numbers (verdicts.NoCode kind) small = (tt, (IsNumber-decimal 1 (omega arith), (tt, tt)))
verdict_numbers (verdicts.Faulty faults.NotATask) small = (tt, (tt, tt))
verdict_numbers (verdicts.Faulty (faults.Place at fault)) small = (tt, (IsNumber-decimal at small, (tt, tt)))
verdict_numbers (verdicts.Faulty (faults.Workflow at fault)) small = (tt, (IsNumber-decimal at small, (tt, tt)))
verdict_numbers (verdicts.Faulty (faults.Mismatch at (Different event))) small = (tt, (IsNumber-decimal event small, (tt, tt)))
verdict_numbers (verdicts.Faulty (faults.Mismatch at (CommandMissing event))) small = (tt, (IsNumber-decimal event small, (tt, tt)))
verdict_numbers (verdicts.Faulty (faults.Mismatch at (CommandExtra index))) small = (tt, (IsNumber-decimal at small, (tt, tt)))
verdict_numbers verdicts.OutOfMemory small = (tt, tt)

pub lines_read_back : LinesReadBack
unfolding escape_byte
lines_read_back line small =
    let file : AreFlat (member (codes "file") (string (shown line.name)) (verdict_json line.verdict)) = (refl, text_same (shown line.name) (name_plain line.name), verdict_flat line.verdict) in
    subst (λ others. ReadsAs (object (text_member (codes "file") (shown line.name)) others) (line_json line)) (sym (verdict_texts line.verdict))
    (object_reads (codes "file") (string (shown line.name)) (verdict_json line.verdict) file (tt, verdict_numbers line.verdict small))

pub totals_read_back : TotalsReadBack
unfolding escape_byte
totals_read_back lines files good =
    object_reads (codes "files") (number (decimal (length lines))) (member (codes "ok") (number (decimal (good_count lines))) no_members)
    (refl, tt, (refl, tt, tt)) (IsNumber-decimal (length lines) files, (IsNumber-decimal (good_count lines) good, tt))
