-- A written command is read back.
use Rattle.std.proofs.Common.{◌≡◌, ◌≢◌, ◌==◌, ℕ, ◌-◌, ◌<◌, ◌≤◌, ◌^◌, ℤ, pos, negsuc, List, [], ◌∷◌, ◌++◌, length, map, codes, decimal, Bool, true, false, cond, nat_lt, Option, Some, None, option_and_then, option_map, Result, Ok, Err, IsUtf8, refl, sym, ap, subst, ◌∙◌, arith, append-nil, lt-ltb}
use Rattle.std.proofs.lemmas.Fmt.{decimal_is_IsNumeral, IsAscii-decimal, IsAscii-signed}
use Rattle.std.proofs.lemmas.Option.{slice_get_within}
use Rattle.std.proofs.lemmas.Str.{IsUtf8-from_ascii, is_utf8-from_IsUtf8}
use Rattle.std.specs.Fmt.{signed_decimal}
use Rattle.std.specs.Result.{result_ok}
use Rattle.std.specs.Char.{digit_value}
use Rattle.std.specs.Str.Parse.{AllDigits, digits_value}
use Rattle.base64.specs.Engines.{standard}
use Rattle.base64.specs.GeneralPurpose.{IsBytes}
use Rattle.base64.proofs.EngineFacts.{decode_of-encode_of}
use Rattle.json.specs.Json.{Json, value, if_last}
use Rattle.json.specs.Lex.{tokens}
use Rattle.json.specs.Print.{ArePrintable}
use Rattle.json.specs.Token.{Token}
use Rattle.json.specs.Tree as tree
use Rattle.json.proofs.Printed.Decimals.{IsNumber-decimal, IsNumber-signed_decimal}
use Rattle.json.proofs.Printed.Tokens.{tokens-print}
use Rattle.json.proofs.Printed.Trees.{value-json_tokens}
use Rattle.json.proofs.Printed.Utf8.{IsUtf8-are_ascii, IsUtf8-quoted}
use Rattle.serde_json.specs.Data.{Data, number, string, unsigned, negative}
use Rattle.serde_json.specs.Find.{of_integer}
use Rattle.serde_json.specs.Read.{of_json, read, max_depth}
use Rattle.serde_json.specs.View.{items_of}
use Rattle.serde_json.specs.Written.{compact_text, outline}
use Rattle.serde_json.proofs.Numbers.{number_of-decimal, number_of-negative}
use Rattle.serde_json.proofs.Texts.{print-outline}
use Rattle.wh_events.specs.declared.event.Event.{Event}
use Rattle.wh_events.specs.declared.event.Payload.{Payload}
use Rattle.wh_events.specs.declared.place.Thing.TheVariants.{Activity}
use Rattle.wh_events.specs.InPlace.{InPlace}
use Rattle.wh_events.specs.Machines.{last_named, opened_id, role_in}
use Rattle.wh_events.proofs.Naming.{last_last}
use Rattle.wh_json.specs.Fields.{document, field, list_in, list_of}
use Rattle.wh_json.specs.Markers.{as_version, change_id_in, some_text, version_in, version_mark, marked_payloads, payloads_unless_list, lone_document}
use Rattle.wh_json.specs.Outcome.{◌>>=◌, all_of, or_fault}
use Rattle.wh_json.specs.Payloads.{bytes_at, payload_of, payload_list, payloads_at}
use Rattle.wh_json.specs.declared.fault.ReadFault.TheVariants.{BadPayload, UnsupportedMarker}
use Rattle.wh_json.specs.declared.fault.ReadFault.{ReadFault}
use Rattle.wh_workflow.specs.declared.command.Command.{Command}
use Rattle.wh_workflow.specs.declared.command.Command.TheVariants as commands
use Rattle.wh_workflow.specs.Jobs.{id_at}
use Rattle.wh_policies.specs.declared.policies.ActivityPolicy.{ActivityPolicy}
use Rattle.wh_policies.specs.declared.policies.ChildPolicy.{ChildPolicy}
use Rattle.wh_policies.specs.declared.policies.ContinuePolicy.{ContinuePolicy}
use Rattle.wh_policies.specs.declared.policies.Policies.{Policies}
use Rattle.wh_policies.specs.Tables.{policy_of}
use Rattle.wh_commands.specs.declared.fault.RequestFault.{RequestFault}
use Rattle.wh_commands.specs.declared.names.WorkerNames.{WorkerNames}
use Rattle.wh_commands.specs.CarryingOver.{Carried}
use Rattle.wh_commands.specs.Commands as spec
use Rattle.wh_commands.specs.Commands.{carried_asked, written, cancel_scheduled}
use Rattle.wh_commands.specs.Durations.{delay_text, duration_text, longest_duration}
use Rattle.wh_commands.specs.Objects.{object_of, put_given}
use Rattle.wh_commands.specs.Payloads.{base64_text, json_payloads, payload_written, payloads_written}
use Rattle.wh_commands.specs.Policies.{activity_asked, child_asked, continued_asked}
use Rattle.wh_commands.specs.ReadBack.{leading_digits, seconds_of, command_in, IsSent, IsHistory, HaveBytes, PoliciesAreUnseen}
use Rattle.wh_commands.proofs.Bytes.{bytes_utf8}
use Rattle.wh_commands.proofs.Members.{given_at, same_three, same_two}
use Rattle.wh_commands.proofs.ByName.{activity_of, child_of, continued_of}

-- ---- JSON texts

abbrev whole : Option (Json × List Token) → Option Data
whole read = option_and_then of_json (option_and_then (λ p. if_last p.0 p.1) read)

-- the text of a value that is one token reads as the value
read_back : (d : Data) → ArePrintable (tree.json_tokens (outline d)) → tree.depth (outline d) ≤ max_depth
    → of_json (outline d) ≡ Some d → read (compact_text d) ≡ Some d
read_back d printable shallow same =
    ap (λ ts. whole (value max_depth ts)) (ap tokens (sym (print-outline d)) ∙ tokens-print _ printable ∙ sym (append-nil _))
    ∙ ap whole (value-json_tokens (outline d) max_depth [] shallow) ∙ same

pub read_string : (s : List ℕ) → read (compact_text (string s)) ≡ Some (string s)
unfolding ArePrintable
read_string s = read_back (string s) (tt, tt) (omega arith) refl

document_is : (bytes : List ℕ) (d : Data) → IsUtf8 bytes → read bytes ≡ Some d → document bytes ≡ Some d
unfolding document
document_is bytes d text is = rw (is_utf8-from_IsUtf8 bytes text) is

document_string : (s : List ℕ) → IsUtf8 s → document (compact_text (string s)) ≡ Some (string s)
document_string s text = document_is _ _ (IsUtf8-quoted s text) (read_string s)

-- ---- Versions

-- a version fits 63 bits
small_version : (n : ℕ) → as_version (pos n) ≡ Some (pos n) → n < 2 ^ 31
small_version n is = by (nat_lt 2147483647 n) refl is
  where
    by : (b : Bool) → nat_lt 2147483647 n ≡ b → as_version (pos n) ≡ Some (pos n) → n < 2 ^ 31
    by b e is = grind (arith, e, is)

small_negative : (n : ℕ) → as_version (negsuc n) ≡ Some (negsuc n) → n < 2 ^ 31
small_negative n is = by (nat_lt 2147483647 n) refl is
  where
    by : (b : Bool) → nat_lt 2147483647 n ≡ b → as_version (negsuc n) ≡ Some (negsuc n) → n < 2 ^ 31
    by b e is = grind (arith, e, is)

read_natural : (n : ℕ) → n < 2 ^ 64 → read (compact_text (number (unsigned n))) ≡ Some (number (unsigned n))
unfolding ArePrintable
read_natural n small =
    read_back (number (unsigned n)) (IsNumber-decimal n small, tt) (omega arith) (ap (option_map number) (number_of-decimal n small))

read_negative : (n : ℕ) → n < 2 ^ 63 → read (compact_text (number (negative (negsuc n)))) ≡ Some (number (negative (negsuc n)))
unfolding ArePrintable
read_negative n small =
    read_back (number (negative (negsuc n))) (IsNumber-signed_decimal (negsuc n) small, tt) (omega arith)
    (ap (option_map number) (number_of-negative n small))

-- ---- Payloads

bytes_back : (bytes : List ℕ) → IsBytes bytes → bytes_at 0 (Some (base64_text bytes)) ≡ Ok bytes
unfolding bytes_at
bytes_back bytes are = ap (λ r. or_fault (BadPayload 0) (result_ok r)) (decode_of-encode_of standard bytes refl are)

payload_back : (p : Payload) → IsBytes p.encoding → IsBytes p.content → payload_of 0 (payload_written p) ≡ Ok p
unfolding payload_of field
payload_back p encoding content =
    ap (λ r. r >>= (λ e. bytes_at 0 (Some (base64_text p.content)) >>= (λ c. Ok (record { encoding = e; content = c })))) (bytes_back p.encoding encoding)
    ∙ ap (λ r. r >>= (λ c. Ok (record { encoding = p.encoding; content = c }))) (bytes_back p.content content)

each_back : (ps : List Payload) → HaveBytes ps → all_of (map (payload_of 0) (list_of (items_of (map payload_written ps)))) ≡ Ok ps
each_back [] h = refl
each_back (p ∷ ps) h =
    ap (λ r. r >>= (λ x. all_of (map (payload_of 0) (list_of (items_of (map payload_written ps)))) >>= (λ xs. Ok (x ∷ xs)))) (payload_back p h.0 h.1)
    ∙ ap (λ r. r >>= (λ xs. Ok (p ∷ xs))) (each_back ps h.2)

pub payloads_back : (ps : List Payload) → HaveBytes ps → payloads_at 0 (Some (payloads_written ps)) ≡ Ok ps
unfolding payloads_at payload_list field list_in
payloads_back ps h = each_back ps h

-- ---- Commands

written_once : (r : Result Data RequestFault) (a d : Data) → r ≡ Ok a → r ≡ Ok d → a ≡ d
written_once r a d e f = cc

-- a command is read of what it is written as
from_written : (events : List Event) (c : Command) (r : Result Data RequestFault) (a d : Data) → r ≡ Ok a → r ≡ Ok d
    → command_in events a ≡ Some c → command_in events d ≡ Some c
from_written events c r a d is is_too found = subst (λ x. command_in events x ≡ Some c) (written_once r a d is is_too) found

leading_step : (b : Bool) (c : ℕ) (cs : List ℕ) → b ≡ true → cond b (c ∷ cs) [] ≡ c ∷ cs
leading_step b c cs is = ap (λ b. cond b (c ∷ cs) []) is

-- digits before the letter of seconds are the first ones
leading_digits-seconds : (ds : List ℕ) → AllDigits 10 ds → leading_digits (ds ++ 115 ∷ []) ≡ ds
leading_digits-seconds [] are = refl
leading_digits-seconds (c ∷ cs) are =
    leading_step (nat_lt (digit_value c) 10) c (leading_digits (cs ++ 115 ∷ [])) (lt-ltb (digit_value c) 10 are.0)
    ∙ ap (λ ds. c ∷ ds) (leading_digits-seconds cs are.1)

pub seconds_of-duration : (n : ℕ) → n < 2 ^ 64 → seconds_of (duration_text n) ≡ n
unfolding seconds_of
seconds_of-duration n small =
    let is = decimal_is_IsNumeral n small in
    ap (digits_value 10) (leading_digits-seconds (decimal n) is.0.1) ∙ is.1

seconds_of-least : seconds_of (codes "0.001s") ≡ 0
unfolding seconds_of
seconds_of-least = refl

seconds_of-delay : (n : ℕ) → n < 2 ^ 64 → seconds_of (delay_text n) ≡ n
seconds_of-delay n small = by (n == 0) refl
  where
    by : (b : Bool) → (n == 0) ≡ b → seconds_of (cond b (codes "0.001s") (duration_text n)) ≡ n
    by true e = grind (arith, e, seconds_of-least)
    by false e = seconds_of-duration n small

timer_back : (events : List Event) (id : List ℕ) (n : ℕ) (d : Data) → spec.start_timer_within id n ≡ Ok d
    → command_in events d ≡ Some (commands.StartTimer id n)
timer_back events id n d is = by (nat_lt longest_duration n) refl is
  where
    by : (b : Bool) → nat_lt longest_duration n ≡ b → cond b (Err (RequestFault.TooLong id)) (Ok (spec.start_timer id n)) ≡ Ok d
        → command_in events d ≡ Some (commands.StartTimer id n)
    by true e is = cc
    by false e is =
        from_written events (commands.StartTimer id n) (Ok (spec.start_timer id n)) (spec.start_timer id n) d refl is
        (ap (λ k. Some (commands.StartTimer id k)) (seconds_of-delay n (grind (arith, e))))

-- the event that scheduled an activity is found by its number
id_of_last : (events : List Event) (id : List ℕ) (n : ℕ) → InPlace events → last_named events Activity id ≡ Some n
    → (id_at events n ≡ id) × (n ≤ length events)
id_of_last events id n placed last =
    let found = (last_last events placed Activity id n).0 last in
    (ap (λ e. opened_id (role_in e)) found.1.1 ∙ ap opened_id found.2, omega (arith, slice_get_within events (n - 1) found.0 found.1.1))

cancel_back : (events : List Event) (id : List ℕ) (d : Data) → IsHistory events → cancel_scheduled id (last_named events Activity id) ≡ Ok d
    → command_in events d ≡ Some (commands.CancelActivity id)
cancel_back events id d history is = by (last_named events Activity id) refl is
  where
    by : (o : Option ℕ) → last_named events Activity id ≡ o → cancel_scheduled id o ≡ Ok d
        → command_in events d ≡ Some (commands.CancelActivity id)
    by None e is = cc
    by (Some n) e is =
        let found = id_of_last events id n history.0 e in
        from_written events (commands.CancelActivity id) (Ok (spec.cancel_activity n)) (spec.cancel_activity n) d refl is
        (ap (λ k. Some (commands.CancelActivity (id_at events k))) (decimal_is_IsNumeral n (omega (arith, found.1, history.1))).1
        ∙ ap (λ i. Some (commands.CancelActivity i)) found.0)

-- ---- Markers

abbrev as_json : List ℕ → Payload
as_json text = record { encoding = codes "json/plain"; content = text }

one_back : (d : Data) → IsUtf8 (compact_text d) → payloads_at 0 (Some (json_payloads d)) ≡ Ok (as_json (compact_text d) ∷ [])
one_back d text =
    payloads_back (as_json (compact_text d) ∷ [])
    (bytes_utf8 (codes "json/plain") (IsUtf8-are_ascii (codes "json/plain") refl), bytes_utf8 (compact_text d) text, tt)

utf8_version : (v : ℤ) → as_version v ≡ Some v → IsUtf8 (compact_text (number (of_integer v)))
utf8_version (pos n) is = IsUtf8-from_ascii (decimal n) (IsAscii-decimal n (omega (arith, small_version n is)))
utf8_version (negsuc n) is = IsUtf8-from_ascii (signed_decimal (negsuc n)) (IsAscii-signed (negsuc n) (omega (arith, small_negative n is)))

document_version : (v : ℤ) → as_version v ≡ Some v → document (compact_text (number (of_integer v))) ≡ Some (number (of_integer v))
document_version (pos n) is = document_is _ _ (utf8_version (pos n) is) (read_natural n (omega (arith, small_version n is)))
document_version (negsuc n) is =
    document_is _ _ (utf8_version (negsuc n) is) (read_negative n (omega (arith, small_negative n is)))

version_back : (v : ℤ) → as_version v ≡ Some v → version_in (Some (number (of_integer v))) ≡ Some v
version_back (pos n) is = rw (lt-ltb n (2 ^ 63) (omega (arith, small_version n is))) is
version_back (negsuc n) is = is

pub some_text_is : (text : List ℕ) → text ≢ [] → some_text text ≡ Some text
some_text_is [] some = absurd (some refl)
some_text_is (c ∷ cs) some = refl

abbrev fault : ReadFault
fault = UnsupportedMarker 0 (codes "Version")

marked : (id : List ℕ) (v : ℤ) → IsUtf8 id → as_version v ≡ Some v
    → marked_payloads 0 (spec.details id v) ≡ Ok (as_json (compact_text (string id)) ∷ [], as_json (compact_text (number (of_integer v))) ∷ [])
unfolding marked_payloads payloads_unless_list field
marked id v text is =
    ap (λ r. r >>= (λ cs. payloads_at 0 (Some (json_payloads (number (of_integer v)))) >>= (λ vs. Ok (cs, vs)))) (one_back (string id) (IsUtf8-quoted id text))
    ∙ ap (λ r. r >>= (λ vs. Ok (as_json (compact_text (string id)) ∷ [], vs))) (one_back (number (of_integer v)) (utf8_version v is))

abbrev marker_attributes : List ℕ → ℤ → Data
marker_attributes id v = object_of ((codes "markerName", string (codes "Version")) ∷ (codes "details", spec.details id v) ∷ [])

-- the reader of histories reads the marker
pub mark_back : (id : List ℕ) (v : ℤ) → id ≢ [] → IsUtf8 id → as_version v ≡ Some v
    → version_mark 0 (codes "Version") (Some (marker_attributes id v)) ≡ Ok (id, v)
unfolding version_mark lone_document field
mark_back id v some text is =
    ap (λ r. r >>= (λ ps. or_fault fault (change_id_in (lone_document ps.0)) >>= (λ c. or_fault fault (version_in (lone_document ps.1)) >>= (λ w. Ok (c, w))))) (marked id v text is)
    ∙ ap (λ o. or_fault fault (change_id_in o) >>= (λ c. or_fault fault (version_in (document (compact_text (number (of_integer v))))) >>= (λ w. Ok (c, w)))) (document_string id text)
    ∙ ap (λ o. or_fault fault o >>= (λ c. or_fault fault (version_in (document (compact_text (number (of_integer v))))) >>= (λ w. Ok (c, w)))) (some_text_is id some)
    ∙ ap (λ o. or_fault fault (version_in o) >>= (λ w. Ok (id, w))) (document_version v is)
    ∙ ap (λ o. or_fault fault o >>= (λ w. Ok (id, w))) (version_back v is)

-- ---- All commands

-- what is asked for stands beside what the workflow gave
activity_back : (names : WorkerNames) (policy : ActivityPolicy) (events : List Event) (id activity : List ℕ) (input : List Payload) → HaveBytes input
    → command_in events (spec.start_activity names policy id activity input) ≡ Some (commands.StartActivity id activity input)
activity_back names policy events id activity input sent =
    let asked = activity_asked policy in
    let members = spec.activity_members names policy id activity input in
    same_three activity_of _ _ _ _ _ _ (given_at (codes "activityId") asked members) (given_at (codes "activityType") asked members) (given_at (codes "input") asked members)
    ∙ ap (λ r. option_map (commands.StartActivity id activity) (result_ok r)) (payloads_back input sent)

child_back : (names : WorkerNames) (policy : ChildPolicy) (events : List Event) (workflow_id workflow : List ℕ) (input : List Payload) → HaveBytes input
    → command_in events (spec.start_child names policy workflow_id workflow input) ≡ Some (commands.StartChild workflow_id workflow input)
child_back names policy events workflow_id workflow input sent =
    let asked = child_asked policy in
    let members = spec.child_members names policy workflow_id workflow input in
    same_three child_of _ _ _ _ _ _ (given_at (codes "workflowId") asked members) (given_at (codes "workflowType") asked members) (given_at (codes "input") asked members)
    ∙ ap (λ r. option_map (commands.StartChild workflow_id workflow) (result_ok r)) (payloads_back input sent)

-- so does what the run hands on
continue_back : (names : WorkerNames) (policy : ContinuePolicy) (carried : Carried) (events : List Event) (workflow : List ℕ) (input : List Payload) → HaveBytes input
    → command_in events (spec.continue_as_new names policy carried workflow input) ≡ Some (commands.ContinueAsNew workflow input)
continue_back names policy carried events workflow input sent =
    let asked = continued_asked policy in
    let members = spec.continued_members names policy workflow input in
    let handed = put_given (carried_asked carried) members in
    same_two continued_of _ _ _ _
    (given_at (codes "workflowType") asked handed ∙ given_at (codes "workflowType") (carried_asked carried) members)
    (given_at (codes "input") asked handed ∙ given_at (codes "input") (carried_asked carried) members)
    ∙ ap (λ r. option_map (commands.ContinueAsNew workflow) (result_ok r)) (payloads_back input sent)

pub command_back : (names : WorkerNames) (policies : Policies) (carried : Carried) (events : List Event) (command : Command) (d : Data)
    → IsHistory events → IsSent command → written names policies carried events command ≡ Ok d → command_in events d ≡ Some command
command_back names policies carried events (commands.StartActivity id activity input) d history sent is =
    let policy = policy_of policies.activities activity in
    let whole = spec.start_activity names policy id activity input in
    from_written events _ (Ok whole) whole d refl is (activity_back names policy events id activity input sent)
command_back names policies carried events (commands.CancelActivity id) d history sent is = cancel_back events id d history is
command_back names policies carried events (commands.StartTimer id seconds) d history sent is = timer_back events id seconds d is
command_back names policies carried events (commands.CancelTimer id) d history sent is = from_written events _ (Ok (spec.cancel_timer id)) (spec.cancel_timer id) d refl is refl
command_back names policies carried events (commands.StartChild workflow_id workflow input) d history sent is =
    let policy = policy_of policies.children workflow in
    let whole = spec.start_child names policy workflow_id workflow input in
    from_written events _ (Ok whole) whole d refl is (child_back names policy events workflow_id workflow input sent)
command_back names policies carried events (commands.CancelChild workflow_id) d history sent is = from_written events _ (Ok (spec.cancel_child names workflow_id)) (spec.cancel_child names workflow_id) d refl is refl
command_back names policies carried events (commands.SignalExternal workflow_id signal input) d history sent is =
    from_written events _ (Ok (spec.signal_external names workflow_id signal input)) (spec.signal_external names workflow_id signal input) d refl is
    (ap (λ r. option_map (commands.SignalExternal workflow_id signal) (result_ok r)) (payloads_back input sent))
command_back names policies carried events (commands.Ask change_id min max) d history sent is = cc
command_back names policies carried events (commands.Marker change_id version) d history sent is =
    from_written events _ (Ok (spec.marker change_id version)) (spec.marker change_id version) d refl is
    (ap (λ r. option_map (λ mark. commands.Marker mark.0 mark.1) (result_ok r)) (mark_back change_id version sent.0 sent.1 sent.2))
command_back names policies carried events (commands.Complete outcome) d history sent is =
    from_written events _ (Ok (spec.complete outcome)) (spec.complete outcome) d refl is (ap (λ r. option_map commands.Complete (result_ok r)) (payloads_back outcome sent))
command_back names policies carried events (commands.Fail message) d history sent is =
    let whole = spec.fail (policy_of policies.failures message) message in
    from_written events _ (Ok whole) whole d refl is refl
command_back names policies carried events commands.Cancel d history sent is = from_written events _ (Ok spec.cancel) spec.cancel d refl is refl
command_back names policies carried events (commands.ContinueAsNew workflow input) d history sent is =
    let policy = policy_of policies.continued workflow in
    let whole = spec.continue_as_new names policy carried workflow input in
    from_written events _ (Ok whole) whole d refl is (continue_back names policy carried events workflow input sent)

some_same : {A : Type 0} (a b : A) → Some a ≡ Some b → a ≡ b
some_same a b e = cc

pub commands_differ : (names : WorkerNames) (policies : Policies) (carried : Carried) (events : List Event) (c e : Command) (d : Data)
    → IsHistory events → IsSent c → IsSent e → written names policies carried events c ≡ Ok d → written names policies carried events e ≡ Ok d → c ≡ e
commands_differ names policies carried events c e d history sent other is_c is_e =
    some_same c e (sym (command_back names policies carried events c d history sent is_c) ∙ command_back names policies carried events e d history other is_e)

-- ---- Policies

module _ (names : WorkerNames) (policies others : Policies) (carried : Carried) (events : List Event) (command : Command) (history : IsHistory events) (sent : IsSent command) where
  -- two that are written of one command are read alike
  alike : (d e : Data) → written names policies carried events command ≡ Ok d → written names others carried events command ≡ Ok e
      → command_in events e ≡ command_in events d
  alike d e is other =
      command_back names others carried events command e history sent other ∙ sym (command_back names policies carried events command d history sent is)

pub policies_unseen : PoliciesAreUnseen
policies_unseen names policies others carried events (commands.StartActivity id activity input) d history sent is =
    (_, refl, alike names policies others carried events (commands.StartActivity id activity input) history sent d _ is refl)
policies_unseen names policies others carried events (commands.CancelActivity id) d history sent is = (d, is, refl)
policies_unseen names policies others carried events (commands.StartTimer id seconds) d history sent is = (d, is, refl)
policies_unseen names policies others carried events (commands.CancelTimer id) d history sent is = (d, is, refl)
policies_unseen names policies others carried events (commands.StartChild workflow_id workflow input) d history sent is =
    (_, refl, alike names policies others carried events (commands.StartChild workflow_id workflow input) history sent d _ is refl)
policies_unseen names policies others carried events (commands.CancelChild workflow_id) d history sent is = (d, is, refl)
policies_unseen names policies others carried events (commands.SignalExternal workflow_id signal input) d history sent is = (d, is, refl)
policies_unseen names policies others carried events (commands.Ask change_id min max) d history sent is = cc
policies_unseen names policies others carried events (commands.Marker change_id version) d history sent is = (d, is, refl)
policies_unseen names policies others carried events (commands.Complete outcome) d history sent is = (d, is, refl)
policies_unseen names policies others carried events (commands.Fail message) d history sent is =
    (_, refl, alike names policies others carried events (commands.Fail message) history sent d _ is refl)
policies_unseen names policies others carried events commands.Cancel d history sent is = (d, is, refl)
policies_unseen names policies others carried events (commands.ContinueAsNew workflow input) d history sent is =
    (_, refl, alike names policies others carried events (commands.ContinueAsNew workflow input) history sent d _ is refl)
