-- The reason why a line is malformed is the first that applies.
use Rattle.std.proofs.Common.{◌≡◌, ◌≢◌, ◌⊎◌, ℕ, zero, suc, ◌<◌, ℤ, ◌&&◌, Bool, true, false, cond, List, length, codes, nat_lt, is_some, Option, Some, None, Result, Ok, Err, refl, sym, ap, subst, ◌∙◌, arith, inl, inr}
use Rattle.std.specs.Str.{bytes_eq, is_utf8}
use Rattle.std.specs.Option.{ok_or}
use Rattle.std.proofs.lemmas.Bool.{true≢false, ltb-true, lt-ltb}
use Rattle.std.proofs.lemmas.Option.{same_Some, none-some}
use Rattle.std.proofs.lemmas.Slice.Eq.{bytes_eq-Decides}
use Rattle.std.proofs.lemmas.Str.{is_utf8-from_IsUtf8, IsUtf8-from_is_utf8}
use Rattle.json.specs.Json.{Json}
use Rattle.serde_json.specs.Data.{Data, Members}
use Rattle.serde_json.specs.Find.{get, as_object, as_str}
use Rattle.serde_json.specs.Read.{read}
use Rattle.wh_rpc.specs.declared.bad_line.BadLine.{BadLine}
use Rattle.wh_rpc.specs.declared.bad_line.BadLine.TheVariants as bad
use Rattle.wh_rpc.specs.Responses.{Meaning, answers, shutdown, refused, ◌>>=◌, code_of, id_of, message_of, has_two, longest, meaning, notice_by, notice_or_response, outcome_by, outcome_of, refusal_of, response_of, said_by, text_of, json_of, value_by, value_of}
use Rattle.wh_rpc.proofs.Large.{large_of, no_value_of, read_is_json, read_of}
use Rattle.wh_rpc.specs.Reasons.{Applies, HasFault, IsFaulty, IsFirst, ReasonsComeInOrder, MeaningsHaveNoFault, rank}

-- ---- The order

at_rank : ℕ → BadLine
at_rank zero = bad.TooLong
at_rank (suc zero) = bad.NotUtf8
at_rank (suc (suc zero)) = bad.NotJson
at_rank (suc (suc (suc zero))) = bad.NumberOutOfRange
at_rank (suc (suc (suc (suc zero)))) = bad.NotObject
at_rank (suc (suc (suc (suc (suc zero))))) = bad.NotResponse
at_rank (suc (suc (suc (suc (suc (suc zero)))))) = bad.TwoOutcomes
at_rank (suc (suc (suc (suc (suc (suc (suc zero))))))) = bad.BadId
at_rank (suc (suc (suc (suc (suc (suc (suc (suc zero)))))))) = bad.NoOutcome
at_rank (suc (suc (suc (suc (suc (suc (suc (suc (suc zero))))))))) = bad.BadError
at_rank (suc (suc (suc (suc (suc (suc (suc (suc (suc (suc n)))))))))) = bad.OutOfMemory

back : (reason : BadLine) → at_rank (rank reason) ≡ reason
unfolding at_rank
back bad.TooLong = refl
back bad.NotUtf8 = refl
back bad.NotJson = refl
back bad.NumberOutOfRange = refl
back bad.NotObject = refl
back bad.NotResponse = refl
back bad.TwoOutcomes = refl
back bad.BadId = refl
back bad.NoOutcome = refl
back bad.BadError = refl
back bad.OutOfMemory = refl

rank_same : (reason other : BadLine) → rank reason ≡ rank other → reason ≡ other
rank_same reason other e = sym (back reason) ∙ ap at_rank e ∙ back other

below : (m n : ℕ) → m < suc n → (m < n) ⊎ (m ≡ n)
below m n h = grind (arith, h)

-- ---- The value of a line

or_none : {A : Type 0} (o : Option A) (x : A) → o ≡ Some x → o ≢ None
or_none o x e none = none-some x (sym none ∙ e)

both_true : (b c : Bool) → b ≡ true → c ≡ true → (b && c) ≡ true
both_true true c h k = k
both_true false c h k = absurd (true≢false (sym h))

each_true : (b c : Bool) → (b && c) ≡ true → (b ≡ true) × (c ≡ true)
each_true true c h = (refl, h)
each_true false c h = absurd (true≢false (sym h))

there : {A : Type 0} (o : Option A) → is_some o ≡ true → o ≢ None
there None h none = true≢false (sym h)
there (Some x) h none = none-some x (sym none)

is_there : {A : Type 0} (o : Option A) → o ≢ None → is_some o ≡ true
is_there None h = absurd (h refl)
is_there (Some x) h = refl

module _ (d : Data) where
  -- none of the first reasons lies in the value
  abbrev NoneAt : ℕ → Type 0
  NoneAt n = (other : BadLine) → rank other < n → ¬ IsFaulty other d

  none_at_first : NoneAt 4
  none_at_first bad.TooLong h fault = fault
  none_at_first bad.NotUtf8 h fault = fault
  none_at_first bad.NotJson h fault = fault
  none_at_first bad.NumberOutOfRange h fault = fault
  none_at_first bad.NotObject h fault = omega (arith, h)
  none_at_first bad.NotResponse h fault = omega (arith, h)
  none_at_first bad.TwoOutcomes h fault = omega (arith, h)
  none_at_first bad.BadId h fault = omega (arith, h)
  none_at_first bad.NoOutcome h fault = omega (arith, h)
  none_at_first bad.BadError h fault = omega (arith, h)
  none_at_first bad.OutOfMemory h fault = fault

  more : (reason : BadLine) → NoneAt (rank reason) → ¬ IsFaulty reason d → NoneAt (suc (rank reason))
  more reason before not other less =
      elim (below (rank other) (rank reason) less) [
        | inl lower ↦ before other lower
        | inr same ↦ subst (λ r. ¬ IsFaulty r d) (sym (rank_same other reason same)) not
      ]

  -- what judging the value gives: no reason lies in it, or this is the first
  abbrev Judges : Result Meaning BadLine → Type 0
  Judges (Ok said) = (reason : BadLine) → ¬ IsFaulty reason d
  Judges (Err reason) = IsFaulty reason d × NoneAt (rank reason)

  all_of : NoneAt 10 → (reason : BadLine) → ¬ IsFaulty reason d
  all_of none bad.TooLong = none bad.TooLong (omega arith)
  all_of none bad.NotUtf8 = none bad.NotUtf8 (omega arith)
  all_of none bad.NotJson = none bad.NotJson (omega arith)
  all_of none bad.NumberOutOfRange = none bad.NumberOutOfRange (omega arith)
  all_of none bad.NotObject = none bad.NotObject (omega arith)
  all_of none bad.NotResponse = none bad.NotResponse (omega arith)
  all_of none bad.TwoOutcomes = none bad.TwoOutcomes (omega arith)
  all_of none bad.BadId = none bad.BadId (omega arith)
  all_of none bad.NoOutcome = none bad.NoOutcome (omega arith)
  all_of none bad.BadError = none bad.BadError (omega arith)
  all_of none bad.OutOfMemory = λ fault. fault

  abbrev method_in : Option Data
  method_in = get (codes "method") d

  abbrev error_in : Option Data
  error_in = get (codes "error") d

  of_message : (error : Data) (id : ℕ) (code : ℤ) → method_in ≡ None → error_in ≡ Some error → code_of error ≡ Some code → NoneAt 9
      → (o : Option (List ℕ)) → message_of error ≡ o → Judges ((ok_or o bad.BadError >>= (λ message. Ok (refused code message))) >>= (λ answer. Ok (answers id answer)))
  of_message error id code no_method is has_code before None none = ((no_method, (error, is, inr none)), before)
  of_message error id code no_method is has_code before (Some message) has =
      all_of (more bad.BadError before (λ fault.
      let same : fault.1.0 ≡ error = same_Some fault.1.0 error (sym fault.1.1 ∙ is) in
      elim fault.1.2 [
        | inl none ↦ or_none (code_of error) code has_code (ap code_of (sym same) ∙ none)
        | inr none ↦ or_none (message_of error) message has (ap message_of (sym same) ∙ none)
      ]))

  of_code : (error : Data) (id : ℕ) → method_in ≡ None → error_in ≡ Some error → NoneAt 9 → (o : Option ℤ) → code_of error ≡ o
      → Judges ((ok_or o bad.BadError >>= (λ code. ok_or (message_of error) bad.BadError >>= (λ message. Ok (refused code message)))) >>= (λ answer. Ok (answers id answer)))
  of_code error id no_method is before None none = ((no_method, (error, is, inl none)), before)
  of_code error id no_method is before (Some code) has = of_message error id code no_method is has before (message_of error) refl

  of_outcome : (id : ℕ) → method_in ≡ None → NoneAt 8 → (error result : Option Data) → error_in ≡ error → get (codes "result") d ≡ result
      → Judges (outcome_by error result >>= (λ answer. Ok (answers id answer)))
  unfolding refusal_of
  of_outcome id no_method before (Some error) result is has =
      of_code error id no_method is (more bad.NoOutcome before (λ fault. or_none error_in error is fault.2)) (code_of error) refl
  of_outcome id no_method before None (Some result) is has =
      all_of (more bad.BadError (more bad.NoOutcome before (λ fault. or_none (get (codes "result") d) result has fault.1)) (λ fault. or_none error_in fault.1.0 fault.1.1 is))
  of_outcome id no_method before None None is has = ((no_method, has, is), before)

  of_id : method_in ≡ None → NoneAt 7 → (o : Option ℕ) → id_of d ≡ o → Judges (ok_or o bad.BadId >>= (λ id. outcome_of d >>= (λ answer. Ok (answers id answer))))
  unfolding outcome_of
  of_id no_method before None none = ((no_method, none), before)
  of_id no_method before (Some id) has =
      of_outcome id no_method (more bad.BadId before (λ fault. or_none (id_of d) id has fault.1)) error_in (get (codes "result") d) refl refl

  of_two : method_in ≡ None → NoneAt 6 → (b : Bool) → has_two d ≡ b
      → Judges (cond b (Err bad.TwoOutcomes) (ok_or (id_of d) bad.BadId >>= (λ id. outcome_of d >>= (λ answer. Ok (answers id answer)))))
  of_two no_method before true two =
      let each = each_true (is_some (get (codes "result") d)) (is_some error_in) two in
      ((no_method, there (get (codes "result") d) each.0, there error_in each.1), before)
  of_two no_method before false one =
      of_id no_method (more bad.TwoOutcomes before (λ fault.
      true≢false (sym (both_true (is_some (get (codes "result") d)) (is_some error_in) (is_there (get (codes "result") d) fault.1) (is_there error_in fault.2)) ∙ one))) (id_of d) refl

  no_response : (method : Data) → method_in ≡ Some method → NoneAt 6 → NoneAt 10
  no_response method is before =
      more bad.BadError
      (more bad.NoOutcome
      (more bad.BadId (more bad.TwoOutcomes before (λ fault. or_none method_in method is fault.0)) (λ fault. or_none method_in method is fault.0))
      (λ fault. or_none method_in method is fault.0)) (λ fault. or_none method_in method is fault.0)

  of_name : (method : Data) (name : List ℕ) → method_in ≡ Some method → as_str method ≡ Some name → NoneAt 5 → (b : Bool) → bytes_eq name (codes "shutdown") ≡ b
      → Judges (cond b (Ok shutdown) (Err bad.NotResponse))
  of_name method name is has before true same =
      let shut : name ≡ codes "shutdown" = (bytes_eq-Decides name (codes "shutdown")).0 same in
      all_of (no_response method is (more bad.NotResponse before (λ fault.
      fault.2 (ap as_str (same_Some fault.0 method (sym fault.1 ∙ is)) ∙ has ∙ ap Some shut))))
  of_name method name is has before false other =
      ((method, is, λ shut. true≢false (sym ((bytes_eq-Decides name (codes "shutdown")).1 (same_Some name (codes "shutdown") (sym has ∙ shut))) ∙ other)), before)

  of_notice : (method : Data) → method_in ≡ Some method → NoneAt 5 → (o : Option (List ℕ)) → as_str method ≡ o → Judges (notice_by o)
  of_notice method is before None none = ((method, is, λ shut. none-some (codes "shutdown") (sym none ∙ shut)), before)
  of_notice method is before (Some name) has = of_name method name is has before (bytes_eq name (codes "shutdown")) refl

  of_method : NoneAt 5 → (o : Option Data) → method_in ≡ o → Judges (notice_or_response o d)
  unfolding response_of
  of_method before None none = of_two none (more bad.NotResponse before (λ fault. or_none method_in fault.0 fault.1 none)) (has_two d) refl
  of_method before (Some method) is = of_notice method is before (as_str method) refl

  of_object : (o : Option Members) → as_object d ≡ o → Judges (cond (is_some o) (notice_or_response method_in d) (Err bad.NotObject))
  of_object None none = (none, none_at_first)
  of_object (Some members) is = of_method (more bad.NotObject none_at_first (λ fault. or_none (as_object d) members is fault)) method_in refl

  value_judged : Judges (said_by d)
  unfolding said_by
  value_judged = of_object (as_object d) refl

-- ---- The line

-- none of the first reasons applies
abbrev NoneOf : ℕ → List ℕ → Type 0
NoneOf n bytes = (other : BadLine) → rank other < n → ¬ Applies other bytes

-- what judging a line gives: no reason applies, or this is the first
abbrev Judged : List ℕ → Result Meaning BadLine → Type 0
Judged bytes (Ok said) = (reason : BadLine) → ¬ Applies reason bytes
Judged bytes (Err reason) = IsFirst reason bytes

no_first : (bytes : List ℕ) → NoneOf 0 bytes
no_first bytes other h applies = omega (arith, h)

next : (bytes : List ℕ) (reason : BadLine) → NoneOf (rank reason) bytes → ¬ Applies reason bytes → NoneOf (suc (rank reason)) bytes
next bytes reason before not other less =
    elim (below (rank other) (rank reason) less) [
      | inl lower ↦ before other lower
      | inr same ↦ subst (λ r. ¬ Applies r bytes) (sym (rank_same other reason same)) not
    ]

module _ (bytes : List ℕ) (d : Data) (has : read bytes ≡ Some d) (before : NoneOf 4 bytes) where
  -- the line has only this value
  not_faulty : (reason : BadLine) → ¬ IsFaulty reason d → ¬ HasFault reason bytes
  not_faulty reason not fault = not (subst (IsFaulty reason) (same_Some fault.0 d (sym fault.1 ∙ has)) fault.2)

  not_applied : (reason : BadLine) → ¬ IsFaulty reason d → ¬ Applies reason bytes
  not_applied bad.TooLong not = before bad.TooLong (omega arith)
  not_applied bad.NotUtf8 not = before bad.NotUtf8 (omega arith)
  not_applied bad.NotJson not = before bad.NotJson (omega arith)
  not_applied bad.NumberOutOfRange not = before bad.NumberOutOfRange (omega arith)
  not_applied bad.NotObject not = not_faulty bad.NotObject not
  not_applied bad.NotResponse not = not_faulty bad.NotResponse not
  not_applied bad.TwoOutcomes not = not_faulty bad.TwoOutcomes not
  not_applied bad.BadId not = not_faulty bad.BadId not
  not_applied bad.NoOutcome not = not_faulty bad.NoOutcome not
  not_applied bad.BadError not = not_faulty bad.BadError not
  not_applied bad.OutOfMemory not = not_faulty bad.OutOfMemory not

  applied : (reason : BadLine) → IsFaulty reason d → Applies reason bytes
  applied bad.TooLong fault = absurd fault
  applied bad.NotUtf8 fault = absurd fault
  applied bad.NotJson fault = absurd fault
  applied bad.NumberOutOfRange fault = absurd fault
  applied bad.NotObject fault = (d, has, fault)
  applied bad.NotResponse fault = (d, has, fault)
  applied bad.TwoOutcomes fault = (d, has, fault)
  applied bad.BadId fault = (d, has, fault)
  applied bad.NoOutcome fault = (d, has, fault)
  applied bad.BadError fault = (d, has, fault)
  applied bad.OutOfMemory fault = absurd fault

  lifted : (r : Result Meaning BadLine) → Judges d r → Judged bytes r
  lifted (Ok said) judged = λ reason. not_applied reason (judged reason)
  lifted (Err reason) judged = record { applies = applied reason judged.0; first = λ other less. not_applied other (judged.1 other less) }

of_read : (bytes : List ℕ) → NoneOf 2 bytes → (o : Option Data) (json : Option Json) → read bytes ≡ o → json_of bytes ≡ json
    → Judged bytes (value_by o (is_some json) >>= said_by)
of_read bytes before None None none no_json = record { applies = no_json; first = before }
of_read bytes before None (Some j) none is =
    record {
      applies = (j, is, large_of j (sym (read_of bytes j is) ∙ none));
      first = next bytes bad.NotJson before (λ no_json. or_none (json_of bytes) j is no_json);
    }
of_read bytes before (Some d) json has is =
    lifted bytes d has
    (next bytes bad.NumberOutOfRange
    (next bytes bad.NotJson before (read_is_json bytes d has))
    (λ large. or_none (read bytes) d has (read_of bytes large.0 large.1 ∙ no_value_of large.0 large.2))) (said_by d) (value_judged d)

of_text : (bytes : List ℕ) → NoneOf 1 bytes → (b : Bool) → is_utf8 bytes ≡ b
    → Judged bytes (cond b (Ok bytes) (Err bad.NotUtf8) >>= (λ text. value_of text >>= said_by))
of_text bytes before true is =
    of_read bytes (next bytes bad.NotUtf8 before (λ other. other (IsUtf8-from_is_utf8 bytes is))) (read bytes) (json_of bytes) refl refl
of_text bytes before false other =
    record { applies = λ text. true≢false (sym (is_utf8-from_IsUtf8 bytes text) ∙ other); first = before }

of_length : (bytes : List ℕ) → (b : Bool) → nat_lt longest (length bytes) ≡ b
    → Judged bytes (cond b (Err bad.TooLong) (text_of bytes >>= (λ text. value_of text >>= said_by)))
of_length bytes true long = record { applies = ltb-true longest (length bytes) long; first = no_first bytes }
of_length bytes false short =
    of_text bytes (next bytes bad.TooLong (no_first bytes) (λ long. true≢false (sym (lt-ltb longest (length bytes) long) ∙ short))) (is_utf8 bytes) refl

judged : (bytes : List ℕ) → Judged bytes (meaning bytes)
unfolding meaning
judged bytes = of_length bytes (nat_lt longest (length bytes)) refl

-- ---- The laws

order : (m n : ℕ) → (m < n) ⊎ (m ≡ n) ⊎ (n < m)
order m n = grind arith

one_first : (bytes : List ℕ) (reason other : BadLine) → IsFirst reason bytes → IsFirst other bytes → other ≡ reason
one_first bytes reason other h k =
    elim (order (rank other) (rank reason)) [
      | inl lower ↦ absurd (h.first other lower k.applies)
      | inr (inl same) ↦ rank_same other reason same
      | inr (inr higher) ↦ absurd (k.first reason higher h.applies)
    ]

is_first : (bytes : List ℕ) (reason : BadLine) (r : Result Meaning BadLine) → Judged bytes r → IsFirst reason bytes → r ≡ Err reason
is_first bytes reason (Ok said) judged h = absurd (judged reason h.applies)
is_first bytes reason (Err other) judged h = ap Err (one_first bytes reason other h judged)

pub reasons_come_in_order : ReasonsComeInOrder
reasons_come_in_order bytes reason =
    (λ is. subst (Judged bytes) is (judged bytes), λ first. is_first bytes reason (meaning bytes) (judged bytes) first)

pub meanings_have_no_fault : MeaningsHaveNoFault
meanings_have_no_fault bytes said reason is = subst (Judged bytes) is (judged bytes) reason
