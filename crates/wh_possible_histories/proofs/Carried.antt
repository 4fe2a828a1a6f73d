-- The commands of an activation with the table added for a new run are at fault and are recorded as without it.
use Rattle.std.proofs.Common.{◌≡◌, ℕ, Bool, true, false, not, ◌||◌, List, [], ◌∷◌, ◌++◌, map, length, filter, refl, sym, ap, ap₂, ◌∙◌}
use Rattle.std.specs.Prelude.{zero, suc, ◌-◌, ◌+◌, if◌then◌else◌, slice_get}
use Rattle.std.proofs.lemmas.List.{map-append}
use Rattle.wh_events.specs.declared.event.Event.{Event}
use Rattle.wh_events.specs.declared.event.Payload.{Payload}
use Rattle.wh_events.specs.declared.kind.EventKind.{EventKind}
use Rattle.wh_events.specs.declared.kind.EventKind.TheVariants as kinds
use Rattle.wh_events.specs.declared.place.Thing.{Thing}
use Rattle.wh_workflow.specs.declared.command.Command.{Command}
use Rattle.wh_workflow.specs.declared.command.Command.TheVariants as commands
use Rattle.wh_workflow.specs.Law.{is_marker}
use Rattle.wh_workflow.specs.Names.{names, mismatch_from, mismatch}
use Rattle.wh_workflow.specs.Scripts.{ActivationContext, Settled, Act, act_of, act_opens, act_cancels, some_act, left_open, withdrawn, given, act_closes, opening_fault, cancel_fault, act_fault, command_fault, is_sent_act, sent_after, reduced}
use Rattle.wh_workflow.specs.Activations.{question_in, question_at, question_of}
use Rattle.wh_table.specs.Carrying.{with_table}

module _ (kind : List ℕ) (table : List Payload) where
  same_act : (command : Command) → act_of (with_table kind table command) ≡ act_of command
  same_act (commands.ContinueAsNew [] input) = refl
  same_act _ = refl

  same_marker : (command : Command) → is_marker (with_table kind table command) ≡ is_marker command
  same_marker (commands.ContinueAsNew [] input) = refl
  same_marker _ = refl

  same_question : (command : Command) → question_in (with_table kind table command) ≡ question_in command
  same_question (commands.ContinueAsNew [] input) = refl
  same_question _ = refl

  same_name : (events : List Event) (command : Command) (body : EventKind)
      → names events (with_table kind table command) body ≡ names events command body
  same_name events (commands.ContinueAsNew [] input) kinds.WorkflowExecutionContinuedAsNew = refl
  same_name events (commands.ContinueAsNew [] input) _ = refl
  same_name events _ body = refl

  -- earlier commands count by what they do

  same_some : (test : Act → Bool) (list : List Command) → some_act test (map (with_table kind table) list) ≡ some_act test list
  same_some test [] = refl
  same_some test (command ∷ rest) =
      ap₂ (λ (a : Act) (b : Bool). test a || b) (same_act command) (same_some test rest)

  same_left : (thing : Thing) (id : List ℕ) (list : List Command)
      → left_open thing id (map (with_table kind table) list) ≡ left_open thing id list
  same_left thing id [] = refl
  same_left thing id (command ∷ rest) =
      rw (same_act command, same_left thing id rest, same_some (act_cancels thing id) rest) refl

  same_withdrawn : (thing : Thing) (id : List ℕ) (list : List Command)
      → withdrawn thing id (map (with_table kind table) list) ≡ withdrawn thing id list
  same_withdrawn thing id [] = refl
  same_withdrawn thing id (command ∷ rest) =
      rw (same_act command, same_withdrawn thing id rest, same_some (act_cancels thing id) rest) refl

  pub same_given : (list : List Command) → length (given (map (with_table kind table) list)) ≡ length (given list)
  same_given [] = refl
  same_given (command ∷ rest) = by (is_marker command) (same_marker command) (same_given rest)
    where
      by : (t : Bool) → is_marker (with_table kind table command) ≡ t
          → length (given (map (with_table kind table) rest)) ≡ length (given rest)
          → length (filter (λ c. not (is_marker c)) (map (with_table kind table) (command ∷ rest)))
          ≡ length (if not t then command ∷ given rest else given rest)
      by true p more = rw p more
      by false p more = rw p (ap (λ n. suc n) more)

  same_act_fault : (context : ActivationContext) (settled : Settled) (earlier : List Command) (act : Act)
      → act_fault context settled (map (with_table kind table) earlier) act ≡ act_fault context settled earlier act
  unfolding opening_fault cancel_fault
  same_act_fault context settled earlier (Act.Opening thing id) =
      rw (same_left thing id earlier, same_some (act_cancels thing id) earlier, same_withdrawn thing id earlier) refl
  same_act_fault context settled earlier (Act.Cancelling thing id) =
      rw (same_left thing id earlier, same_some (act_cancels thing id) earlier, same_some (act_opens thing id) earlier) refl
  same_act_fault context settled earlier _ = refl

  pub same_fault : (context : ActivationContext) (settled : Settled) (earlier : List Command) (command : Command)
      → command_fault context settled (map (with_table kind table) earlier) (with_table kind table command)
      ≡ command_fault context settled earlier command
  unfolding command_fault
  same_fault context settled earlier command =
      rw (
        same_some act_closes earlier,
        same_given earlier,
        same_act command,
        same_act_fault context settled earlier (act_of command),
      ) refl

  -- the question

  same_last : (list : List Command) (index : ℕ)
      → question_at (slice_get (map (with_table kind table) list) index) ≡ question_at (slice_get list index)
  same_last [] index = refl
  same_last (command ∷ rest) zero = same_question command
  same_last (command ∷ rest) (suc index) = same_last rest index

  same_length : (list : List Command) → length (map (with_table kind table) list) ≡ length list
  same_length [] = refl
  same_length (command ∷ rest) = ap (λ n. suc n) (same_length rest)

  pub same_asks : (list : List Command) → question_of (map (with_table kind table) list) ≡ question_of list
  same_asks list =
      ap (λ n. question_at (slice_get (map (with_table kind table) list) (n - 1))) (same_length list)
      ∙ same_last list (length list - 1)

  -- what is sent

  same_sent_act : (context : ActivationContext) (earlier later : List Command) (act : Act)
      → is_sent_act context (map (with_table kind table) earlier) (map (with_table kind table) later) act
      ≡ is_sent_act context earlier later act
  same_sent_act context earlier later (Act.Opening thing id) = ap not (same_some (act_cancels thing id) later)
  same_sent_act context earlier later (Act.Cancelling thing id) =
      rw (same_left thing id earlier, same_some (act_opens thing id) earlier) refl
  same_sent_act context earlier later _ = refl

  same_sent : (context : ActivationContext) (earlier list : List Command)
      → sent_after context (map (with_table kind table) earlier) (map (with_table kind table) list)
      ≡ map (with_table kind table) (sent_after context earlier list)
  same_sent context earlier [] = refl
  same_sent context earlier (command ∷ rest) =
      by (is_sent_act context earlier rest (act_of command)) sent
      (ap (λ l. sent_after context l (map (with_table kind table) rest)) (sym (map-append (with_table kind table) earlier (command ∷ [])))
      ∙ same_sent context (earlier ++ command ∷ []) rest)
    where
      sent : is_sent_act context (map (with_table kind table) earlier) (map (with_table kind table) rest) (act_of (with_table kind table command))
          ≡ is_sent_act context earlier rest (act_of command)
      sent =
          ap (λ a. is_sent_act context (map (with_table kind table) earlier) (map (with_table kind table) rest) a) (same_act command)
          ∙ same_sent_act context earlier rest (act_of command)

      more : List Command
      more = sent_after context (map (with_table kind table) earlier ++ with_table kind table command ∷ []) (map (with_table kind table) rest)

      by : (t : Bool)
          → is_sent_act context (map (with_table kind table) earlier) (map (with_table kind table) rest) (act_of (with_table kind table command)) ≡ t
          → more ≡ map (with_table kind table) (sent_after context (earlier ++ command ∷ []) rest)
          → (if is_sent_act context (map (with_table kind table) earlier) (map (with_table kind table) rest) (act_of (with_table kind table command))
          then with_table kind table command ∷ more else more)
          ≡ map (with_table kind table) (if t then command ∷ sent_after context (earlier ++ command ∷ []) rest
          else sent_after context (earlier ++ command ∷ []) rest)
      by true p later = rw p (ap (λ l. with_table kind table command ∷ l) later)
      by false p later = rw p later

  same_mismatch : (events : List Event) (index : ℕ) (list : List Command) (recorded : List Event)
      → mismatch_from events index (map (with_table kind table) list) recorded ≡ mismatch_from events index list recorded
  same_mismatch events index [] recorded = refl
  same_mismatch events index (command ∷ rest) [] = refl
  same_mismatch events index (command ∷ rest) (event ∷ more) =
      rw (same_name events command event.body, same_mismatch events (index + 1) rest more) refl

  -- the commands are recorded as without the table
  pub same_record : (context : ActivationContext) (issued : List Command) (history recorded : List Event)
      → mismatch history (reduced context (map (with_table kind table) issued)) recorded
      ≡ mismatch history (reduced context issued) recorded
  same_record context issued history recorded =
      ap (λ l. mismatch history l recorded) (same_sent context [] issued)
      ∙ same_mismatch history 1 (reduced context issued) recorded
