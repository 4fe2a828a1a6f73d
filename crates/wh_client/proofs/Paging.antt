-- Pages, one after the other.
use Rattle.std.proofs.Common.{◌≡◌, ◌≢◌, ◌∙◌, ℕ, List, [], ◌∷◌, ◌++◌, append_assoc, refl, sym, ap, subst, map, arith}
use Rattle.std.proofs.lemmas.Bool.Decides.{nat_tests}
use Rattle.std.proofs.lemmas.List.{append-nil}
use Rattle.std.specs.Prelude.{◌==◌, codes, length, true, Some, Result, Ok, Err, IfErr, IsErrAnd}
use Rattle.serde_json.specs.Data.{Data}
use Rattle.wh_events.specs.declared.key.RunKey.{RunKey}
use Rattle.wh_commands.specs.declared.names.WorkerNames.{WorkerNames}
use Rattle.wh_messages.specs.Requests.{history}
use Rattle.wh_messages.specs.Responses.{Page, page_in}
use Rattle.wh_client.specs.Calls.{Fails, Gives}
use Rattle.wh_client.specs.Pages.{EndsPages, IsPageFault, IsPaged, Leads, ReadsNotOn, ReadsOn, all_members}
use Rattle.wh_client.specs.declared.asking.AskFault.{AskFault}
use Rattle.wh_client.specs.declared.asking.AskFault.TheVariants as asked

-- a page that was read from the result of its request
pub paged_by : (gives : Gives) (names : WorkerNames) (run : RunKey) (token : List ℕ) (params result : Data) (page : Page)
    → params ≡ history names run.workflow_id run.run_id token
    → gives (codes "GetWorkflowExecutionHistory") params result → Some page ≡ page_in result
    → IsPaged gives names run token page
paged_by gives names run token params result page asked given read =
    record { result = result; given = subst (λ p. gives (codes "GetWorkflowExecutionHistory") p result) asked given; read = sym read }

-- the members of one page more stand after the others
pub all_members-append : (pages : List Page) (page : Page) → all_members (pages ++ page ∷ []) ≡ all_members pages ++ page.members
all_members-append [] page = append-nil page.members
all_members-append (first ∷ pages) page =
    ap (λ l. first.members ++ l) (all_members-append pages page) ∙ sym (append_assoc first.members (all_members pages) page.members)

-- one page more without an event leaves them without one
pub none_more : (pages : List Page) (page : Page) → all_members pages ≡ [] → page.members ≡ []
    → all_members (pages ++ page ∷ []) ≡ []
none_more pages page empty none = all_members-append pages page ∙ (ap (λ l. l ++ page.members) empty ∙ none)

-- one page more leads on
pub leads_on : (gives : Gives) (names : WorkerNames) (run : RunKey) (token reached : List ℕ) (pages : List Page) (page : Page)
    → Leads gives names run token pages reached → IsPaged gives names run reached page → page.next_page ≢ []
    → Leads gives names run token (pages ++ page ∷ []) page.next_page
leads_on gives names run token reached [] page lead given more =
    (subst (λ t. IsPaged gives names run t page) lead given, more, refl)
leads_on gives names run token reached (first ∷ pages) page lead given more =
    (lead.0, lead.1, leads_on gives names run first.next_page reached pages page lead.2 given more)

-- the last page ends them
pub reads_all : (gives : Gives) (names : WorkerNames) (run : RunKey) (token reached : List ℕ) (pages : List Page) (page : Page) (old new : List Data)
    → Leads gives names run token pages reached → IsPaged gives names run reached page → page.next_page ≡ []
    → new ≡ old ++ all_members pages → ReadsOn gives names run token old (new ++ page.members)
reads_all gives names run token reached pages page old new lead given ends appended =
    record {
      pages = pages ++ page ∷ [];
      all = record { before = pages; last = page; reached = reached; are = refl; lead = lead; given = given; ends = ends };
      appended = ap (λ l. l ++ page.members) appended ∙ (append_assoc old (all_members pages) page.members ∙ ap (λ l. old ++ l) (sym (all_members-append pages page)));
    }

-- members that were appended are seen after the others
pub map-appended : {A B : Type 0} (f : A → B) (xs ys : List A) → map f (xs ++ ys) ≡ map f xs ++ map f ys
map-appended f [] ys = refl
map-appended f (x ∷ xs) ys = ap (λ l. f x ∷ l) (map-appended f xs ys)

-- a list of no item is the empty one
pub none_left : {A : Type 0} (xs : List A) → (length xs == 0) ≡ true → xs ≡ []
none_left [] e = refl
none_left (x ∷ xs) e = absurd (grind (arith, nat_tests))

module _ (gives : Gives) (fails : Fails) (names : WorkerNames) (run : RunKey) where
  -- a page that could not be fetched ends those before it
  ends_at : (pages : List Page) (reached : List ℕ) (fault : AskFault) → IsPageFault gives fails names run reached fault
      → EndsPages gives fails names run pages reached fault
  ends_at pages reached asked.Closed is = is
  ends_at pages reached asked.Output is = is
  ends_at pages reached (asked.Refused status code message) is = is
  ends_at pages reached asked.Unreadable is = is
  ends_at pages reached asked.TooManyPages is = absurd is
  ends_at pages reached (asked.History fault) is = absurd is
  ends_at pages reached asked.OutOfMemory is = tt

  module _ (token : List ℕ) where
    -- the pages lead to one that could not be fetched
    pub unread_after : {A : Type 0} (pages : List Page) (reached : List ℕ) (fault : AskFault) (result : Result A AskFault)
        → Leads gives names run token pages reached → IsPageFault gives fails names run reached fault
        → IsErrAnd result (λ why. why ≡ fault) → IfErr result (ReadsNotOn gives fails names run token)
    unread_after pages reached fault (Ok all) lead is why = tt
    unread_after pages reached fault (Err found) lead is why =
        record { before = pages; reached = reached; lead = lead; ends = subst (EndsPages gives fails names run pages reached) (sym why) (ends_at pages reached fault is) }

    -- there may be no memory before the first page
    pub unread_without_memory : {A : Type 0} (result : Result A AskFault) → IsErrAnd result (λ why. why ≡ asked.OutOfMemory)
        → IfErr result (ReadsNotOn gives fails names run token)
    unread_without_memory (Ok all) why = tt
    unread_without_memory (Err found) why =
        record { before = []; reached = token; lead = refl; ends = subst (EndsPages gives fails names run [] token) (sym why) tt }
