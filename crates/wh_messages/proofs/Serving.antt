-- What a server writes is read as it was written.
use Rattle.std.proofs.Common.{◌≡◌, ◌≢◌, ℕ, ◌<◌, ◌^◌, List, [], ◌∷◌, codes, Option, Some, None, max, refl, ap, sym, arith, IfSome, lt-ltb}
use Rattle.std.specs.Result.{result_ok}
use Rattle.serde_json.specs.Data.{Data, number, unsigned}
use Rattle.wh_events.specs.declared.event.Payload.{Payload}
use Rattle.wh_events.specs.declared.key.RunKey.{RunKey}
use Rattle.wh_json.specs.Fields.{field, list_in, number_of}
use Rattle.wh_messages.specs.declared.response.ActivityPoll.TheVariants as activity
use Rattle.wh_messages.specs.declared.response.PolledActivity.{PolledActivity}
use Rattle.wh_commands.specs.ReadBack.{HaveBytes}
use Rattle.wh_messages.specs.Responses.{Page, Task, task, page_in, run_in, task_in, activity_in, activity_type, info_in, query_or_task, poll_of_token, activity_of_token, workflow_poll, activity_poll}
use Rattle.wh_messages.specs.Served.{IsNamed, IsTold, page_result, run_result, task_result, activity_result, activity_with}
use Rattle.wh_messages.proofs.Tasks.{activity_made, info_made}
use Rattle.wh_commands.proofs.Lists.{list_back}
use Rattle.wh_commands.proofs.Reading.{payloads_back, some_text_is}

number_back : (n : ℕ) → n < 2 ^ 63 → number_of (number (unsigned n)) ≡ Some n
unfolding number_of
number_back n small = rw (lt-ltb n (2 ^ 63) small, lt-ltb n (2 ^ 63) small) refl

run_back : (run : RunKey) → IsNamed run → run_in (Some (run_result run)) ≡ Some run
unfolding run_in field
run_back run are = rw (some_text_is run.workflow_id are.0, some_text_is run.run_id are.1) refl

pub page_back : (page : Page) → page_in (page_result page) ≡ Some page
unfolding page_in field list_in
page_back page = rw (list_back page.members) refl

task_back : (polled : Task) → IsNamed polled.run → polled.attempt < 2 ^ 63 → task_in polled.token (task_result polled) ≡ Some polled
unfolding task_in page_in field list_in
task_back polled run attempt =
    rw (number_back polled.attempt attempt, run_back polled.run run, list_back polled.members) refl

token_there : (token : List ℕ) (d : Data) (polled : Task) → token ≢ [] → query_or_task token d (field (codes "query") (Some d)) ≡ task polled
    → poll_of_token d (Some token) ≡ task polled
token_there [] d polled some is = absurd (some refl)
token_there (c ∷ cs) d polled some is = is

pub task_is_read : (polled : Task) → polled.token ≢ [] → IsNamed polled.run → polled.attempt < 2 ^ 63
    → workflow_poll (task_result polled) ≡ task polled
unfolding field
task_is_read polled token run attempt =
    token_there polled.token (task_result polled) polled token (rw (task_back polled run attempt) refl)

activity_token : (token : List ℕ) (d : Data) (polled : PolledActivity) → token ≢ [] → activity_in token d ≡ Some polled
    → activity_of_token d (Some token) ≡ activity.Task polled
activity_token [] d polled some is = absurd (some refl)
activity_token (c ∷ cs) d polled some is = rw is refl

at_least_one : (n : ℕ) → 0 < n → max n 1 ≡ n
at_least_one n some = omega arith

-- an info is read from what a server writes of it
info_back : (polled : PolledActivity) (details : Option (List Payload)) → details ≡ polled.info.heartbeat_details → IfSome details HaveBytes
    → IsTold polled.info → info_in (activity_with polled details) ≡ Some polled.info
unfolding info_in field
info_back polled None same bytes told =
    let attempt = number_back polled.info.attempt told.fits in
    rw attempt (ap Some (info_made polled.info _ _ _ (at_least_one polled.info.attempt told.counted) same (sym told.times)))
info_back polled (Some details) same bytes told =
    let attempt = number_back polled.info.attempt told.fits in
    rw (attempt, payloads_back details bytes) (ap Some (info_made polled.info _ _ _ (at_least_one polled.info.attempt told.counted) same (sym told.times)))

activity_back : (polled : PolledActivity) (details : Option (List Payload)) → details ≡ polled.info.heartbeat_details → IfSome details HaveBytes
    → IsNamed polled.run → polled.id ≢ [] → polled.activity ≢ [] → HaveBytes polled.input → IsTold polled.info
    → activity_in polled.token (activity_with polled details) ≡ Some polled
unfolding activity_type field
activity_back polled None same has run id activity bytes told =
    activity_made polled.token (activity_with polled None) polled.run polled.id polled.activity polled.input polled.info
    (run_back polled.run run) (some_text_is polled.id id) (some_text_is polled.activity activity)
    (ap result_ok (payloads_back polled.input bytes)) (info_back polled None same has told)
activity_back polled (Some details) same has run id activity bytes told =
    activity_made polled.token (activity_with polled (Some details)) polled.run polled.id polled.activity polled.input polled.info
    (run_back polled.run run) (some_text_is polled.id id) (some_text_is polled.activity activity)
    (ap result_ok (payloads_back polled.input bytes)) (info_back polled (Some details) same has told)

activity_there : (polled : PolledActivity) (details : Option (List Payload)) → polled.token ≢ []
    → activity_in polled.token (activity_with polled details) ≡ Some polled → activity_poll (activity_with polled details) ≡ activity.Task polled
unfolding field
activity_there polled None token is = activity_token polled.token (activity_with polled None) polled token is
activity_there polled (Some details) token is = activity_token polled.token (activity_with polled (Some details)) polled token is

pub activity_is_read : (polled : PolledActivity) → polled.token ≢ [] → IsNamed polled.run → polled.id ≢ [] → polled.activity ≢ []
    → HaveBytes polled.input → IsTold polled.info → activity_poll (activity_result polled) ≡ activity.Task polled
activity_is_read polled token run id activity bytes told =
    let details = polled.info.heartbeat_details in
    activity_there polled details token (activity_back polled details refl told.details run id activity bytes told)
