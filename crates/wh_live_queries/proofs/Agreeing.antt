-- The results of queries with a task, one by one, and beside those of queries that come alone.
use Rattle.std.proofs.Common.{◌≡◌, ℕ, List, Option, Some, option_map, Result, Ok, Err, Ordering, Less, Equal, Greater, refl, sym, ap, ◌∙◌}
use Rattle.std.specs.Cmp.Lexicographic.{slice_cmp}
use Rattle.std.specs.Ordering.{match_ordering, nat_cmp}
use Rattle.serde_json.specs.Data.{Data, Members, no_members, member}
use Rattle.serde_json.specs.Find.{get_member}
use Rattle.wh_query.proofs.States.{queries_agree}
use Rattle.wh_query.specs.Queries.{query_at}
use Rattle.wh_workflow.specs.Definitions.{Definitions}
use Rattle.wh_workflow.specs.Queries.{Queries}
use Rattle.wh_workflow.specs.Queries as in_state
use Rattle.wh_workflow.specs.declared.queryable.Query.{Query}
use Rattle.wh_replay.specs.Outcomes.{state_after}
use Rattle.wh_replay.specs.Replays.{workflow_of}
use Rattle.wh_replay.specs.declared.fault.Fault.{Fault}
use Rattle.wh_workflow.specs.Activations.{and_then}
use Rattle.wh_workflow.specs.Law.{Program, IsLawful}
use Rattle.wh_live_queries.specs.Laws.{EachHasItsResult, SameAsAlone}
use Rattle.wh_live_queries.specs.Results.{map_members, result_in, settled, state_or_fault, written_result}

map_at : (o : Ordering) (f : Data → Data) (d : Data) (rest : Option Data)
    → match_ordering o (option_map f rest) (Some (f d)) (option_map f rest) ≡ option_map f (match_ordering o rest (Some d) rest)
map_at Less f d rest = refl
map_at Equal f d rest = refl
map_at Greater f d rest = refl

member_at : (f : Data → Data) (ms : Members) (name : List ℕ)
    → get_member name (map_members f ms) ≡ option_map f (get_member name ms)
member_at f no_members name = refl
member_at f (member own d others) name =
    ap (λ rest. match_ordering (slice_cmp nat_cmp name own) rest (Some (f d)) rest) (member_at f others name)
    ∙ map_at (slice_cmp nat_cmp name own) f d (get_member name others)

module _ {S : Type 0} where
  pub each_has_its_result : (program : Program S) (queries : Queries S) (definitions : Definitions) → EachHasItsResult program queries definitions
  each_has_its_result program queries definitions events asked id =
      member_at (written_result queries definitions (workflow_of events) (state_or_fault (state_after program events))) asked id

  in_words : (queries : Queries S) (left : Result S Fault) (query : Query)
      → result_in queries (state_or_fault left) query
      ≡ settled (and_then left (λ state. Ok (in_state.result_in queries state query.query_type query.input)))
  in_words queries (Ok state) query = refl
  in_words queries (Err fault) query = refl

  pub same_as_alone : (program : Program S) → IsLawful program → (queries : Queries S) → SameAsAlone program queries
  same_as_alone program lawful queries held new query ends confirmed placed none whole =
      in_words queries (state_after program held) query
      ∙ ap settled (sym (queries_agree program lawful queries held new query.query_type query.input ends confirmed placed none))
      ∙ ap (λ events. settled (query_at program queries events query.query_type query.input)) (sym whole)
