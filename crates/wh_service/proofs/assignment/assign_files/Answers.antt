use Rattle.std.proofs.Common.{◌≡◌, ◌∙◌, ◌<◌, ◌++◌, ◌∷◌, [], slice_set, sym, ap, map, length, rules, arith}
use Rattle.std.specs.Prelude.{◌%◌, get_or}
use Rattle.std.proofs.Math.Nat.{mod-lt}
use Rattle.std.proofs.lemmas.List.{get_or-map, length-map, length-set, map-append, map-set}
use Rattle.wh_service.specs.Assignment.{assigned_as, assigned_to, history_of}
use Rattle.wh_service.specs.Assignment.{histories_seen}
use Rattle.wh_service.specs.Readings.{reading}
use Rattle.wh_service.proofs.Assigned.{dealt_push}
use Rattle.wh_service.proofs.assignment.assign_files.Goals as goal

-- a file goes to the worker whose turn it is
pub loop-file-preserved : goal.loop-file-preserved
loop-file-preserved c =
    let lists = c.loop-file.lists in
    let seen = map histories_seen lists in
    let first = map histories_seen c.args.lists.now in
    let count = length c.args.lists.now in
    let turn = c.len.result % length lists in
    let old = c.index-lists-worker.result in
    let new = c.assign_file.new.list in
    let files = map reading c.loop-file.yielded in
    let file = reading c.in-Some.file in
    let more : map reading (c.loop-file.yielded ++ (c.in-Some.file ∷ [])) ≡ files ++ (file ∷ []) = map-append reading c.loop-file.yielded (c.in-Some.file ∷ []) in
    let long : length seen ≡ count = length-map lists histories_seen ∙ c.loop-file.invariant.lists in
    let held : length c.loop-file.assigned.items ≡ length files = ap length c.loop-file.invariant.assigned ∙ length-map files assigned_as in
    let done : c.len.result ≡ length files = search (rules, held) in
    let index : c.len-in-loop-file.result ≡ length files = search (rules, held) in
    let at : turn ≡ length files % count = ap (λ n. n % length lists) done ∙ ap (λ n. length files % n) c.loop-file.invariant.lists in
    let some : 0 < length lists = omega (arith, c.requires, c.loop-file.invariant.lists) in
    let inside : turn < length lists = mod-lt c.len.result some in
    let own : old ≡ get_or lists turn old = search rules in
    let shown : get_or seen turn [] ≡ histories_seen old = get_or-map histories_seen lists turn old [] inside ∙ ap histories_seen (sym own) in
    let assigned : histories_seen new ≡ histories_seen old ++ history_of c.len-in-loop-file.result file = search rules in
    let is : histories_seen new ≡ get_or seen turn [] ++ history_of (length files) file =
    assigned ∙ ap (λ n. histories_seen old ++ history_of n file) index ∙ ap (λ l. l ++ history_of (length files) file) (sym shown) in
    let pushed : c.push.new.self.items ≡ c.loop-file.assigned.items ++ (assigned_as file ∷ []) = search rules in
    let kept : c.push.new.self.items ≡ map assigned_as (map reading (c.loop-file.yielded ++ (c.in-Some.file ∷ []))) =
    pushed ∙ ap (λ l. l ++ (assigned_as file ∷ [])) c.loop-file.invariant.assigned ∙ sym (map-append assigned_as files (file ∷ [])) ∙ ap (map assigned_as) (sym more) in
    let sized : length (slice_set lists turn new) ≡ count = length-set lists turn new ∙ c.loop-file.invariant.lists in
    record {
      assigned = kept;
      lists = sized;
      histories = λ worker below.
          ap (λ l. get_or l worker []) (map-set histories_seen lists turn new)
          ∙ dealt_push seen first files file count turn (histories_seen new) long c.requires at is c.loop-file.invariant.histories worker below
          ∙ ap (λ l. get_or first worker [] ++ assigned_to count worker l) (sym more);
    }
