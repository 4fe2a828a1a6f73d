use Rattle.std.proofs.Common.{◌≡◌, ◌∙◌, ℕ, Some, None, drop, option_map, if◌then◌else◌, refl, sym, ap, subst, arith}
use Rattle.wh_events.specs.Cuts.{cuts, commanded, is_recorded, record_of}
use Rattle.wh_split.specs.Splits.{first_of}
use Rattle.wh_match.specs.Issuing.{context_at}
use Rattle.wh_replay.specs.Views.{span_events}
use Rattle.wh_replay.proofs.Stepping.{next_is}
use Rattle.wh_replay.proofs.cuts.cut_after.Goals as goal

pub record_after-requires : goal.record_after-requires
record_after-requires c =
    let last : ℕ = c.args.last in
    let found = ap (λ l. first_of (cuts (drop last l))) (sym c.events.ensures.events) ∙ (sym c.next_cut.ensures.next ∙ c.in_ok-number.was) in
    let n = next_is c.args.track.now last c.in_ok-number.number c.events.ensures.in_place c.requires found in
    omega (arith, n.within, c.get.ensures.kept)

pub returns-clause-some : goal.returns-clause-some
returns-clause-some c =
    let track = c.args.track.now in
    let last : ℕ = c.args.last in
    let number : ℕ = c.in_ok-number.number in
    let found = ap (λ l. first_of (cuts (drop last l))) (sym c.events.ensures.events) ∙ (sym c.next_cut.ensures.next ∙ c.in_ok-number.was) in
    let n = next_is track last number c.events.ensures.in_place c.requires found in
    let P : ℕ → Type 0 = λ k. option_map (λ span. commanded (span_events track span)) c.record_after.result ≡ (if is_recorded (drop k track) then Some (record_of (drop k track)) else None) in
    let recorded : P number = subst P c.get.ensures.kept c.record_after.ensures.record in
    record {
      history = refl;
      previous = refl;
      first = n.counts;
      within = record { rising = n.past; within = n.within; span = c.record_after.ensures.span };
      context = ap (context_at track last number) recorded;
    }
