use Rattle.std.proofs.Common.{◌∙◌, ◌-◌, ap, sym, rules}
use Rattle.wh_html.specs.Axes.{left, first_of, next_place, steps_to, length_to}
use Rattle.wh_html.proofs.Ways.{GoesTo-more, GoesRight_from, times_more, Begun-more, last_place-more, GapsTo-more, Gaps_from, MarksTo-more, Marks_from, places_on, Places_from}
use Rattle.wh_html.proofs.axis.stops_of.Goals as goal

pub loop-time-preserved : goal.loop-time-preserved
loop-time-preserved c =
    let pushed = c.in_ok-push.ensures.items in
    let so_far = c.loop-time.invariant in
    let way = c.loop-time.way in
    let stops = c.loop-time.stops.items in
    let stop = c.stop_at.result in
    let place = c.stop_at.ensures.place in
    let time = c.stop_at.ensures.time in
    let next = c.way_to-next.ensures in (
      times_more _ _ _ _ _ so_far.0 c.loop-time-test.true pushed (search rules),
      next.right.1,
      (rw pushed (rw (← place) (GoesTo-more left stops way.x stop so_far.2 (search rules)))),
      (search rules),
      (rw pushed (rw (← place) (Begun-more stops c.loop-time.time-index way.x way.millis c.args.times.now stop so_far.4 so_far.3 (search rules) (λ e. place ∙ next.still (sym (time ∙ next.time) ∙ e))))),
      (rw pushed (last_place-more left stops stop ∙ place)),
      (λ d e. next.last (sym next.time ∙ e) (so_far.6 d)),
      (rw pushed (rw (← place) (rw (← time) (GapsTo-more c.args.scale.longest left (first_of c.args.times.now) stops way.x way.millis stop so_far.7 (rw time c.stop_at.ensures.gap))))),
      (rw (pushed, next.free) (rw (← place) (MarksTo-more left stops way.free stop so_far.8 (rw place c.stop_at.ensures.mark)))),
      places_on c.args.scale.steps c.args.scale.whole c.args.scale.longest c.args.scale.last
          (record { steps = 0; far = 0; millis = first_of c.args.times.now; x = left }) stops _ way.steps way.length way.millis way.x
          stop _ _ _ _ so_far.9
          (place ∙ next.place ∙ sym (ap (next_place c.args.scale.steps c.args.scale.whole c.args.scale.longest c.args.scale.last way.steps way.length way.millis way.x) (time ∙ next.time)))
          (next.steps ∙ sym (ap (λ m. steps_to way.steps (m - way.millis)) (time ∙ next.time)))
          (next.length ∙ sym (ap (λ m. length_to c.args.scale.longest way.length (m - way.millis)) (time ∙ next.time)))
          (sym time) (sym place) pushed,
    )

pub returns-clause-places : goal.returns-clause-places
returns-clause-places c = GoesRight_from left c.loop-time.stops.items c.loop-time.way.x c.loop-time.invariant.2 c.loop-time.invariant.1

pub returns-clause-gaps : goal.returns-clause-gaps
returns-clause-gaps c = Gaps_from c.args.scale.longest left (first_of c.args.times.now) c.loop-time.stops.items c.loop-time.way.x c.loop-time.way.millis c.loop-time.invariant.7

pub returns-clause-marks : goal.returns-clause-marks
returns-clause-marks c = Marks_from left c.loop-time.stops.items c.loop-time.way.free c.loop-time.invariant.8

pub returns-clause-stand : goal.returns-clause-stand
returns-clause-stand c =
    Places_from c.args.scale.steps c.args.scale.whole c.args.scale.longest c.args.scale.last
    (record { steps = 0; far = 0; millis = first_of c.args.times.now; x = left }) c.loop-time.stops.items _ c.loop-time.invariant.9
