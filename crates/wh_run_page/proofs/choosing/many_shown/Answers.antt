use Rattle.std.proofs.Common.{◌∙◌, ◌-◌, ap}
use Rattle.wh_run_page.specs.Choices.{weight, heaviest}
use Rattle.wh_run_page.proofs.choosing.many_shown.Goals as goal

pub returns : goal.returns
returns c =
    let weigh = weight c.args.view.now c.args.times.now c.args.fault in
    record {
      least = c.least_of-least.result;
      is_least = c.least_of-least.ensures.least;
      are =
          c.in_ok-own.ensures
          ∙ ap (λ room. heaviest weigh c.least_of-least.result room c.args.things.now)
          (c.saturating_sub-room.ensures ∙ ap (λ count. 300 - count) c.count_from.ensures);
    }
