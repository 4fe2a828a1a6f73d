-- The page of a run.
use Rattle.std.specs.Prelude.{◌≡◌, ℕ, List, length}
use Rattle.std.specs.Option.{option_map}
use Rattle.wh_html.specs.declared.page.Page.{Page}
use Rattle.wh_view.specs.declared.view.View.{View}
use Rattle.wh_view.specs.declared.view.ViewedThing.{ViewedThing}
use Rattle.wh_run_page.specs.declared.said.Said.{Said}
use Rattle.wh_run_page.specs.Moments.{times_of, moment_of, event_at, index_at}
use Rattle.wh_run_page.specs.Choices.{AreChosen, weight}
use Rattle.wh_run_page.specs.Rows.{firsts_of, row_count, placed_things}
use Rattle.wh_run_page.specs.Lanes.{lanes_of}
use Rattle.wh_run_page.specs.Sums.{sums_of}
use Rattle.wh_run_page.specs.Tasks.{earlier_of, groups_of, shown_tasks}
use Rattle.wh_run_page.specs.Facts.{facts_of, notes_of}
use Rattle.wh_run_page.specs.Waits.{waits_of}

-- the page of a run whose events have these times, with these of its things
unfoldable pub timed_page : View → List ℕ → Said → (shown : List ViewedThing) → Page
timed_page view times said shown =
    let fault = option_map (moment_of times) (event_at view.events (index_at said.place)) in
    record {
      title = said.title;
      verdict = said.verdict;
      good = said.good;
      facts = facts_of view times;
      waits = waits_of view;
      difference = said.difference;
      fault = fault;
      lanes = lanes_of view times (placed_things view shown);
      rows = row_count (firsts_of view shown);
      things = length view.things;
      sums = sums_of view;
      tasks = shown_tasks view times said.place fault;
      earlier = earlier_of view times fault;
      all_tasks = length (groups_of view.tasks);
      notes = notes_of view said.note;
    }

-- the page of a run, with those of its things that it shows
pub record IsPageOf (view : View) (said : Said) (page : Page) : Type 0 where
  pub shown : List ViewedThing
  pub chosen : AreChosen (weight view (times_of view.events) (index_at said.place)) view.things shown
  pub is : page ≡ timed_page view (times_of view.events) said shown
