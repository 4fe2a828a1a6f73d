-- What a page shows, with each text replaced by an empty one.
use Rattle.std.specs.Prelude.{[], map}
use Rattle.std.specs.Option.{option_map}
use Rattle.wh_html.specs.declared.page.Fact.{Fact}
use Rattle.wh_html.specs.declared.page.Difference.{Difference}
use Rattle.wh_html.specs.declared.page.Lane.{Lane}
use Rattle.wh_html.specs.declared.page.Longest.{Longest}
use Rattle.wh_html.specs.declared.page.SumOfType.{SumOfType}
use Rattle.wh_html.specs.declared.page.TaskLine.{TaskLine}
use Rattle.wh_html.specs.declared.page.Task.{Task}
use Rattle.wh_html.specs.declared.page.Page.{Page}

-- a page, and each of its parts, with each text replaced by an empty one
abbrev pub without_fact : Fact → Fact
without_fact fact = record { name = []; value = [] }

abbrev pub without_difference : Difference → Difference
without_difference difference = record difference { code = []; history = [] }

abbrev pub without_lane : Lane → Lane
without_lane lane =
    record lane {
      name = [];
      type_name = option_map (λ _. []) lane.type_name;
      waited = option_map (λ _. []) lane.waited;
      took = option_map (λ _. []) lane.took;
      words = [];
    }

abbrev pub without_longest : Longest → Longest
without_longest longest = record longest { words = [] }

abbrev pub without_sum : SumOfType → SumOfType
without_sum sum =
    record sum {
      name = [];
      median = option_map (λ _. []) sum.median;
      longest = option_map without_longest sum.longest;
    }

abbrev pub without_line : TaskLine → TaskLine
without_line line = record line { text = []; trace = map (λ _. []) line.trace }

abbrev pub without_task : Task → Task
without_task task = record task { heading = []; lines = map without_line task.lines }

unfoldable pub without_texts : Page → Page
without_texts page =
    record page {
      title = [];
      verdict = [];
      facts = map without_fact page.facts;
      waits = map (λ _. []) page.waits;
      difference = option_map without_difference page.difference;
      lanes = map without_lane page.lanes;
      sums = map without_sum page.sums;
      tasks = map without_task page.tasks;
      notes = map (λ _. []) page.notes;
    }
