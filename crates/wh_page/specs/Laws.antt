-- What holds of every page.
use Rattle.std.specs.Prelude.{◌≡◌, ◌≤◌, ℕ, true, List, ◌++◌, take, length, All}
use Rattle.std.specs.List.{list_any}
use Rattle.wh_html.specs.Html.{Html, bytes}
use Rattle.wh_html.specs.Tags.{tags}
use Rattle.wh_html.specs.declared.page.TaskLine.{TaskLine}
use Rattle.wh_html.specs.declared.page.Page.{Page}
use Rattle.wh_html.specs.declared.axis.Stop.{Stop}
use Rattle.wh_html.specs.Without.{without_texts}
use Rattle.wh_page.specs.Frames.{verdict_html}
use Rattle.wh_page.specs.Sums.{sum_html}
use Rattle.wh_page.specs.Tables.{row_html}
use Rattle.wh_page.specs.TaskTexts.{is_fault, shown_lines, task_html}
use Rattle.wh_page.specs.Pages.{page_html}

-- two templates that begin between tags have the same tags, and both end between tags
abbrev pub HaveSameTags : Html → Html → Type 0
HaveSameTags one other =
    (after behind : List ℕ) → tags after ≡ tags behind → tags (bytes one ++ after) ≡ tags (bytes other ++ behind)

-- the tags of a page are those of the page without its texts, also with further HTML that has the same tags: no text
-- becomes part of a tag
abbrev pub TextsAreNoTags : Type 0
TextsAreNoTags =
    (stops : List Stop) (page : Page) (more other : Html) → HaveSameTags more other
    → tags (bytes (page_html stops page more)) ≡ tags (bytes (page_html stops (without_texts page) other))

-- a task shows 40 lines at most, and one that has the fault, if there is one
abbrev pub FaultHasALine : Type 0
FaultHasALine =
    (lines : List TaskLine) → (length (shown_lines lines) ≤ 40)
    × (list_any (λ line. is_fault line.side) lines ≡ true
    → list_any (λ line. is_fault line.side) (shown_lines lines) ≡ true)

-- a part is contained in a whole, in one piece
pub record StandsIn (whole part : List ℕ) : Type 0 where
  pub before : List ℕ
  pub after : List ℕ
  pub joined : whole ≡ before ++ (part ++ after)

-- a page contains these parts of it
pub record HasParts (page : Page) (html : List ℕ) : Type 0 where
  pub verdict : StandsIn html (bytes (verdict_html page))
  pub sums : All (λ sum. StandsIn html (bytes (sum_html sum))) (take 100 page.sums)
  pub things : All (λ lane. StandsIn html (bytes (row_html page.fault lane))) page.lanes
  pub tasks : All (λ task. StandsIn html (bytes (task_html task))) page.tasks

-- every page contains its parts
abbrev pub ShowsItsParts : Type 0
ShowsItsParts = (stops : List Stop) (page : Page) (more : Html) → HasParts page (bytes (page_html stops page more))
