use Rattle.wh_table_picture.specs.Pages.{page_html}
use Rattle.wh_table_picture.proofs.page.write_page.Goals as goal

-- with the findings and the rows in it
pub returns : goal.returns
unfolding page_html
returns g c = rw (c.get.ensures, c.get-2.ensures, c.get-3.ensures, c.get-4.ensures) at c.write.ensures.bytes
