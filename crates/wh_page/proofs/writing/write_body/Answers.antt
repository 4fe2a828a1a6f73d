use Rattle.wh_page.proofs.writing.write_body.Goals as goal

pub returns : goal.returns
returns g c = c.write_parts.ensures
