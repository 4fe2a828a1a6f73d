use Rattle.wh_file_page.proofs.command.page_command.Goals as goal

-- the page of what was read
pub returns-in-Ok-clause-paged : goal.returns-in-Ok-clause-paged
returns-in-Ok-clause-paged g c =
    let file = c.in_ok-file in
    let made = c.in_ok-own in record {
      view = file.file.view;
      viewed = file.ensures.view;
      page = made.own.page;
      shows = made.ensures.page c.args.only_recorded file.ensures.read;
      stops = made.own.axis.stops;
      axis = made.ensures.axis;
      table = made.own.table;
      brought = made.ensures.table c.args.only_recorded file.ensures.read;
      written = c.in-Ok.ensures;
    }
