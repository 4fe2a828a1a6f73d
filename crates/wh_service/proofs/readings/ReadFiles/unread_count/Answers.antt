use Rattle.std.proofs.Common.{◌≡◌, ◌∙◌, sym, arith}
use Rattle.std.specs.Prelude.{count_by}
use Rattle.std.proofs.lemmas.Grind.{common_steps}
use Rattle.wh_service.specs.Readings.{is_unread, reading}
use Rattle.wh_service.proofs.FilesRead.{count_of_marks}
use Rattle.wh_service.proofs.readings.ReadFiles.unread_count.Goals as goal

-- the files that are counted are those with a mark
pub returns : goal.returns
returns c =
    let files = c.args.self.now.files.items in
    let own : c.count.result ≡ count_by (λ file. is_unread (reading file)) files = grind (arith, common_steps) in
    record { count = own ∙ sym (count_of_marks files) }
