use Rattle.std.proofs.Common.{refl}
use Rattle.wh_diagnostics.proofs.Unread.{unread_at}
use Rattle.wh_diagnostics.proofs.listing.folder_of.Goals as goal

-- nothing can be read there
pub returns-in-Err-clause-refused : goal.returns-in-Err-clause-refused
returns-in-Err-clause-refused g c =
    (unread_at c.args.dir c.in-Err.fault c.unreadable_path.result c.unreadable_path.ensures.unreadable c.unreadable_path.ensures.memory, refl)
