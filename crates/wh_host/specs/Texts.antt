-- The text of the counts of a host.
use Rattle.std.specs.Prelude.{ℕ, List, ◌++◌, codes, decimal}
use Rattle.wh_host.specs.declared.reply.Totals.{Totals}

-- `taken <taken>, completed <completed>, failed <failed>, in hand <in hand>`
abbrev pub totals_text : Totals → List ℕ
totals_text totals =
    codes "taken " ++ (decimal totals.taken
    ++ (codes ", completed " ++ (decimal totals.completed
    ++ (codes ", failed " ++ (decimal totals.failed
    ++ (codes ", in hand " ++ decimal totals.in_hand))))))
