use Rattle.std.proofs.Common.{subst, sym, rules}
use Rattle.std.specs.Io.BufRead.{FillKeeps}
use Rattle.wh_rpc.specs.Private.Input.{ReadsOn}
use Rattle.wh_rpc.proofs.Parts.{part_read}
use Rattle.wh_rpc.proofs.input.read_on.Goals as goal

pub returns : goal.returns
returns g c =
    let rested = c.fill_buf.follows.lender-at-none in
    let filled = subst (FillKeeps _ (g.B.Read.remaining rested) (g.B.BufRead.consumable_len rested)) c.in-Ok.is c.fill_buf.follows.holds-at-none in
    let found = c.line_length-count.result.1 in
    let count = c.line_length-count.result.0 in
    subst (ReadsOn (g.B.Read.remaining c.args.input.now) (g.B.Read.remaining c.consume.new.self) c.args.line.now.items c.extend_from_slice.new.self.items) (sym c.is_read.ensures)
    (part_read (g.B.Read.remaining c.args.input.now) (g.B.Read.remaining rested) (g.B.Read.remaining c.consume.new.self) (g.B.BufRead.consumable_len rested)
    c.in-Ok.shown.now c.at_most-shown.result.now c.args.line.now.items c.extend_from_slice.new.self.items _ count found
    c.requires (search rules) c.in-Ok.ensures.front c.in-Ok.ensures.end filled.0 filled.1 c.consume.ensures.bytes
    c.at_most-shown.ensures c.line_length-count.ensures.within c.line_length-count.ensures.through c.line_length-count.ensures.end
    c.in_ok-extend_from_slice.ensures.items)
