use Rattle.std.proofs.Common.{◌<◌, ◌∙◌, length, sym, arith, rules}
use Rattle.wh_view_report.specs.Digits.{alike_texts}
use Rattle.wh_view_report.proofs.Plain.{ended, ends_sooner, goes_otherwise}
use Rattle.wh_view_report.proofs.digits.alike_bytes.Goals as goal
use Rattle.wh_view_report.proofs.digits.alike_bytes.Goals.{then-at-other-via-then-at-other, then-at-other-via-else-at-other+then-other-at}

pub returns-then-at-other : goal.returns-then-at-other
unfolding alike_texts
returns-then-at-other c =
    let one = c.args.one.now in
    let other = c.args.other.now in
    let i = c.loop-byte.byte-index in
    let at = c.loop-byte.at in
    let next = c.next_plain-at.result in
    let e = c.next_plain-at.ensures in
    elim c.then-at-other.branch [
      | then-at-other-via-then-at-other w ↦ sym (ends_sooner one other i at next c.loop-byte-test.true (search rules) e.same (omega (arith, w.if-at-other.true))) ∙ c.loop-byte.invariant.1
      | then-at-other-via-else-at-other+then-other-at w ↦
          let within : next < length other = omega (arith, w.if-at-other.false, e.within) in
          sym (goes_otherwise one other i at next c.loop-byte-test.true (search rules) e.same within (e.stops within) (search rules)) ∙ c.loop-byte.invariant.1
    ]

pub returns : goal.returns
unfolding alike_texts
returns c =
    let e = c.next_plain.ensures in
    ended c.args.one.now c.args.other.now c.loop-byte.byte-index c.loop-byte.at c.next_plain.result c.loop-byte-test.false e.same e.within e.stops ∙ c.loop-byte.invariant.1
