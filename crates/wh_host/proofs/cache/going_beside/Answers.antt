use Rattle.std.proofs.Common.{◌≡◌, ◌≤◌, length, refl, sym, ap, ◌∙◌, arith}
use Rattle.wh_host.specs.Cache.{held_by, fitting}
use Rattle.wh_host.proofs.Fitting.{beside, beside-others, beside-last_same, fitting-all, one_goes}
use Rattle.wh_host.proofs.cache.going_beside.Goals as goal
use Rattle.wh_host.proofs.cache.going_beside.Goals.{then-room-count, else-room-count+then-left-held}

pub last-init : goal.last-init
last-init g c =
    let all = beside-others c.args.key.now c.args.runs.now.entries c.requires.distinct in
    rw c.iter-rest.ensures.rest (c.requires.count ∙ ap length (sym all), c.requires.held ∙ ap held_by (sym all), omega arith, refl)

pub overflow_sub-held : goal.overflow_sub-held
overflow_sub-held g c =
    let over : c.last.count ≤ c.args.room → c.last.held ≤ c.args.left → ⊥ = λ fits enough. elim c.if-room-count.branch [
      | then-room-count w ↦ omega (arith, w.if-room-count.true, fits)
      | else-room-count+then-left-held w ↦ omega (arith, w.if-left-held.true, enough)
    ] in
    let goes = one_goes c.args.key.now c.last.rest c.next_back.new.self _ c.args.room c.args.left c.last.count c.last.held c.in-Some.ensures.steps (sym c.eq.ensures ∙ c.if-eq.false) c.last.invariant.0 c.last.invariant.1 over in
    let less = goes.1 in
    let len = c.weight-held.ensures.weight in
    omega (arith, less, len)

pub last-preserved : goal.last-preserved
last-preserved g c =
    let over : c.last.count ≤ c.args.room → c.last.held ≤ c.args.left → ⊥ = λ fits enough. elim c.if-room-count.branch [
      | then-room-count w ↦ omega (arith, w.if-room-count.true, fits)
      | else-room-count+then-left-held w ↦ omega (arith, w.if-left-held.true, enough)
    ] in
    let goes = one_goes c.args.key.now c.last.rest c.next_back.new.self _ c.args.room c.args.left c.last.count c.last.held c.in-Some.ensures.steps (sym c.eq.ensures ∙ c.if-eq.false) c.last.invariant.0 c.last.invariant.1 over in
    let one = goes.0 in
    let less = goes.1 in
    let len = c.weight-held.ensures.weight in
    let sum = c.last.invariant.2 in
    (omega (arith, one), omega (arith, less, len), omega (arith, one, sum), goes.2 ∙ c.last.invariant.3)

pub last-preserved-then-eq : goal.last-preserved-then-eq
last-preserved-then-eq g c =
    let last : beside c.args.key.now c.last.rest ≡ beside c.args.key.now c.next_back.new.self = ap (beside c.args.key.now) c.in-Some.ensures.steps ∙ beside-last_same c.args.key.now c.next_back.new.self (c.in-Some.other.now, c.in-Some.weighed.now) (sym c.eq.ensures ∙ c.if-eq.true) in
    (c.last.invariant.0 ∙ ap length last, c.last.invariant.1 ∙ ap held_by last, c.last.invariant.2, ap (fitting c.args.room c.args.left) (sym last) ∙ c.last.invariant.3)

pub returns : goal.returns
returns g c =
    let key = c.args.key.now in
    let all = beside-others key c.args.runs.now.entries c.requires.distinct in
    let counted = c.last.invariant.0 in
    let held = c.last.invariant.1 in
    let sum = c.last.invariant.2 in
    let same = c.last.invariant.3 in
    let first = c.requires.count in
    let fits = fitting-all c.args.room c.args.left (beside key c.last.rest) (omega (arith, counted, c.if-room-count.false)) (omega (arith, held, c.if-left-held.false)) in
    let every : fitting c.args.room c.args.left (beside key c.args.runs.now.entries) ≡ c.last.count = sym same ∙ fits ∙ sym counted in
    let first : c.args.count ≡ length (beside key c.args.runs.now.entries) = first ∙ ap length (sym all) in
    rw (← all) (omega (arith, every, sum, first))
