use Rattle.std.proofs.Common.{◌∙◌, subst}
use Rattle.std.specs.List.{AllZip}
use Rattle.wh_file_faults.proofs.Collected.{one_fault}
use Rattle.wh_service.proofs.Made.{collected}
use Rattle.wh_service.proofs.parallel.all_made.Goals as goal

-- the chain goes over the files in their order
pub returns-in_ok-split_faults-in-Ok-told-clause-made : goal.returns-in_ok-split_faults-in-Ok-told-clause-made
returns-in_ok-split_faults-in-Ok-told-clause-made g c =
    let h = c.in-Ok.ensures in
    let chain = rw (c.map.ensures.base, c.map.ensures.f) at h.1 in
    let from = rw c.with_min_len.ensures.base at chain.1 in
    let zipped = subst (λ files. AllZip (λ file given. g.F.Fn.post c.args.make (file, tt) given) files h.0) (from ∙ c.into_par_iter.ensures) chain.2 in
    let parts = c.in_ok-split_faults-in-Ok-told in
    collected (λ file given. g.F.Fn.post c.args.make (file, tt) given) c.args.files.items h.0 c.in-Ok.told c.in-Ok-told.told parts.field-0.0.items parts.field-0.1.items zipped h.2 c.in-Ok-told.is parts.ensures.made parts.ensures.faults

-- and a fault is that of one of them
pub returns-in-Err-clause-fault : goal.returns-in-Err-clause-fault
returns-in-Err-clause-fault g c =
    let h = c.in-Ok.ensures in
    let chain = rw (c.map.ensures.base, c.map.ensures.f) at h.1 in
    let from = rw c.with_min_len.ensures.base at chain.1 in
    let zipped = subst (λ files. AllZip (λ file given. g.F.Fn.post c.args.make (file, tt) given) files h.0) (from ∙ c.into_par_iter.ensures) chain.2 in
    one_fault (λ file given. g.F.Fn.post c.args.make (file, tt) given) c.args.files.items h.0 c.in-Err.fault zipped (rw c.in-Err.is at h.2)
