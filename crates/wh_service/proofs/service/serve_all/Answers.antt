use Rattle.std.proofs.Common.{◌≡◌, length, map, subst, rules}
use Rattle.std.specs.Prelude.{Ok}
use Rattle.wh_service.specs.Rows.{rows_from, failures_from}
use Rattle.wh_service.specs.Services.{HostsBy}
use Rattle.wh_service.specs.Readings.{reading}
use Rattle.wh_service.proofs.Workers.{all_five, setups_are, service_is}
use Rattle.wh_service.proofs.service.serve_all.Goals as goal

-- what is gathered is the service of a host that was run on setups over what its workers were assigned
pub returns : goal.returns
returns g c =
    let hosts : HostsBy = λ config setups end. g.F.Fn.post c.args.host (config, (setups, tt)) (Ok end) in
    let end = c.in_ok-end.end in
    let config = c.args.config in
    let readings = map reading c.args.files.items in
    let sources = c.in_ok-assigned.sources.items in
    let setups = c.in_ok-setups.setups in
    let many : length sources ≡ config.seats = search rules in
    let opened = setups_are config.seats readings sources setups.items many c.in_ok-assigned.ensures.histories c.in_ok-setups.ensures.sources c.in_ok-setups.ensures.turns in
    all_five c.gather.result
    (λ service rows totals faultless failures uncompared.
    service_is hosts config readings setups end service.rows.items service.totals service.faultless service.failures.items service.uncompared
    opened c.in_ok-end.ensures
    (subst (λ assigned. service.rows.items ≡ rows_from (map (λ left. left.source) end.workers.items) 0 assigned) c.in_ok-assigned.ensures.assigned rows)
    totals faultless
    (subst (λ assigned. service.failures.items ≡ failures_from (map (λ left. left.source) end.workers.items) 0 assigned) c.in_ok-assigned.ensures.assigned failures)
    uncompared)
    c.gather.ensures.rows c.gather.ensures.totals c.gather.ensures.faultless c.gather.ensures.failures c.gather.ensures.uncompared
