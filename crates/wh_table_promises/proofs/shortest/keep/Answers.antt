use Rattle.std.proofs.Common.{length, refl, ap}
use Rattle.wh_table_promises.proofs.Fewer.{good_before, leads_all, leads_more, leads_end}
use Rattle.wh_table_promises.proofs.shortest.keep.Goals as goal

pub loop-job-init : goal.loop-job-init
loop-job-init c = record { leads = leads_all _ _ _ _ _ _; good = refl }

pub loop-job-preserved : goal.loop-job-preserved
loop-job-preserved c =
    let good = c.in_ok-go_on.ensures.good c.if-not-branch.false in
    record {
      leads = λ rest. c.loop-job.invariant.leads (leads_more _ _ _ _ _ _ _ _ c.loop-job-test.true good rest);
      good = good_before _ _ _ _ c.loop-job.found.configs.items c.go_on.new.found.configs.items (length c.as_slice-end.result.now)
          (ap length c.as_slice-end.ensures.value) c.in_ok-go_on.ensures.on good;
    }

pub returns : goal.returns
returns c = λ is. c.loop-job.invariant.leads (leads_end _ _ _ _ _ _ _ c.loop-job-test.false)
