use Rattle.std.proofs.Common.{◌≡◌, ◌-◌, true, map, take}
use Rattle.wh_rows.specs.Deciding.{each}
use Rattle.wh_table_lines.specs.Lines.{line_seen}
use Rattle.wh_table_promises.specs.Private.Seen.{turn_seen, config_seen}
use Rattle.wh_table_promises.specs.Private.Found.{is_good, Leads}
use Rattle.wh_table_promises.proofs.shortest.keep.Given as goal

-- where the jobs that are left lead on from what is found now, all do from what was; and those of the jobs before are good
abbrev pub invariant-loop-job : goal.invariant-loop-job
invariant-loop-job l = record {
  leads : Leads l.rules.tops (map turn_seen l.rules.turns.now) l.budget (map line_seen l.rules.lines.now) (l.jobs - l._job)
      (map config_seen l.found.configs.items)
      → Leads l.rules.tops (map turn_seen l.rules.turns.now) l.budget (map line_seen l.rules.lines.now) l.jobs
      (map config_seen l.initial.found.configs.items);
  good : each (is_good l.rules.tops (map turn_seen l.rules.turns.now) l.budget (map line_seen l.rules.lines.now)
      (map config_seen l.found.configs.items)) (take l.from (map config_seen l.found.configs.items)) ≡ true;
}
