-- The fault of a command, by those before it and by what it does.
use Rattle.std.proofs.Common.{◌≡◌, ℕ, ℤ, false, List, [], length, leb, Option, Some, None, refl, sym, ap, ◌∙◌}
use Rattle.wh_events.specs.declared.event.Event.{Event}
use Rattle.wh_events.specs.Machines.{or_else}
use Rattle.wh_machines.proofs.Options.{or_else_assoc}
use Rattle.wh_workflow.specs.declared.command.Command.{Command}
use Rattle.wh_workflow.specs.declared.command.Command.TheVariants.{Ask}
use Rattle.wh_workflow.specs.declared.fault.WorkflowFault.{WorkflowFault}
use Rattle.wh_workflow.specs.declared.fault.WorkflowFault.TheVariants.{AfterClosing, TooManyCommands}
use Rattle.wh_workflow.specs.Law.{is_ask}
use Rattle.wh_workflow.specs.Scripts.{ActivationContext, Settled, act_of, act_closes, some_act, fault_if, given, most_commands, Choice, choice_of, opening_fault, cancel_fault, ask_fault, act_fault, command_fault}
use Rattle.wh_match.specs.Private.Faults.{early_fault, range_fault}
use Rattle.wh_match.specs.Issuing.{context_at}

pub fault_in_parts : (context : ActivationContext) (settled : Settled) (earlier : List Command) (command : Command) → command_fault context settled earlier command ≡ or_else (early_fault earlier) (act_fault context settled earlier (act_of command))
unfolding command_fault
fault_in_parts context settled earlier command = sym (or_else_assoc (fault_if (some_act act_closes earlier) AfterClosing) (fault_if (leb most_commands (length (given earlier))) TooManyCommands) (act_fault context settled earlier (act_of command)))

-- what is not an ask is judged without the record and the versions
judged_alike : (events : List Event) (previous cut : ℕ) (recorded : Option (List Event)) (settled : Settled) (earlier : List Command) (command : Command) → is_ask command ≡ false
    → act_fault (context_at events previous cut recorded) settled earlier (act_of command) ≡ act_fault (context_at events previous cut None) [] earlier (act_of command)
unfolding opening_fault cancel_fault
judged_alike events previous cut recorded settled earlier (Ask change_id low high) h = cc
judged_alike events previous cut recorded settled earlier _ h = refl

-- a command that follows none has the fault of that
pub early_found : (context : ActivationContext) (settled : Settled) (earlier : List Command) (command : Command) (fault : WorkflowFault) → Some fault ≡ early_fault earlier → Some fault ≡ command_fault context settled earlier command
early_found context settled earlier command fault e = sym (fault_in_parts context settled earlier command ∙ ap (λ o. or_else o (act_fault context settled earlier (act_of command))) (sym e))

-- and else that of what it does, which for all but an ask is the same whatever the record and the versions
pub act_found : (events : List Event) (previous cut : ℕ) (recorded : Option (List Event)) (settled : Settled) (earlier : List Command) (command : Command) → is_ask command ≡ false
    → (own : Option WorkflowFault) → None ≡ early_fault earlier → own ≡ act_fault (context_at events previous cut None) [] earlier (act_of command)
    → own ≡ command_fault (context_at events previous cut recorded) settled earlier command
act_found events previous cut recorded settled earlier command h own e d =
    let context = context_at events previous cut recorded in
    d ∙ sym (fault_in_parts context settled earlier command ∙ ap (λ o. or_else o (act_fault context settled earlier (act_of command))) (sym e) ∙ judged_alike events previous cut recorded settled earlier command h)

-- an ask has the fault that its version has, where no command before it forbids any
pub asked_fault : (context : ActivationContext) (settled : Settled) (earlier : List Command) (change_id : List ℕ) (low high : ℤ) (choice : Choice) → choice_of context settled change_id high ≡ choice
    → (fault : Option WorkflowFault) → fault ≡ or_else (early_fault earlier) (range_fault choice.version low high) → fault ≡ command_fault context settled earlier (Ask change_id low high)
unfolding ask_fault
asked_fault context settled earlier change_id low high choice chosen fault e =
    e ∙ ap (λ (c : Choice). or_else (early_fault earlier) (range_fault c.version low high)) (sym chosen) ∙ sym (fault_in_parts context settled earlier (Ask change_id low high))
