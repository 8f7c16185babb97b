use Rattle.std.proofs.Common.{sym, ◌∙◌}
use Rattle.command_words.specs.Grammar.{texts}
use Rattle.planner_core.proofs.Statuses.{facts_of}
use Rattle.planner_core.proofs.Headlines.{prints_valid, prints_invalid}
use Rattle.planner_core.proofs.session.run.Goals as goal

pub returns-in-Ok-put-clause-fault_name : goal.returns-in-Ok-put-clause-fault_name
returns-in-Ok-put-clause-fault_name g c =
    (facts_of (texts c.args.words.now) _ _ _ c.in-Ok.ensures).fault_name

pub returns-clause-fault_name : goal.returns-clause-fault_name
returns-clause-fault_name g c =
    (facts_of (texts c.args.words.now) _ _ _ c.in-Ok.ensures).fault_name

pub returns-in-Ok-put-clause-valid : goal.returns-in-Ok-put-clause-valid
returns-in-Ok-put-clause-valid g c =
    λ e. prints_valid (texts c.args.words.now) _ _ _ _ _ _ c.in-Ok.ensures c.in-Ok-put.ensures c.text.ensures (sym c.status.ensures ∙ e)

pub returns-in-Ok-put-clause-invalid : goal.returns-in-Ok-put-clause-invalid
returns-in-Ok-put-clause-invalid g c =
    λ e. prints_invalid (texts c.args.words.now) _ _ _ _ _ _ c.in-Ok.ensures c.in-Ok-put.ensures c.text.ensures (sym c.status.ensures ∙ e)
