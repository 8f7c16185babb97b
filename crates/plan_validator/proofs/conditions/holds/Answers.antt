use Rattle.std.proofs.Common.{◌∙◌, [], ◌&&◌, ap, sym, subst, length}
use Rattle.std.specs.List.{AllByRecursion, list_all, flat_map}
use Rattle.exact_lin.specs.Forms.{Covers}
use Rattle.task_types.specs.State.{holds, literal_holds, comparison_holds}
use Rattle.timed_meaning.specs.Answers.{told, Defined}
use Rattle.timed_meaning.proofs.Amounts.{part-fault}
use Rattle.plan_validator.specs.Readings.{one_value}
use Rattle.plan_validator.proofs.conditions.holds.Goals as goal

pub forms_hold-requires : goal.forms_hold-requires
forms_hold-requires c = subst (AllByRecursion (λ e. Covers (length c.args.fluents.now) e.terms)) (sym c.as_slice.ensures) c.requires

pub returns-in-Ok : goal.returns-in-Ok
unfolding holds
returns-in-Ok c = (
  subst (λ xs. Defined (flat_map (one_value (told [] c.args.fluents.now)) xs)) c.as_slice.ensures c.in-Ok.ensures.0,
  c.both.ensures ∙ ap (λ b. b && c.in-Ok.forms) (c.literals_hold.ensures ∙ ap (list_all (λ l. literal_holds l (told c.args.facts.now []).facts)) c.as_slice-in-Ok.ensures)
      ∙ ap (λ b. list_all (λ l. literal_holds l (told c.args.facts.now []).facts) c.args.condition.now.literals && b) (c.in-Ok.ensures.1 ∙ ap (list_all (λ e. comparison_holds e (told [] c.args.fluents.now).fluents)) c.as_slice.ensures),
)

pub returns-in-Err : goal.returns-in-Err
returns-in-Err c = part-fault c.in-Err.fault _ _ _ _ (λ d. subst (λ xs. Defined (flat_map (one_value (told [] c.args.fluents.now)) xs)) (sym c.as_slice.ensures) d) c.in-Err.ensures
