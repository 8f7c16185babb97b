use Rattle.std.proofs.Common.{◌≡◌, List, ℕ, true, false, sym, subst, ◌∙◌}
use Rattle.std.specs.Prelude.{IsTrue}
use Rattle.basics.proofs.Bools.{not_true}
use Rattle.task_types.specs.declared.parts.TaskParts.{TaskParts}
use Rattle.plan_files.specs.PlanWords.{PlanWords, Says}
use Rattle.plan_files.specs.PlanFiles.{has_bracket}
use Rattle.plan_files.specs.WordsSeen.{words_seen}
use Rattle.plan_files.proofs.WordsIn.{says-one}
use Rattle.plan_files.proofs.plan_lines.words_of.Goals as goal

lacking : (task : TaskParts) (line : List ℕ) (v : PlanWords) → Says line v → has_bracket task v ≡ false → (w : PlanWords) → Says line w → IsTrue (has_bracket task w) → ⊥
lacking task line v s n w t h =
    let e : has_bracket task v ≡ true = subst (λ (u : PlanWords). has_bracket task u ≡ true) (says-one line w v t s) h in
    let f : true ≡ false = sym e ∙ n in cc

pub returns-then-branch : goal.returns-then-branch
returns-then-branch c = lacking c.args.names.now.task.now.parts c.args.line.now (words_seen c.in-Some.text) c.in-Some.ensures
    (not_true (has_bracket c.args.names.now.task.now.parts (words_seen c.in-Some.text)) (sym c.in_ok-lacks_bracket-in-Some.ensures ∙ c.if-branch.true))
