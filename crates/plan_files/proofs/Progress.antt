-- A plan file that is read line by line: the lines so far stand for the plan so far, and what is asked of the others is left.
use Rattle.std.proofs.Common.{◌≡◌, sym, ap, subst, ◌∙◌, ℕ, ◌+◌, ◌≤◌, Bool, true, false, List, [], ◌∷◌, ◌++◌, length, arith, append_assoc, length-append}
use Rattle.std.specs.Prelude.{Ok, Err, if◌then◌else◌}
use Rattle.std.specs.List.{list_all}
use Rattle.std.proofs.lemmas.List.{append-nil}
use Rattle.basics.specs.Texts.{is_blank}
use Rattle.basics.specs.Duties.{AllMet, IsFirstUnmet}
use Rattle.basics.proofs.Duties.{ComesDownTo, ComesDownTo-itself, ComesDownTo-part, ComesDownTo-within}
use Rattle.task_types.specs.declared.parts.TaskParts.{TaskParts}
use Rattle.task_types.specs.declared.plans.PlanLine.{PlanLine}
use Rattle.task_types.specs.Plan.{Plan}
use Rattle.plan_files.specs.declared.faults.LineFault.{LineFault}
use Rattle.plan_files.specs.declared.faults.LineFault.TheVariants.{At, Memory}
use Rattle.plan_files.specs.Lines.{before_comment, written_from, written_lines}
use Rattle.plan_files.specs.PlanWords.{PlanWords, Says}
use Rattle.plan_files.specs.PlanFiles.{Tells, line_duties, duties_from, TellEach, IsPlanFile, ReadsPlan}
use Rattle.plan_files.specs.LineParts.{TakesLine}

abbrev pub TextLines : Type 0
TextLines = List (ℕ × List ℕ)

-- these lines of the text are left, and the others stand for this plan
pub record Reading (task : TaskParts) (all : TextLines) (plan : Plan) (left : TextLines) : Type 0 where
  pub down : ComesDownTo (duties_from task 0 all) (duties_from task (length plan) left)
  pub tells : (more : Plan) → TellEach task left more → TellEach task all (plan ++ more)

pub reading-begin : (task : TaskParts) (all : TextLines) → Reading task all [] all
reading-begin task all = record { down = ComesDownTo-itself (duties_from task 0 all); tells = λ more t. t }

module _ (task : TaskParts) (all : TextLines) (old new : Plan) (line : ℕ × List ℕ) (left : TextLines) (h : Reading task all old (line ∷ left)) where
  further : (l : PlanLine) → new ≡ old ++ l ∷ [] → ((w : PlanWords) × Says line.1 w × Tells task line.0 w l) → AllMet (line_duties task (length old) line) → Reading task all new left
  further l e t met = record {
    down = subst (λ k. ComesDownTo (duties_from task 0 all) (duties_from task k left)) (sym one_more) (ComesDownTo-part _ (line_duties task (length old) line) (duties_from task (length old + 1) left) h.down met);
    tells = λ more s. subst (TellEach task all) (sym (ap (λ p. p ++ more) e ∙ append_assoc old (l ∷ []) more)) (h.tells (l ∷ more) (t, s));
  }
    where
      one_more : length new ≡ length old + 1
      one_more = ap length e ∙ length-append old (l ∷ [])

  pub reading-next : (u : Unit {0}) → TakesLine task old new line (Ok u) → Reading task all new left
  reading-next u t = further t.1.0 t.1.1 t.1.2 t.0

  pub reading-stop : (f : LineFault) → TakesLine task old new line (Err f) → (text : List ℕ) → all ≡ written_lines text → ReadsPlan task text (Err f)
  reading-stop (At m k) u text e = subst (λ ls. IsFirstUnmet (duties_from task 0 ls) (m, k)) e
      (ComesDownTo-within _ (line_duties task (length old) line) (duties_from task (length old + 1) left) (m, k) h.down u)
  reading-stop Memory u text e = tt

pub reading-end : (task : TaskParts) (text : List ℕ) (plan : Plan) → Reading task (written_lines text) plan [] → IsPlanFile task text plan
reading-end task text plan h = record { met = h.down.met tt; tells = subst (TellEach task (written_lines text)) (append-nil plan) (h.tells [] tt) }

abbrev number_of : TextLines → ℕ
number_of [] = 0
number_of (l ∷ ls) = l.0

-- the first line that is not blank has the first number or a later one
pub first_number : (n : ℕ) (lines : List (List ℕ)) (m : ℕ) (line : List ℕ) (rest : TextLines) → written_from n lines ≡ (m, line) ∷ rest → n ≤ m
first_number n [] m line rest e = absurd (cc)
first_number n (l ∷ ls) m line rest e = go (list_all is_blank (before_comment l)) (first_number (n + 1) ls m line rest) e
  where
    go : (b : Bool) → (written_from (n + 1) ls ≡ (m, line) ∷ rest → n + 1 ≤ m) → (if b then written_from (n + 1) ls else (n, before_comment l) ∷ written_from (n + 1) ls) ≡ (m, line) ∷ rest → n ≤ m
    go true later f = omega (arith, later f)
    go false later f = let h : n ≡ m = ap number_of f in omega (arith, h)
