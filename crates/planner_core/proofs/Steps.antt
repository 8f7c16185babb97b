-- Right answers, and the steps that lead to them.
use Rattle.std.proofs.Common.{◌≡◌, ◌⊎◌, inl, inr, ◌≤◌, ℕ, List, length, refl, sym, ◌∙◌, ap, subst, Option, Some, None, Result, Ok, Err, IfOk}
use Rattle.std.proofs.lemmas.Option.{none-some}
use Rattle.sexpr_text.specs.Forms.{Lexed}
use Rattle.pddl_terms.specs.declared.faults.PddlFault.{PddlFault}
use Rattle.pddl_terms.specs.declared.faults.PddlFault.TheVariants as pddl
use Rattle.pddl_terms.specs.Files.{MayRefuseFile, IsFileFault}
use Rattle.pddl_terms.specs.declared.files.Domain.{Domain}
use Rattle.pddl_terms.specs.declared.files.Problem.{Problem}
use Rattle.pddl_problem.specs.Readings.{IsProblem}
use Rattle.grounder.specs.Accepted.{IsAccepted}
use Rattle.grounder.specs.Answer.{Answers}
use Rattle.accepted_files.proofs.Promises.{readers_promise}
use Rattle.outside.specs.declared.desk.TheConstants.{LONGEST_FILE}
use Rattle.grounder.specs.declared.faults.GroundFault.{GroundFault}
use Rattle.task_types.specs.declared.parts.Rules.{Rules}
use Rattle.task_types.specs.declared.parts.TaskParts.{TaskParts}
use Rattle.task_types.specs.Plan.{Plan}
use Rattle.timed_meaning.specs.declared.faults.MeaningFault.{MeaningFault}
use Rattle.timed_meaning.specs.declared.faults.MeaningFault.TheVariants.{Wide}
use Rattle.plan_files.specs.declared.faults.LineFault.{LineFault}
use Rattle.plan_files.specs.declared.faults.LineFault.TheVariants.{At, Memory}
use Rattle.plan_files.specs.PlanFiles.{ReadsPlan}
use Rattle.plan_validator.specs.declared.verdicts.Verdict.{Verdict}
use Rattle.plan_validator.specs.Verdicts.{IsWideAt, Validates as Judges}
use Rattle.planner_core.specs.Answers.{Answer, DomainRefused, ProblemRefused, GroundRefused, PlanRefused, WideAt, Decided, IsAnswer, said_of, Validates}
use Rattle.planner_core.specs.Replies.{Said}
use Rattle.planner_core.specs.Validations.{pddl_said, ground_said, wide_said, verdict_said}
use Rattle.planner_core.specs.Steps.{After, Ground, ReadPlan, refused_plan, OfPlan, OfTask, OfTexts, Tells, IsReadDomain, fault_said}

module _ (rules : Rules) (domain problem text : List ℕ) where
  abbrev IsRight : Answer → Type 0
  IsRight = IsAnswer rules domain problem text

  pub to_steps : (a : Answer) → IsRight a → OfTexts rules domain problem text a
  to_steps (DomainRefused f) h = inl (f, (h, refl))
  to_steps (ProblemRefused f) h = inr (h.0, (h.1.0, inl (f, (h.1.1, refl))))
  to_steps (GroundRefused f) (d, (p, (files, h))) = inr (d, (files.domain_read, inr (p, (files.problem_read, inl (f, (h, refl))))))
  to_steps (PlanRefused n k) (task, (made, h)) =
      inr (made.domain, (made.files.domain_read, inr (made.problem, (made.files.problem_read, inr (task, (made.ground, inl ((n, k), (h, refl))))))))
  to_steps (WideAt n) (task, (plan, (read, h))) =
      inr (read.made.domain, (read.made.files.domain_read, inr (read.made.problem, (read.made.files.problem_read, inr (task, (read.made.ground, inr (plan, (read.plan_read, inl (n, (h, refl))))))))))
  to_steps (Decided v) (task, (plan, (read, h))) =
      inr (read.made.domain, (read.made.files.domain_read, inr (read.made.problem, (read.made.files.problem_read, inr (task, (read.made.ground, inr (plan, (read.plan_read, inr (v, (h, refl))))))))))

  pub of_steps : (a : Answer) → OfTexts rules domain problem text a → IsRight a
  of_steps a (inl (f, (h, e))) = subst IsRight (sym e) h
  of_steps a (inr (d, (h, inl (f, (k, e))))) = subst IsRight (sym e) (d, (h, k))
  of_steps a (inr (d, (h, inr (p, (k, inl (f, (g, e))))))) = subst IsRight (sym e) (d, (p, (record { domain_read = h; problem_read = k }, g)))
  of_steps a (inr (d, (h, inr (p, (k, inr (task, (g, inl (at, (r, e))))))))) =
      subst IsRight (sym e) (task, (record { domain = d; problem = p; files = record { domain_read = h; problem_read = k }; ground = g }, r))
  of_steps a (inr (d, (h, inr (p, (k, inr (task, (g, inr (plan, (r, inl (n, (w, e))))))))))) =
      subst IsRight (sym e) (task, (plan, (record { made = record { domain = d; problem = p; files = record { domain_read = h; problem_read = k }; ground = g }; plan_read = r }, w)))
  of_steps a (inr (d, (h, inr (p, (k, inr (task, (g, inr (plan, (r, inr (v, (w, e))))))))))) =
      subst IsRight (sym e) (task, (plan, (record { made = record { domain = d; problem = p; files = record { domain_read = h; problem_read = k }; ground = g }; plan_read = r }, w)))

  -- a reply that tells an answer by steps tells a right answer
  pub validates : {E : Type 0} (reply : Result Said E) → IfOk reply (Tells (OfTexts rules domain problem text)) → IfOk reply (Validates rules domain problem text)
  validates (Ok said) is = record { answer = is.answer; right = of_steps is.answer is.right; told = is.told }
  validates (Err e) is = tt

-- ---- one step of the work

module _ {A F E : Type 0} (Step : Result A F → Type 0) (refused : F → Answer) (rest : A → Answer → Type 0) where
  -- the step makes something, and the rest is told
  pub made : (x : A) (reply : Result Said E) → Step (Ok x) → IfOk reply (Tells (rest x)) → IfOk reply (Tells (After Step refused rest))
  made x (Ok said) is h = record { answer = h.answer; right = inr (x, (is, h.right)); told = h.told }
  made x (Err e) is h = tt

  -- the step has a fault, which is told, where it isn't that memory ran out
  pub stopped : (f : F) (reply : Result Said E) → (Step (Err f) ⊎ (said_of (refused f) ≡ None)) → IfOk reply (λ said. said_of (refused f) ≡ Some said) → IfOk reply (Tells (After Step refused rest))
  stopped f (Ok said) (inl is) e = record { answer = refused f; right = inl (f, (is, refl)); told = e }
  stopped f (Ok said) (inr none) e = absurd (none-some said (sym none ∙ e))
  stopped f (Err _) is e = tt

-- ---- what calls say of their steps

module _ {A : Type 0} (wrong : Lexed → List ℕ) (told : Lexed → A) (later : A → Option PddlFault) (text : List ℕ) where
  -- a file is refused for what is wrong with it, or nothing is said since memory ran out
  pub refused_file : (word : List ℕ) (fault : PddlFault) → MayRefuseFile wrong told later text fault → IsFileFault wrong told later text fault ⊎ (pddl_said word fault ≡ None)
  refused_file word (pddl.Lex f) h = inl h
  refused_file word (pddl.At kind place) h = inl h
  refused_file word pddl.Memory h = inr refl

-- ---- what is read makes what is grounded

-- a problem of a domain that was read is such as the grounder asks for
pub accepted : (domain : Domain) (text : List ℕ) (problem : Problem) → IsReadDomain domain → length text ≤ LONGEST_FILE → IsProblem domain text problem → IsAccepted domain problem
accepted domain text problem is short read = readers_promise is.text text domain problem is.short short is.read read

-- the grounder refuses, or nothing is said since memory ran out
pub not_grounded : (domain : Domain) (problem : Problem) (fault : GroundFault) → Answers domain problem (Err fault) → Ground domain problem (Err fault) ⊎ (ground_said fault ≡ None)
not_grounded domain problem fault (inl e) = inl e
not_grounded domain problem fault (inr e) = inr (ap ground_said e)

-- a plan file is refused, and that is told
pub not_read : {E : Type 0} (rules : Rules) (task : TaskParts) (text : List ℕ) (fault : LineFault) (reply : Result Said E) → ReadsPlan task text (Err fault)
    → IfOk reply (λ said. fault_said fault ≡ Some said) → IfOk reply (Tells (OfTask rules text task))
not_read rules task text (At line kind) reply is e = stopped (ReadPlan task text) refused_plan (OfPlan rules task) (line, kind) reply (inl is) e
not_read rules task text Memory (Ok said) is e = absurd (none-some said e)
not_read rules task text Memory (Err _) is e = tt

-- a plan is judged, and that is told
pub decided : {E : Type 0} (rules : Rules) (task : TaskParts) (plan : Plan) (verdict : Verdict) (reply : Result Said E) → Judges (Ok verdict) task rules plan
    → IfOk reply (λ said. said ≡ verdict_said verdict) → IfOk reply (Tells (OfPlan rules task plan))
decided rules task plan verdict (Ok said) is e = record { answer = Decided verdict; right = inr (verdict, (is, refl)); told = ap (λ (s : Said). Some s) (sym e) }
decided rules task plan verdict (Err _) is e = tt

-- something that the plan reckons passes 128 bits, and that is told
pub wide : {E : Type 0} (rules : Rules) (task : TaskParts) (plan : Plan) (fault : MeaningFault) (happening : ℕ) (reply : Result Said E) → Judges (Err fault) task rules plan → fault ≡ Wide happening
    → IfOk reply (λ said. said ≡ wide_said happening) → IfOk reply (Tells (OfPlan rules task plan))
wide rules task plan fault happening (Ok said) is same e =
    let at : IsWideAt task rules plan happening = subst (λ (f : MeaningFault). Judges (Err f) task rules plan) same is in
    record { answer = WideAt happening; right = inl (happening, (at, refl)); told = ap (λ (s : Said). Some s) (sym e) }
wide rules task plan fault happening (Err _) is same e = tt
