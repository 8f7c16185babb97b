-- A line that is read part by part has met what is asked of it, or not met the first thing that it is refused for.
use Rattle.std.proofs.Common.{◌≡◌, refl, sym, ap, subst, ◌∙◌, ℕ, ◌<◌, Bool, true, false, not, ◌||◌, List, [], ◌∷◌, length, inl, inr}
use Rattle.std.specs.Prelude.{IsTrue, Option, Some, None, is_some, is_none, option_to_list, Result, Ok, Err, if◌then◌else◌}
use Rattle.std.specs.Option.{unwrap_or}
use Rattle.std.specs.List.{AllByRecursion}
use Rattle.basics.specs.Duties.{Duty, AllMet, IsFirstUnmet}
use Rattle.basics.proofs.Bools.{and_in}
use Rattle.basics.proofs.Naturals.{lt_in}
use Rattle.basics.proofs.Duties.{AllMet-append, IsFirstUnmet-left, IsFirstUnmet-right}
use Rattle.rational.specs.Rational.{ℚ}
use Rattle.task_types.specs.declared.parts.TaskParts.{TaskParts}
use Rattle.task_types.specs.declared.plans.PlanLine.{PlanLine}
use Rattle.task_types.specs.Plan.{Plan, action_of}
use Rattle.timed_meaning.specs.TimedPlans.{EndIsDefined}
use Rattle.plan_text.proofs.ReadingLemmas.{one_number}
use Rattle.plan_files.specs.declared.faults.LineKind.{LineKind}
use Rattle.plan_files.specs.declared.faults.LineKind.TheVariants.{Shape, Number, Name, Unground, Order, Limit, Wide}
use Rattle.plan_files.specs.declared.faults.LineFault.{LineFault}
use Rattle.plan_files.specs.declared.faults.LineFault.TheVariants.{At, Memory}
use Rattle.plan_files.specs.declared.plan_lines.LineParts.{LineParts}
use Rattle.plan_files.specs.declared.plan_lines.LineNumbers.{LineNumbers}
use Rattle.plan_files.specs.PlanWords.{PlanWords, Says}
use Rattle.plan_files.specs.Names.{is_typed, action_named, names_durative}
use Rattle.plan_files.specs.PlanFiles.{StandsFor, IsNumber, Lasts, Tells, has_bracket, form_duties, end_duties, line_duties, TellEach}
use Rattle.plan_files.specs.LineParts.{ReadsBracket, ReadsNumbers, line_of, ReadsParts, ReadsLine, PushesParts, TakesLine}
use Rattle.plan_files.proofs.WordsIn.{says-one}

-- ---- a line stands for one line of a plan
pub stands-one : (bytes : List ℕ) (q r : ℚ) → StandsFor bytes q → StandsFor bytes r → q ≡ r
stands-one bytes q r s t = one_number bytes q r s.0 t.0

lasts-one : (b : Bool) (d : Option (List ℕ)) (o p : Option ℚ) → Lasts b d o → Lasts b d p → o ≡ p
lasts-one true (Some d) (Some q) (Some r) s t = ap Some (stands-one d q r s t)
lasts-one true (Some d) (Some q) None s t = absurd t
lasts-one true (Some d) None p s t = absurd s
lasts-one true None o p s t = absurd s
lasts-one false d (Some q) p s t = absurd s
lasts-one false d None (Some r) s t = absurd t
lasts-one false d None None s t = refl

pub tells-one : (task : TaskParts) (number : ℕ) (w : PlanWords) (l m : PlanLine) → Tells task number w l → Tells task number w m → l ≡ m
tells-one task number w l m s t =
    let actions : Some l.action ≡ Some m.action = sym s.action ∙ t.action in
    let action : l.action ≡ m.action = ap (λ o. unwrap_or o 0) actions in
    let starts = stands-one w.start l.at m.at s.starts t.starts in
    let line : l.line ≡ m.line = s.line ∙ sym t.line in
    let durations = lasts-one (is_some (action_of task m.action).end) w.duration l.duration m.duration (subst (λ a. Lasts (is_some (action_of task a).end) w.duration l.duration) action s.lasts) t.lasts in
    whole l.action m.action l.at m.at l.duration m.duration l.line m.line action starts durations line
  where
    whole : (a b : ℕ) (p q : ℚ) (d e : Option ℚ) (i j : ℕ) → a ≡ b → p ≡ q → d ≡ e → i ≡ j → ◌≡◌ {A = PlanLine} (record { action = a; at = p; duration = d; line = i }) (record { action = b; at = q; duration = e; line = j })
    whole a b p q d e i j f g h k = cc

-- ---- a line is refused
module _ (task : TaskParts) (number : ℕ) (line : List ℕ) where
  abbrev duties : List (Duty (ℕ × LineKind))
  duties = form_duties task (number, line)

  module _ (w : PlanWords) (says : Says line w) (bracket : IsTrue (has_bracket task w)) where
    -- what holds of the words holds of all words of the line
    of_all : (P : PlanWords → Type 0) → P w → (v : PlanWords) → Says line v → P v
    of_all P p v s = subst P (says-one line w v says s) p

    pub refused_number : ¬ AllByRecursion IsNumber (w.start ∷ option_to_list w.duration) → IsFirstUnmet (form_duties task (number, line)) (number, Number)
    refused_number not_so = inr ((w, says, bracket), inl ((λ m. not_so (m w says)), refl))

    numbers_met : (n : LineNumbers) → ReadsNumbers w (Some n) → AllByRecursion IsNumber (w.start ∷ option_to_list w.duration)
    numbers_met n r = ((n.start, r.0), brackets w.duration n.bracket r.1)
      where
        brackets : (d : Option (List ℕ)) (b : Option ℚ) → ReadsBracket d (Some b) → AllByRecursion IsNumber (option_to_list d)
        brackets None b h = tt
        brackets (Some d) (Some q) h = ((q, h), tt)
        brackets (Some d) None h = absurd h

    module _ (n : LineNumbers) (numbers : ReadsNumbers w (Some n)) where
      all_numbers : (v : PlanWords) → Says line v → AllByRecursion IsNumber (v.start ∷ option_to_list v.duration)
      all_numbers = of_all (λ v. AllByRecursion IsNumber (v.start ∷ option_to_list v.duration)) (numbers_met n numbers)

      all_typed : IsTrue (is_typed task w.name w.args) → (v : PlanWords) → Says line v → IsTrue (is_typed task v.name v.args)
      all_typed t = of_all (λ v. IsTrue (is_typed task v.name v.args)) t

      refused_name : ¬ IsTrue (is_typed task w.name w.args) → IsFirstUnmet duties (number, Name)
      refused_name not_so = inr ((w, says, bracket), inr (all_numbers, inl ((λ m. not_so (m w says)), refl)))

      refused_unground : IsTrue (is_typed task w.name w.args) → ¬ IsTrue (is_some (action_named task w.name w.args)) → IsFirstUnmet duties (number, Unground)
      refused_unground t not_so = inr ((w, says, bracket), inr (all_numbers, inr (all_typed t, inl ((λ m. not_so (m w says)), refl))))

      form_met : IsTrue (is_typed task w.name w.args) → (l : PlanLine) → Tells task number w l → AllMet duties
      form_met t l s = (
        (w, says, bracket),
        (
          all_numbers,
          (
            all_typed t,
            (of_all (λ v. IsTrue (is_some (action_named task v.name v.args))) (ap is_some s.action), tt),
          ),
        ),
      )

      at_kind : (k : LineKind) (m : ℕ) → ReadsParts task number w (Err (At m k)) → IsFirstUnmet duties (m, k)
      at_kind Shape m r = absurd r
      at_kind Number m r = absurd r
      at_kind Name m r = subst (λ i. IsFirstUnmet duties (i, Name)) (sym r.0) (refused_name r.1)
      at_kind Unground m r = subst (λ i. IsFirstUnmet duties (i, Unground)) (sym r.0) (refused_unground r.1 r.2)
      at_kind (Order f) m r = absurd r
      at_kind Limit m r = absurd r
      at_kind Wide m r = absurd r

      pub line-read : (r : Result LineParts LineFault) → ReadsParts task number w r → ReadsLine task number line r
      line-read (Ok p) r = (form_met r.0 (line_of p number) r.1, (w, says, r.1), r.2)
      line-read (Err (At m k)) r = at_kind k m r
      line-read (Err Memory) r = tt

  pub refused_shape : ((w : PlanWords) → Says line w → IsTrue (has_bracket task w) → ⊥) → IsFirstUnmet (form_duties task (number, line)) (number, Shape)
  refused_shape not_so = inl ((λ m. not_so m.0 m.1 m.2), refl)

-- ---- the parts of a line
module _ (task : TaskParts) (number : ℕ) (w : PlanWords) (n : LineNumbers) (a : ℕ) where
  lasts_by : (e nd : Bool) (d : Option (List ℕ)) (b : Option ℚ) → (e ≡ true → nd ≡ true) → (not nd || is_some d) ≡ true → ReadsBracket d (Some b)
      → Lasts e d (if e then b else None) × ((if e then is_some (if e then b else None) else is_none (if e then b else None)) ≡ true)
  lasts_by true nd (Some d) (Some q) t h r = (r, refl)
  lasts_by true nd (Some d) None t h r = absurd r
  lasts_by true true None b t h r = absurd (cc)
  lasts_by true false None b t h r = absurd (let f = t refl in cc)
  lasts_by false nd d b t h r = (tt, refl)

  pub parts-read : (p : LineParts) → p ≡ record { action = a; start = n.start; duration = (if is_some (action_of task a).end then n.bracket else None) }
      → IsTrue (has_bracket task w) → ReadsNumbers w (Some n) → IsTrue (is_typed task w.name w.args) → action_named task w.name w.args ≡ Some a
      → a < length task.actions → (is_some (action_of task a).end ≡ true → names_durative task w.name ≡ true) → ReadsParts task number w (Ok p)
  parts-read p e bracket numbers typed found below durative =
      let lasts = lasts_by (is_some (action_of task a).end) (names_durative task w.name) w.duration n.bracket durative bracket numbers.1 in
      subst (λ (q : LineParts). ReadsParts task number w (Ok q)) (sym e)
      (typed, record { action = found; starts = numbers.0; lasts = lasts.0; line = refl }, and_in _ _ (lt_in a (length task.actions) below) lasts.1)

-- ---- a line is put at the end
module _ (task : TaskParts) (old new : Plan) (line : ℕ × List ℕ) (p : LineParts) (r : ReadsLine task line.0 line.1 (Ok p)) where
  end_met : EndIsDefined (line_of p line.0) → (w : PlanWords) (l : PlanLine) → Says line.1 w → Tells task line.0 w l → EndIsDefined l
  end_met d w l s t =
      let same = says-one line.1 r.1.0 w r.1.1 s in
      subst EndIsDefined (tells-one task line.0 w (line_of p line.0) l (subst (λ v. Tells task line.0 v (line_of p line.0)) same r.1.2) t) d

  at_kind_pushed : (k : LineKind) (m : ℕ) → PushesParts task old new line.0 p (Err (At m k)) → IsFirstUnmet (line_duties task (length old) line) (m, k)
  at_kind_pushed Shape m h = absurd h
  at_kind_pushed Number m h = absurd h
  at_kind_pushed Name m h = absurd h
  at_kind_pushed Unground m h = absurd h
  at_kind_pushed (Order f) m h = absurd h
  at_kind_pushed Limit m h = IsFirstUnmet-right (form_duties task line) (end_duties task (length old) line) (m, Limit) r.0 (inl (h.1, ap (λ i. (i, Limit)) (sym h.0)))
  at_kind_pushed Wide m h = IsFirstUnmet-right (form_duties task line) (end_duties task (length old) line) (m, Wide) r.0 (inr (h.1, inl ((λ d. h.2 (d r.1.0 (line_of p line.0) r.1.1 r.1.2)), ap (λ i. (i, Wide)) (sym h.0))))

  pub line-taken : (o : Result Unit LineFault) → PushesParts task old new line.0 p o → TakesLine task old new line o
  line-taken (Ok u) h = (AllMet-append (form_duties task line) (end_duties task (length old) line) r.0 (h.0, (end_met h.1, tt)), (line_of p line.0, h.2, r.1), h.3)
  line-taken (Err (At m k)) h = at_kind_pushed k m h
  line-taken (Err Memory) h = tt

-- a line that isn't read is not put at the end
pub line-refused : (task : TaskParts) (old new : Plan) (line : ℕ × List ℕ) (f : LineFault) → ReadsLine task line.0 line.1 (Err f) → TakesLine task old new line (Err f)
line-refused task old new line (At m k) u = IsFirstUnmet-left (form_duties task line) (end_duties task (length old) line) (m, k) u
line-refused task old new line Memory u = tt

-- ---- a text stands for one plan
pub plans-one : (task : TaskParts) (lines : List (ℕ × List ℕ)) (p q : Plan) → TellEach task lines p → TellEach task lines q → p ≡ q
plans-one task [] [] [] s t = refl
plans-one task [] [] (m ∷ ms) s t = absurd t
plans-one task [] (l ∷ ls) q s t = absurd s
plans-one task (line ∷ lines) [] q s t = absurd s
plans-one task (line ∷ lines) (l ∷ ls) [] s t = absurd t
plans-one task (line ∷ lines) (l ∷ ls) (m ∷ ms) s t =
    let same = says-one line.1 t.0.0 s.0.0 t.0.1 s.0.1 in
    let first : l ≡ m = tells-one task line.0 s.0.0 l m s.0.2 (subst (λ w. Tells task line.0 w m) same t.0.2) in
    ap (λ x. x ∷ ls) first ∙ ap (λ xs. m ∷ xs) (plans-one task lines ls ms s.1 t.1)
