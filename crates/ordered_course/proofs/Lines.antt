-- The plan steps of a timed plan of an ordering are those of its list, in another order.
use Rattle.std.proofs.Common.{◌≡◌, refl, sym, ap, ap₂, subst, ◌∙◌, ℕ, Bool, true, false, cond, ◌||◌, List, [], ◌∷◌, ◌++◌, map, Option, Some, None, append_assoc, arith}
use Rattle.std.specs.Prelude.{not, ◌==◌, if◌then◌else◌, option_to_list, IsPermutation}
use Rattle.std.specs.List.{filter, flat_map}
use Rattle.std.proofs.lemmas.List.{append-nil, map-append}
use Rattle.std.proofs.lemmas.List.Sorted.{IsPermutation-refl, IsPermutation-trans, IsPermutation-cons, IsPermutation-append_comm, IsPermutation-append_left, IsPermutation-append_right}
use Rattle.rational.specs.Rational.{ℚ, zeroℚ, ◌-ℚ◌}
use Rattle.rational.proofs.Ring.{law, ◌⊕◌, ◌⊖◌, ◌≐◌}
use Rattle.rational.proofs.Field.{ℚ_ring}
use Rattle.basics.proofs.Bools.{and_left, and_right, not_true}
use Rattle.basics.proofs.Naturals.{same_out, same_itself}
use Rattle.task_types.specs.declared.actions.SnapKind.{SnapKind}
use Rattle.task_types.specs.declared.actions.SnapKind.TheVariants.{Start, End, Instant, Timed}
use Rattle.task_types.specs.declared.parts.TaskParts.{TaskParts}
use Rattle.task_types.specs.Sets.{is_in, are_distinct}
use Rattle.task_types.specs.Plan.{Step, action_of, snap_of, line_steps, end_step}
use Rattle.task_types.specs.Order.{run_on}
use Rattle.task_types.specs.Agreement.{end_time, begun, begun_lines}
use Rattle.task_types.proofs.StepCounts.{other_way, distinct_more, distinct_chosen, without, nothing_lost}
use Rattle.ordered_course.specs.Lines.{started_on}
use Rattle.ordered_course.proofs.Listed.{step_at, listed, plan_listed, MayCome, Closes, AreOwned}

abbrev or_none : Option ℕ → ℕ
or_none None = 0
or_none (Some s) = s

-- the end of a running action, in what is left of the list
abbrev end_of_action : TaskParts → (ℕ → ℚ) → List (ℕ × ℚ) → ℕ → Step
end_of_action task started ps a = step_at (end_time task a ps) (or_none (action_of task a).end) (end_time task a ps -ℚ started a)

-- two orders of one list of steps
moved_first : (x : Step) (xs ys : List Step) → IsPermutation (xs ++ x ∷ ys) (x ∷ xs ++ ys)
moved_first x [] ys = IsPermutation-refl (x ∷ ys)
moved_first x (y ∷ xs) ys = IsPermutation-trans (y ∷ xs ++ x ∷ ys) (y ∷ x ∷ xs ++ ys) (x ∷ y ∷ xs ++ ys) (IsPermutation-cons y (xs ++ x ∷ ys) (x ∷ xs ++ ys) (moved_first x xs ys)) (IsPermutation-append_left (xs ++ ys) (y ∷ x ∷ []) (x ∷ y ∷ []) (IsPermutation-append_comm (y ∷ []) (x ∷ [])))

-- one of some numbers put first
put_first : (g : ℕ → Step) (a : ℕ) (xs : List ℕ) → are_distinct xs ≡ true → is_in a xs ≡ true → IsPermutation (map g xs) (g a ∷ map g (without a xs))
put_first g a [] h k = let c : false ≡ true = k in cc
put_first g a (x ∷ xs) h k = go (x == a) refl k (put_first g a xs (and_right (not (is_in x xs)) (are_distinct xs) h))
  where
    go : (b : Bool) → (x == a) ≡ b → (b || is_in a xs) ≡ true → (is_in a xs ≡ true → IsPermutation (map g xs) (g a ∷ map g (without a xs)))
        → IsPermutation (g x ∷ map g xs) (g a ∷ map g (cond (not (a == x || false)) (x ∷ without a xs) (without a xs)))
    go true e k r = let s : x ≡ a = same_out x a e in
        subst (λ c. IsPermutation (g x ∷ map g xs) (g a ∷ map g (cond (not (c || false)) (x ∷ without a xs) (without a xs)))) (sym (ap (λ y. a == y) s ∙ same_itself a))
        (subst (λ l. IsPermutation (g x ∷ map g xs) (g a ∷ map g l)) (sym (nothing_lost a xs (subst (λ y. is_in y xs ≡ false) s (not_true (is_in x xs) (and_left (not (is_in x xs)) (are_distinct xs) h)))))
        (subst (λ y. IsPermutation (g y ∷ map g xs) (g a ∷ map g xs)) (sym s) (IsPermutation-refl (g a ∷ map g xs))))
    go false e k r = subst (λ c. IsPermutation (g x ∷ map g xs) (g a ∷ map g (cond (not (c || false)) (x ∷ without a xs) (without a xs)))) (sym (other_way a x ∙ e))
        (IsPermutation-trans (g x ∷ map g xs) (g x ∷ g a ∷ map g (without a xs)) (g a ∷ g x ∷ map g (without a xs))
        (IsPermutation-cons (g x) (map g xs) (g a ∷ map g (without a xs)) (r k))
        (IsPermutation-append_left (map g (without a xs)) (g x ∷ g a ∷ []) (g a ∷ g x ∷ []) (IsPermutation-append_comm (g x ∷ []) (g a ∷ []))))

-- two maps that agree on the numbers of a list
same_map : (g h : ℕ → Step) (xs : List ℕ) → ((x : ℕ) → is_in x xs ≡ true → g x ≡ h x) → map g xs ≡ map h xs
same_map g h [] e = refl
same_map g h (x ∷ xs) e = ap₂ (λ (y : Step) (l : List Step). y ∷ l) (e x (ap (λ b. b || is_in x xs) (same_itself x))) (same_map g h xs (λ y i. e y (or_true (x == y) (is_in y xs) i)))
  where
    or_true : (b c : Bool) → c ≡ true → (b || c) ≡ true
    or_true true c i = refl
    or_true false c i = i

kept_is_in : (p : ℕ → Bool) (x : ℕ) (xs : List ℕ) → is_in x (filter p xs) ≡ true → (is_in x xs ≡ true) × (p x ≡ true)
kept_is_in p x [] h = let c : false ≡ true = h in (c, absurd (never c))
  where
    never : false ≡ true → ⊥
    never c = cc
kept_is_in p x (y ∷ ys) h = go (p y) refl h (kept_is_in p x ys)
  where
    later : (b : Bool) → is_in x ys ≡ true → (b || is_in x ys) ≡ true
    later true e = refl
    later false e = e

    here : (b : Bool) → (y == x) ≡ b → p y ≡ true → (b || is_in x (filter p ys)) ≡ true → (is_in x (filter p ys) ≡ true → (is_in x ys ≡ true) × (p x ≡ true)) → ((b || is_in x ys) ≡ true) × (p x ≡ true)
    here true s e h r = (refl, subst (λ z. p z ≡ true) (same_out y x s) e)
    here false s e h r = r h

    go : (b : Bool) → p y ≡ b → is_in x (cond b (y ∷ filter p ys) (filter p ys)) ≡ true → (is_in x (filter p ys) ≡ true → (is_in x ys ≡ true) × (p x ≡ true)) → (is_in x (y ∷ ys) ≡ true) × (p x ≡ true)
    go true e h r = here (y == x) refl e h r
    go false e h r = (later (y == x) (r h).0, (r h).1)

module _ (task : TaskParts) (owned : AreOwned task) where
  abbrev is_end : (k : SnapKind) → Bool
  is_end Start = false
  is_end End = true
  is_end Instant = false
  is_end Timed = false

  -- a step that is no end ends no action
  no_end : (s a : ℕ) (k : SnapKind) → (snap_of task s).kind ≡ k → is_end k ≡ false → (o : Option ℕ) → (action_of task a).end ≡ o → is_in s (option_to_list o) ≡ false
  no_end s a k e n None h = refl
  no_end s a k e n (Some t) h = go (t == s) refl
    where
      clash : is_end k ≡ true → ⊥
      clash c = let d : true ≡ false = sym c ∙ n in cc

      go : (b : Bool) → (t == s) ≡ b → (b || false) ≡ false
      go false q = refl
      go true q = absurd (clash (ap is_end (sym e ∙ owned.end_kind a s (h ∙ ap Some (same_out t s q)))))

  -- the end of one action ends no other
  other_end : (s a b : ℕ) → (action_of task a).end ≡ Some s → (a == b) ≡ false → (o : Option ℕ) → (action_of task b).end ≡ o → is_in s (option_to_list o) ≡ false
  other_end s a b h n None k = refl
  other_end s a b h n (Some t) k = go (t == s) refl
    where
      clash : (a b : ℕ) → a ≡ b → (a == b) ≡ false → ⊥
      clash a b e n = grind (arith, e, n)

      go : (c : Bool) → (t == s) ≡ c → (c || false) ≡ false
      go false q = refl
      go true q = absurd (clash a b (owned.own_end a b s h (k ∙ ap Some (same_out t s q))) n)

  skipped : (a : ℕ) (p : ℕ × ℚ) (ps : List (ℕ × ℚ)) → is_in p.0 (option_to_list (action_of task a).end) ≡ false → end_time task a (p ∷ ps) ≡ end_time task a ps
  skipped a p ps h = ap (λ b. if b then p.1 else end_time task a ps) h

  Goal : (ℕ → ℚ) → List (ℕ × ℚ) → List ℕ → Type 0
  Goal started ps running = IsPermutation (flat_map (line_steps task) (begun_lines task ps) ++ map (end_of_action task started ps) running) (plan_listed task started ps)

  -- the line of a start has its start, and its end in what is left
  line_is : (a s : ℕ) (t : ℚ) (started : ℕ → ℚ) (ps : List (ℕ × ℚ)) (e : ℕ) → (action_of task a).start ≡ s → (o : Option ℕ) → (action_of task a).end ≡ o → o ≡ Some e → (d : ℚ) → end_time task a ps -ℚ t ≡ d → started a ≡ t
      → step_at t (action_of task a).start d ∷ end_step (record { action = a; at = t; duration = Some d; line = 0 }) o ≡ step_at t s d ∷ step_at (end_time task a ps) (or_none o) (end_time task a ps -ℚ started a) ∷ []
  line_is a s t started ps e h o k q d is st = rw (h, q, st, sym is) (ap (λ u. step_at t s (end_time task a ps -ℚ t) ∷ step_at u e (end_time task a ps -ℚ t) ∷ []) (law ℚ_ring (t ∷ end_time task a ps ∷ []) (λ t u. t ⊕ (u ⊖ t) ≐ u) refl))

  module _ (p : ℕ × ℚ) (ps : List (ℕ × ℚ)) (running : List ℕ) (started : ℕ → ℚ) where
    abbrev rest : List Step
    rest = flat_map (line_steps task) (begun_lines task ps)

    -- ends of actions that the step doesn't end
    ends_kept : (now : ℕ → ℚ) (rs : List ℕ) → ((b : ℕ) → is_in b rs ≡ true → (is_in p.0 (option_to_list (action_of task b).end) ≡ false) × (started b ≡ now b)) → map (end_of_action task started (p ∷ ps)) rs ≡ map (end_of_action task now ps) rs
    ends_kept now rs h = same_map (end_of_action task started (p ∷ ps)) (end_of_action task now ps) rs (λ b i. ap₂ (λ (u v : ℚ). step_at u (or_none (action_of task b).end) (u -ℚ v)) (skipped b p ps (h b i).0) (h b i).1)

    start_case : (a : ℕ) → (snap_of task p.0).kind ≡ Start → (snap_of task p.0).action ≡ Some a → is_in a running ≡ false
        → IsPermutation (rest ++ map (end_of_action task (started_on Start (Some a) p.1 started) ps) (running ++ a ∷ [])) (plan_listed task (started_on Start (Some a) p.1 started) ps)
        → IsPermutation ((line_steps task (record { action = a; at = p.1; duration = Some (end_time task a ps -ℚ p.1); line = 0 }) ++ rest) ++ map (end_of_action task started (p ∷ ps)) running) (step_at p.1 p.0 (end_time task a ps -ℚ p.1) ∷ plan_listed task (started_on Start (Some a) p.1 started) ps)
    start_case a k o out ih =
        let now : ℕ → ℚ = started_on Start (Some a) p.1 started in
        let at : now a ≡ p.1 = ap (λ b. if b then p.1 else started a) (same_itself a) in
        let s : List Step = map (end_of_action task now ps) running in
        let e : Step = end_of_action task now ps a in
        let l : line_steps task (record { action = a; at = p.1; duration = Some (end_time task a ps -ℚ p.1); line = 0 }) ≡ step_at p.1 p.0 (end_time task a ps -ℚ p.1) ∷ e ∷ [] = line_is a p.0 p.1 now ps (owned.starts p.0 a k o).1.0 (owned.starts p.0 a k o).0 (action_of task a).end refl (owned.starts p.0 a k o).1.1 (end_time task a ps -ℚ p.1) refl at in
        subst (λ xs. IsPermutation ((xs ++ rest) ++ map (end_of_action task started (p ∷ ps)) running) (step_at p.1 p.0 (end_time task a ps -ℚ p.1) ∷ plan_listed task now ps)) (sym l)
        (subst (λ xs. IsPermutation (step_at p.1 p.0 (end_time task a ps -ℚ p.1) ∷ e ∷ rest ++ xs) (step_at p.1 p.0 (end_time task a ps -ℚ p.1) ∷ plan_listed task now ps)) (sym (ends_kept now running (λ b i. (no_end p.0 b Start k refl (action_of task b).end refl, kept b i))))
        (IsPermutation-cons (step_at p.1 p.0 (end_time task a ps -ℚ p.1)) (e ∷ rest ++ s) (plan_listed task now ps)
        (IsPermutation-trans (e ∷ rest ++ s) ((rest ++ s) ++ e ∷ []) (plan_listed task now ps) (IsPermutation-append_comm (e ∷ []) (rest ++ s))
        (subst (λ xs. IsPermutation xs (plan_listed task now ps)) (sym (append_assoc rest s (e ∷ []))) (subst (λ xs. IsPermutation (rest ++ xs) (plan_listed task now ps)) (map-append (end_of_action task now ps) running (a ∷ [])) ih)))))
      where
        other : (b : ℕ) (c : Bool) → (b == a) ≡ c → is_in b running ≡ true → started b ≡ (if c then p.1 else started b)
        other b false q i = refl
        other b true q i = absurd (clash (subst (λ n. is_in n running ≡ true) (same_out b a q) i))
          where
            clash : is_in a running ≡ true → ⊥
            clash c = let d : true ≡ false = sym c ∙ out in cc

        kept : (b : ℕ) → is_in b running ≡ true → started b ≡ started_on Start (Some a) p.1 started b
        kept b i = other b (b == a) refl i

    end_case : (a : ℕ) → (snap_of task p.0).kind ≡ End → (snap_of task p.0).action ≡ Some a → are_distinct running ≡ true → is_in a running ≡ true
        → IsPermutation (rest ++ map (end_of_action task started ps) (without a running)) (plan_listed task started ps)
        → IsPermutation (rest ++ map (end_of_action task started (p ∷ ps)) running) (step_at p.1 p.0 (p.1 -ℚ started a) ∷ plan_listed task started ps)
    end_case a k o d i ih =
        let left : List ℕ = without a running in
        let own : (action_of task a).end ≡ Some p.0 = owned.ends p.0 a k o in
        let e : end_of_action task started (p ∷ ps) a ≡ step_at p.1 p.0 (p.1 -ℚ started a) = rw (own, same_itself p.0) refl in
        let ends : map (end_of_action task started (p ∷ ps)) left ≡ map (end_of_action task started ps) left = ends_kept started left (λ b j. (other_end p.0 a b own (apart b j) (action_of task b).end refl, refl)) in
        IsPermutation-trans (rest ++ map (end_of_action task started (p ∷ ps)) running) (rest ++ end_of_action task started (p ∷ ps) a ∷ map (end_of_action task started (p ∷ ps)) left) (step_at p.1 p.0 (p.1 -ℚ started a) ∷ plan_listed task started ps)
        (IsPermutation-append_right rest (map (end_of_action task started (p ∷ ps)) running) (end_of_action task started (p ∷ ps) a ∷ map (end_of_action task started (p ∷ ps)) left) (put_first (end_of_action task started (p ∷ ps)) a running d i))
        (subst (λ x. IsPermutation (rest ++ x ∷ map (end_of_action task started (p ∷ ps)) left) (step_at p.1 p.0 (p.1 -ℚ started a) ∷ plan_listed task started ps)) (sym e)
        (subst (λ l. IsPermutation (rest ++ step_at p.1 p.0 (p.1 -ℚ started a) ∷ l) (step_at p.1 p.0 (p.1 -ℚ started a) ∷ plan_listed task started ps)) (sym ends)
        (IsPermutation-trans (rest ++ step_at p.1 p.0 (p.1 -ℚ started a) ∷ map (end_of_action task started ps) left) (step_at p.1 p.0 (p.1 -ℚ started a) ∷ rest ++ map (end_of_action task started ps) left) (step_at p.1 p.0 (p.1 -ℚ started a) ∷ plan_listed task started ps)
        (moved_first (step_at p.1 p.0 (p.1 -ℚ started a)) rest (map (end_of_action task started ps) left))
        (IsPermutation-cons (step_at p.1 p.0 (p.1 -ℚ started a)) (rest ++ map (end_of_action task started ps) left) (plan_listed task started ps) ih))))
      where
        flip : (a b : ℕ) → not (a == b || false) ≡ true → (a == b) ≡ false
        flip a b h = out (a == b) h
          where
            out : (c : Bool) → not (c || false) ≡ true → c ≡ false
            out true h = sym h
            out false h = refl

        apart : (b : ℕ) → is_in b (without a running) ≡ true → (a == b) ≡ false
        apart b j = flip a b (kept_is_in (λ b. not (is_in b (a ∷ []))) b running j).1

    instant_case : (a : ℕ) → (snap_of task p.0).kind ≡ Instant → (snap_of task p.0).action ≡ Some a
        → IsPermutation (rest ++ map (end_of_action task started ps) running) (plan_listed task started ps)
        → IsPermutation ((line_steps task (record { action = a; at = p.1; duration = None; line = 0 }) ++ rest) ++ map (end_of_action task started (p ∷ ps)) running) (step_at p.1 p.0 zeroℚ ∷ plan_listed task started ps)
    instant_case a k o ih =
        let l : line_steps task (record { action = a; at = p.1; duration = None; line = 0 }) ≡ step_at p.1 p.0 zeroℚ ∷ [] = rw ((owned.instants p.0 a k o).0, (owned.instants p.0 a k o).1) refl in
        subst (λ xs. IsPermutation ((xs ++ rest) ++ map (end_of_action task started (p ∷ ps)) running) (step_at p.1 p.0 zeroℚ ∷ plan_listed task started ps)) (sym l)
        (subst (λ xs. IsPermutation (step_at p.1 p.0 zeroℚ ∷ rest ++ xs) (step_at p.1 p.0 zeroℚ ∷ plan_listed task started ps)) (sym (ends_kept started running (λ b i. (no_end p.0 b Instant k refl (action_of task b).end refl, refl))))
        (IsPermutation-cons (step_at p.1 p.0 zeroℚ) (rest ++ map (end_of_action task started ps) running) (plan_listed task started ps) ih))

    one_case : (k : SnapKind) (o : Option ℕ) → (snap_of task p.0).kind ≡ k → (snap_of task p.0).action ≡ o → are_distinct running ≡ true → MayCome k o running
        → ((now : ℕ → ℚ) (rs : List ℕ) → are_distinct rs ≡ true → Closes task rs ps → IsPermutation (rest ++ map (end_of_action task now ps) rs) (plan_listed task now ps)) → Closes task (run_on k (option_to_list o) running) ps
        → IsPermutation (flat_map (line_steps task) (flat_map (λ a. begun task k a p.1 ps) (option_to_list o) ++ begun_lines task ps) ++ map (end_of_action task started (p ∷ ps)) running) (listed task k o started p.0 p.1 ps ++ plan_listed task (started_on k o p.1 started) ps)
    one_case Start None k o d m ih c = absurd m
    one_case Start (Some a) k o d m ih c = start_case a k o m (ih (started_on Start (Some a) p.1 started) (running ++ a ∷ []) (distinct_more a running m d) c)
    one_case End None k o d m ih c = absurd m
    one_case End (Some a) k o d m ih c = end_case a k o d m (ih started (without a running) (distinct_chosen (λ b. not (is_in b (a ∷ []))) running d) c)
    one_case Instant None k o d m ih c = absurd m
    one_case Instant (Some a) k o d m ih c = instant_case a k o (ih started running d c)
    one_case Timed None k o d m ih c = subst (λ xs. IsPermutation (rest ++ xs) (plan_listed task started ps)) (sym (ends_kept started running (λ b i. (no_end p.0 b Timed k refl (action_of task b).end refl, refl)))) (ih started running d c)
    one_case Timed (Some a) k o d m ih c = subst (λ xs. IsPermutation (rest ++ xs) (plan_listed task started ps)) (sym (ends_kept started running (λ b i. (no_end p.0 b Timed k refl (action_of task b).end refl, refl)))) (ih started running d c)

  -- The steps of the lines that a list begins, with the ends of the actions that run before it, are the list's own
  -- plan steps in some order.
  pub lines_listed : (ps : List (ℕ × ℚ)) (started : ℕ → ℚ) (running : List ℕ) → are_distinct running ≡ true → Closes task running ps
      → IsPermutation (flat_map (line_steps task) (begun_lines task ps) ++ map (end_of_action task started ps) running) (plan_listed task started ps)
  lines_listed [] started running d c = subst (λ r. IsPermutation (map (end_of_action task started []) r) []) (sym c) (IsPermutation-refl [])
  lines_listed (p ∷ ps) started running d c = one_case p ps running started (snap_of task p.0).kind (snap_of task p.0).action refl refl d c.0 (λ now rs e g. lines_listed ps now rs e g) c.1

  -- so those of a closed list are those of its lines
  pub closed_listed : (ps : List (ℕ × ℚ)) (started : ℕ → ℚ) → Closes task [] ps → IsPermutation (flat_map (line_steps task) (begun_lines task ps)) (plan_listed task started ps)
  closed_listed ps started c = subst (λ l. IsPermutation l (plan_listed task started ps)) (append_none (flat_map (line_steps task) (begun_lines task ps))) (lines_listed ps started [] refl c)
    where
      append_none : (xs : List Step) → xs ++ [] ≡ xs
      append_none xs = append-nil xs
