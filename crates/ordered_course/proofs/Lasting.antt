-- The lines that a list begins: each durative one ends no earlier than it starts.
use Rattle.std.proofs.Common.{◌≡◌, refl, sym, ap, subst, ◌∙◌, ℕ, zero, suc, ◌+◌, Bool, true, false, cond, not, ◌||◌, ◌==◌, List, [], ◌∷◌, ◌++◌, map, arith, inl, inr, Option, Some, None}
use Rattle.std.specs.Prelude.{◌⊎◌, if◌then◌else◌, slice_index_or, option_to_list, is_some}
use Rattle.std.specs.List.{list_any, filter, flat_map, enumerate_from, AllByRecursion}
use Rattle.std.proofs.lemmas.List.{append-nil}
use Rattle.std.proofs.lemmas.List.Folds.{list_any-append}
use Rattle.rational.specs.Rational.{ℚ, ◌-ℚ◌, ◌≤ℚ◌}
use Rattle.rational.proofs.Order.{lt_le}
use Rattle.rational.proofs.Ring.{law, num, ◌⊕◌, ◌⊖◌, ◌≐◌}
use Rattle.rational.proofs.Field.{ℚ_ring}
use Rattle.basics.proofs.Bools.{or_left, or_right, or_true}
use Rattle.basics.proofs.Naturals.{same_out, same_itself}
use Rattle.task_types.specs.declared.actions.Action.{Action}
use Rattle.task_types.specs.declared.actions.SnapKind.{SnapKind}
use Rattle.task_types.specs.declared.actions.SnapKind.TheVariants.{Start, End, Instant, Timed}
use Rattle.task_types.specs.declared.parts.TaskParts.{TaskParts}
use Rattle.task_types.specs.declared.plans.PlanLine.{PlanLine}
use Rattle.task_types.specs.declared.tokens.Token.{Token}
use Rattle.task_types.specs.declared.tokens.Token.TheVariants as token
use Rattle.task_types.specs.Sets.{is_in}
use Rattle.task_types.specs.Plan.{Plan, Step, no_action, action_of, snap_of}
use Rattle.task_types.specs.Touch.{started_or_ended, is_start_or_end, tokens}
use Rattle.task_types.specs.Order.{sets_apart, run_on}
use Rattle.task_types.specs.Agreement.{end_time, begun, begun_lines, numbered}
use Rattle.task_types.proofs.Everyone.{all_map}
use Rattle.basics.proofs.Lists.{each_append}
use Rattle.ordering.specs.Along.{tied_apart, Follows, AreInOrder}
use Rattle.ordered_course.specs.Lines.{started_on, steps_listed}
use Rattle.ordered_course.proofs.Listed.{Closes, AreOwned}
use Rattle.ordered_course.proofs.Closing.{HaveActions}
use Rattle.ordered_course.proofs.PlanRates.{IsDurative, IsInstant}

-- ---- the start and the end of an action are tied apart

any_action : (p : Token → Bool) (n : ℕ) (xs : List Action) (i : ℕ) → is_some (slice_index_or xs i no_action).end ≡ true → p (token.Action (n + i)) ≡ true → list_any p (map (λ a. token.Action a.0) (filter (λ a. is_some a.1.end) (enumerate_from n xs))) ≡ true
any_action p n [] i e h = let c : false ≡ true = e in cc
any_action p n (x ∷ xs) zero e h = subst (λ b. list_any p (map (λ a. token.Action a.0) (cond b ((n, x) ∷ filter (λ a. is_some a.1.end) (enumerate_from (n + 1) xs)) (filter (λ a. is_some a.1.end) (enumerate_from (n + 1) xs)))) ≡ true) (sym e)
    (or_left (p (token.Action n)) (list_any p (map (λ a. token.Action a.0) (filter (λ a. is_some a.1.end) (enumerate_from (n + 1) xs)))) (subst (λ k. p (token.Action k) ≡ true) (plus_none n) h))
  where
    plus_none : (n : ℕ) → n + 0 ≡ n
    plus_none n = omega arith
any_action p n (x ∷ xs) (suc i) e h = go (is_some x.end) (any_action p (n + 1) xs i e (subst (λ k. p (token.Action k) ≡ true) (shifted n i) h))
  where
    shifted : (n i : ℕ) → n + suc i ≡ n + 1 + i
    shifted n i = omega arith

    go : (b : Bool) → list_any p (map (λ a. token.Action a.0) (filter (λ a. is_some a.1.end) (enumerate_from (n + 1) xs))) ≡ true → list_any p (map (λ a. token.Action a.0) (cond b ((n, x) ∷ filter (λ a. is_some a.1.end) (enumerate_from (n + 1) xs)) (filter (λ a. is_some a.1.end) (enumerate_from (n + 1) xs)))) ≡ true
    go true r = or_right (p (token.Action n)) (list_any p (map (λ a. token.Action a.0) (filter (λ a. is_some a.1.end) (enumerate_from (n + 1) xs)))) r
    go false r = r

pub any_last : (p : Token → Bool) (xs ys : List Token) → list_any p ys ≡ true → list_any p (xs ++ ys) ≡ true
any_last p xs ys h = list_any-append p xs ys ∙ ap (λ b. list_any p xs || b) h ∙ or_true (list_any p xs)

action_token : (task : TaskParts) (p : Token → Bool) (a : ℕ) → is_some (action_of task a).end ≡ true → p (token.Action a) ≡ true → list_any p (tokens task) ≡ true
unfolding tokens
action_token task p a e h = any_last p _ (map (λ a. token.Action a.0) (filter (λ a. is_some a.1.end) (enumerate_from 0 task.actions))) (any_action p 0 task.actions a e (subst (λ k. p (token.Action k) ≡ true) (zero_plus a) h))
  where
    zero_plus : (a : ℕ) → a ≡ 0 + a
    zero_plus a = omega arith

owns : (task : TaskParts) (s a : ℕ) (k : SnapKind) → (snap_of task s).kind ≡ k → is_start_or_end k ≡ true → (snap_of task s).action ≡ Some a → is_in a (started_or_ended (snap_of task s)) ≡ true
owns task s a k e b o = rw (o, e, b, same_itself a) refl

pub start_end_tied : (task : TaskParts) (s e a : ℕ) → (snap_of task s).kind ≡ Start → (snap_of task s).action ≡ Some a → (snap_of task e).kind ≡ End → (snap_of task e).action ≡ Some a → is_some (action_of task a).end ≡ true → tied_apart task (snap_of task s) (snap_of task e) ≡ true
start_end_tied task s e a k o l q d = action_token task (sets_apart task (snap_of task s) (snap_of task e)) a d (rw (owns task s a Start k refl o, owns task e a End l refl q) refl)

-- ---- ends that are still to come

module _ (task : TaskParts) (owned : AreOwned task) (have : HaveActions task) where
  -- the end of an action is a snap action of it
  pub end_action : (a e : ℕ) → (action_of task a).end ≡ Some e → (snap_of task e).action ≡ Some a
  end_action a e h = go (snap_of task e).action refl
    where
      not_timed : End ≡ Timed → ⊥
      not_timed c = cc

      go : (o : Option ℕ) → (snap_of task e).action ≡ o → (snap_of task e).action ≡ Some a
      go None q = absurd (not_timed (sym (owned.end_kind a e h) ∙ have e q))
      go (Some b) q = q ∙ ap Some (owned.own_end b a e (owned.ends e b (owned.end_kind a e h) q) h)

  -- an action that runs goes on running after a step that isn't its end
  pub goes_on : (a s : ℕ) (running : List ℕ) → is_in a running ≡ true → is_in s (option_to_list (action_of task a).end) ≡ false → is_in a (run_on (snap_of task s).kind (option_to_list (snap_of task s).action) running) ≡ true
  goes_on a s running i n = go (snap_of task s).kind (snap_of task s).action refl refl
    where
      kept : (b : ℕ) (xs : List ℕ) → (b == a) ≡ false → is_in a xs ≡ true → is_in a (filter (λ c. not (is_in c (b ∷ []))) xs) ≡ true
      kept b [] d h = h
      kept b (x ∷ xs) d h = one (x == a) refl h (kept b xs d)
        where
          one : (c : Bool) → (x == a) ≡ c → (c || is_in a xs) ≡ true → (is_in a xs ≡ true → is_in a (filter (λ c. not (is_in c (b ∷ []))) xs) ≡ true) → is_in a (cond (not ((b == x) || false)) (x ∷ filter (λ c. not (is_in c (b ∷ []))) xs) (filter (λ c. not (is_in c (b ∷ []))) xs)) ≡ true
          one true e h r = let f : (b == x) ≡ false = ap (λ y. b == y) (same_out x a e) ∙ d in rw f (or_left (x == a) (is_in a (filter (λ c. not (is_in c (b ∷ []))) xs)) e)
          one false e h r = two (not ((b == x) || false)) (r h)
            where
              two : (c : Bool) → is_in a (filter (λ c. not (is_in c (b ∷ []))) xs) ≡ true → is_in a (cond c (x ∷ filter (λ c. not (is_in c (b ∷ []))) xs) (filter (λ c. not (is_in c (b ∷ []))) xs)) ≡ true
              two true r = or_right (x == a) (is_in a (filter (λ c. not (is_in c (b ∷ []))) xs)) r
              two false r = r

      all_stay : (xs : List ℕ) → filter (λ a. true) xs ≡ xs
      all_stay [] = refl
      all_stay (x ∷ xs) = ap (λ (ys : List ℕ). x ∷ ys) (all_stay xs)

      other : (b : ℕ) → (snap_of task s).kind ≡ End → (snap_of task s).action ≡ Some b → (b == a) ≡ false
      other b k o = apart (b == a) refl
        where
          clash : is_in s (option_to_list (action_of task a).end) ≡ true → ⊥
          clash h = let c : true ≡ false = sym h ∙ n in cc

          apart : (c : Bool) → (b == a) ≡ c → (b == a) ≡ false
          apart false e = e
          apart true e = absurd (clash (ap (λ o. is_in s (option_to_list o)) (subst (λ m. (action_of task m).end ≡ Some s) (same_out b a e) (owned.ends s b k o)) ∙ ap (λ c. c || false) (same_itself s)))

      go : (k : SnapKind) (o : Option ℕ) → (snap_of task s).kind ≡ k → (snap_of task s).action ≡ o → is_in a (run_on k (option_to_list o) running) ≡ true
      go Start None e f = subst (λ xs. is_in a xs ≡ true) (sym (append-nil running)) i
      go Start (Some b) e f = list_any-append (λ y. y == a) running (b ∷ []) ∙ ap (λ c. c || ((b == a) || false)) i
      go End None e f = subst (λ xs. is_in a xs ≡ true) (sym (all_stay running)) i
      go End (Some b) e f = kept b running (other b e f) i
      go Instant o e f = i
      go Timed o e f = i

  -- An action that runs ends later, where each later end of it comes no earlier than t.
  pub ends_later : (a : ℕ) (t : ℚ) (ps : List (ℕ × ℚ)) (started : ℕ → ℚ) (running : List ℕ) → Closes task running ps → is_in a running ≡ true
      → AllByRecursion (λ y. is_in y.snap (option_to_list (action_of task a).end) ≡ true → t ≤ℚ y.time) (steps_listed task started ps) → t ≤ℚ end_time task a ps
  ends_later a t [] started running c i h = absurd (none running c i)
    where
      none : (xs : List ℕ) → xs ≡ [] → is_in a xs ≡ true → ⊥
      none [] e i = let d : false ≡ true = i in cc
      none (x ∷ xs) e i = cc
  ends_later a t (p ∷ ps) started running c i h = go (is_in p.0 (option_to_list (action_of task a).end)) refl
      (λ n. ends_later a t ps (started_on (snap_of task p.0).kind (snap_of task p.0).action p.1 started) (run_on (snap_of task p.0).kind (option_to_list (snap_of task p.0).action) running) c.1 (goes_on a p.0 running i n) h.1)
    where
      go : (b : Bool) → is_in p.0 (option_to_list (action_of task a).end) ≡ b → (is_in p.0 (option_to_list (action_of task a).end) ≡ false → t ≤ℚ end_time task a ps) → t ≤ℚ (if b then p.1 else end_time task a ps)
      go true e r = h.0 e
      go false e r = r e

  -- ---- lines

  -- a line is durative, or instantaneous
  abbrev pub IsSound : PlanLine → Type 0
  IsSound l = IsDurative task l ⊎ IsInstant task l

  is_end_of : (e a s : ℕ) → (action_of task a).end ≡ Some e → is_in s (option_to_list (action_of task a).end) ≡ true → e ≡ s
  is_end_of e a s h i = only (subst (λ o. is_in s (option_to_list o) ≡ true) h i)
    where
      only : ((e == s) || false) ≡ true → e ≡ s
      only k = same_out e s (first (e == s) k)
        where
          first : (b : Bool) → (b || false) ≡ true → b ≡ true
          first true k = refl
          first false k = k

  durative_sound : (s a : ℕ) (t : ℚ) (ps : List (ℕ × ℚ)) (d : ℚ) (started : ℕ → ℚ) (running : List ℕ) → (snap_of task s).kind ≡ Start → (snap_of task s).action ≡ Some a → Closes task running ps → is_in a running ≡ true
      → AllByRecursion (Follows task (record { time = t; snap = s; duration = d })) (steps_listed task started ps) → IsDurative task (record { action = a; at = t; duration = Some (end_time task a ps -ℚ t); line = 0 })
  durative_sound s a t ps d started running k o c i f = record {
    end = own.1.0;
    has_end = own.1.1;
    start_kind = ap (λ n. (snap_of task n).kind) own.0 ∙ k;
    start_action = ap (λ n. (snap_of task n).action) own.0 ∙ o;
    end_kind = owned.end_kind a own.1.0 own.1.1;
    end_action = end_action a own.1.0 own.1.1;
    in_order = subst (λ u. t ≤ℚ u) (law ℚ_ring (t ∷ end_time task a ps ∷ []) (λ t u. u ≐ t ⊕ (u ⊖ t)) refl) (ends_later a t ps started running c i (all_map (Follows task (record { time = t; snap = s; duration = d })) (λ y. is_in y.snap (option_to_list (action_of task a).end) ≡ true → t ≤ℚ y.time) (steps_listed task started ps) late f));
  }
    where
      own : ((action_of task a).start ≡ s) × ((e : ℕ) × ((action_of task a).end ≡ Some e))
      own = owned.starts s a k o

      late : (y : Step) → Follows task (record { time = t; snap = s; duration = d }) y → is_in y.snap (option_to_list (action_of task a).end) ≡ true → t ≤ℚ y.time
      late y w j = let e : own.1.0 ≡ y.snap = is_end_of own.1.0 a y.snap own.1.1 j in
          lt_le t y.time (w.later (start_end_tied task s y.snap a k o (ap (λ n. (snap_of task n).kind) (sym e) ∙ owned.end_kind a own.1.0 own.1.1) (ap (λ n. (snap_of task n).action) (sym e) ∙ end_action a own.1.0 own.1.1) (ap is_some own.1.1)))

  instant_sound : (s a : ℕ) (t : ℚ) → (snap_of task s).kind ≡ Instant → (snap_of task s).action ≡ Some a → IsInstant task (record { action = a; at = t; duration = None; line = 0 })
  instant_sound s a t k o = record {
    no_end = (owned.instants s a k o).1;
    kind = ap (λ n. (snap_of task n).kind) (owned.instants s a k o).0 ∙ k;
    at_once = law ℚ_ring (t ∷ []) (λ t. t ≐ t ⊕ num 0) refl;
  }

  pub begun_sound : (ps : List (ℕ × ℚ)) (started : ℕ → ℚ) (running : List ℕ) → Closes task running ps → AreInOrder task (steps_listed task started ps) → AllByRecursion IsSound (begun_lines task ps)
  begun_sound [] started running c h = tt
  begun_sound (p ∷ ps) started running c h = each_append IsSound (flat_map (λ a. begun task (snap_of task p.0).kind a p.1 ps) (option_to_list (snap_of task p.0).action)) (begun_lines task ps)
      (go (snap_of task p.0).kind (snap_of task p.0).action refl refl c.1)
      (begun_sound ps (started_on (snap_of task p.0).kind (snap_of task p.0).action p.1 started) (run_on (snap_of task p.0).kind (option_to_list (snap_of task p.0).action) running) c.1 h.1)
    where
      last_in : (a : ℕ) (xs : List ℕ) → is_in a (xs ++ a ∷ []) ≡ true
      last_in a xs = list_any-append (λ y. y == a) xs (a ∷ []) ∙ ap (λ b. is_in a xs || (b || false)) (same_itself a) ∙ or_true (is_in a xs)

      go : (k : SnapKind) (o : Option ℕ) → (snap_of task p.0).kind ≡ k → (snap_of task p.0).action ≡ o → Closes task (run_on k (option_to_list o) running) ps → AllByRecursion IsSound (flat_map (λ a. begun task k a p.1 ps) (option_to_list o))
      go Start None k o d = tt
      go End None k o d = tt
      go Instant None k o d = tt
      go Timed None k o d = tt
      go Start (Some a) k o d = (inl (durative_sound p.0 a p.1 ps _ (started_on (snap_of task p.0).kind (snap_of task p.0).action p.1 started) (running ++ a ∷ []) k o d (last_in a running) h.0), tt)
      go End (Some a) k o d = tt
      go Instant (Some a) k o d = (inr (instant_sound p.0 a p.1 k o), tt)
      go Timed (Some a) k o d = tt

  numbered_sound : (n : ℕ) (l : PlanLine) → IsSound l → IsSound (record l { line = n })
  numbered_sound n l (inl d) = inl (record { end = d.end; has_end = d.has_end; start_kind = d.start_kind; start_action = d.start_action; end_kind = d.end_kind; end_action = d.end_action; in_order = d.in_order })
  numbered_sound n l (inr d) = inr (record { no_end = d.no_end; kind = d.kind; at_once = d.at_once })

  pub numbered_lines_sound : (n : ℕ) (ls : Plan) → AllByRecursion IsSound ls → AllByRecursion IsSound (numbered n ls)
  numbered_lines_sound n [] h = tt
  numbered_lines_sound n (l ∷ ls) h = (numbered_sound n l h.0, numbered_lines_sound (n + 1) ls h.1)
