-- Of an action that runs after a first part of a list, that part has a start and the rest an end; the timed plan has a
-- line from the one to the other.
use Rattle.std.proofs.Common.{◌≡◌, refl, sym, ap, subst, ◌∙◌, ℕ, ◌+◌, Bool, true, false, cond, not, ◌||◌, ◌==◌, List, [], ◌∷◌, ◌++◌, map, inl, inr, Option, Some, None}
use Rattle.std.specs.Prelude.{◌⊎◌, fold, if◌then◌else◌, option_to_list}
use Rattle.std.specs.List.{filter, flat_map, AllByRecursion}
use Rattle.std.proofs.lemmas.List.{append-nil}
use Rattle.std.proofs.lemmas.List.Folds.{list_any-append}
use Rattle.rational.specs.Rational.{ℚ, ◌-ℚ◌}
use Rattle.rational.proofs.Ring.{law, ◌⊕◌, ◌⊖◌, ◌≐◌}
use Rattle.rational.proofs.Field.{ℚ_ring}
use Rattle.basics.proofs.Bools.{or_right}
use Rattle.basics.proofs.Naturals.{same_out, same_itself}
use Rattle.task_types.specs.declared.actions.SnapKind.{SnapKind}
use Rattle.task_types.specs.declared.actions.SnapKind.TheVariants.{Start, End, Instant, Timed}
use Rattle.task_types.specs.declared.parts.TaskParts.{TaskParts}
use Rattle.task_types.specs.declared.plans.PlanLine.{PlanLine}
use Rattle.task_types.specs.Sets.{is_in}
use Rattle.task_types.specs.Plan.{Plan, action_of, snap_of, end_of}
use Rattle.task_types.specs.Order.{run_on}
use Rattle.task_types.specs.Agreement.{end_time, begun, begun_lines, numbered}
use Rattle.ordered_course.proofs.Listed.{Closes, AreOwned}
use Rattle.ordered_course.proofs.Closing.{HaveActions}
use Rattle.ordered_course.proofs.Lasting.{end_action, goes_on}
use Rattle.ordered_course.proofs.ListFacts.{true_and_false}

-- some element of a list has a property
abbrev pub Has : {X : Type 0} → (X → Type 0) → List X → Type 0
Has P [] = ⊥
Has P (x ∷ xs) = P x ⊎ Has P xs

pub has_of_map : {X Y : Type 0} (P : Y → Type 0) (f : X → Y) (xs : List X) → Has P (map f xs) → Has (λ x. P (f x)) xs
has_of_map P f [] h = h
has_of_map P f (x ∷ xs) (inl h) = inl h
has_of_map P f (x ∷ xs) (inr h) = inr (has_of_map P f xs h)

has_second : {X : Type 0} (P : X → Type 0) (xs ys : List X) → Has P ys → Has P (xs ++ ys)
has_second P [] ys h = h
has_second P (x ∷ xs) ys h = inr (has_second P xs ys h)

-- an element with two properties, one of which each element has
pub record Both {X : Type 0} (P Q : X → Type 0) : Type 0 where
  pub it : X
  pub first : P it
  pub second : Q it

pub has_both : {X : Type 0} (P Q : X → Type 0) (xs : List X) → Has P xs → AllByRecursion Q xs → Both P Q
has_both P Q [] h a = absurd h
has_both P Q (x ∷ xs) (inl h) a = record { it = x; first = h; second = a.0 }
has_both P Q (x ∷ xs) (inr h) a = has_both P Q xs h a.1

-- a line of an action from one time to another
pub record Runs (a : ℕ) (from to : ℚ) (l : PlanLine) : Type 0 where
  pub action : l.action ≡ a
  pub starts : l.at ≡ from
  pub ends : end_of l ≡ to

numbered_runs : (a n : ℕ) (from to : ℚ) (ls : Plan) → Has (Runs a from to) ls → Has (Runs a from to) (numbered n ls)
numbered_runs a n from to [] h = h
numbered_runs a n from to (l ∷ ls) (inl h) = inl (record { action = h.action; starts = h.starts; ends = h.ends })
numbered_runs a n from to (l ∷ ls) (inr h) = inr (numbered_runs a (n + 1) from to ls h)

-- a pair of a snap action of a kind and of an action, and a time
pub record IsStep (task : TaskParts) (k : SnapKind) (a : ℕ) (t : ℚ) (p : ℕ × ℚ) : Type 0 where
  pub kind : (snap_of task p.0).kind ≡ k
  pub action : (snap_of task p.0).action ≡ Some a
  pub time : p.1 ≡ t

-- an action was started in a first part, at a time, and the list begins its line
pub record Started (task : TaskParts) (a : ℕ) (pre suf : List (ℕ × ℚ)) : Type 0 where
  pub from : ℚ
  pub start : Has (IsStep task Start a from) pre
  pub line : Has (Runs a from (end_time task a suf)) (begun_lines task (pre ++ suf))

-- an action ends in a part of a list, first at a time
pub record Ended (task : TaskParts) (a : ℕ) (ps : List (ℕ × ℚ)) : Type 0 where
  pub to : ℚ
  pub first : end_time task a ps ≡ to
  pub end : Has (IsStep task End a to) ps

-- the actions that run after some snap actions, where some ran before them
abbrev pub running_on : TaskParts → List ℕ → List (ℕ × ℚ) → List ℕ
running_on task running ps = fold (λ actions s. run_on (snap_of task s).kind (option_to_list (snap_of task s).action) actions) running (map (λ p. p.0) ps)

in_kept : (q : ℕ → Bool) (a : ℕ) (xs : List ℕ) → is_in a (filter q xs) ≡ true → is_in a xs ≡ true
in_kept q a [] h = h
in_kept q a (x ∷ xs) h = go (q x) h (in_kept q a xs)
  where
    or_case : (b c d : Bool) → (c ≡ true → d ≡ true) → (b || c) ≡ true → (b || d) ≡ true
    or_case true c d f h = refl
    or_case false c d f h = f h

    go : (b : Bool) → is_in a (cond b (x ∷ filter q xs) (filter q xs)) ≡ true → (is_in a (filter q xs) ≡ true → is_in a xs ≡ true) → (x == a) || is_in a xs ≡ true
    go true h r = or_case (x == a) (is_in a (filter q xs)) (is_in a xs) r h
    go false h r = or_right (x == a) (is_in a xs) (r h)

-- an action is not among those other than itself
without_itself : (a : ℕ) (xs : List ℕ) → is_in a (filter (λ b. not (is_in b (a ∷ []))) xs) ≡ false
without_itself a [] = refl
without_itself a (x ∷ xs) = go (a == x) refl (without_itself a xs)
  where
    other : (b : Bool) → (x == a) ≡ b → (a == x) ≡ false → (x == a) ≡ false
    other false e f = e
    other true e f = true_and_false (a == x) (ap (λ y. a == y) (same_out x a e) ∙ same_itself a) f

    go : (b : Bool) → (a == x) ≡ b → is_in a (filter (λ b. not (is_in b (a ∷ []))) xs) ≡ false → is_in a (cond (not (b || false)) (x ∷ filter (λ b. not (is_in b (a ∷ []))) xs) (filter (λ b. not (is_in b (a ∷ []))) xs)) ≡ false
    go true e r = r
    go false e r = ap (λ c. c || is_in a (filter (λ b. not (is_in b (a ∷ []))) xs)) (other (x == a) refl e) ∙ r

-- an action that runs after a step ran before it, or the step started it
comes : (task : TaskParts) (a s : ℕ) (running : List ℕ) → is_in a (run_on (snap_of task s).kind (option_to_list (snap_of task s).action) running) ≡ true → (is_in a running ≡ true) ⊎ (((snap_of task s).kind ≡ Start) × ((snap_of task s).action ≡ Some a))
comes task a s running h = go (snap_of task s).kind (snap_of task s).action refl refl h
  where
    last : (b : ℕ) (c : Bool) → is_in a running ≡ c → (c || ((b == a) || false)) ≡ true → (is_in a running ≡ true) ⊎ ((b == a) ≡ true)
    last b true e h = inl e
    last b false e h = inr (first (b == a) h)
      where
        first : (c : Bool) → (c || false) ≡ true → c ≡ true
        first true k = refl
        first false k = k

    named : (b : ℕ) → (snap_of task s).kind ≡ Start → (snap_of task s).action ≡ Some b → (is_in a running ≡ true) ⊎ ((b == a) ≡ true) → (is_in a running ≡ true) ⊎ (((snap_of task s).kind ≡ Start) × ((snap_of task s).action ≡ Some a))
    named b e f (inl i) = inl i
    named b e f (inr q) = inr (e, f ∙ ap Some (same_out b a q))

    go : (k : SnapKind) (o : Option ℕ) → (snap_of task s).kind ≡ k → (snap_of task s).action ≡ o → is_in a (run_on k (option_to_list o) running) ≡ true → (is_in a running ≡ true) ⊎ (((snap_of task s).kind ≡ Start) × ((snap_of task s).action ≡ Some a))
    go Start None e f h = inl (subst (λ xs. is_in a xs ≡ true) (append-nil running) h)
    go Start (Some b) e f h = named b e f (last b (is_in a running) refl (sym (list_any-append (λ y. y == a) running (b ∷ [])) ∙ h))
    go End o e f h = inl (in_kept (λ b. not (is_in b (option_to_list o))) a running h)
    go Instant o e f h = inl h
    go Timed o e f h = inl h

pub closes_second : (task : TaskParts) (running : List ℕ) (pre suf : List (ℕ × ℚ)) → Closes task running (pre ++ suf) → Closes task (running_on task running pre) suf
closes_second task running [] suf c = c
closes_second task running (p ∷ pre) suf c = closes_second task (run_on (snap_of task p.0).kind (option_to_list (snap_of task p.0).action) running) pre suf c.1

module _ (task : TaskParts) (owned : AreOwned task) (have : HaveActions task) where
  end_number : (a s : ℕ) → is_in s (option_to_list (action_of task a).end) ≡ true → (action_of task a).end ≡ Some s
  end_number a s h = go (action_of task a).end refl h
    where
      first : (c : Bool) → (c || false) ≡ true → c ≡ true
      first true k = refl
      first false k = k

      go : (o : Option ℕ) → (action_of task a).end ≡ o → is_in s (option_to_list o) ≡ true → (action_of task a).end ≡ Some s
      go None e h = let c : false ≡ true = h in cc
      go (Some n) e h = e ∙ ap Some (same_out n s (first (n == s) h))

  -- the end of an action is not followed by it
  no_end : (a s : ℕ) (running : List ℕ) → is_in a (run_on (snap_of task s).kind (option_to_list (snap_of task s).action) running) ≡ true → is_in s (option_to_list (action_of task a).end) ≡ false
  no_end a s running h = go (is_in s (option_to_list (action_of task a).end)) refl
    where
      ended : (action_of task a).end ≡ Some s → is_in a (run_on (snap_of task s).kind (option_to_list (snap_of task s).action) running) ≡ false
      ended e = subst (λ k. is_in a (run_on k (option_to_list (snap_of task s).action) running) ≡ false) (sym (owned.end_kind a s e))
          (subst (λ o. is_in a (run_on End (option_to_list o) running) ≡ false) (sym (end_action task owned have a s e)) (without_itself a running))

      go : (b : Bool) → is_in s (option_to_list (action_of task a).end) ≡ b → is_in s (option_to_list (action_of task a).end) ≡ false
      go false e = e
      go true e = true_and_false (is_in a (run_on (snap_of task s).kind (option_to_list (snap_of task s).action) running)) h (ended (end_number a s e))

  started_since : (a : ℕ) (running : List ℕ) (pre suf : List (ℕ × ℚ)) → is_in a (running_on task running pre) ≡ true → ((is_in a running ≡ true) × (end_time task a (pre ++ suf) ≡ end_time task a suf)) ⊎ Started task a pre suf
  started_since a running [] suf h = inl (h, refl)
  started_since a running (p ∷ pre) suf h = go (started_since a (run_on (snap_of task p.0).kind (option_to_list (snap_of task p.0).action) running) pre suf h)
    where
      after : List ℕ
      after = run_on (snap_of task p.0).kind (option_to_list (snap_of task p.0).action) running

      line_here : (end_time task a (pre ++ suf) ≡ end_time task a suf) → (snap_of task p.0).kind ≡ Start → (snap_of task p.0).action ≡ Some a → Has (Runs a p.1 (end_time task a suf)) (begun_lines task (p ∷ pre ++ suf))
      line_here q k o = subst (λ ls. Has (Runs a p.1 (end_time task a suf)) (ls ++ begun_lines task (pre ++ suf))) (sym made)
          (inl (record { action = refl; starts = refl; ends = law ℚ_ring (p.1 ∷ end_time task a (pre ++ suf) ∷ []) (λ t u. t ⊕ (u ⊖ t) ≐ u) refl ∙ q }))
        where
          made : flat_map (λ b. begun task (snap_of task p.0).kind b p.1 (pre ++ suf)) (option_to_list (snap_of task p.0).action) ≡ record { action = a; at = p.1; duration = Some (end_time task a (pre ++ suf) -ℚ p.1); line = 0 } ∷ []
          made = rw (k, o) refl

      here : (end_time task a (pre ++ suf) ≡ end_time task a suf) → is_in p.0 (option_to_list (action_of task a).end) ≡ false → (is_in a running ≡ true) ⊎ (((snap_of task p.0).kind ≡ Start) × ((snap_of task p.0).action ≡ Some a))
          → ((is_in a running ≡ true) × (end_time task a (p ∷ pre ++ suf) ≡ end_time task a suf)) ⊎ Started task a (p ∷ pre) suf
      here q n (inl i) = inl (i, ap (λ b. if b then p.1 else end_time task a (pre ++ suf)) n ∙ q)
      here q n (inr k) = inr (record { from = p.1; start = inl (record { kind = k.0; action = k.1; time = refl }); line = line_here q k.0 k.1 })

      go : ((is_in a after ≡ true) × (end_time task a (pre ++ suf) ≡ end_time task a suf)) ⊎ Started task a pre suf → ((is_in a running ≡ true) × (end_time task a (p ∷ pre ++ suf) ≡ end_time task a suf)) ⊎ Started task a (p ∷ pre) suf
      go (inl q) = here q.1 (no_end a p.0 running q.0) (comes task a p.0 running q.0)
      go (inr s) = inr (record { from = s.from; start = inr s.start; line = has_second (Runs a s.from (end_time task a suf)) (flat_map (λ b. begun task (snap_of task p.0).kind b p.1 (pre ++ suf)) (option_to_list (snap_of task p.0).action)) (begun_lines task (pre ++ suf)) s.line })

  pub started : (a : ℕ) (pre suf : List (ℕ × ℚ)) → is_in a (running_on task [] pre) ≡ true → Started task a pre suf
  started a pre suf h = go (started_since a [] pre suf h)
    where
      go : ((false ≡ true) × (end_time task a (pre ++ suf) ≡ end_time task a suf)) ⊎ Started task a pre suf → Started task a pre suf
      go (inl q) = let c : false ≡ true = q.0 in cc
      go (inr s) = s

  pub ended : (a : ℕ) (running : List ℕ) (ps : List (ℕ × ℚ)) → Closes task running ps → is_in a running ≡ true → Ended task a ps
  ended a running [] c i = true_and_false (is_in a running) i (ap (is_in a) c)
  ended a running (p ∷ ps) c i = go (is_in p.0 (option_to_list (action_of task a).end)) refl
      (λ n. ended a (run_on (snap_of task p.0).kind (option_to_list (snap_of task p.0).action) running) ps c.1 (goes_on task owned have a p.0 running i n))
    where
      go : (b : Bool) → is_in p.0 (option_to_list (action_of task a).end) ≡ b → (is_in p.0 (option_to_list (action_of task a).end) ≡ false → Ended task a ps) → Ended task a (p ∷ ps)
      go true e r = let own = end_number a p.0 e in record { to = p.1; first = ap (λ b. if b then p.1 else end_time task a ps) e; end = inl (record { kind = owned.end_kind a p.0 own; action = end_action task owned have a p.0 own; time = refl }) }
      go false e r = let t = r e in record { to = t.to; first = ap (λ b. if b then p.1 else end_time task a ps) e ∙ t.first; end = inr t.end }

  -- the line of an action that runs after a first part, from a start in it to an end in the rest
  pub record Line (a : ℕ) (pre suf : List (ℕ × ℚ)) : Type 0 where
    pub from : ℚ
    pub to : ℚ
    pub start : Has (IsStep task Start a from) pre
    pub end : Has (IsStep task End a to) suf
    pub line : Has (Runs a from to) (numbered 1 (begun_lines task (pre ++ suf)))

  pub running_line : (a : ℕ) (pre suf : List (ℕ × ℚ)) → Closes task [] (pre ++ suf) → is_in a (running_on task [] pre) ≡ true → Line a pre suf
  running_line a pre suf c h = record {
    from = s.from;
    to = e.to;
    start = s.start;
    end = e.end;
    line = numbered_runs a 1 s.from e.to (begun_lines task (pre ++ suf)) (subst (λ t. Has (Runs a s.from t) (begun_lines task (pre ++ suf))) e.first s.line);
  }
    where
      s : Started task a pre suf
      s = started a pre suf h

      e : Ended task a suf
      e = ended a (running_on task [] pre) suf (closes_second task [] pre suf c) h
