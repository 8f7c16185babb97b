-- Since when actions run along a list, and to which step they go on: by numbers of steps, and by times.
use Rattle.std.proofs.Common.{◌≡◌, refl, sym, ap, subst, ◌∙◌, ℕ, zero, suc, ◌+◌, ◌<◌, ◌≤◌, Bool, true, false, cond, not, ◌||◌, ◌==◌, List, [], ◌∷◌, ◌++◌, length, drop, arith, length-append, Option, Some, None}
use Rattle.std.specs.Prelude.{slice_index_or, if◌then◌else◌, option_to_list}
use Rattle.std.specs.List.{filter, zip}
use Rattle.std.proofs.lemmas.List.{drop_all, drop-append-le}
use Rattle.std.proofs.lemmas.List.Folds.{list_any-append}
use Rattle.rational.specs.Rational.{ℚ, zeroℚ}
use Rattle.basics.proofs.Naturals.{same_out, same_in, same_itself}
use Rattle.task_types.specs.declared.actions.SnapKind.{SnapKind}
use Rattle.task_types.specs.declared.actions.SnapKind.TheVariants.{Start, End, Instant, Timed}
use Rattle.task_types.specs.declared.parts.TaskParts.{TaskParts}
use Rattle.task_types.specs.Sets.{is_in}
use Rattle.task_types.specs.Plan.{action_of, snap_of}
use Rattle.task_types.specs.Order.{run_on, running}
use Rattle.task_types.specs.Agreement.{end_time}
use Rattle.task_types.specs.Blocking.{start_number}
use Rattle.task_types.proofs.StepCounts.{running-more, other_way}
use Rattle.ordered_course.proofs.Listed.{AreOwned}
use Rattle.ordered_course.specs.Lines.{started_on}
use Rattle.rate_ledger.specs.Entries.{first_end, or_else}

-- ---- the first end of an action

-- the time of the first end is that of its number
pub end_is : (task : TaskParts) (a n m : ℕ) (suf : List ℕ) (ts : List ℚ) (y : ℕ → ℚ) → length ts ≡ length suf → ((i : ℕ) → i < length suf → y (n + i) ≡ slice_index_or ts i zeroℚ) → y m ≡ zeroℚ → end_time task a (zip suf ts) ≡ y (or_else (first_end task a n suf) m)
end_is task a n m [] [] y l h z = sym z
end_is task a n m [] (t ∷ ts) y l h z = absurd (omega (arith, l))
end_is task a n m (s ∷ suf) [] y l h z = absurd (omega (arith, l))
end_is task a n m (s ∷ suf) (t ∷ ts) y l h z = go (is_in s (option_to_list (action_of task a).end)) (end_is task a (suc n) m suf ts y (omega (arith, l)) (λ i b. ap y (shifted n i) ∙ h (suc i) (omega (arith, b))) z)
  where
    shifted : (n i : ℕ) → suc n + i ≡ n + suc i
    shifted n i = omega arith

    itself : n ≡ n + 0
    itself = omega arith

    go : (b : Bool) → end_time task a (zip suf ts) ≡ y (or_else (first_end task a (suc n) suf) m) → (if b then t else end_time task a (zip suf ts)) ≡ y (or_else (if b then Some n else first_end task a (suc n) suf) m)
    go true r = sym (ap y itself ∙ h 0 (omega arith))
    go false r = r

pub none_first : (task : TaskParts) (a n : ℕ) (xs ys : List ℕ) → first_end task a n xs ≡ None → first_end task a n (xs ++ ys) ≡ first_end task a (n + length xs) ys
none_first task a n [] ys h = ap (λ m. first_end task a m ys) (plus_none n)
  where
    plus_none : (n : ℕ) → n ≡ n + 0
    plus_none n = omega arith
none_first task a n (x ∷ xs) ys h = go (is_in x (option_to_list (action_of task a).end)) h (none_first task a (suc n) xs ys)
  where
    shifted : (n m : ℕ) → suc n + m ≡ n + suc m
    shifted n m = omega arith

    go : (b : Bool) → (if b then Some n else first_end task a (suc n) xs) ≡ None → (first_end task a (suc n) xs ≡ None → first_end task a (suc n) (xs ++ ys) ≡ first_end task a (suc n + length xs) ys) → (if b then Some n else first_end task a (suc n) (xs ++ ys)) ≡ first_end task a (n + suc (length xs)) ys
    go true h r = let c : Some n ≡ None = h in cc
    go false h r = r h ∙ ap (λ m. first_end task a m ys) (shifted n (length xs))

-- ---- the last start of an action

start_more : (task : TaskParts) (a n s found : ℕ) (pre : List ℕ) → start_number task a n (pre ++ s ∷ []) found ≡ (if (action_of task a).start == s then n + length pre else start_number task a n pre found)
start_more task a n s found [] = ap (λ m. if (action_of task a).start == s then m else found) (plus_none n)
  where
    plus_none : (n : ℕ) → n ≡ n + 0
    plus_none n = omega arith
start_more task a n s found (x ∷ pre) = start_more task a (n + 1) s (if (action_of task a).start == x then n else found) pre ∙ ap (λ m. if (action_of task a).start == s then m else start_number task a (n + 1) pre (if (action_of task a).start == x then n else found)) (shifted n (length pre))
  where
    shifted : (n m : ℕ) → n + 1 + m ≡ n + suc m
    shifted n m = omega arith

pub length_drop : {X : Type 0} (n : ℕ) (xs : List X) → n ≤ length xs → n + length (drop n xs) ≡ length xs
length_drop zero xs l = omega arith
length_drop (suc n) [] l = absurd (omega (arith, l))
length_drop (suc n) (x ∷ xs) l = let r : n + length (drop n xs) ≡ length xs = length_drop n xs (omega (arith, l)) in omega (arith, r)

-- ---- actions that run

module _ (task : TaskParts) (owned : AreOwned task) (y : ℕ → ℚ) where
  -- An action runs since its last start, which no end of it follows.
  pub record RunsSince (pre : List ℕ) (started : ℕ → ℚ) (b : ℕ) : Type 0 where
    pub kind : (snap_of task (action_of task b).start).kind ≡ Start
    pub action : (snap_of task (action_of task b).start).action ≡ Some b
    pub within : start_number task b 0 pre 0 < length pre
    pub time : started b ≡ y (start_number task b 0 pre 0)
    pub no_end : first_end task b (suc (start_number task b 0 pre 0)) (drop (suc (start_number task b 0 pre 0)) pre) ≡ None

  abbrev pub AllRun : List ℕ → (ℕ → ℚ) → Type 0
  AllRun pre started = (b : ℕ) → is_in b (running task pre) ≡ true → RunsSince pre started b

  -- it goes on running after a step that neither starts nor ends it
  carried_on : (pre : List ℕ) (s b : ℕ) (started now : ℕ → ℚ) → RunsSince pre started b → ((action_of task b).start == s) ≡ false → is_in s (option_to_list (action_of task b).end) ≡ false → now b ≡ started b → RunsSince (pre ++ s ∷ []) now b
  carried_on pre s b started now r n e t = record {
    kind = r.kind;
    action = r.action;
    within = let l : length (pre ++ s ∷ []) ≡ length pre + 1 = length-append pre (s ∷ []) in let w : start_number task b 0 pre 0 < length pre = r.within in omega (arith, same, l, w);
    time = t ∙ r.time ∙ ap y (sym same);
    no_end = ap (λ m. first_end task b (suc m) (drop (suc m) (pre ++ s ∷ []))) same
        ∙ ap (first_end task b (suc (start_number task b 0 pre 0))) (drop-append-le (suc (start_number task b 0 pre 0)) pre (s ∷ []) (let w : start_number task b 0 pre 0 < length pre = r.within in omega (arith, w)))
        ∙ none_first task b (suc (start_number task b 0 pre 0)) (drop (suc (start_number task b 0 pre 0)) pre) (s ∷ []) r.no_end
        ∙ ap (λ c. if c then Some (suc (start_number task b 0 pre 0) + length (drop (suc (start_number task b 0 pre 0)) pre)) else None) e;
  }
    where
      same : start_number task b 0 (pre ++ s ∷ []) 0 ≡ start_number task b 0 pre 0
      same = start_more task b 0 s 0 pre ∙ ap (λ c. if c then 0 + length pre else start_number task b 0 pre 0) n

  -- it begins to run
  begun : (pre : List ℕ) (s a : ℕ) (now : ℕ → ℚ) → (snap_of task s).kind ≡ Start → (snap_of task s).action ≡ Some a → now a ≡ y (length pre) → RunsSince (pre ++ s ∷ []) now a
  begun pre s a now k o t = record {
    kind = ap (λ n. (snap_of task n).kind) own ∙ k;
    action = ap (λ n. (snap_of task n).action) own ∙ o;
    within = let l : length (pre ++ s ∷ []) ≡ length pre + 1 = length-append pre (s ∷ []) in omega (arith, here, l);
    time = t ∙ ap y (sym here);
    no_end = ap (λ m. first_end task a (suc m) (drop (suc m) (pre ++ s ∷ []))) here ∙ ap (first_end task a (suc (length pre))) (drop_all (suc (length pre)) (pre ++ s ∷ []) (let l : length (pre ++ s ∷ []) ≡ length pre + 1 = length-append pre (s ∷ []) in omega (arith, l)));
  }
    where
      own : (action_of task a).start ≡ s
      own = (owned.starts s a k o).0

      zero_plus : (n : ℕ) → 0 + n ≡ n
      zero_plus n = omega arith

      here : start_number task a 0 (pre ++ s ∷ []) 0 ≡ length pre
      here = start_more task a 0 s 0 pre ∙ ap (λ c. if c then 0 + length pre else start_number task a 0 pre 0) (same_in (action_of task a).start s own) ∙ zero_plus (length pre)

  clash : (b : Bool) → b ≡ true → b ≡ false → ⊥
  clash b e f = let c : true ≡ false = sym e ∙ f in cc

  -- a step that isn't the start of an action that runs
  not_start : (pre : List ℕ) (started : ℕ → ℚ) (s b : ℕ) → RunsSince pre started b → ((snap_of task s).kind ≡ Start → (snap_of task s).action ≡ Some b → ⊥) → ((action_of task b).start == s) ≡ false
  not_start pre started s b r f = go ((action_of task b).start == s) refl
    where
      go : (c : Bool) → ((action_of task b).start == s) ≡ c → ((action_of task b).start == s) ≡ false
      go false e = e
      go true e = absurd (f (ap (λ n. (snap_of task n).kind) (sym (same_out (action_of task b).start s e)) ∙ r.kind) (ap (λ n. (snap_of task n).action) (sym (same_out (action_of task b).start s e)) ∙ r.action))

  -- a step that isn't the end of an action
  not_end : (s b : ℕ) → ((snap_of task s).kind ≡ End → (snap_of task s).action ≡ Some b → ⊥) → (have : (snap_of task s).action ≡ None → (snap_of task s).kind ≡ Timed) → is_in s (option_to_list (action_of task b).end) ≡ false
  not_end s b f have = go (action_of task b).end refl
    where
      not_timed : End ≡ Timed → ⊥
      not_timed c = cc

      its : (action_of task b).end ≡ Some s → (o : Option ℕ) → (snap_of task s).action ≡ o → ⊥
      its e None q = not_timed (sym (owned.end_kind b s e) ∙ have q)
      its e (Some c) q = f (owned.end_kind b s e) (q ∙ ap Some (owned.own_end c b s (owned.ends s c (owned.end_kind b s e) q) e))

      go : (o : Option ℕ) → (action_of task b).end ≡ o → is_in s (option_to_list o) ≡ false
      go None e = refl
      go (Some t) e = two (t == s) refl
        where
          two : (c : Bool) → (t == s) ≡ c → (c || false) ≡ false
          two false q = refl
          two true q = absurd (its (e ∙ ap Some (same_out t s q)) (snap_of task s).action refl)

  kept_out : (a b : ℕ) (xs : List ℕ) → is_in b (filter (λ c. not (is_in c (a ∷ []))) xs) ≡ true → (is_in b xs ≡ true) × ((a == b) ≡ false)
  kept_out a b [] h = absurd (never h)
    where
      never : false ≡ true → ⊥
      never c = cc
  kept_out a b (x ∷ xs) h = go ((a == x) || false) refl h (kept_out a b xs)
    where
      first : (c : Bool) → (c || false) ≡ false → c ≡ false
      first true e = e
      first false e = refl

      later : (c : Bool) → is_in b xs ≡ true → (c || is_in b xs) ≡ true
      later true e = refl
      later false e = e

      go : (c : Bool) → ((a == x) || false) ≡ c → is_in b (cond (not c) (x ∷ filter (λ c. not (is_in c (a ∷ []))) xs) (filter (λ c. not (is_in c (a ∷ []))) xs)) ≡ true → (is_in b (filter (λ c. not (is_in c (a ∷ []))) xs) ≡ true → (is_in b xs ≡ true) × ((a == b) ≡ false)) → ((x == b) || is_in b xs) ≡ true × ((a == b) ≡ false)
      go true e h r = (later (x == b) (r h).0, (r h).1)
      go false e h r = two (x == b) refl h
        where
          two : (c : Bool) → (x == b) ≡ c → (c || is_in b (filter (λ c. not (is_in c (a ∷ []))) xs)) ≡ true → (c || is_in b xs) ≡ true × ((a == b) ≡ false)
          two true q h = (refl, ap (λ z. a == z) (sym (same_out x b q)) ∙ first (a == x) e)
          two false q h = r h

  some_same : (a b : ℕ) → Some a ≡ Some b → a ≡ b
  some_same a b e = cc

  -- all that run after one more step
  pub all_run : (have : (s : ℕ) → (snap_of task s).action ≡ None → (snap_of task s).kind ≡ Timed) (pre : List ℕ) (s : ℕ) (t : ℚ) (started : ℕ → ℚ) → y (length pre) ≡ t → AllRun pre started → AllRun (pre ++ s ∷ []) (started_on (snap_of task s).kind (snap_of task s).action t started)
  all_run have pre s t started here h b i = go (snap_of task s).kind (snap_of task s).action refl refl (subst (λ r. is_in b r ≡ true) (running-more task pre s) i)
    where
      other : (k : SnapKind) (o : Option ℕ) → (snap_of task s).kind ≡ k → (snap_of task s).action ≡ o → (k ≡ Start → o ≡ Some b → ⊥) → (k ≡ End → o ≡ Some b → ⊥) → is_in b (running task pre) ≡ true → started_on k o t started b ≡ started b → RunsSince (pre ++ s ∷ []) (started_on k o t started) b
      other k o e f x z j q = carried_on pre s b started (started_on k o t started) (h b j) (not_start pre started s b (h b j) (λ u v. x (sym e ∙ u) (sym f ∙ v))) (not_end s b (λ u v. z (sym e ∙ u) (sym f ∙ v)) (have s)) q

      is_start : Start ≡ End → ⊥
      is_start c = cc

      is_end : End ≡ Start → ⊥
      is_end c = cc

      is_instant : Instant ≡ Start → ⊥
      is_instant c = cc

      instant_end : Instant ≡ End → ⊥
      instant_end c = cc

      is_moment : Timed ≡ Start → ⊥
      is_moment c = cc

      moment_end : Timed ≡ End → ⊥
      moment_end c = cc

      no_action : None ≡ Some b → ⊥
      no_action c = cc

      all_stay : (xs : List ℕ) → filter (λ a. true) xs ≡ xs
      all_stay [] = refl
      all_stay (x ∷ xs) = ap (λ (ys : List ℕ). x ∷ ys) (all_stay xs)

      nothing_more : (xs : List ℕ) → xs ++ [] ≡ xs
      nothing_more [] = refl
      nothing_more (x ∷ xs) = ap (λ (ys : List ℕ). x ∷ ys) (nothing_more xs)

      either : (c d : Bool) → (c || (d || false)) ≡ true → d ≡ false → c ≡ true
      either true d e f = refl
      either false true e f = let z : true ≡ false = f in cc
      either false false e f = e

      apart : (a : ℕ) → (a == b) ≡ false → Some a ≡ Some b → ⊥
      apart a e q = clash (a == b) (same_in a b (some_same a b q)) e

      starts : (a : ℕ) → (snap_of task s).kind ≡ Start → (snap_of task s).action ≡ Some a → is_in b (running task pre ++ a ∷ []) ≡ true → (c : Bool) → (b == a) ≡ c → RunsSince (pre ++ s ∷ []) (λ m. if m == a then t else started m) b
      starts a e f j true q = let z : b ≡ a = same_out b a q in subst (RunsSince (pre ++ s ∷ []) (λ m. if m == a then t else started m)) (sym z) (begun pre s a (λ m. if m == a then t else started m) e f (ap (λ c. if c then t else started a) (same_itself a) ∙ sym here))
      starts a e f j false q = other Start (Some a) e f (λ _ v. apart a (other_way a b ∙ q) v) (λ u v. is_start u) (either (is_in b (running task pre)) (a == b) (sym (list_any-append (λ z. z == b) (running task pre) (a ∷ [])) ∙ j) (other_way a b ∙ q)) (ap (λ c. if c then t else started b) q)

      go : (k : SnapKind) (o : Option ℕ) → (snap_of task s).kind ≡ k → (snap_of task s).action ≡ o → is_in b (run_on k (option_to_list o) (running task pre)) ≡ true → RunsSince (pre ++ s ∷ []) (started_on k o t started) b
      go Start None e f j = other Start None e f (λ _ v. no_action v) (λ u v. is_start u) (subst (λ r. is_in b r ≡ true) (nothing_more (running task pre)) j) refl
      go Start (Some a) e f j = starts a e f j (b == a) refl
      go End None e f j = other End None e f (λ u v. is_end u) (λ u v. no_action v) (subst (λ r. is_in b r ≡ true) (all_stay (running task pre)) j) refl
      go End (Some a) e f j = let z = kept_out a b (running task pre) j in other End (Some a) e f (λ u v. is_end u) (λ u v. apart a z.1 v) z.0 refl
      go Instant None e f j = other Instant None e f (λ u v. is_instant u) (λ u v. instant_end u) j refl
      go Instant (Some a) e f j = other Instant (Some a) e f (λ u v. is_instant u) (λ u v. instant_end u) j refl
      go Timed None e f j = other Timed None e f (λ u v. is_moment u) (λ u v. moment_end u) j refl
      go Timed (Some a) e f j = other Timed (Some a) e f (λ u v. is_moment u) (λ u v. moment_end u) j refl
