-- Trajectory constraints: by index, and by recursion on the list of truths.
use Rattle.std.proofs.Common.{◌≡◌, refl, sym, ◌∙◌, ℕ, zero, suc, ◌<◌, ◌≤◌, Bool, true, false, not, ◌&&◌, List, [], ◌∷◌, length, arith, inl, inr, ⊎_elim}
use Rattle.std.specs.Prelude.{slice_index_or, ◌⊎◌, ◌↔◌, nat_le}
use native.Mathlib.Decide.{dec_lt}
use Rattle.std.proofs.lemmas.Bool.Decides.{nat_tests}
use Rattle.basics.proofs.Bools.{and_left, and_right, and_in}
use Rattle.task_types.specs.declared.constraints.TrailKind.TheVariants.{AtMostOnce}
use Rattle.task_types.specs.Tests.{every, ◌⇒◌}
use Rattle.task_types.specs.Trace.{kept}

pub every_out : (n : ℕ) (p : ℕ → Bool) → every n p ≡ true → (i : ℕ) → i < n → p i ≡ true
every_out zero p e i h = absurd (omega arith)
every_out (suc n) p e i h = ⊎_elim (λ l. every_out n p (and_left (every n p) (p n) e) i l) (λ s. rw s (and_right (every n p) (p n) e)) (split i n h)
  where
    split : (i n : ℕ) → i < suc n → (i < n) ⊎ (i ≡ n)
    split i n h = elim (dec_lt i n) [ yes l ↦ inl l | no l ↦ inr (omega arith) ]

pub every_in : (n : ℕ) (p : ℕ → Bool) → ((i : ℕ) → i < n → p i ≡ true) → every n p ≡ true
every_in zero p h = refl
every_in (suc n) p h = and_in (every n p) (p n) (every_in n p (λ i l. h i (omega arith))) (h n (omega arith))

-- there is no true, false, true in this order
abbrev pub NoGap : ℕ → (ℕ → Bool) → Type 0
NoGap n a = (i j k : ℕ) → i ≤ j → j ≤ k → k < n → a i ≡ true → a j ≡ false → a k ≡ true → ⊥

modus : (i j k : ℕ) (x y z : Bool) → (nat_le i j && nat_le j k && x && y ⇒ z) ≡ true → i ≤ j → j ≤ k → x ≡ true → y ≡ true → z ≡ true
modus i j k x y z e h l p q = grind (arith, nat_tests)

ponens : (i j k : ℕ) (x y z : Bool) → (i ≤ j → j ≤ k → x ≡ true → y ≡ true → z ≡ true) → (nat_le i j && nat_le j k && x && y ⇒ z) ≡ true
ponens i j k x y z f = grind (arith, nat_tests)

-- by index: at most once says that there is no gap
pub at_most_once-no_gap : (n : ℕ) (a b soon : ℕ → Bool) → kept AtMostOnce n a b soon ≡ true ↔ NoGap n a
at_most_once-no_gap n a b soon = (there, back)
  where
    there : kept AtMostOnce n a b soon ≡ true → NoGap n a
    there e i j k h l m p q r =
        let f = modus i j k (a i) (a k) (a j) (every_out n _ (every_out n _ (every_out n _ e i (omega arith)) j (omega arith)) k m) h l p r in
        let c : false ≡ true = sym q ∙ f in cc

    back : NoGap n a → kept AtMostOnce n a b soon ≡ true
    back g = every_in n _ (λ i hi. every_in n _ (λ j hj. every_in n _ (λ k hk. ponens i j k (a i) (a k) (a j) (λ h l p r. go i j k h l hk p r (a j) refl))))
      where
        go : (i j k : ℕ) → i ≤ j → j ≤ k → k < n → a i ≡ true → a k ≡ true → (v : Bool) → a j ≡ v → v ≡ true
        go i j k h l m p r true e = refl
        go i j k h l m p r false e = absurd (g i j k h l m p e r)

-- ---- the same by recursion on the list of truths

abbrev pub none_holds : List Bool → Bool
none_holds [] = true
none_holds (b ∷ bs) = not b && none_holds bs

-- a run that has begun ends, and nothing holds after it
abbrev pub run_ends : List Bool → Bool
run_ends [] = true
run_ends (true ∷ bs) = run_ends bs
run_ends (false ∷ bs) = none_holds bs

abbrev pub one_run : List Bool → Bool
one_run [] = true
one_run (true ∷ bs) = run_ends bs
one_run (false ∷ bs) = one_run bs

abbrev pub truth_of : List Bool → ℕ → Bool
truth_of bs k = slice_index_or bs k false

none_out : (bs : List Bool) → none_holds bs ≡ true → (k : ℕ) → truth_of bs k ≡ true → ⊥
none_out [] e k h = let c : false ≡ true = h in cc
none_out (true ∷ bs) e k h = let c : false ≡ true = e in cc
none_out (false ∷ bs) e zero h = let c : false ≡ true = h in cc
none_out (false ∷ bs) e (suc k) h = none_out bs e k h

run_ends_out : (bs : List Bool) → run_ends bs ≡ true → (j k : ℕ) → j ≤ k → truth_of bs j ≡ false → truth_of bs k ≡ true → ⊥
run_ends_out [] e j k h p q = let c : false ≡ true = q in cc
run_ends_out (true ∷ bs) e zero k h p q = let c : true ≡ false = p in cc
run_ends_out (true ∷ bs) e (suc j) zero h p q = absurd (omega arith)
run_ends_out (true ∷ bs) e (suc j) (suc k) h p q = run_ends_out bs e j k (omega arith) p q
run_ends_out (false ∷ bs) e j zero h p q = let c : false ≡ true = q in cc
run_ends_out (false ∷ bs) e j (suc k) h p q = none_out bs e k q

pub one_run_out : (bs : List Bool) → one_run bs ≡ true → NoGap (length bs) (truth_of bs)
one_run_out [] e i j k h l m p q r = let c : false ≡ true = p in cc
one_run_out (true ∷ bs) e i zero k h l m p q r = let c : true ≡ false = q in cc
one_run_out (true ∷ bs) e i (suc j) zero h l m p q r = absurd (omega arith)
one_run_out (true ∷ bs) e i (suc j) (suc k) h l m p q r = run_ends_out bs e j k (omega arith) q r
one_run_out (false ∷ bs) e zero j k h l m p q r = let c : false ≡ true = p in cc
one_run_out (false ∷ bs) e (suc i) zero k h l m p q r = absurd (omega arith)
one_run_out (false ∷ bs) e (suc i) (suc j) zero h l m p q r = absurd (omega arith)
one_run_out (false ∷ bs) e (suc i) (suc j) (suc k) h l m p q r = one_run_out bs e i j k (omega arith) (omega arith) (omega arith) p q r

none_in : (bs : List Bool) → ((k : ℕ) → k < length bs → truth_of bs k ≡ true → ⊥) → none_holds bs ≡ true
none_in [] f = refl
none_in (true ∷ bs) f = absurd (f 0 (omega arith) refl)
none_in (false ∷ bs) f = none_in bs (λ k h. f (suc k) (omega arith))

run_ends_in : (bs : List Bool) → ((j k : ℕ) → j ≤ k → k < length bs → truth_of bs j ≡ false → truth_of bs k ≡ true → ⊥) → run_ends bs ≡ true
run_ends_in [] f = refl
run_ends_in (true ∷ bs) f = run_ends_in bs (λ j k h l. f (suc j) (suc k) (omega arith) (omega arith))
run_ends_in (false ∷ bs) f = none_in bs (λ k h e. f 0 (suc k) (omega arith) (omega arith) refl e)

pub one_run_in : (bs : List Bool) → NoGap (length bs) (truth_of bs) → one_run bs ≡ true
one_run_in [] g = refl
one_run_in (true ∷ bs) g = run_ends_in bs (λ j k h l p q. g 0 (suc j) (suc k) (omega arith) (omega arith) (omega arith) refl p q)
one_run_in (false ∷ bs) g = one_run_in bs (λ i j k h l m. g (suc i) (suc j) (suc k) (omega arith) (omega arith) (omega arith))
