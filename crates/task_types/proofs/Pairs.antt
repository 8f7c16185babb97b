-- Times agree with a built ordering exactly where they do so pair by pair.
use Rattle.std.proofs.Common.{◌≡◌, refl, ap, subst, ℕ, zero, suc, ◌<◌, Bool, true, false, ◌&&◌, ◌||◌, ◌==◌, List, [], ◌∷◌, length, arith}
use Rattle.std.specs.Prelude.{◌↔◌, IsTrue, slice_index, slice_index_or, if◌then◌else◌, nat_lt}
use Rattle.std.specs.List.{list_any, list_all, zip}
use Rattle.rational.specs.Rational.{ℚ, zeroℚ, ◌+ℚ◌, ◌≤ℚ◌}
use Rattle.rational.proofs.Order.{ℚ_ordered, lt_le}
use Rattle.rational.proofs.Ring.{◌⊕◌, num, ◌≼◌}
use Rattle.rational.proofs.Solve.{linear, ◌⊢◌}
use Rattle.basics.proofs.Bools.{and_left, and_right, and_in, or_right}
use Rattle.basics.proofs.Naturals.{same_itself, same_out, lt_out, same_in}
use Rattle.task_types.specs.declared.orderings.Link.{Link}
use Rattle.task_types.specs.declared.orderings.Link.TheVariants.{Free, Weak, Apart}
use Rattle.task_types.specs.declared.parts.Rules.{Rules}
use Rattle.task_types.specs.declared.parts.TaskParts.{TaskParts}
use Rattle.task_types.specs.Plan.{snap_of}
use Rattle.task_types.specs.Valid.{ArePositive}
use Rattle.task_types.specs.Order.{Order, link, is_built}
use Rattle.task_types.specs.Agreement.{link_holds, is_placed, time_at, are_linked, agree}
use Rattle.task_types.specs.Laws.{AgreeInPairs}
use Rattle.task_types.proofs.Comparisons.{le_in, le_out}

-- ---- places of a zipped list

abbrev pair_at : List (ℕ × ℚ) → ℕ → ℕ × ℚ
pair_at ps k = slice_index_or ps k (0, zeroℚ)

zip-length : (xs : List ℕ) (ts : List ℚ) → length ts ≡ length xs → length (zip xs ts) ≡ length xs
zip-length [] ts h = refl
zip-length (x ∷ xs) [] h = absurd (omega arith)
zip-length (x ∷ xs) (t ∷ ts) h = ap suc (zip-length xs ts (omega arith))

zip-at : (xs : List ℕ) (ts : List ℚ) (k : ℕ) → length ts ≡ length xs → k < length xs → ((pair_at (zip xs ts) k).0 ≡ slice_index xs k) × ((pair_at (zip xs ts) k).1 ≡ time_at ts k)
zip-at [] ts k h l = absurd (omega arith)
zip-at (x ∷ xs) [] k h l = absurd (omega arith)
zip-at (x ∷ xs) (t ∷ ts) zero h l = (refl, refl)
zip-at (x ∷ xs) (t ∷ ts) (suc k) h l = zip-at xs ts k (omega arith) (omega arith)

all-at : {X : Type 0} (p : X → Bool) (d : X) (xs : List X) (k : ℕ) → list_all p xs ≡ true → k < length xs → p (slice_index_or xs k d) ≡ true
all-at p d [] k h l = absurd (omega arith)
all-at p d (x ∷ xs) zero h l = and_left _ _ h
all-at p d (x ∷ xs) (suc k) h l = all-at p d xs k (and_right _ _ h) (omega arith)

at-all : {X : Type 0} (p : X → Bool) (d : X) (xs : List X) → ((k : ℕ) → k < length xs → p (slice_index_or xs k d) ≡ true) → list_all p xs ≡ true
at-all p d [] f = refl
at-all p d (x ∷ xs) f = and_in _ _ (f 0 (omega arith)) (at-all p d xs (λ k l. f (suc k) (omega arith)))

-- ---- links pair by pair

module _ (task : TaskParts) (rules : Rules) where
  keeps : ℕ × ℚ → ℕ × ℚ → Bool
  keeps p q = link_holds rules (link task (snap_of task p.0) (snap_of task q.0)) p.1 q.1

  linked_out : (ps : List (ℕ × ℚ)) (i j : ℕ) → are_linked task rules ps ≡ true → i < j → j < length ps
      → link_holds rules (link task (snap_of task (pair_at ps i).0) (snap_of task (pair_at ps j).0)) (pair_at ps i).1 (pair_at ps j).1 ≡ true
  linked_out [] i j h l m = absurd (omega arith)
  linked_out (p ∷ ps) i zero h l m = absurd (omega arith)
  linked_out (p ∷ ps) zero (suc j) h l m = all-at (λ q. link_holds rules (link task (snap_of task p.0) (snap_of task q.0)) p.1 q.1) (0, zeroℚ) ps j (and_left _ _ h) (omega arith)
  linked_out (p ∷ ps) (suc i) (suc j) h l m = linked_out ps i j (and_right _ _ h) (omega arith) (omega arith)

  linked_in : (ps : List (ℕ × ℚ)) → ((i j : ℕ) → i < j → j < length ps → link_holds rules (link task (snap_of task (pair_at ps i).0) (snap_of task (pair_at ps j).0)) (pair_at ps i).1 (pair_at ps j).1 ≡ true) → are_linked task rules ps ≡ true
  linked_in [] f = refl
  linked_in (p ∷ ps) f = and_in _ _ (at-all (λ q. link_holds rules (link task (snap_of task p.0) (snap_of task q.0)) p.1 q.1) (0, zeroℚ) ps (λ k l. f 0 (suc k) (omega arith) (omega arith))) (linked_in ps (λ i j l m. f (suc i) (suc j) (omega arith) (omega arith)))

-- what is kept apart keeps every link
apart_keeps : (rules : Rules) → zeroℚ ≤ℚ rules.epsilon → (k : Link) (t u : ℚ) → link_holds rules Apart t u ≡ true → link_holds rules k t u ≡ true
apart_keeps rules e Free t u h = refl
apart_keeps rules e Weak t u h = le_in t u (linear ℚ_ordered (t ∷ u ∷ rules.epsilon ∷ []) (λ t u e. ((num 0) ≼ e ∷ (t ⊕ e) ≼ u ∷ []) ⊢ t ≼ u) (e, (le_out (t +ℚ rules.epsilon) u h, tt)) refl)
apart_keeps rules e Apart t u h = h

-- ---- extra pairs

extra_out : (i j : ℕ) (q : ℕ × ℕ → Bool) (es : List (ℕ × ℕ)) → list_any (λ p. (p.0 == i) && (p.1 == j)) es ≡ true → list_all q es ≡ true → q (i, j) ≡ true
extra_out i j q [] h k = cc
extra_out i j q (e ∷ es) h k = go ((e.0 == i) && (e.1 == j)) refl h (λ l. extra_out i j q es l (and_right _ _ k))
  where
    here : ((e.0 == i) && (e.1 == j)) ≡ true → q (i, j) ≡ true
    here b = subst (λ y. q (i, y) ≡ true) (same_out e.1 j (and_right (e.0 == i) (e.1 == j) b)) (subst (λ x. q (x, e.1) ≡ true) (same_out e.0 i (and_left (e.0 == i) (e.1 == j) b)) (and_left (q e) (list_all q es) k))

    go : (b : Bool) → ((e.0 == i) && (e.1 == j)) ≡ b → (b || list_any (λ p. (p.0 == i) && (p.1 == j)) es) ≡ true → (list_any (λ p. (p.0 == i) && (p.1 == j)) es ≡ true → q (i, j) ≡ true) → q (i, j) ≡ true
    go true c l r = here c
    go false c l r = r l

-- an extra pair is found among the pairs
extra_in : (es : List (ℕ × ℕ)) (k : ℕ) → k < length es → list_any (λ p. (p.0 == (slice_index_or es k (0, 0)).0) && (p.1 == (slice_index_or es k (0, 0)).1)) es ≡ true
extra_in [] k h = absurd (omega arith)
extra_in (e ∷ es) zero h = rw (same_itself e.0, same_itself e.1) refl
extra_in (e ∷ es) (suc k) h = or_right _ _ (extra_in es k (omega arith))

module _ (task : TaskParts) (rules : Rules) (o : Order) (times : List ℚ) (p : ArePositive rules) (built : is_built task o ≡ true) where
  in_range : list_all (λ p. nat_lt p.0 p.1 && nat_lt p.1 (length o.steps)) o.extra ≡ true
  unfolding is_built
  in_range = and_right _ _ built

  -- the four parts of an agreement
  parts : agree task rules o times ≡ true → (length times ≡ length o.steps) × (are_linked task rules (zip o.steps times) ≡ true)
      × (list_all (λ e. link_holds rules Apart (time_at times e.0) (time_at times e.1)) o.extra ≡ true) × (list_all (λ p. is_placed task rules p.0 p.1) (zip o.steps times) ≡ true)
  unfolding agree
  parts h = (same_out (length times) (length o.steps) (and_left _ _ (and_left _ _ (and_left _ _ h))), and_right _ _ (and_left _ _ (and_left _ _ h)), and_right _ _ (and_left _ _ h), and_right _ _ h)

  there : agree task rules o times ≡ true → AgreeInPairs task rules o times
  there h = let a = parts h in record {
    lengths = a.0;
    links = λ i j l m. link_here i j l m a.0 a.1 a.2 (list_any (λ p. (p.0 == i) && (p.1 == j)) o.extra) refl;
    places = λ k l. place_here k l a.0 a.3;
  }
    where
      link_here : (i j : ℕ) → i < j → j < length o.steps → length times ≡ length o.steps → are_linked task rules (zip o.steps times) ≡ true
          → list_all (λ e. link_holds rules Apart (time_at times e.0) (time_at times e.1)) o.extra ≡ true
          → (b : Bool) → list_any (λ p. (p.0 == i) && (p.1 == j)) o.extra ≡ b
          → link_holds rules (if b then Apart else link task (snap_of task (slice_index o.steps i)) (snap_of task (slice_index o.steps j))) (time_at times i) (time_at times j) ≡ true
      link_here i j l m e k x true f = extra_out i j (λ e. link_holds rules Apart (time_at times e.0) (time_at times e.1)) o.extra f x
      link_here i j l m e k x false f =
          let a = zip-at o.steps times i e (omega arith) in let b = zip-at o.steps times j e m in
          subst (λ s. link_holds rules (link task (snap_of task s) (snap_of task (slice_index o.steps j))) (time_at times i) (time_at times j) ≡ true) a.0
          (subst (λ t. link_holds rules (link task (snap_of task (pair_at (zip o.steps times) i).0) (snap_of task (slice_index o.steps j))) t (time_at times j) ≡ true) a.1
          (subst (λ s. link_holds rules (link task (snap_of task (pair_at (zip o.steps times) i).0) (snap_of task s)) (pair_at (zip o.steps times) i).1 (time_at times j) ≡ true) b.0
          (subst (λ t. link_holds rules (link task (snap_of task (pair_at (zip o.steps times) i).0) (snap_of task (pair_at (zip o.steps times) j).0)) (pair_at (zip o.steps times) i).1 t ≡ true) b.1
          (linked_out task rules (zip o.steps times) i j k l (omega (arith, zip-length o.steps times e))))))

      place_here : (k : ℕ) → k < length o.steps → length times ≡ length o.steps → list_all (λ p. is_placed task rules p.0 p.1) (zip o.steps times) ≡ true → is_placed task rules (slice_index o.steps k) (time_at times k) ≡ true
      place_here k l e h =
          let a = zip-at o.steps times k e l in
          subst (λ s. is_placed task rules s (time_at times k) ≡ true) a.0
          (subst (λ t. is_placed task rules (pair_at (zip o.steps times) k).0 t ≡ true) a.1
          (all-at (λ p. is_placed task rules p.0 p.1) (0, zeroℚ) (zip o.steps times) k h (omega (arith, zip-length o.steps times e))))

  back : AgreeInPairs task rules o times → agree task rules o times ≡ true
  unfolding agree
  back a = and_in _ _ (and_in _ _ (and_in _ _ (same_in (length times) (length o.steps) a.lengths) (linked_in task rules (zip o.steps times) links)) (at-all _ (0, 0) o.extra extras)) (at-all _ (0, zeroℚ) (zip o.steps times) places)
    where
      kept : (i j : ℕ) → i < j → j < length o.steps → (b : Bool)
          → link_holds rules (if b then Apart else link task (snap_of task (slice_index o.steps i)) (snap_of task (slice_index o.steps j))) (time_at times i) (time_at times j) ≡ true
          → link_holds rules (link task (snap_of task (slice_index o.steps i)) (snap_of task (slice_index o.steps j))) (time_at times i) (time_at times j) ≡ true
      kept i j l m true h = apart_keeps rules (lt_le zeroℚ rules.epsilon p.epsilon) (link task (snap_of task (slice_index o.steps i)) (snap_of task (slice_index o.steps j))) (time_at times i) (time_at times j) h
      kept i j l m false h = h

      links : (i j : ℕ) → i < j → j < length (zip o.steps times)
          → link_holds rules (link task (snap_of task (pair_at (zip o.steps times) i).0) (snap_of task (pair_at (zip o.steps times) j).0)) (pair_at (zip o.steps times) i).1 (pair_at (zip o.steps times) j).1 ≡ true
      links i j l m =
          let n : j < length o.steps = omega (arith, zip-length o.steps times a.lengths) in
          let b = zip-at o.steps times i a.lengths (omega arith) in let c = zip-at o.steps times j a.lengths n in
          rw (b.0, b.1, c.0, c.1) (kept i j l n (list_any (λ p. (p.0 == i) && (p.1 == j)) o.extra) (a.links i j l n))

      extras : (k : ℕ) → k < length o.extra → link_holds rules Apart (time_at times (slice_index_or o.extra k (0, 0)).0) (time_at times (slice_index_or o.extra k (0, 0)).1) ≡ true
      extras k l =
          let r = all-at (λ p. nat_lt p.0 p.1 && nat_lt p.1 (length o.steps)) (0, 0) o.extra k in_range l in
          subst (λ b. link_holds rules (if b then Apart else link task (snap_of task (slice_index o.steps (slice_index_or o.extra k (0, 0)).0)) (snap_of task (slice_index o.steps (slice_index_or o.extra k (0, 0)).1))) (time_at times (slice_index_or o.extra k (0, 0)).0) (time_at times (slice_index_or o.extra k (0, 0)).1) ≡ true)
          (extra_in o.extra k l) (a.links (slice_index_or o.extra k (0, 0)).0 (slice_index_or o.extra k (0, 0)).1
          (lt_out (slice_index_or o.extra k (0, 0)).0 (slice_index_or o.extra k (0, 0)).1 (and_left (nat_lt (slice_index_or o.extra k (0, 0)).0 (slice_index_or o.extra k (0, 0)).1) (nat_lt (slice_index_or o.extra k (0, 0)).1 (length o.steps)) r))
          (lt_out (slice_index_or o.extra k (0, 0)).1 (length o.steps) (and_right (nat_lt (slice_index_or o.extra k (0, 0)).0 (slice_index_or o.extra k (0, 0)).1) (nat_lt (slice_index_or o.extra k (0, 0)).1 (length o.steps)) r)))

      places : (k : ℕ) → k < length (zip o.steps times) → is_placed task rules (pair_at (zip o.steps times) k).0 (pair_at (zip o.steps times) k).1 ≡ true
      places k l =
          let n : k < length o.steps = omega (arith, zip-length o.steps times a.lengths) in
          let b = zip-at o.steps times k a.lengths n in
          rw (b.0, b.1) (a.places k n)

pub agree-pairs : (task : TaskParts) (rules : Rules) (o : Order) (times : List ℚ) → ArePositive rules → IsTrue (is_built task o)
    → IsTrue (agree task rules o times) ↔ AgreeInPairs task rules o times
agree-pairs task rules o times p built = (there task rules o times p built, back task rules o times p built)
