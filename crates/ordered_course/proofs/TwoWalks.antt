-- The states along a list and the states in time are two walks through the changes of one group of facts.
use Rattle.std.proofs.Common.{◌≡◌, refl, sym, ap, ap₂, subst, ◌∙◌, ℕ, suc, ◌+◌, Bool, true, false, cond, List, [], ◌∷◌, map, length, arith, inl, inr}
use Rattle.std.specs.Prelude.{not, if◌then◌else◌}
use Rattle.std.specs.List.{filter, AllByRecursion}
use Rattle.rational.specs.Rational.{ℚ, ◌<ℚ◌, ◌≤ℚ◌}
use Rattle.rational.proofs.Order.{lt_le, lt_irrefl}
use Rattle.rational.proofs.Inequalities.{lt_trans}
use Rattle.task_types.specs.declared.parts.TaskParts.{TaskParts}
use Rattle.task_types.specs.Tests.{◌≤?◌}
use Rattle.task_types.specs.Plan.{Step, snap_of}
use Rattle.task_types.specs.Course.{happen}
use Rattle.task_types.specs.Laws.{Ascends}
use Rattle.task_types.proofs.Comparisons.{lt_in, le_in, eq_le}
use Rattle.task_types.proofs.Everyone.{all_map}
use Rattle.task_types.proofs.Happenings.{Among, below_each}
use Rattle.ordering.specs.Along.{Carried, carry, carry_all, changes_fact}
use Rattle.ordered_course.specs.Walks.{Walks}
use Rattle.ordered_course.proofs.Cut.{quiet_fact}

-- ---- walks made step by step

pub lingers : (n i : ℕ) (ks : List ℕ) → Walks n i ks → Walks n i (i ∷ ks)
lingers n i [] h = absurd h
lingers n i (k ∷ ks) h = (refl, inl h)

pub goes_on : (m i : ℕ) (ks : List ℕ) → Walks m (suc i) ks → Walks (suc m) i (i ∷ ks)
goes_on m i [] h = absurd h
goes_on m i (k ∷ ks) h = (refl, inr (m, (refl, h)))

-- how many elements so far pass a test, before each of a list and after all, counted from i
abbrev pub counts : {X : Type 0} → (X → Bool) → ℕ → List X → List ℕ
counts p i [] = i ∷ []
counts p i (x ∷ xs) = i ∷ counts p (if p x then suc i else i) xs

-- the states along a list
pub list_walk : {X : Type 0} (p : X → Bool) (i : ℕ) (xs : List X) → Walks (length (filter p xs)) i (counts p i xs)
list_walk p i [] = (refl, refl)
list_walk p i (x ∷ xs) = go (p x) (list_walk p i xs) (list_walk p (suc i) xs)
  where
    go : (b : Bool) → Walks (length (filter p xs)) i (counts p i xs) → Walks (length (filter p xs)) (suc i) (counts p (suc i) xs) → Walks (length (cond b (x ∷ filter p xs) (filter p xs))) i (i ∷ counts p (if b then suc i else i) xs)
    go true h k = goes_on (length (filter p xs)) i (counts p (suc i) xs) k
    go false h k = lingers (length (filter p xs)) i (counts p i xs) h

-- ---- the states in time

-- how many of some times are no later than another
abbrev pub count_up_to : ℚ → List ℚ → ℕ
count_up_to t cs = length (filter (λ c. c ≤? t) cs)

none_up_to : (t : ℚ) (cs : List ℚ) → AllByRecursion (λ c. t <ℚ c) cs → count_up_to t cs ≡ 0
none_up_to t [] h = refl
none_up_to t (c ∷ cs) h = go (c ≤? t) (ap not (lt_in t c h.0)) (none_up_to t cs h.1)
  where
    go : (b : Bool) → b ≡ false → count_up_to t cs ≡ 0 → length (cond b (c ∷ filter (λ c. c ≤? t) cs) (filter (λ c. c ≤? t) cs)) ≡ 0
    go true e r = let d : true ≡ false = e in cc
    go false e r = r

one_up_to : (t c : ℚ) (cs : List ℚ) → c ≤ℚ t → count_up_to t (c ∷ cs) ≡ suc (count_up_to t cs)
one_up_to t c cs h = ap (λ b. length (cond b (c ∷ filter (λ c. c ≤? t) cs) (filter (λ c. c ≤? t) cs))) (le_in c t h)

above_all : (t u : ℚ) (cs : List ℚ) → t <ℚ u → AllByRecursion (λ c. u <ℚ c) cs → AllByRecursion (λ c. t <ℚ c) cs
above_all t u cs h a = all_map (λ c. u <ℚ c) (λ c. t <ℚ c) cs (λ c l. lt_trans t u c h l) a

-- the times are all among others
abbrev AllAmong : List ℚ → List ℚ → Type 0
AllAmong ts cs = AllByRecursion (λ c. Among c ts) cs

-- a later time is among the later ones
dropped : (t : ℚ) (ts cs : List ℚ) → AllByRecursion (λ c. t <ℚ c) cs → AllAmong (t ∷ ts) cs → AllAmong ts cs
dropped t ts [] a h = tt
dropped t ts (c ∷ cs) a h = (go h.0, dropped t ts cs a.1 h.1)
  where
    go : Among c (t ∷ ts) → Among c ts
    go (inl e) = absurd (lt_irrefl t (subst (λ x. t <ℚ x) e a.0))
    go (inr k) = k

map_same : (f g : ℚ → ℕ) (ts : List ℚ) → AllByRecursion (λ t. f t ≡ g t) ts → map f ts ≡ map g ts
map_same f g [] h = refl
map_same f g (t ∷ ts) h = ap₂ (λ (n : ℕ) (l : List ℕ). n ∷ l) h.0 (map_same f g ts h.1)

-- the counts in ascending times of changes that come one at a time
pub time_walk : (ts cs : List ℚ) (i : ℕ) → Ascends ts → Ascends cs → AllAmong ts cs → Walks (length cs) i (i ∷ map (λ t. i + count_up_to t cs) ts)
time_walk [] [] i a b h = (refl, refl)
time_walk [] (c ∷ cs) i a b h = absurd h.0
time_walk (t ∷ ts) [] i a b h = lingers 0 i ((i + 0) ∷ map (λ t. i + 0) ts) (subst (λ j. Walks 0 i (j ∷ map (λ t. i + 0) ts)) (sym (plus_none i)) (time_walk ts [] i a.1 tt tt))
  where
    plus_none : (i : ℕ) → i + 0 ≡ i
    plus_none i = omega arith
time_walk (t ∷ ts) (c ∷ cs) i a b h = go h.0 (λ e. time_walk ts cs (suc i) a.1 b.1 (dropped t ts cs (subst (λ x. AllByRecursion (λ c. x <ℚ c) cs) e b.0) h.1)) (λ l. time_walk ts (c ∷ cs) i a.1 b (dropped t ts (c ∷ cs) (l, above_all t c cs l b.0) h))
  where
    plus_one : (i n : ℕ) → i + suc n ≡ suc i + n
    plus_one i n = omega arith

    plus_none : (i n : ℕ) → n ≡ 0 → i + n ≡ i
    plus_none i n e = omega (arith, e)

    plus_only : (i n m : ℕ) → n ≡ suc m → m ≡ 0 → i + n ≡ suc i
    plus_only i n m e f = omega (arith, e, f)

    -- the change comes at this time
    now : c ≡ t → Walks (length cs) (suc i) (suc i ∷ map (λ u. suc i + count_up_to u cs) ts) → Walks (suc (length cs)) i (i ∷ (i + count_up_to t (c ∷ cs)) ∷ map (λ u. i + count_up_to u (c ∷ cs)) ts)
    now e r =
        let here : i + count_up_to t (c ∷ cs) ≡ suc i = plus_only i (count_up_to t (c ∷ cs)) (count_up_to t cs) (one_up_to t c cs (eq_le t c (sym e))) (none_up_to t cs (subst (λ x. AllByRecursion (λ c. x <ℚ c) cs) e b.0)) in
        goes_on (length cs) i ((i + count_up_to t (c ∷ cs)) ∷ map (λ u. i + count_up_to u (c ∷ cs)) ts)
        (subst (λ j. Walks (length cs) (suc i) (j ∷ map (λ u. i + count_up_to u (c ∷ cs)) ts)) (sym here)
        (subst (λ l. Walks (length cs) (suc i) (suc i ∷ l)) (sym (map_same (λ u. i + count_up_to u (c ∷ cs)) (λ u. suc i + count_up_to u cs) ts
        (all_map (λ u. t <ℚ u) (λ u. i + count_up_to u (c ∷ cs) ≡ suc i + count_up_to u cs) ts (λ u l. ap (λ n. i + n) (one_up_to u c cs (lt_le c u (subst (λ x. x <ℚ u) (sym e) l))) ∙ plus_one i (count_up_to u cs)) a.0))) r))

    -- it comes later
    later : t <ℚ c → Walks (suc (length cs)) i (i ∷ map (λ u. i + count_up_to u (c ∷ cs)) ts) → Walks (suc (length cs)) i (i ∷ (i + count_up_to t (c ∷ cs)) ∷ map (λ u. i + count_up_to u (c ∷ cs)) ts)
    later l r = lingers (suc (length cs)) i ((i + count_up_to t (c ∷ cs)) ∷ map (λ u. i + count_up_to u (c ∷ cs)) ts)
        (subst (λ j. Walks (suc (length cs)) i (j ∷ map (λ u. i + count_up_to u (c ∷ cs)) ts)) (sym (plus_none i (count_up_to t (c ∷ cs)) (none_up_to t (c ∷ cs) (l, above_all t c cs l b.0)))) r)

    go : Among c (t ∷ ts) → (c ≡ t → Walks (length cs) (suc i) (suc i ∷ map (λ u. suc i + count_up_to u cs) ts)) → (t <ℚ c → Walks (suc (length cs)) i (i ∷ map (λ u. i + count_up_to u (c ∷ cs)) ts))
        → Walks (suc (length cs)) i (i ∷ (i + count_up_to t (c ∷ cs)) ∷ map (λ u. i + count_up_to u (c ∷ cs)) ts)
    go (inl e) f g = now e (f e)
    go (inr k) f g = let l : t <ℚ c = below_each t c ts a.0 k in later l (g l)

-- ---- facts of a group go by the steps that change it

fact_on : (task : TaskParts) (f : ℕ) (m n : Carried) (x : Step) → m.facts f ≡ n.facts f → (carry task m x).facts f ≡ (carry task n x).facts f
unfolding carry happen
fact_on task f m n x e = rw e refl

-- A fact is, after a list, as after those of its steps that may change it.
pub facts_by_changers : (task : TaskParts) (p : Step → Bool) (f : ℕ) (m n : Carried) (xs : List Step) → ((x : Step) → p x ≡ false → changes_fact (snap_of task x.snap) f ≡ false) → m.facts f ≡ n.facts f
    → (carry_all task m xs).facts f ≡ (carry_all task n (filter p xs)).facts f
facts_by_changers task p f m n [] h e = e
facts_by_changers task p f m n (x ∷ xs) h e = go (p x) refl (λ u. facts_by_changers task p f (carry task m x) (carry task n x) xs h u) (λ u. facts_by_changers task p f (carry task m x) n xs h u)
  where
    go : (b : Bool) → p x ≡ b → ((carry task m x).facts f ≡ (carry task n x).facts f → (carry_all task (carry task m x) xs).facts f ≡ (carry_all task (carry task n x) (filter p xs)).facts f)
        → ((carry task m x).facts f ≡ n.facts f → (carry_all task (carry task m x) xs).facts f ≡ (carry_all task n (filter p xs)).facts f) → (carry_all task (carry task m x) xs).facts f ≡ (carry_all task n (cond b (x ∷ filter p xs) (filter p xs))).facts f
    go true q r s = r (fact_on task f m n x e)
    go false q r s = s (quiet_fact task f m x (h x q) ∙ e)
