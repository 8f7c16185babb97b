-- The leaves of a tree by their numbers: all of them, one of them, and the first that fails.
use Rattle.std.proofs.Common.{◌≡◌, ◌↔◌, ℕ, zero, suc, ◌+◌, ◌-◌, ◌<◌, ◌≤◌, refl, sym, ◌∙◌, ap, subst, List, [], ◌∷◌, ◌++◌, length, map, get_or, arith, inl, inr, ◌⊎◌, ⊎_elim, Result, Ok, Err, IfErr, OnOk}
use Rattle.std.specs.Result.{IsOk}
use Rattle.std.specs.List.{AllByRecursion}
use Rattle.std.proofs.lemmas.List.{append-nil}
use Rattle.rational.specs.Rational.{ℚ}
use Rattle.cert_core.specs.declared.tree.TreeFault.{TreeFault}
use Rattle.cert_core.specs.declared.tree.DualTree.{DualTree}
use Rattle.cert_core.specs.Soft.{SoftProgram, IsLawful}
use Rattle.basics.specs.Duties.{Duty, AllMet, IsFirstUnmet, Judges}
use Rattle.cert_core.specs.Laws.{FailsAtFirstLeaf, EachLeafPasses, PassesWithItsLeaves}
use Rattle.cert_core.specs.Trees.{Leaf, Misfit, leaf_duties, leaves_duties, between_duties, numbered_duties, at_leaf, top, leaves_of, ProvesTree, AreLeavesReckoned}
use Rattle.basics.proofs.Duties.{AllMet-append, AllMet-left, AllMet-right, AllMet-no_first, IsFirstUnmet-left, IsFirstUnmet-right}
use Rattle.cert_core.proofs.TreeParts.{IsFirstUnmet-at_leaf, AllMet-at_leaf, at_leaf-AllMet, at_leaf-IsFirstUnmet, between-asked, between-passed, between-past}
use Rattle.cert_core.proofs.Grounded.{IsGrounded, leaves-grounded, leaves-exact, exact-leaves, undecided-AreDecisions}

abbrev no_leaf : Leaf
no_leaf = record { made = []; here = Misfit 0 }

-- where all numbers are asked, so is every leaf
pub between-all : (limit : ℕ) (p : SoftProgram) (to n : ℕ) (leaves : List Leaf) → 1 ≤ n → n + length leaves ≤ to + 1 → between_duties limit p 1 to n leaves ≡ leaves_duties limit p n leaves
between-all limit p to n [] h k = refl
between-all limit p to n (leaf ∷ leaves) h k = between-asked limit p 1 to n leaf leaves h (omega arith) ∙ ap (λ ds. map (at_leaf n) (leaf_duties limit p leaf) ++ ds) (between-all limit p to (n + 1) leaves (omega arith) (omega arith))

-- the check of all leaves is Ok exactly where they prove their parts by defined sums
pub all-exact : {A E : Type 0} (limit : ℕ) (p : SoftProgram) (to : ℕ) (leaves : List Leaf) (result : Result A E) (named : E → TreeFault ℕ ℕ) → IsLawful p → AllByRecursion (λ leaf. IsGrounded p leaf) leaves → length leaves ≤ to
    → Judges result named (between_duties limit p 1 to 1 leaves) → IsOk result ↔ (ProvesTree p leaves × AreLeavesReckoned limit p leaves)
all-exact limit p to leaves (Ok a) named l g h j = (λ _. leaves-exact limit 1 p leaves l g (subst (λ ds. AllMet ds) (between-all limit p to 1 leaves (omega arith) (omega arith)) j), λ _. refl)
all-exact limit p to leaves (Err e) named l g h j = (λ k. cc, λ k. absurd (AllMet-no_first (leaves_duties limit p 1 leaves) (named e) (exact-leaves limit 1 p leaves k.0 k.1) (subst (λ ds. IsFirstUnmet ds (named e)) (between-all limit p to 1 leaves (omega arith) (omega arith)) j)))

pub all-unmet : {A E : Type 0} (limit : ℕ) (p : SoftProgram) (to : ℕ) (leaves : List Leaf) (result : Result A E) (named : E → TreeFault ℕ ℕ) → length leaves ≤ to
    → Judges result named (between_duties limit p 1 to 1 leaves) → IfErr result (λ e. IsFirstUnmet (leaves_duties limit p 1 leaves) (named e))
all-unmet limit p to leaves (Ok a) named h j = tt
all-unmet limit p to leaves (Err e) named h j = subst (λ ds. IsFirstUnmet ds (named e)) (between-all limit p to 1 leaves (omega arith) (omega arith)) j

pub all-proves : {A E Q : Type 0} (limit : ℕ) (p : SoftProgram) (to : ℕ) (leaves : List Leaf) (result : Result A E) (named : E → TreeFault ℕ ℕ) → IsLawful p → AllByRecursion (λ leaf. IsGrounded p leaf) leaves → length leaves ≤ to
    → Judges result named (between_duties limit p 1 to 1 leaves) → (ProvesTree p leaves → Q) → OnOk result Q
all-proves limit p to leaves (Ok a) named l g h j f = f (leaves-exact limit 1 p leaves l g (subst (λ ds. AllMet ds) (between-all limit p to 1 leaves (omega arith) (omega arith)) j)).0
all-proves limit p to leaves (Err e) named l g h j f = tt

-- where one number is asked, so is its leaf
between-one : (limit : ℕ) (p : SoftProgram) (m n k : ℕ) (leaves : List Leaf) → m ≡ n + k → k < length leaves → between_duties limit p m m n leaves ≡ map (at_leaf m) (leaf_duties limit p (get_or leaves k no_leaf))
between-one limit p m n k [] e h = absurd (omega arith)
between-one limit p m n zero (leaf ∷ leaves) e h = between-asked limit p m m n leaf leaves (omega arith) (omega arith)
    ∙ ap (λ ds. map (at_leaf n) (leaf_duties limit p leaf) ++ ds) (between-past limit p m m (n + 1) leaves (omega arith))
    ∙ append-nil (map (at_leaf n) (leaf_duties limit p leaf))
    ∙ (let same : n ≡ m = omega arith in ap (λ (x : ℕ). map (at_leaf x) (leaf_duties limit p leaf)) same)
between-one limit p m n (suc k) (leaf ∷ leaves) e h = between-passed limit p m m n leaf leaves (omega arith) ∙ between-one limit p m (n + 1) k leaves (omega arith) (omega arith)

pub numbered-met : (limit : ℕ) (p : SoftProgram) (m : ℕ) (leaves : List Leaf) → 1 ≤ m → m ≤ length leaves → AllMet (between_duties limit p m m 1 leaves) → AllMet (numbered_duties limit p leaves m)
numbered-met limit p m leaves h k a = at_leaf-AllMet m (numbered_duties limit p leaves m) (subst (λ ds. AllMet ds) (between-one limit p m 1 (m - 1) leaves (omega arith) (omega arith)) a)

pub numbered-unmet : (limit : ℕ) (p : SoftProgram) (m : ℕ) (leaves : List Leaf) (f : TreeFault ℕ ℕ) → 1 ≤ m → m ≤ length leaves → IsFirstUnmet (between_duties limit p m m 1 leaves) f → IsFirstUnmet (numbered_duties limit p leaves m) f.fault
numbered-unmet limit p m leaves f h k u = (at_leaf-IsFirstUnmet m (numbered_duties limit p leaves m) f (subst (λ ds. IsFirstUnmet ds f) (between-one limit p m 1 (m - 1) leaves (omega arith) (omega arith)) u)).1

-- ---- the tree's check fails at the first leaf whose own check fails
first-parts : {F : Type 0} (ds es : List (Duty F)) (f : F) → IsFirstUnmet (ds ++ es) f → IsFirstUnmet ds f ⊎ (AllMet ds × IsFirstUnmet es f)
first-parts [] es f u = inr (tt, u)
first-parts (d ∷ ds) es f u = ⊎_elim (λ a. inl (inl a)) (λ b. ⊎_elim (λ c. inl (inr (b.0, c))) (λ c. inr ((b.0, c.0), c.1)) (first-parts ds es f b.1)) u

-- leaf k of the list is the first that fails, and so the fault f is that of leaf n + k
record FailsAt (limit : ℕ) (p : SoftProgram) (n : ℕ) (leaves : List Leaf) (f : TreeFault ℕ ℕ) (k : ℕ) : Type 0 where
  inside : k < length leaves
  number : f.leaf ≡ n + k
  fails : IsFirstUnmet (leaf_duties limit p (get_or leaves k no_leaf)) f.fault
  passes : (j : ℕ) → j < k → AllMet (leaf_duties limit p (get_or leaves j no_leaf))

first-leaf : (limit : ℕ) (p : SoftProgram) (n : ℕ) (leaves : List Leaf) (f : TreeFault ℕ ℕ) → IsFirstUnmet (leaves_duties limit p n leaves) f → (k : ℕ) × FailsAt limit p n leaves f k
first-leaf limit p n [] f u = absurd u
first-leaf limit p n (leaf ∷ leaves) f u = ⊎_elim
    (λ a. let r = at_leaf-IsFirstUnmet n (leaf_duties limit p leaf) f a in (0, record { inside = omega arith; number = omega (arith, r.0); fails = r.1; passes = λ j h. absurd (omega arith) }))
    (λ b. let r = first-leaf limit p (n + 1) leaves f b.1 in (
      suc r.0,
      record {
        inside = omega (arith, r.1.inside);
        number = omega (arith, r.1.number);
        fails = r.1.fails;
        passes = λ j h. earlier leaf leaves r.0 (at_leaf-AllMet n (leaf_duties limit p leaf) b.0) r.1.passes j h;
      },
    ))
    (first-parts (map (at_leaf n) (leaf_duties limit p leaf)) (leaves_duties limit p (n + 1) leaves) f u)
  where
    earlier : (leaf : Leaf) (leaves : List Leaf) (k : ℕ) → AllMet (leaf_duties limit p leaf) → ((j : ℕ) → j < k → AllMet (leaf_duties limit p (get_or leaves j no_leaf))) → (j : ℕ) → j < suc k → AllMet (leaf_duties limit p (get_or (leaf ∷ leaves) j no_leaf))
    earlier leaf leaves k a g zero h = a
    earlier leaf leaves k a g (suc j) h = g j (omega arith)

leaf-first : (limit : ℕ) (p : SoftProgram) (n : ℕ) (leaves : List Leaf) (f : TreeFault ℕ ℕ) (k : ℕ) → FailsAt limit p n leaves f k → IsFirstUnmet (leaves_duties limit p n leaves) f
leaf-first limit p n [] f k r = absurd (omega (arith, r.inside))
leaf-first limit p n (leaf ∷ leaves) f zero r = IsFirstUnmet-left (map (at_leaf n) (leaf_duties limit p leaf)) (leaves_duties limit p (n + 1) leaves) f
    (let same : n ≡ f.leaf = omega (arith, r.number) in subst (λ (m : ℕ). IsFirstUnmet (map (at_leaf n) (leaf_duties limit p leaf)) (record { leaf = m; fault = f.fault })) same (IsFirstUnmet-at_leaf n (leaf_duties limit p leaf) f.fault r.fails))
leaf-first limit p n (leaf ∷ leaves) f (suc k) r = IsFirstUnmet-right (map (at_leaf n) (leaf_duties limit p leaf)) (leaves_duties limit p (n + 1) leaves) f
    (AllMet-at_leaf n (leaf_duties limit p leaf) (r.passes 0 (omega arith)))
    (leaf-first limit p (n + 1) leaves f k (record { inside = omega (arith, r.inside); number = omega (arith, r.number); fails = r.fails; passes = λ j h. r.passes (suc j) (omega arith) }))

-- both ways, with the leaves counted from 1
pub fails-at_first_leaf : (limit : ℕ) (p : SoftProgram) → FailsAtFirstLeaf limit p
fails-at_first_leaf limit p leaves f = (
  λ u. let r = first-leaf limit p 1 leaves f u in
      let place : f.leaf - 1 ≡ r.0 = omega (arith, r.1.number) in (
        omega (arith, r.1.number),
        omega (arith, r.1.number, r.1.inside),
        subst (λ (k : ℕ). IsFirstUnmet (leaf_duties limit p (get_or leaves k no_leaf)) f.fault) (sym place) r.1.fails,
        λ n h k. r.1.passes (n - 1) (omega (arith, r.1.number)),
      ),
  λ a. leaf-first limit p 1 leaves f (f.leaf - 1) (record { inside = omega (arith, a.0, a.1); number = omega (arith, a.0); fails = a.2; passes = λ j h. passed j (a.3 (j + 1) (omega arith) (omega (arith, a.0))) }),
)
  where
    passed : (j : ℕ) → AllMet (numbered_duties limit p leaves (j + 1)) → AllMet (leaf_duties limit p (get_or leaves j no_leaf))
    passed j h = let same : j + 1 - 1 ≡ j = omega arith in subst (λ (k : ℕ). AllMet (leaf_duties limit p (get_or leaves k no_leaf))) same h

-- ---- each leaf passes exactly where the tree proves its cost by defined sums
each-met : (limit : ℕ) (p : SoftProgram) (n : ℕ) (leaves : List Leaf) → ((k : ℕ) → k < length leaves → AllMet (leaf_duties limit p (get_or leaves k no_leaf))) → AllMet (leaves_duties limit p n leaves)
each-met limit p n [] f = tt
each-met limit p n (leaf ∷ leaves) f = AllMet-append (map (at_leaf n) (leaf_duties limit p leaf)) (leaves_duties limit p (n + 1) leaves) (AllMet-at_leaf n (leaf_duties limit p leaf) (f 0 (omega arith))) (each-met limit p (n + 1) leaves (λ k h. f (suc k) (omega arith)))

met-each : (limit : ℕ) (p : SoftProgram) (n : ℕ) (leaves : List Leaf) → AllMet (leaves_duties limit p n leaves) → (k : ℕ) → k < length leaves → AllMet (leaf_duties limit p (get_or leaves k no_leaf))
met-each limit p n [] a k h = absurd (omega arith)
met-each limit p n (leaf ∷ leaves) a zero h = at_leaf-AllMet n (leaf_duties limit p leaf) (AllMet-left (map (at_leaf n) (leaf_duties limit p leaf)) (leaves_duties limit p (n + 1) leaves) a)
met-each limit p n (leaf ∷ leaves) a (suc k) h = met-each limit p (n + 1) leaves (AllMet-right (map (at_leaf n) (leaf_duties limit p leaf)) (leaves_duties limit p (n + 1) leaves) a) k (omega arith)

each-numbered : (limit : ℕ) (p : SoftProgram) (leaves : List Leaf) → EachLeafPasses limit p leaves → (k : ℕ) → k < length leaves → AllMet (leaf_duties limit p (get_or leaves k no_leaf))
each-numbered limit p leaves f k h = let there : k + 1 - 1 ≡ k = omega arith in subst (λ (m : ℕ). AllMet (leaf_duties limit p (get_or leaves m no_leaf))) there (f (k + 1) (omega arith) (omega arith))

pub passes_with-leaves : {T R S : Type 0} (term : T → ℕ) (row : R → ℕ) (value : S → ℚ) (limit : ℕ) (p : SoftProgram) (tree : DualTree T R S) → IsLawful p → PassesWithItsLeaves term row value limit p tree
passes_with-leaves term row value limit p tree l q made u =
    let leaves = leaves_of term row value p q tree (top made) in
    let grounded = leaves-grounded term row value p q tree (top made) (λ e. undecided-AreDecisions p made u) in (
      λ f. leaves-exact limit 1 p leaves l grounded (each-met limit p 1 leaves (each-numbered limit p leaves f)),
      λ h n b e. met-each limit p 1 leaves (exact-leaves limit 1 p leaves h.0 h.1) (n - 1) (omega arith),
    )
