-- Steps whose links hold may be sorted by time.
use Rattle.std.proofs.Common.{◌≡◌, refl, subst, ℕ, Bool, true, false, cond, List, [], ◌∷◌}
use Rattle.std.specs.List.{list_all}
use Rattle.rational.specs.Rational.{ℚ, ◌+ℚ◌, ◌≤ℚ◌, ◌<ℚ◌}
use Rattle.rational.specs.Rational.{zeroℚ}
use Rattle.rational.proofs.Order.{ℚ_ordered}
use Rattle.rational.proofs.Ring.{◌⊕◌, num, ◌≼◌, ◌≺◌}
use Rattle.rational.proofs.Solve.{contradiction}
use Rattle.basics.proofs.Bools.{and_left, and_right, and_in}
use Rattle.task_types.specs.declared.parts.TaskParts.{TaskParts}
use Rattle.task_types.specs.declared.parts.Rules.{Rules}
use Rattle.task_types.specs.Tests.{◌≤?◌}
use Rattle.task_types.specs.Plan.{snap_of}
use Rattle.task_types.specs.declared.orderings.Link.{Link}
use Rattle.task_types.specs.declared.orderings.Link.TheVariants.{Free, Weak, Apart}
use Rattle.task_types.specs.Order.{link}
use Rattle.task_types.specs.Agreement.{link_holds, are_linked}
use Rattle.task_types.specs.Laws.{put_by_time, by_time, SortingKeepsLinks}
use Rattle.task_types.proofs.Comparisons.{le_out, later_out, lt_le_absurd}
use Rattle.task_types.proofs.Links.{link_comm}

abbrev holds_of : TaskParts → Rules → ℕ × ℚ → ℕ × ℚ → Bool
holds_of task rules p q = link_holds rules (link task (snap_of task p.0) (snap_of task q.0)) p.1 q.1

-- a link that holds although the later step is earlier in time is free
turned : (rules : Rules) → zeroℚ ≤ℚ rules.epsilon → (k : Link) (t u : ℚ) → u <ℚ t → link_holds rules k t u ≡ true → link_holds rules k u t ≡ true
turned rules e Free t u l h = refl
turned rules e Weak t u l h = absurd (lt_le_absurd u t l (le_out t u h))
turned rules e Apart t u l h = absurd (contradiction ℚ_ordered (u ∷ t ∷ rules.epsilon ∷ []) (λ u t e. u ≺ t ∷ t ⊕ e ≼ u ∷ num 0 ≼ e ∷ []) (l, (le_out (t +ℚ rules.epsilon) u h, (e, tt))) refl)

swapped : (task : TaskParts) (rules : Rules) (p q : ℕ × ℚ) → zeroℚ ≤ℚ rules.epsilon → q.1 <ℚ p.1 → holds_of task rules p q ≡ true → holds_of task rules q p ≡ true
swapped task rules p q e l h = subst (λ k. link_holds rules k q.1 p.1 ≡ true) (link_comm task (snap_of task p.0) (snap_of task q.0)) (turned rules e (link task (snap_of task p.0) (snap_of task q.0)) p.1 q.1 l h)

-- a test of all elements, where one more is put among them
all_put : (f : ℕ × ℚ → Bool) (p : ℕ × ℚ) (qs : List (ℕ × ℚ)) → f p ≡ true → list_all f qs ≡ true → list_all f (put_by_time p qs) ≡ true
all_put f p [] h k = and_in (f p) true h refl
all_put f p (q ∷ qs) h k = go (p.1 ≤? q.1) (all_put f p qs h (and_right (f q) (list_all f qs) k))
  where
    go : (b : Bool) → list_all f (put_by_time p qs) ≡ true → list_all f (cond b (p ∷ q ∷ qs) (q ∷ put_by_time p qs)) ≡ true
    go true r = and_in (f p) (list_all f (q ∷ qs)) h k
    go false r = and_in (f q) (list_all f (put_by_time p qs)) (and_left (f q) (list_all f qs) k) r

all_sorted : (f : ℕ × ℚ → Bool) (ps : List (ℕ × ℚ)) → list_all f ps ≡ true → list_all f (by_time ps) ≡ true
all_sorted f [] h = refl
all_sorted f (p ∷ ps) h = all_put f p (by_time ps) (and_left (f p) (list_all f ps) h) (all_sorted f ps (and_right (f p) (list_all f ps) h))

linked_put : (task : TaskParts) (rules : Rules) (p : ℕ × ℚ) (qs : List (ℕ × ℚ)) → zeroℚ ≤ℚ rules.epsilon → list_all (holds_of task rules p) qs ≡ true → are_linked task rules qs ≡ true → are_linked task rules (put_by_time p qs) ≡ true
linked_put task rules p [] e h k = refl
linked_put task rules p (q ∷ qs) e h k = go (p.1 ≤? q.1) refl (linked_put task rules p qs e (and_right (holds_of task rules p q) (list_all (holds_of task rules p) qs) h) (and_right (list_all (holds_of task rules q) qs) (are_linked task rules qs) k))
  where
    go : (b : Bool) → (p.1 ≤? q.1) ≡ b → are_linked task rules (put_by_time p qs) ≡ true → are_linked task rules (cond b (p ∷ q ∷ qs) (q ∷ put_by_time p qs)) ≡ true
    go true c r = and_in (list_all (holds_of task rules p) (q ∷ qs)) (are_linked task rules (q ∷ qs)) h k
    go false c r = and_in (list_all (holds_of task rules q) (put_by_time p qs)) (are_linked task rules (put_by_time p qs))
        (all_put (holds_of task rules q) p qs (swapped task rules p q e (later_out p.1 q.1 c) (and_left (holds_of task rules p q) (list_all (holds_of task rules p) qs) h)) (and_left (list_all (holds_of task rules q) qs) (are_linked task rules qs) k)) r

-- sorting by time keeps the links
pub linked-by_time : (task : TaskParts) (rules : Rules) (ps : List (ℕ × ℚ)) → zeroℚ ≤ℚ rules.epsilon → are_linked task rules ps ≡ true → are_linked task rules (by_time ps) ≡ true
linked-by_time task rules [] e h = refl
linked-by_time task rules (p ∷ ps) e h = linked_put task rules p (by_time ps) e
    (all_sorted (holds_of task rules p) ps (and_left (list_all (holds_of task rules p) ps) (are_linked task rules ps) h))
    (linked-by_time task rules ps e (and_right (list_all (holds_of task rules p) ps) (are_linked task rules ps) h))

pub sorting_keeps_links : SortingKeepsLinks
sorting_keeps_links task rules ps e h = linked-by_time task rules ps e h
