use Rattle.std.proofs.Common.{◌≡◌, ℕ, ◌-◌, ◌≤◌, ◌<◌, true, false, get_or}
use Rattle.lp_sparse.proofs.marks.next_mark.Given as goal

abbrev pub invariant-loop-next : goal.invariant-loop-next
invariant-loop-next l = (l.k ≤ l.next) × (l.next ≤ l.count) × ((m : ℕ) → l.k ≤ m → m < l.next → get_or l.column m true ≡ false)

abbrev pub decreases-loop-next : goal.decreases-loop-next
decreases-loop-next l = l.count - l.next
