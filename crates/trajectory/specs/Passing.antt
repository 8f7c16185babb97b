-- Believed: what an automaton remembers of the states so far, of which nothing speaks but `Follows`.
use Rattle.std.specs.Prelude.{ℕ, Bool, true, false, not, ◌&&◌, ◌||◌, if◌then◌else◌, List, [], ◌∷◌, Option, Some, None}
use Rattle.task_types.specs.declared.constraints.TrailKind.{TrailKind}
use Rattle.task_types.specs.declared.constraints.TrailKind.TheVariants.{Always, Sometime, Within, AtMostOnce, SometimeAfter, SometimeBefore, AtEnd}
use Rattle.trajectory.specs.declared.flags.Flags.{Flags}

abbrev pub begins_met : TrailKind → Bool
begins_met Always = true
begins_met Sometime = false
begins_met Within = false
begins_met AtMostOnce = true
begins_met SometimeAfter = true
begins_met SometimeBefore = true
begins_met AtEnd = false

abbrev pub first_flags : TrailKind → Flags
first_flags kind = record { met = begins_met kind; seen = false; over = false }

-- the flags after a state in which the two formulas hold or not
abbrev pub next_flags : TrailKind → (a b : Bool) → Flags → Flags
next_flags Always a b s = record { met = s.met && a; seen = s.seen; over = s.over }
next_flags Sometime a b s = record { met = s.met || a; seen = s.seen; over = s.over }
next_flags Within a b s = record { met = s.met || a; seen = s.seen; over = s.over }
next_flags AtMostOnce a b s = record { met = s.met && not (a && s.over); seen = s.seen || a; over = s.over || (s.seen && not a) }
next_flags SometimeAfter a b s = record { met = b || (s.met && not a); seen = s.seen; over = s.over }
next_flags SometimeBefore a b s = record { met = s.met && (not a || s.seen); seen = s.seen || b; over = s.over }
next_flags AtEnd a b s = record { met = a; seen = s.seen; over = s.over }

abbrev pub flags_after : {M : Type 0} → TrailKind → (a b : M → Bool) → Flags → List M → Flags
flags_after kind a b s [] = s
flags_after kind a b s (m ∷ ms) = flags_after kind a b (next_flags kind (a m) (b m) s) ms

-- the number that was kept, else this one where the test holds
abbrev pub kept_or_now : Option ℕ → Bool → ℕ → Option ℕ
kept_or_now (Some first) holds number = Some first
kept_or_now None holds number = if holds then Some number else None
