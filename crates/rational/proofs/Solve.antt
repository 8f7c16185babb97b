-- Linear arithmetic: what follows from known statements, by naming them.
use Rattle.std.proofs.Common.{◌≡◌, refl, Bool, true, false, ◌&&◌, List, ◌∷◌, ⊎_elim}
use Rattle.rational.proofs.Ring.{Ex, num, Kind, at_most, below, equal, Stmt, ◌≼◌, ◌≺◌, Over, named, eval}
use Rattle.rational.proofs.Linear.{Ordered, refutes, holds, Holds, AllHold, refuted}
use Rattle.rational.proofs.Multipliers.{multipliers}

-- `facts ⊢ goal`: what is known, and what is to be shown
pub record Claim : Type 0 where
  pub facts : List Stmt
  pub goal : Stmt

infix 3 ◌⊢◌
abbrev pub ◌⊢◌ : List Stmt → Stmt → Claim
ss ⊢ s = record { facts = ss; goal = s }

-- found factors refute the statements, and 0 < 1
abbrev pub cannot_hold : List Stmt → Bool
cannot_hold ss = let all = (num 0 ≺ num 1) ∷ ss in refutes (multipliers all) all

-- the facts cannot all hold where the goal does not
abbrev pub follows : List Stmt → Kind → Ex → Ex → Bool
follows ss at_most a b = cannot_hold ((b ≺ a) ∷ ss)
follows ss below a b = cannot_hold ((b ≼ a) ∷ ss)
follows ss equal a b = cannot_hold ((b ≺ a) ∷ ss) && cannot_hold ((a ≺ b) ∷ ss)

module _ (O : Ordered) where
  -- `contradiction O xs (λ x y. facts) proofs refl`: facts that cannot all hold
  pub contradiction : (ρ : List O.r.A) (f : Over ρ (List Stmt)) → AllHold O ρ (named ρ 0 f) → cannot_hold (named ρ 0 f) ≡ true → ⊥
  contradiction ρ f h e = let all = (num 0 ≺ num 1) ∷ named ρ 0 f in refuted O ρ (multipliers all) all e (O.of_lt 0, h)

  at_most-follows : (ρ : List O.r.A) (ss : List Stmt) (a b : Ex) → AllHold O ρ ss → cannot_hold ((b ≺ a) ∷ ss) ≡ true → O.le (eval O.r ρ a) (eval O.r ρ b)
  at_most-follows ρ ss a b h e = ⊎_elim (λ l. l) (λ l. let all = (num 0 ≺ num 1) ∷ (b ≺ a) ∷ ss in absurd (refuted O ρ (multipliers all) all e (O.of_lt 0, (l, h)))) (O.le_or_gt (eval O.r ρ a) (eval O.r ρ b))

  below-follows : (ρ : List O.r.A) (ss : List Stmt) (a b : Ex) → AllHold O ρ ss → cannot_hold ((b ≼ a) ∷ ss) ≡ true → O.lt (eval O.r ρ a) (eval O.r ρ b)
  below-follows ρ ss a b h e = ⊎_elim (λ l. let all = (num 0 ≺ num 1) ∷ (b ≼ a) ∷ ss in absurd (refuted O ρ (multipliers all) all e (O.of_lt 0, (l, h)))) (λ l. l) (O.le_or_gt (eval O.r ρ b) (eval O.r ρ a))

  goal-follows : (ρ : List O.r.A) (ss : List Stmt) (k : Kind) (a b : Ex) → AllHold O ρ ss → follows ss k a b ≡ true → holds O k (eval O.r ρ a) (eval O.r ρ b)
  goal-follows ρ ss at_most a b h e = at_most-follows ρ ss a b h e
  goal-follows ρ ss below a b h e = below-follows ρ ss a b h e
  goal-follows ρ ss equal a b h e = O.antisym _ _ (at_most-follows ρ ss a b h (both _ _ e).0) (at_most-follows ρ ss b a h (both _ _ e).1)
    where
      both : (b c : Bool) → (b && c) ≡ true → (b ≡ true) × (c ≡ true)
      both true c e = (refl, e)
      both false c e = cc

  -- `linear O xs (λ x y. facts ⊢ goal) proofs refl`: a goal that follows by sums of the facts
  pub linear : (ρ : List O.r.A) (c : Over ρ Claim) → (let k = named ρ 0 c in AllHold O ρ k.facts → follows k.facts k.goal.kind k.goal.left k.goal.right ≡ true → Holds O ρ k.goal)
  linear ρ c h e = let k = named ρ 0 c in goal-follows ρ k.facts k.goal.kind k.goal.left k.goal.right h e
