use Rattle.std.proofs.Common.{◌≡◌, ℕ, suc, ◌+◌, arith, refl, sym, ap, ◌∙◌, subst, add-one}
use Rattle.sexpr_text.specs.declared.scan.Scanner.{Scanner}
use Rattle.sexpr_text.specs.Scan.{Scanned}
use Rattle.sexpr_text.proofs.Places.{code_inside, opens_code}
use Rattle.sexpr_text.proofs.Scanning.{scanned_open, scanned_first, scanned_same, scanned_few}
use Rattle.sexpr_text.proofs.scan.Scanner.open_list.Goals as goal
use Rattle.sexpr_text.proofs.scan.Scanner.open_list.Goals.{then-self-eq0, else-self-eq0}

pub push-requires-clause-end : goal.push-requires-clause-end
push-requires-clause-end c =
    let inside = code_inside _ _ (opens_code _ _ c.requires.opens) in
    omega (arith, c.requires.small)

pub push-requires-clause-count : goal.push-requires-clause-count
push-requires-clause-count c =
    let few = scanned_few _ _ _ _ _ c.requires.scanned in
    omega (arith, c.requires.small)

pub returns-clause-scanned : goal.returns-clause-scanned
returns-clause-scanned c =
    let pushed = c.in_ok-push.ensures in
    let Holds : Scanner → Type 0 = λ s. Scanned c.args.text.now s.at (s.depth + 1) s.outermost s.tokens.items in
    elim c.if-self-eq0.branch [
      | then-self-eq0 w ↦
          let none : c.args.self.now.depth ≡ 0 = sym pushed.depth ∙ w.if-self-eq0.true in
          let scanned = subst (λ depth. Scanned c.args.text.now c.args.self.now.at depth c.args.self.now.outermost c.args.self.now.tokens.items) none c.requires.scanned in
          subst Holds (sym w.self-is)
          (scanned_same _ _ _ _ _ _ _ _ _ (pushed.at ∙ add-one _) (ap (λ (d : ℕ). d + 1) w.if-self-eq0.true) refl (rw add-one at pushed.tokens)
          (scanned_first _ _ _ _ scanned c.requires.opens c.requires.clear))
      | else-self-eq0 w ↦
          subst Holds (sym w.self-is)
          (scanned_same _ _ _ _ _ _ _ _ _ (pushed.at ∙ add-one _) (add-one _ ∙ ap suc pushed.depth) pushed.outermost (rw add-one at pushed.tokens)
          (scanned_open _ _ _ _ _ c.requires.scanned c.requires.opens c.requires.clear (omega (arith, w.if-self-eq0.false, pushed.depth)) (omega (arith, c.if-self-ge-MAX_DEPTH.false))))
    ]
