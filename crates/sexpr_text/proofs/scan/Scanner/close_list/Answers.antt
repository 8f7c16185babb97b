use Rattle.std.proofs.Common.{ℕ, ◌-◌, arith, refl, ap, ◌∙◌, subst, add-one}
use Rattle.sexpr_text.specs.Scan.{Scanned}
use Rattle.sexpr_text.proofs.Faults.{first_without_lists, close_unopened}
use Rattle.sexpr_text.proofs.Places.{code_inside, closes_code}
use Rattle.sexpr_text.proofs.Scanning.{scanned_close, scanned_same, scanned_few}
use Rattle.sexpr_text.proofs.scan.Scanner.close_list.Goals as goal

pub returns-then-self-eq0-clause-fault : goal.returns-then-self-eq0-clause-fault
returns-then-self-eq0-clause-fault c =
    let scanned = subst (λ depth. Scanned c.args.text.now c.args.self.now.at depth c.args.self.now.outermost c.args.self.now.tokens.items) c.if-self-eq0.true c.requires.scanned in
    first_without_lists _ _ _ _ scanned _ (close_unopened _ _ _ _ scanned c.requires.closes) refl

pub push-requires-clause-end : goal.push-requires-clause-end
push-requires-clause-end c =
    let inside = code_inside _ _ (closes_code _ _ c.requires.closes) in
    omega (arith, c.requires.small)

pub push-requires-clause-count : goal.push-requires-clause-count
push-requires-clause-count c =
    let few = scanned_few _ _ _ _ _ c.requires.scanned in
    omega (arith, c.requires.small)

pub returns-clause-scanned : goal.returns-clause-scanned
returns-clause-scanned c =
    let pushed = c.in_ok-push.ensures in
    scanned_same _ _ _ _ _ _ _ _ _ (pushed.at ∙ add-one _) (ap (λ (d : ℕ). d - 1) pushed.depth) pushed.outermost (rw add-one at pushed.tokens)
    (scanned_close _ _ _ _ _ c.requires.scanned c.requires.closes c.requires.clear (omega (arith, c.if-self-eq0.false)))
