use Rattle.std.proofs.Common.{◌≡◌, arith, subst, refl}
use Rattle.sexpr_text.specs.Scan.{Scanned}
use Rattle.sexpr_text.proofs.Faults.{first_at_end}
use Rattle.sexpr_text.proofs.Scanning.{scanned_start, scanned_same, scanned_end}
use Rattle.sexpr_text.proofs.scan.scan_tokens.Goals as goal

pub loop-scanner-init : goal.loop-scanner-init
loop-scanner-init c =
    let new = c.new-scanner.ensures in
    scanned_same _ _ _ _ _ _ _ _ _ new.at new.depth refl new.tokens (scanned_start _ _)

pub returns-then-scanner-gt0-clause-fault : goal.returns-then-scanner-gt0-clause-fault
returns-then-scanner-gt0-clause-fault c = first_at_end _ _ _ _ _ c.loop-scanner.invariant c.loop-scanner-test.false c.if-scanner-gt0.true

pub returns-clause-tokens : goal.returns-clause-tokens
returns-clause-tokens c =
    let none : c.loop-scanner.scanner.depth ≡ 0 = omega (arith, c.if-scanner-gt0.false) in
    scanned_end _ _ _ _ (subst (λ depth. Scanned c.args.text.now c.loop-scanner.scanner.at depth c.loop-scanner.scanner.outermost c.loop-scanner.scanner.tokens.items) none c.loop-scanner.invariant) c.loop-scanner-test.false
