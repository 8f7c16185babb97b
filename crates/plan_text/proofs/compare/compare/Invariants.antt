use Rattle.std.proofs.Common.{◌≡◌, ◌+◌, ◌*◌, ◌++◌}
use Rattle.plan_text.specs.Quotients.{leading, IsNear}
use Rattle.plan_text.proofs.compare.compare.Given as goal

abbrev pub invariant-loop-i : goal.invariant-loop-i
invariant-loop-i l = record {
  near : IsNear l.difference.high l.difference.low;
  value : l.difference.high * 18446744073709551616 + l.difference.low + l.q * leading (l.n.front.now ++ l.n.back.now) l.total l.i
      ≡ 5444517870735015415413993718908291383296 + l.p * leading (l.d.front.now ++ l.d.back.now) l.total l.i;
}
