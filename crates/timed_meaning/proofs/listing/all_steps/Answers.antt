use Rattle.std.proofs.Common.{◌≡◌, ◌≤◌, length, ap, arith}
use Rattle.timed_meaning.proofs.Built.{lines-known}
use Rattle.timed_meaning.proofs.Listed.{timed-few}
use Rattle.timed_meaning.proofs.listing.all_steps.Goals as goal

pub push_plan_steps-requires-clause-known : goal.push_plan_steps-requires-clause-known
push_plan_steps-requires-clause-known c = lines-known c.args.parts.now c.args.lines.now c.requires.built.formed

pub push_timed-requires : goal.push_timed-requires
push_timed-requires c =
    let t : length c.args.parts.now.timed ≤ 64 = timed-few c.args.parts.now c.requires.well_made in
    let s : length c.as_slice.result.now ≡ length c.args.parts.now.timed = ap length c.as_slice.ensures in
    let f : length c.args.lines.now ≤ 4096 = c.requires.built.few in
    omega (arith, t, s, f)
