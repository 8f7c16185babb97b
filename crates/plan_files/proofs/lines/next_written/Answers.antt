use Rattle.std.proofs.Common.{◌≡◌, ◌<◌, true, false, length, rules, arith, ◌∙◌}
use Rattle.std.specs.List.{list_all}
use Rattle.basics.specs.Texts.{is_blank}
use Rattle.plan_files.proofs.Scans.{written_blank, written_next}
use Rattle.plan_files.proofs.lines.next_written.Goals as goal

pub returns-then-not-are_blanks : goal.returns-then-not-are_blanks
returns-then-not-are_blanks c =
    let some : 0 < length c.loop-rest.rest.now = search rules in
    let fewer = c.split_line.ensures.shorter some in
    let written : list_all is_blank c.split_at_byte.result.0.now ≡ false = search rules in
    record {
      lines = c.loop-rest.invariant.lines ∙ written_next c.loop-rest.number c.loop-rest.rest.now c.split_line.result.0.now c.split_at_byte.result.0.now c.split_line.result.1.now c.split_line.ensures.line c.split_at_byte.ensures.front c.split_line.ensures.rest written;
      within = omega (arith, fewer);
    }

pub loop-rest-preserved : goal.loop-rest-preserved
loop-rest-preserved c =
    let some : 0 < length c.loop-rest.rest.now = search rules in
    let fewer = c.split_line.ensures.shorter some in
    let blank : list_all is_blank c.split_at_byte.result.0.now ≡ true = search rules in
    record {
      lines = c.loop-rest.invariant.lines ∙ written_blank c.loop-rest.number c.loop-rest.rest.now c.split_line.result.0.now c.split_at_byte.result.0.now c.split_line.result.1.now c.split_line.ensures.line c.split_at_byte.ensures.front c.split_line.ensures.rest blank;
      within = omega (arith, fewer);
    }
