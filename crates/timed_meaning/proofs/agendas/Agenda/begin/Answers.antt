use Rattle.std.proofs.Common.{◌∙◌, ◌<◌, sym, ap, subst, length}
use Rattle.task_types.specs.Plan.{steps}
use Rattle.timed_meaning.specs.Moves.{AreLines}
use Rattle.timed_meaning.specs.Owned.{steps_of}
use Rattle.timed_meaning.proofs.Built.{lines-known}
use Rattle.timed_meaning.proofs.Known.{steps-known, known-reordered, by_start-each}
use Rattle.timed_meaning.proofs.Left.{Left-begin}
use Rattle.timed_meaning.proofs.Listed.{ends-placed, few-steps}
use Rattle.timed_meaning.proofs.agendas.Agenda.begin.Goals as goal

pub of_lists-requires : goal.of_lists-requires
of_lists-requires c = c.in_ok-steps.ensures ∙ ap steps_of c.as_slice.ensures.value

pub returns : goal.returns
returns c = c.of_lists.ensures c.args.parts.now c.args.lines.now (record {
  falls = c.in_ok-owned.ensures.sorted.falls;
  owned = c.in_ok-owned.ensures.owners;
  left = Left-begin c.args.parts.now c.args.lines.now (steps_of c.in_ok-owned.owned.items) c.in_ok-owned.ensures.sorted;
  known = known-reordered c.args.parts.now (steps c.args.parts.now c.args.lines.now) (steps_of c.in_ok-owned.owned.items) c.in_ok-owned.ensures.sorted.permutation (steps-known c.args.parts.now c.requires.well_made c.args.lines.now (lines-known c.args.parts.now c.args.lines.now c.requires.built.formed));
  few = few-steps c.args.parts.now c.args.lines.now (steps_of c.in_ok-owned.owned.items) c.requires.well_made c.requires.built c.in_ok-owned.ensures.sorted.permutation;
  lines = c.in_ok-lines.ensures.starts;
  placed = c.in_ok-lines.ensures.places;
  lines_known = subst (AreLines c.args.parts.now) (sym c.in_ok-lines.ensures.starts) (by_start-each (λ l. l.action < length c.args.parts.now.actions) c.args.lines.now (lines-known c.args.parts.now c.args.lines.now c.requires.built.formed));
  ends = ends-placed c.args.lines.now c.in_ok-lines.lines.items c.in_ok-lines.ensures.places;
})
