use Rattle.std.proofs.Common.{◌≡◌, ◌∙◌, sym, ap}
use Rattle.task_types.specs.Course.{state_before}
use Rattle.timed_meaning.proofs.Onward.{more-out, on_ok}
use Rattle.timed_meaning.proofs.Meeting.{goes-on}
use Rattle.timed_meaning.proofs.sweeps.Sweep.turn.Goals as goal

pub advance-requires-clause-more : goal.advance-requires-clause-more
advance-requires-clause-more c = more-out c.requires.0 c.requires.1 c.args.self.now.agenda c.requires.2.at c.requires.3

pub returns : goal.returns
returns c = λ task plan b h. on_ok c.advance.result (λ there. (
  record { at = there.0; kept = b.kept; state = b.state ∙ ap (λ j. state_before task plan j) (sym there.1) },
  there.1,
  goes-on task plan c.args.self.now b.at _ there.2 there.3 there.4,
)) (c.advance.ensures task plan b.at)
