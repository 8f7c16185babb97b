use Rattle.std.proofs.Common.{◌≡◌, ℕ, ◌∙◌, ◌<◌, suc, sym, ap, subst}
use Rattle.task_types.specs.Course.{count}
use Rattle.timed_meaning.proofs.Meeting.{goes-on-from}
use Rattle.timed_meaning.proofs.sweeps.Sweep.advance.Goals as goal

pub turn-requires : goal.turn-requires
turn-requires c =
    let moved = c.in-Ok.ensures c.requires.0 c.requires.1 c.requires.2 in
    (c.args.task.now.parts, c.requires.0, moved.1.0, subst (λ (k : ℕ). suc k < count c.args.task.now.parts c.requires.0) (sym (ap (λ a. a.place) moved.1.1)) c.requires.2)

pub returns-in-Ok-turn : goal.returns-in-Ok-turn
returns-in-Ok-turn c = λ plan a h.
    let moved = c.in-Ok.ensures plan a h in
    let turned = c.in-Ok-turn.ensures c.args.task.now.parts plan moved.1.0 (subst (λ (k : ℕ). suc k < count c.args.task.now.parts plan) (sym (ap (λ a. a.place) moved.1.1)) h) in
    (moved.0, (turned.0, turned.1 ∙ ap (λ a. suc a.place) moved.1.1, goes-on-from c.args.self.now c.move_on.new.self _ moved.1.1 turned.2))
