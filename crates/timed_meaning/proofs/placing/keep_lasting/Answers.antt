use Rattle.std.proofs.Common.{rules}
use Rattle.std.proofs.lemmas.Fn.{filter_same}
use Rattle.timed_meaning.specs.Places.{lasts_to}
use Rattle.timed_meaning.proofs.placing.keep_lasting.Goals as goal

pub returns : goal.returns
returns c = filter_same _ (lasts_to c.args.to) _ (λ x b f k. search rules) c.args.running.now.items c.retain.new.self.items c.retain.ensures.filtered
