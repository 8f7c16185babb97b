use Rattle.std.specs.Option.{option_map}
use Rattle.plan_files.specs.OrdersSeen.{order_seen}
use Rattle.plan_files.proofs.OrdersIn.{reads-orders}
use Rattle.plan_files.proofs.order_words.read_order_words.Goals as goal

pub returns : goal.returns
returns c = reads-orders c.args.line.now (option_map order_seen c.order_met.result) c.order_met.ensures
