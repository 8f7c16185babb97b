use Rattle.std.proofs.Common.{◌∙◌, sym, slice_get, None, ◌≡◌, subst}
use Rattle.ground_world.specs.World.{place_in}
use Rattle.ground_world.proofs.Digits.{index_or-none}
use Rattle.ground_world.proofs.tables.Tables.column.Goals as goal

pub returns-in-None : goal.returns-in-None
returns-in-None c = c.as_slice-in-None.ensures ∙ index_or-none c.args.self.now.columns (place_in c.args.self.now.sorts c.args.sort.now) c.args.self.now.others (subst (λ n. slice_get c.args.self.now.columns n ≡ None) c.place_or_len.ensures.value (sym c.in-None.ensures.value))
