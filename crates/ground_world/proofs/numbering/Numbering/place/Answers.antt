use Rattle.std.proofs.Common.{◌∙◌, ap, position}
use Rattle.std.specs.Str.{bytes_eq}
use Rattle.pddl_names.proofs.Numbered.{position_in_contents}
use Rattle.ground_world.proofs.numbering.Numbering.place.Goals as goal

pub returns-clause-value : goal.returns-clause-value
returns-clause-value c = c.get_index_of.ensures.index ∙ position_in_contents (bytes_eq c.args.key.now) c.self.inside.keys.keys ∙ ap (position (bytes_eq c.args.key.now)) c.self.view_is
