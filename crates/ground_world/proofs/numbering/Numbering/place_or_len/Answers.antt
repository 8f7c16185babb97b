use Rattle.std.proofs.Common.{◌∙◌, ap, sym, length, ◌≡◌, arith}
use Rattle.std.specs.Str.{bytes_eq}
use Rattle.std.proofs.lemmas.List.{length-map}
use Rattle.pddl_names.proofs.Numbered.{absent_place}
use Rattle.ground_world.proofs.numbering.Numbering.place_or_len.Goals as goal

pub returns-in-None : goal.returns-in-None
returns-in-None c =
    let e : c.len.result ≡ length c.args.self.now = c.len.ensures.len ∙ sym (length-map c.self.inside.keys.keys (λ k. k.items)) ∙ ap length c.self.view_is in
    record { value = e ∙ absent_place (bytes_eq c.args.key.now) c.args.self.now (sym c.in-None.ensures.value); within = omega arith }
