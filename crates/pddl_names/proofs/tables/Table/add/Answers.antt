use Rattle.std.proofs.Common.{◌∙◌, sym, ap, is_some, ◌++◌, ◌∷◌, []}
use Rattle.indexmap.proofs.CallerLemmas.{insert_entry-new}
use Rattle.pddl_names.specs.Declarations.{value_of}
use Rattle.pddl_names.proofs.Tabled.{shown, value_in, with_first-there, with_first-new, absent, shown-append}
use Rattle.pddl_names.proofs.tables.Table.add.Goals as goal

pub returns-then-contains_key : goal.returns-then-contains_key
returns-then-contains_key g c =
    with_first-there c.args.self.now c.args.name.now c.args.value
    (ap (λ es. is_some (value_of es c.args.name.now)) (sym c.self.view_is) ∙ ap is_some (sym (value_in c.self.inside.entries.entries c.args.name.now)) ∙ sym c.contains_key.ensures ∙ c.if-contains_key.true)

pub returns : goal.returns
returns g c =
    let es = c.self.inside.entries.entries in
    let key = c.in_ok-from_slice.field-0 in
    ap shown (c.in_ok-insert.ensures.entries ∙ insert_entry-new _ c.self.inside.entries key c.args.value (absent es key c.args.name.now c.in_ok-from_slice.ensures.items (sym c.contains_key.ensures ∙ c.if-contains_key.false)))
    ∙ shown-append es key c.args.value
    ∙ ap (λ xs. xs ++ ((key.items, c.args.value) ∷ [])) c.self.view_is
    ∙ ap (λ n. c.args.self.now ++ ((n, c.args.value) ∷ [])) c.in_ok-from_slice.ensures.items
    ∙ with_first-new c.args.self.now c.args.name.now c.args.value
    (ap (λ xs. is_some (value_of xs c.args.name.now)) (sym c.self.view_is) ∙ ap is_some (sym (value_in es c.args.name.now)) ∙ sym c.contains_key.ensures ∙ c.if-contains_key.false)
