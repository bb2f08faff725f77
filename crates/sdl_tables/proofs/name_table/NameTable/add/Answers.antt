use Rattle.std.proofs.Common.{◌≡◌, ◌∙◌, sym, ap, false, not, bytes_eq, None, ◌∷◌, ◌++◌, []}
use Rattle.std.specs.Map.{lookup, values_of}
use Rattle.sdl_ast.specs.Spelling.{folded}
use Rattle.indexmap.proofs.CallerLemmas.{insert_entry-new}
use Rattle.sdl_tables.specs.Names.{is_in}
use Rattle.sdl_tables.proofs.Tables.{entries-new, add_name-present, add_name-new, Keyed-push, values-push}
use Rattle.sdl_tables.proofs.name_table.NameTable.add.Goals as goal

absent_then : (c : goal.In_ok-insert) → is_in (values_of c.self.inside.entries.entries) c.args.id.name ≡ false
absent_then c = ap (λ ids. is_in ids c.args.id.name) c.self.view_is ∙ (sym c.contains.ensures ∙ c.if-contains.false)

entries_then : (c : goal.In_ok-insert)
    → c.insert.new.self.entries ≡ c.self.inside.entries.entries ++ (folded c.args.id.name, c.args.id) ∷ []
entries_then c =
    let es = c.self.inside.entries.entries in
    let none : lookup (bytes_eq c.folded-key.result) es ≡ None =
    rw c.folded-key.ensures (entries-new es c.args.id c.self.invariant (absent_then c)) in
    c.in_ok-insert.ensures.entries
    ∙ (insert_entry-new bytes_eq c.self.inside.entries c.folded-key.result c.args.id none
    ∙ ap (λ k. es ++ (k, c.args.id) ∷ []) c.folded-key.ensures)

pub returns-then-contains-clause-added : goal.returns-then-contains-clause-added
returns-then-contains-clause-added c = ap not (sym c.if-contains.true ∙ c.contains.ensures)

pub returns-then-contains-clause-ids : goal.returns-then-contains-clause-ids
returns-then-contains-clause-ids c = sym (add_name-present c.args.self.now c.args.id (sym c.contains.ensures ∙ c.if-contains.true))

pub invariant_of-self-2 : goal.invariant_of-self-2
invariant_of-self-2 c = rw (entries_then c) (Keyed-push c.self.inside.entries.entries c.args.id c.self.invariant)

pub returns-clause-added : goal.returns-clause-added
returns-clause-added c = ap not (sym c.if-contains.false ∙ c.contains.ensures)

pub returns-clause-ids : goal.returns-clause-ids
returns-clause-ids c =
    ap values_of (entries_then c)
    ∙ (values-push c.self.inside.entries.entries (folded c.args.id.name) c.args.id
    ∙ (ap (λ ids. ids ++ c.args.id ∷ []) c.self.view_is
    ∙ sym (add_name-new c.args.self.now c.args.id (sym c.contains.ensures ∙ c.if-contains.false))))
