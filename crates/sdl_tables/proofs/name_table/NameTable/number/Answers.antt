use Rattle.std.proofs.Common.{◌≡◌, ◌<◌, ◌∙◌, sym, subst, ap, bytes_eq, position, length, IfSome}
use Rattle.std.specs.Map.{keys_of}
use Rattle.sdl_tables.specs.Names.{same_name, number_of}
use Rattle.sdl_tables.proofs.Tables.{finds_number, position-within}
use Rattle.sdl_tables.proofs.name_table.NameTable.number.Goals as goal

number_then : (c : goal.After-place_in) → c.place_in.result ≡ number_of c.args.self.now c.args.name
number_then c =
    c.place_in.ensures
    ∙ (ap (λ k. position (bytes_eq k) (keys_of c.self.inside.entries.entries)) c.folded.ensures
    ∙ (finds_number c.self.inside.entries.entries c.args.name c.self.invariant
    ∙ ap (λ ids. number_of ids c.args.name) c.self.view_is))

pub returns-clause-number : goal.returns-clause-number
returns-clause-number c = number_then c

pub returns-clause-within : goal.returns-clause-within
returns-clause-within c =
    subst (λ o. IfSome o (λ n. n < length c.args.self.now)) (sym (number_then c))
    (position-within (λ id. same_name c.args.name id.name) c.args.self.now)
