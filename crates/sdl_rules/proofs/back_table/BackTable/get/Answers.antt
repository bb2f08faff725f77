use Rattle.std.proofs.Common.{◌≡◌, rules, Bool, List, Some, sym, ap, ◌∙◌, subst}
use Rattle.std.specs.Prelude.{slice_get}
use Rattle.std.specs.Global.{Vec}
use Rattle.std.proofs.lemmas.Option.{slice_get-get_or}
use Rattle.sdl_tables.specs.Names.{number_of}
use Rattle.sdl_rules.specs.Backs.{GetThere}
use Rattle.sdl_rules.proofs.BackRows.{brings_at}
use Rattle.sdl_rules.proofs.back_table.BackTable.get.Goals as goal

pub returns-in-Some : goal.returns-in-Some
returns-in-Some c = λ b p h.
    let n = c.in_ok-number.number in
    let row = c.in-Some.marks.now in
    let number : number_of c.args.self.now.names c.args.signal ≡ Some n = search rules in
    let there : slice_get c.args.self.now.rows.items n ≡ Some row =
    ap (λ (rows : List (Vec Bool)). slice_get rows n) (sym c.deref.ensures.value)
    ∙ (slice_get-get_or c.deref.result.now n row c.in-Some.ensures.lookup.3.0 ∙ ap Some (sym c.in-Some.ensures.lookup.1)) in
    subst (λ (l : List Bool). GetThere b p c.args.signal l) (sym c.as_slice.ensures.value)
    (brings_at b p c.args.self.now c.args.signal n row number there h)
