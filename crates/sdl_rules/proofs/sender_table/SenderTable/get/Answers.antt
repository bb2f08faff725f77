use Rattle.std.proofs.Common.{◌≡◌, rules, List, Some, sym, ap, ◌∙◌, subst}
use Rattle.std.specs.Prelude.{slice_get}
use Rattle.std.specs.Global.{Vec}
use Rattle.std.proofs.lemmas.Option.{slice_get-get_or}
use Rattle.sdl_rules.specs.SenderTables.{AreSendersOf}
use Rattle.sdl_scopes.specs.declared.sender.Sender.{Sender}
use Rattle.sdl_rules.proofs.SenderRows.{tells_at}
use Rattle.sdl_rules.proofs.sender_table.SenderTable.get.Goals as goal

pub returns-in-Some : goal.returns-in-Some
returns-in-Some c = λ b p name h number.
    let n = c.in_ok-number.number in
    let row = c.in-Some.row.now in
    let is : c.args.number ≡ Some n = search rules in
    let there : slice_get c.args.self.now.rows.items n ≡ Some row =
    ap (λ (rows : List (Vec Sender)). slice_get rows n) (sym c.deref.ensures.value)
    ∙ (slice_get-get_or c.deref.result.now n row c.in-Some.ensures.lookup.3.0 ∙ ap Some (sym c.in-Some.ensures.lookup.1)) in
    subst (λ (l : List Sender). AreSendersOf b p name l) (sym c.as_slice.ensures.value)
    (tells_at b p c.args.self.now name n row (sym number ∙ is) there h)
