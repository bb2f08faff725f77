use Rattle.std.proofs.Common.{◌≡◌, ◌++◌, ◌∙◌, ap, append_assoc, rules}
use Rattle.std.specs.Prelude.{codes}
use Rattle.std.specs.Fmt.{decimal}
use Rattle.std.proofs.lemmas.Result.{IfOk-weaker}
use Rattle.script_ends.specs.Shown.{entry_text, entry_at}
use Rattle.script_ends.proofs.shown.entry.Goals as goal

pub returns-in-Some : goal.returns-in-Some
returns-in-Some c =
    IfOk-weaker c.text_line.result _ (λ v. v.items ≡ entry_at c.args.group.now.table c.args.selection)
    (λ v is.
    let text : v.items ≡ decimal c.args.selection ++ codes " " ++ decimal c.in-Some.link = search (rules, append_assoc) in
    text ∙ ap (entry_text c.args.selection) c.in-Some.ensures)
    c.text_line.ensures
