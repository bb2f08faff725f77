use Rattle.std.proofs.Common.{subst, IfOk, ap, ◌≡◌, ◌∙◌, map, List, ℕ}
use Rattle.std.specs.Str.Lines.{lines}
use Rattle.script_lines.specs.Lines.{texts, plain_line, spoken, lines_of}
use Rattle.script_lines.proofs.lines.lines_in.Goals as goal

pub returns : goal.returns
unfolding lines_of
returns c =
    let all : texts c.deref.result.now ≡ lines c.args.text.now = ap texts c.deref.ensures.value ∙ c.in_ok-all.ensures in
    let P : List (List ℕ) → Type 0 = λ ls. IfOk c.spoken.result (λ v. map plain_line v.items ≡ spoken 1 ls) in
    subst P all c.spoken.ensures
