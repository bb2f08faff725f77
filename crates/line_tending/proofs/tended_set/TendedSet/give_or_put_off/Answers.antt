use Rattle.std.proofs.Common.{◌∙◌, ap, true≢false, sym}
use Rattle.line_tending.specs.Readers.{is_put_off}
use Rattle.line_tending.specs.declared.reader.Reader.{Reader}
use Rattle.line_tending.proofs.Acting.{on_ok_so}
use Rattle.line_tending.proofs.tended_set.TendedSet.give_or_put_off.Goals as goal

pub returns-then-puts_off-clause-given : goal.returns-then-puts_off-clause-given
returns-then-puts_off-clause-given c = λ free.
    absurd (true≢false (sym (ap (λ (r : Reader). is_put_off r c.args.command) (sym c.reader.ensures) ∙ (sym c.puts_off.ensures ∙ c.if-puts_off.true)) ∙ free))

pub returns-clause-put_off : goal.returns-clause-put_off
returns-clause-put_off c =
    on_ok_so c.give.result
    (λ later.
    absurd (true≢false (sym later ∙ (ap (λ (r : Reader). is_put_off r c.args.command) (sym c.reader.ensures) ∙ (sym c.puts_off.ensures ∙ c.if-puts_off.false)))))
