use Rattle.std.proofs.Common.{◌≡◌, ◌≤◌, length, refl, sym, ap, ◌∙◌, subst}
use Rattle.turn_code.specs.Pieces.{PlainPiece}
use Rattle.turn_machine.specs.Safety.{IsUnderWay, HasEnded}
use Rattle.turn_code.specs.Run.{ended}
use Rattle.turn_machine.proofs.UnderWay.{begun_so, of_transition, progress_made}
use Rattle.turn_machine.proofs.ending.run_code.Goals as goal

pub new-piece-requires : goal.new-piece-requires
new-piece-requires c =
    of_transition c.args.code.now c.args.input.now c.args.sorts.now c.args.certificate c.requires
    (subst (λ u. length u ≤ 4) c.as_slice-few.ensures.value c.as_slice-few.ensures.fits)

pub execute-end-requires : goal.execute-end-requires
execute-end-requires c =
    let own : PlainPiece = record { code = c.args.code.now; sender = c.args.input.now.sender; sorts = c.args.sorts.now } in
    subst (λ (p : PlainPiece). IsUnderWay p c.args.input.now c.args.certificate 0 0 c.words_of-words.result c.begin.new.machine.effects.items)
    (sym c.new-piece.ensures)
    (begun_so own c.args.input.now c.args.certificate c.words_of-words.result c.begin.new.machine.effects.items c.requires refl c.words_of-words.ensures.words
    c.begin.ensures)

pub returns-clause-ran : goal.returns-clause-ran
returns-clause-ran c =
    let own : PlainPiece = record { code = c.args.code.now; sender = c.args.input.now.sender; sorts = c.args.sorts.now } in
    let h : HasEnded own c.args.input.now c.args.certificate c.execute-end.result c.execute-end.new.words c.execute-end.new.machine.effects.items c.execute-end.new.machine.count =
    subst (λ (p : PlainPiece).
    HasEnded p c.args.input.now c.args.certificate c.execute-end.result c.execute-end.new.words c.execute-end.new.machine.effects.items c.execute-end.new.machine.count)
    c.new-piece.ensures c.execute-end.ensures in
    let variables : c.set_variables.new.variables.items ≡ h.progress.variables =
    c.set_variables.ensures h.progress.variables (h.long ∙ sym c.len-count.ensures.value) h.variables in
    h.ran
    ∙ ap (λ s. ended c.execute-end.result s)
    (progress_made h.progress c.set_variables.new.variables.items c.execute-end.new.machine.effects.items c.execute-end.new.machine.count variables h.effects h.count)
