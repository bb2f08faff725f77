use Rattle.std.proofs.Common.{rules, IsTrue, ◌≡◌, ◌≤◌, length, refl, subst, ap, sym, ◌∙◌}
use Rattle.turn_check.specs.Seen.{seen}
use Rattle.turn_code.specs.Pieces.{PlainPiece, CanStep}
use Rattle.trials_texts.specs.Holding.{HoldAt}
use Rattle.trials_texts.proofs.Here.{of_here, ready_here}
use Rattle.trials_texts.proofs.stepping.step_words.Goals as goal

pub new-piece-requires : goal.new-piece-requires
new-piece-requires c =
    of_here c.args.set.now c.args.process.0 c.args.from c.args.number c.args.input.now (seen c.in-Some.transition) _ c.draft.ensures.valid c.in-Some.ensures c.requires
    c.as_slice-in-Some.ensures refl c.sorts-sorts.ensures (subst (λ u. length u ≤ 4) c.as_slice-few.ensures.value c.as_slice-few.ensures.fits)

pub step_bare-after-requires : goal.step_bare-after-requires
step_bare-after-requires c =
    let yes : IsTrue c.hold_at.result = search rules in
    let hold = subst (λ vs. HoldAt c.in-Some.transition.piece.now c.args.place c.as_slice-values.result.now vs) c.as_slice.ensures.value (c.hold_at.ensures yes) in
    subst (λ (p : PlainPiece). CanStep p c.args.place c.words_with-words.result) (sym c.new-piece.ensures) (
    ready_here c.args.set.now c.args.process.0 c.args.from c.args.number c.args.input.now (seen c.in-Some.transition) _ c.draft.ensures.valid c.in-Some.ensures
    c.requires c.as_slice-in-Some.ensures refl c.sorts-sorts.ensures c.args.place c.words_with-words.result c.as_slice-values.result.now hold
    c.words_with-words.ensures)
