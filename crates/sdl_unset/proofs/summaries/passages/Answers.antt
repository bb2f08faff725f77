use Rattle.std.proofs.Common.{◌+◌, ℕ, List, take, get_or, sym, subst, arith, ap, ◌∙◌}
use Rattle.sdl_unset.specs.declared.paths.Passage.{Passage}
use Rattle.sdl_unset.specs.Flows.{ArePassages}
use Rattle.std.proofs.lemmas.List.{take_all}
use Rattle.sdl_unset.proofs.Summing.{AreBelow, no_passages, passage_added, passage_skipped, below_none, below_later, below_push}
use Rattle.std.specs.Global.{Vec}
use Rattle.sdl_unset.proofs.summaries.passages.Goals as goal
use Rattle.sdl_unset.proofs.summaries.passages.Goals.{then-mask-ne0+in_ok-push, else-mask-ne0}

pub loop-state-init : goal.loop-state-init
loop-state-init c = (
  subst (ArePassages (take 0 c.args.masks.now)) (sym c.new-passages.ensures.items) no_passages,
  subst (λ (list : List Passage). AreBelow list 0) (sym c.new-passages.ensures.items) below_none,
)

pub loop-state-preserved : goal.loop-state-preserved
loop-state-preserved c =
    let masks = c.args.masks.now in
    let i = c.loop-state.state in
    elim c.if-mask-ne0.branch [
      | then-mask-ne0+in_ok-push w ↦
          let P : List Passage → Type 0 = λ list. ArePassages (take (i + 1) masks) list × AreBelow list (i + 1) in
          subst P (sym (ap (λ (v : Vec Passage). v.items) w.passages-is ∙ w.in_ok-push.ensures.items)) (
            passage_added masks i c.loop-state.passages.items c.loop-state-test.true c.loop-state.invariant.0,
            below_push c.loop-state.passages.items i (get_or masks i 0) c.loop-state.invariant.1,
          )
      | else-mask-ne0 w ↦
          let P : List Passage → Type 0 = λ list. ArePassages (take (i + 1) masks) list × AreBelow list (i + 1) in
          subst P (sym (ap (λ (v : Vec Passage). v.items) w.passages-is)) (
            passage_skipped masks i c.loop-state.passages.items c.loop-state-test.true w.if-mask-ne0.false c.loop-state.invariant.0,
            below_later c.loop-state.passages.items i c.loop-state.invariant.1,
          )
    ]

pub returns-clause-passages : goal.returns-clause-passages
returns-clause-passages c =
    subst (λ (list : List ℕ). ArePassages list c.loop-state.passages.items) (take_all c.loop-state.state c.args.masks.now (omega arith)) c.loop-state.invariant.0

pub returns-clause-sorted : goal.returns-clause-sorted
returns-clause-sorted c = c.loop-state.invariant.1.0
