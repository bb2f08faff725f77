use Rattle.std.proofs.Common.{arith, sym, ◌∙◌}
use Rattle.sdl_unset.proofs.Searches.{bits_set, bits_same}
use Rattle.sdl_unset.proofs.sets.set_in.Goals as goal
use Rattle.sdl_unset.proofs.sets.set_in.Goals.{then-is_set_in, else-is_set_in}

pub loop-variable-preserved : goal.loop-variable-preserved
loop-variable-preserved c =
    let fates = c.args.fates.now in
    let k = c.loop-variable.variable in
    let f = c.index-fates-variable.result in
    elim c.if-is_set_in.branch [
      | then-is_set_in w ↦ rw w.set-is (
          bits_set fates c.args.state k c.loop-variable.set f c.loop-variable-test.true (omega (arith, c.loop-variable-test.true, c.requires))
          c.index-fates-variable.is (sym c.is_set_in.ensures ∙ w.if-is_set_in.true) c.loop-variable.invariant)
      | else-is_set_in w ↦ rw w.set-is (
          bits_same fates c.args.state k c.loop-variable.set f c.loop-variable-test.true
          c.index-fates-variable.is (sym c.is_set_in.ensures ∙ w.if-is_set_in.false) c.loop-variable.invariant)
    ]
