use Rattle.std.proofs.Common.{◌≡◌, ◌+◌, ◌∷◌, suc, List, drop, ap, sym, ◌∙◌, subst, arith}
use Rattle.std.specs.Prelude.{fold}
use Rattle.sdl_ast.specs.declared.tree.Join.{Join}
use Rattle.sdl_emit.specs.Scopes.{scope_in}
use Rattle.sdl_meaning.specs.Code.{add_number}
use Rattle.sdl_emit.specs.Placing.{numbers_of, HaveNumbers}
use Rattle.sdl_emit.proofs.Marked.{next_first}
use Rattle.sdl_emit.proofs.placing.place_each.Goals as goal

pub loop-join-preserved : goal.loop-join-preserved
loop-join-preserved c =
    let s = scope_in c.args.names.now in
    let joins = c.args.joins.now in
    let i = c.loop-join.join-index in
    let j = c.join-item.result in
    let rest = drop (i + 1) joins in
    let first : drop i joins ≡ j ∷ rest = next_first joins i j c.loop-join-test.true c.join-item.is in
    let named : HaveNumbers s (j ∷ rest) = subst (HaveNumbers s) first c.loop-join.invariant.named in
    record {
      placed = ap (λ l. fold add_number l (numbers_of s rest)) c.in_ok-place_one.ensures.placed
          ∙ ap (λ (l : List Join). fold add_number c.loop-join.placed.items (numbers_of s l)) (sym first) ∙ c.loop-join.invariant.placed;
      named = λ k d lt. named (suc k) d (omega (arith, lt));
      marks = c.in_ok-place_one.ensures.marks;
    }
