use Rattle.std.proofs.Common.{◌≡◌, ◌+◌, ◌++◌, ◌∷◌, [], List, arith, refl, sym, ap, subst, ◌∙◌, Some, length, length-append, ℕ}
use Rattle.std.specs.Prelude.{slice_get}
use Rattle.std.proofs.lemmas.Option.{slice_get_read}
use Rattle.sdl_unset.specs.Graph.{Covers, IsSafe}
use Rattle.sdl_unset.specs.Visits.{StayInOrder, AreKept, AreUnder, AreAllSorted}
use Rattle.sdl_unset.proofs.Seen.{grows_on, enters_on}
use Rattle.sdl_unset.proofs.PathWalking.{safe_more, safe_all, by_input}
use Rattle.sdl_unset.proofs.FirstPaths.{more_visits, kept_next, near_more, taken_at}
use Rattle.sdl_unset.specs.Order.{AreSorted}
use Rattle.sdl_unset.specs.declared.paths.Step.{Step}
use Rattle.sdl_unset.specs.declared.paths.Step.TheVariants.{Input}
use Rattle.sdl_unset.specs.declared.paths.Passage.{Passage}
use Rattle.sdl_unset.proofs.paths.expand.Goals as goal

pub returns-then-contains-clause-found : goal.returns-then-contains-clause-found
returns-then-contains-clause-found c = record {
  number = c.loop-number.number;
  summary = c.index-inputs-number.result;
  there = slice_get_read c.args.inputs.now (length c.args.inputs.now) c.loop-number.number c.index-inputs-number.result refl c.loop-number-test.true c.index-inputs-number.is;
  reads = sym c.if-contains.ensures;
  all = c.in_ok-longer.ensures;
  first = λ i t lt at. (taken_at (λ u. IsSafe u c.args.variable c.loop-number.seen.items) c.args.inputs.now c.loop-number.number i t (omega (arith, c.loop-number-test.true)) c.loop-number.invariant.safe lt at).reads;
}

pub loop-number-preserved : goal.loop-number-preserved
loop-number-preserved c =
    let told = c.in_ok-enter.ensures in
    let there : slice_get c.args.inputs.now c.loop-number.number ≡ Some c.index-inputs-number.result =
    slice_get_read c.args.inputs.now (length c.args.inputs.now) c.loop-number.number c.index-inputs-number.result refl c.loop-number-test.true c.index-inputs-number.is in
    let covers : Covers c.index-inputs-number.result.passages.items c.args.variable c.enter.new.seen.items = rw c.deref.ensures.value at told.covers in
    let long : length c.deref-in-loop-number.result.now ≡ length c.args.path.now + 1 =
    ap length (c.deref-in-loop-number.ensures.value ∙ c.in_ok-longer.ensures) ∙ length-append c.args.path.now _ in
    let P : ℕ → Type 0 = λ n. StayInOrder n c.loop-number.visits.items c.enter.new.visits.items in
    let ordered = subst P long told.order in
    let n = c.loop-number.number in
    let by : c.deref-in-loop-number.result.now ≡ c.args.path.now ++ Input c.args.state n ∷ [] = c.deref-in-loop-number.ensures.value ∙ c.in_ok-longer.ensures in
    let more = more_visits _ _ _ _ told.grows in
    let K : List Step → Type 0 = λ l. AreKept l 0 c.loop-number.visits.items → AreUnder l c.enter.new.visits.items in
    let under = λ (sorted : AreAllSorted c.args.inputs.now) (kept : AreKept (c.args.path.now ++ Input c.args.state 0 ∷ []) 0 c.args.visits.now.items).
    (let Q : List Passage → Type 0 = λ l. AreSorted l in
    let one : AreSorted c.deref.result.now = subst Q (sym c.deref.ensures.value) (sorted n c.index-inputs-number.result there) in
    subst K by (told.kept one) (c.loop-number.invariant.kept sorted kept)) in
    record {
      grows = grows_on _ _ _ _ _ _ c.loop-number.invariant.grows told.grows;
      enters = enters_on _ _ _ _ _ _ c.loop-number.invariant.enters told.enters (λ _ h. h)
          (by_input c.args.inputs.now c.loop-number.number c.args.variable c.args.state c.index-inputs-number.result c.args.path.now _ _ there c.deref.ensures.value (c.deref-in-loop-number.ensures.value ∙ c.in_ok-longer.ensures));
      order = λ h. ordered (c.loop-number.invariant.order h);
      kept = λ sorted kept. kept_next c.args.path.now c.args.state n c.enter.new.visits.items (under sorted kept);
      near = λ sorted kept visited. near_more c.args.variable (length c.args.seen.now.items) c.enter.new.seen.items c.loop-number.visits.items c.enter.new.visits.items
          c.args.path.now c.args.state c.args.inputs.now n c.index-inputs-number.result there more (omega (arith, told.grows.states, c.loop-number.invariant.grows.states))
          (told.grows.visited (c.loop-number.invariant.grows.visited visited)) (under sorted kept) covers (c.loop-number.invariant.near sorted kept visited);
      safe = safe_more c.args.inputs.now c.loop-number.number c.args.variable c.index-inputs-number.result _ _ c.loop-number-test.true c.index-inputs-number.is told.grows.stays c.loop-number.invariant.safe (sym c.if-contains.ensures) covers;
    }

pub returns-clause-none : goal.returns-clause-none
returns-clause-none c = safe_all c.args.inputs.now c.loop-number.number c.args.variable _ c.loop-number-test.false c.loop-number.invariant.safe

pub returns-clause-near : goal.returns-clause-near
returns-clause-near c = λ sorted kept visited i t lt at.
    c.loop-number.invariant.near sorted kept visited i t (omega (arith, lt, c.loop-number-test.false)) at
