use Rattle.std.proofs.Common.{◌≡◌, ℕ, ◌<◌, List, [], length, Some, sym, ap, ◌∙◌, arith, subst}
use Rattle.std.specs.Prelude.{slice_get, get_or, fold}
use Rattle.std.proofs.lemmas.Option.{slice_get-get_or}
use Rattle.sdl_ast.specs.Views.{text_of}
use Rattle.sdl_emit.specs.Scopes.{scope_in}
use Rattle.sdl_meaning.specs.Code.{add_number, joined}
use Rattle.sdl_emit.specs.Placing.{AreMarked}
use Rattle.sdl_emit.proofs.Gathering.{first_gathered, next_gathered, last_gathered, gathered_few, next_there}
use Rattle.sdl_emit.proofs.CopiedCode.{named_so, joined_so}
use Rattle.sdl_emit.proofs.placing.place_connections.Goals as goal

pub loop-next-init : goal.loop-next-init
loop-next-init c =
    let s = scope_in c.args.names.now in
    let t = text_of c.args.body.now.whole.now in
    record {
      gathered = first_gathered s t c.requires.text c.place_joined.new.placed.items (c.in_ok-place_joined.ensures.placed ∙ ap (λ l. fold add_number l (joined s (text_of c.args.body.now.copy.now))) c.new-placed.ensures.items
          ∙ ap (λ (ns : List ℕ). fold add_number [] ns) (joined_so s c.args.body.now.copy.now t c.requires.body));
      marks = c.in_ok-place_joined.ensures.marks;
    }

pub place_joined-requires-clause-text : goal.place_joined-requires-clause-text
place_joined-requires-clause-text c = named_so (scope_in c.args.names.now) c.args.body.now.copy.now (text_of c.args.body.now.whole.now) c.requires.body c.requires.text

pub place_joined-requires-clause-marks : goal.place_joined-requires-clause-marks
place_joined-requires-clause-marks c =
    subst (λ (ns : List ℕ). AreMarked (scope_in c.args.names.now) ns c.in_ok-marks.marks.items) (sym c.new-placed.ensures.items) c.in_ok-marks.ensures

next_at : (ns : List ℕ) (k x : ℕ) → k < length ns → x ≡ get_or ns k x → slice_get ns k ≡ Some x
next_at ns k x lt e = slice_get-get_or ns k x lt ∙ ap Some (sym e)

pub place_more-requires-clause-there : goal.place_more-requires-clause-there
place_more-requires-clause-there c =
    let s = scope_in c.args.names.now in
    let t = text_of c.args.body.now.whole.now in
    let ns = c.loop-next.placed.items in
    let at = next_at ns c.loop-next.next c.index-number.result.now (omega (arith, c.loop-next-test.true, c.len.ensures)) c.index-number.ensures in
    next_there s t ns c.loop-next.next c.index-number.result.now c.loop-next.invariant.gathered at

pub loop-next-smaller : goal.loop-next-smaller
loop-next-smaller c =
    let s = scope_in c.args.names.now in
    let t = text_of c.args.body.now.whole.now in
    let ns = c.loop-next.placed.items in
    let few = gathered_few s t ns c.loop-next.next c.loop-next.invariant.gathered in
    omega (arith, few, c.loop-next-test.true, c.len.ensures)

pub loop-next-preserved : goal.loop-next-preserved
loop-next-preserved c =
    let s = scope_in c.args.names.now in
    let t = text_of c.args.body.now.whole.now in
    let ns = c.loop-next.placed.items in
    let at = next_at ns c.loop-next.next c.index-number.result.now (omega (arith, c.loop-next-test.true, c.len.ensures)) c.index-number.ensures in
    record {
      gathered = next_gathered s t c.requires.connections ns c.loop-next.next c.index-number.result.now c.loop-next.invariant.gathered at c.place_more.new.placed.items c.in_ok-place_more.ensures.placed;
      marks = c.in_ok-place_more.ensures.marks;
    }

pub returns : goal.returns
returns c =
    let s = scope_in c.args.names.now in
    let t = text_of c.args.body.now.whole.now in
    last_gathered s t c.loop-next.placed.items c.loop-next.next c.loop-next.invariant.gathered (omega (arith, c.loop-next-test.false, c.len.ensures))
