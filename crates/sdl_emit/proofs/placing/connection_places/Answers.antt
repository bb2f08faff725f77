use Rattle.std.proofs.Common.{rules, ◌≡◌, ℕ, ◌-◌, ◌<◌, ◌+◌, length, replicate, set, sym, ap, ◌∙◌, subst, arith, length-set}
use Rattle.std.specs.Prelude.{get_or}
use Rattle.std.proofs.lemmas.Option.{slice_get-get_or}
use Rattle.std.proofs.lemmas.List.{length-map, length-replicate}
use Rattle.sdl_ast.specs.Views.{connection_of}
use Rattle.sdl_emit.specs.Scopes.{scope_in}
use Rattle.sdl_emit.proofs.Spacing.{Spaced, none_spaced, one_fits, one_spaced}
use Rattle.sdl_emit.proofs.placing.connection_places.Goals as goal

pub loop-left-init : goal.loop-left-init
loop-left-init c =
    let s = scope_in c.args.names.now in
    let ps = c.in_ok-places.places.items in
    let e : ps ≡ replicate c.len-count.result 0 = search rules in
    record {
      spaced = subst (λ n. Spaced s c.args.start c.args.placed.now ps (c.args.start + n) (length c.args.placed.now)) (sym c.total_size.ensures) (none_spaced s c.args.start c.args.placed.now ps c.len-count.result e);
      size = let l = ap length e in
          let m = length-map c.args.names.now.process.now.connections.items connection_of in
          let p = ap (λ p. length p.connections.items) c.process.ensures.process in
          omega (arith, l, length-replicate {A = ℕ} c.len-count.result 0, c.len-count.ensures, m, p);
    }

pub loop-left-preserved : goal.loop-left-preserved
loop-left-preserved c =
    let s = scope_in c.args.names.now in
    let ns = c.args.placed.now in
    let ps = c.loop-left.places.items in
    let left = c.loop-left.left in
    let p = c.loop-left.place in
    let m = get_or ns (left - 1) 0 in
    let h = c.loop-left.invariant.spaced in
    let lt : left - 1 < length ns = omega (arith, c.loop-left-test.true, h.within) in
    let inside : m < length ps = let a = c.requires.there (left - 1) 0 lt in let b = c.loop-left.invariant.size in omega (arith, a, b) in
    record {
      spaced = subst (λ n. Spaced s c.args.start ns (set ps m (p - n)) (p - n) (left - 1)) (sym c.connection_size-place.ensures)
          (one_spaced s c.args.start ns ps p left m h c.loop-left-test.true (slice_get-get_or ns (left - 1) 0 lt) inside);
      size = length-set ps m (p - c.connection_size-place.result) ∙ c.loop-left.invariant.size;
    }

pub overflow_sub-place : goal.overflow_sub-place
overflow_sub-place c =
    let s = scope_in c.args.names.now in
    let ns = c.args.placed.now in
    let h = c.loop-left.invariant.spaced in
    let lt : c.loop-left.left - 1 < length ns = omega (arith, c.loop-left-test.true, h.within) in
    let f = one_fits s c.args.start ns c.loop-left.places.items c.loop-left.place c.loop-left.left (get_or ns (c.loop-left.left - 1) 0) h c.loop-left-test.true (slice_get-get_or ns (c.loop-left.left - 1) 0 lt) in
    omega (arith, f, c.connection_size-place.ensures)
