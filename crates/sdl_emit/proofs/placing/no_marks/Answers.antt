use Rattle.std.proofs.Common.{rules, ◌≡◌, [], ap, sym, subst, length, arith, false}
use Rattle.std.specs.Prelude.{replicate}
use Rattle.std.proofs.lemmas.List.{length-map}
use Rattle.sdl_ast.specs.Views.{connection_of}
use Rattle.sdl_emit.specs.Scopes.{scope_in}
use Rattle.sdl_emit.specs.Placing.{AreMarked}
use Rattle.sdl_emit.proofs.Marked.{none_marked}
use Rattle.sdl_emit.proofs.placing.no_marks.Goals as goal

pub returns : goal.returns
returns c =
    let s = scope_in c.args.names.now in
    let blank : c.in_ok-marks.marks.items ≡ replicate c.len-count.result false = search rules in
    let m = length-map c.args.names.now.process.now.connections.items connection_of in
    let p = ap (λ p. length p.connections.items) c.process.ensures.process in
    subst (AreMarked s []) (sym blank) (none_marked s c.len-count.result (omega (arith, c.len-count.ensures, m, p)))
