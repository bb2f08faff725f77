use Rattle.std.proofs.Common.{◌++◌, map, sym, ap, ◌∙◌, subst}
use Rattle.sdl_ast.specs.declared.tree.Process.{Process}
use Rattle.sdl_ast.specs.Plain.{PlainConnection}
use Rattle.sdl_ast.specs.Views.{connection_of, text_of}
use Rattle.sdl_emit.specs.Scopes.{scope_in}
use Rattle.sdl_compile.specs.Reads.{everything}
use Rattle.sdl_compile.specs.Entries.{AreOfAll}
use Rattle.sdl_compile.proofs.Marking.{piece_whole}
use Rattle.sdl_compile.proofs.Unchanged.{start_kept, met_kept}
use Rattle.sdl_emit.proofs.CopiedCode.{named_so}
use Rattle.sdl_compile.proofs.CopiedSets.{sets_so, met_so}
use Rattle.sdl_compile.proofs.entries.place_sets.Goals as goal

pub meet_connections-requires-clause-all : goal.meet_connections-requires-clause-all
meet_connections-requires-clause-all c =
    subst AreOfAll (sym c.in_ok-mark_text.ensures.entries)
    (met_kept (scope_in c.args.names.now) c.in_ok-set.set (text_of c.args.body.now.copy.now) c.in_ok-entries.entries.items
    (subst AreOfAll (sym c.in_ok-entries.ensures) (start_kept (map connection_of c.deref.result.now))))

pub mark_text-requires : goal.mark_text-requires
mark_text-requires c = named_so (scope_in c.args.names.now) c.args.body.now.copy.now (text_of c.args.body.now.whole.now) c.requires.body c.requires.named.text.text

pub returns : goal.returns
returns c =
    let s = scope_in c.args.names.now in
    let copy = c.args.body.now.copy.now in
    let whole = text_of c.args.body.now.whole.now in
    let listed = ap (λ (p : Process). map connection_of p.connections.items) (sym c.process.ensures.process) ∙ ap (map connection_of) (sym c.deref.ensures.value) in
    piece_whole (scope_in c.args.names.now) c.args.standing.now.entry c.in_ok-set.set c.args.standing.now.places.now (text_of c.args.body.now.whole.now) c.args.standing.now.order.now c.args.standing.now.numbers.now
    c.in_ok-entries.entries.items c.mark_text.new.entries.items c.meet_connections.new.entries.items c.deref-2.result.now
    c.new-sets.result.items c.mark_places.new.sets.items c.mark_text.new.sets.items c.mark_connections.new.sets.items
    (c.in_ok-entries.ensures ∙ ap (map (λ (x : PlainConnection). everything)) (sym listed)) c.new-sets.ensures.items c.in_ok-set.ensures.sets c.in_ok-set.ensures.behind
    (c.in_ok-mark_text.ensures.sets ∙ ap (λ l. c.mark_places.new.sets.items ++ l) (sets_so s copy whole c.requires.body c.in_ok-set.set))
    (c.in_ok-mark_text.ensures.entries ∙ met_so s copy whole c.requires.body c.in_ok-set.set c.in_ok-entries.entries.items) c.in_ok-meet_connections.ensures c.deref-2.ensures.value c.in_ok-mark_connections.ensures
