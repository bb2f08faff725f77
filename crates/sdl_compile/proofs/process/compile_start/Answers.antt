use Rattle.std.proofs.Common.{◌≡◌, [], None, sym, ap, subst}
use Rattle.sdl_ast.specs.declared.tree.Process.{Process}
use Rattle.sdl_ast.specs.Views.{process_of, text_of}
use Rattle.sdl_sound.specs.Longest.{Piece, start_piece}
use Rattle.sdl_emit.specs.Scopes.{scope_in}
use Rattle.sdl_meaning.specs.Named.{AnswersAll}
use Rattle.sdl_compile.specs.Drafts.{MeansPiece}
use Rattle.sdl_compile.proofs.process.compile_start.Goals as goal

-- The piece of START, from the tree.
same_piece : (q r : Process) → q ≡ r → (let piece : Piece = record { places = []; text = text_of q.start.transition } in piece) ≡ start_piece (process_of r)
same_piece q r e = ap (λ (q : Process). (let piece : Piece = record { places = []; text = text_of q.start.transition } in piece)) e

pub returns-clause-means : goal.returns-clause-means
returns-clause-means c =
    let names = c.args.context.now.names.now in
    let sc = scope_in names in
    let same = c.process-process.ensures.process in
    let answers = subst (AnswersAll sc None) (sym (ap (λ (q : Process). text_of q.start.transition) same)) c.requires.ready.answers in
    subst (λ (q : Piece). MeansPiece sc None q c.in_ok-first.first) (same_piece c.process-process.result.now names.process.now same) (c.in_ok-first.ensures.means None answers)
