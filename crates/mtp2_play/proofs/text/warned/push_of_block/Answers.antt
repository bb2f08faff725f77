use Rattle.std.proofs.Common.{ap, subst, sym, ◌∙◌}
use Rattle.sdl_tree.specs.Syntax.{Reads}
use Rattle.sdl_ast.specs.Views.{block_of}
use Rattle.turn_verify.specs.Meanings.{meaning_of}
use Rattle.mtp2_play.proofs.text.warned.push_of_block.Goals as goal

pub push_of_tables-requires-clause-reads : goal.push_of_tables-requires-clause-reads
push_of_tables-requires-clause-reads c =
    subst (λ t. Reads c.args.tokens.now (block_of t)) (sym c.in_ok-written.ensures) c.requires.reads

pub push_of_tables-requires-clause-means : goal.push_of_tables-requires-clause-means
push_of_tables-requires-clause-means c =
    ap block_of c.in_ok-meant.ensures ∙ (c.in_ok-meaning.ensures ∙ ap (λ t. meaning_of (block_of t)) (sym c.in_ok-written.ensures))
