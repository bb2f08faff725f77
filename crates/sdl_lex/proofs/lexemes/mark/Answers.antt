use Rattle.std.proofs.Common.{map, ap, ◌∙◌}
use Rattle.sdl_lex.specs.Lexed.{marked}
use Rattle.sdl_lex.proofs.MarkLemmas.{changed_next, changed_all}
use Rattle.sdl_lex.proofs.lexemes.mark.Goals as goal

pub loop-token-preserved : goal.loop-token-preserved
loop-token-preserved c =
    changed_next (marked c.has_synonym-with_synonyms.result) c.token-item.result c.args.tokens.now c.loop-token.tokens c.loop-token.token-index c.marked.result
    c.loop-token-test.true c.loop-token.invariant c.marked.ensures

pub returns : goal.returns
returns c =
    c.loop-token.invariant ∙ (changed_all (marked c.has_synonym-with_synonyms.result) c.args.tokens.now c.loop-token.token-index c.loop-token-test.false
    ∙ ap (λ w. map (marked w) c.args.tokens.now) c.has_synonym-with_synonyms.ensures)
