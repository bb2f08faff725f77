-- Each item extends the chain of items read so far.
use Rattle.std.proofs.Common.{arith}
use Rattle.sdl_lex.specs.Lexed.{ended}
use Rattle.sdl_lex.proofs.ChainLemmas.{Lexes-found, Lexes-none}
use Rattle.sdl_lex.proofs.bare_tokens.Goals as goal

pub loop-at-init : goal.loop-at-init
loop-at-init c = (omega arith, rw c.new-tokens.ensures.items ended)

pub loop-at-preserved-in_ok-push : goal.loop-at-preserved-in_ok-push
loop-at-preserved-in_ok-push c =
    let here = c.in_ok-lexeme.ensures.ok in (
      here.2,
      Lexes-found c.args.bytes.now c.loop-at.at c.in_ok-lexeme.field-0.end c.in_ok-lexeme.field-0.lexeme c.in-Some.lexeme
          c.loop-at.tokens.items c.push.new.self.items c.loop-at.invariant.1 here.0 c.in-Some.is c.in_ok-push.ensures.items,
    )

pub loop-at-preserved : goal.loop-at-preserved
loop-at-preserved c =
    let here = c.in_ok-lexeme.ensures.ok in (
      here.2,
      Lexes-none c.args.bytes.now c.loop-at.at c.in_ok-lexeme.field-0.end c.in_ok-lexeme.field-0.lexeme
          c.loop-at.tokens.items c.loop-at.invariant.1 here.0 c.in_default.is,
    )
