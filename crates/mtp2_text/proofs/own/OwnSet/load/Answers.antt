use Rattle.std.proofs.Common.{List, ℕ, IsUtf8, IfOk, subst}
use Rattle.sdl_lex.specs.declared.lexemes.Token.{Token}
use Rattle.sdl_ast.specs.Plain.{PlainBlock}
use Rattle.turn_verify.specs.Blocks.{MatchesBlock}
use Rattle.turn_verify.specs.Meant.{IsSetOfBlock}
use Rattle.turn_verify.specs.Loaded.{IsRead, IsSoundText, Gives}
use Rattle.mtp2_text.proofs.own.OwnSet.load.Goals as goal

pub returns-clause-utf8 : goal.returns-clause-utf8
returns-clause-utf8 c = subst IsUtf8 c.text.ensures c.set_of.ensures.utf8

pub returns-clause-exact : goal.returns-clause-exact
returns-clause-exact c =
    subst (λ (text : List ℕ). (ts : List Token) (b : PlainBlock) → IsSoundText text ts b → Gives c.set_of.result (MatchesBlock b)) c.text.ensures c.set_of.ensures.exact

pub returns-clause-every : goal.returns-clause-every
returns-clause-every c =
    subst (λ (text : List ℕ). (ts : List Token) (b : PlainBlock) → IsRead text ts b → IfOk c.set_of.result (IsSetOfBlock b)) c.text.ensures c.set_of.ensures.every
