-- No expression leaves more tokens than it was given.
use Rattle.std.specs.Prelude.{◌≡◌, ◌≤◌, List, [], ◌∷◌, length}
use Rattle.std.proofs.Common.{subst}
use Rattle.std.proofs.Math.Nat.{le_refl, le_trans, le_of_lt, lt-suc_self}
use Rattle.sdl_lex.specs.declared.lexemes.Token.{Token}
use Rattle.sdl_ast.specs.Plain.{Tree}
use Rattle.sdl_productions.specs.Expressions.{other, sign}
use Rattle.sdl_productions.specs.Machine.{Build, low_trees, State, wants, Turn, goes, done, stuck, turn, after_turn, run, empty_frame, expression_at}
use Rattle.sdl_productions.specs.Readings.{Reading, read, fails, NeverLonger}
use Rattle.sdl_productions.proofs.TokenRests.{not_read, same_rest}

-- Expressions.
keeps_after : (a : Turn) (go_on : State → Reading Tree) (ts rest : List Token) → length rest ≤ length ts
    → ((s : State) (x : Tree) (us : List Token) → go_on s ≡ read x us → length us ≤ length rest)
    → (x : Tree) (us : List Token) → after_turn a go_on ts ≡ read x us → length us ≤ length ts
keeps_after (goes s) go_on ts rest l ih x us h = le_trans (ih s x us h) l
keeps_after (done y) go_on ts rest l ih x us h = subst (λ vs. length vs ≤ length ts) (same_rest y x ts us h) (le_refl (length ts))
keeps_after stuck go_on ts rest l ih x us h = not_read (length us ≤ length ts) ts us x h

keeps_run : (b : Build) (ts : List Token) (s : State) (x : Tree) (us : List Token) → run b s ts ≡ read x us → length us ≤ length ts
unfolding run
keeps_run b [] s x us h = keeps_after (turn b s other) (λ _. fails []) [] [] (le_refl 0) (λ s x us e. not_read (length us ≤ 0) [] us x e) x us h
keeps_run b (t ∷ ts) s x us h =
    keeps_after (turn b s (sign t)) (λ s'. run b s' ts) (t ∷ ts) ts (le_of_lt (lt-suc_self (length ts))) (keeps_run b ts) x us h

pub expression_keeps : (b : Build) → NeverLonger (expression_at b)
unfolding expression_at
expression_keeps b ts x us h = keeps_run b ts (wants [] (empty_frame 0)) x us h

pub low_keeps : NeverLonger (expression_at low_trees)
low_keeps = expression_keeps low_trees
