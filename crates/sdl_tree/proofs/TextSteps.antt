-- The lookahead of the steps of a transition, and the tree that they read from an intermediate state.
use Rattle.std.proofs.Common.{◌≡◌, ℕ, Bool, true, false, List, [], ◌∷◌, ◌++◌, Option, Some, None, refl, ap, subst, MatchBool}
use Rattle.std.specs.Prelude.{is_some}
use Rattle.sdl_lex.specs.declared.lexemes.Token.{Token}
use Rattle.sdl_lex.specs.declared.lexemes.Lexeme.{Lexeme}
use Rattle.sdl_lex.specs.declared.lexemes.Lexeme.TheVariants as lexemes
use Rattle.sdl_lex.specs.declared.lexemes.Word.TheVariants as words
use Rattle.sdl_lex.specs.declared.lexemes.Symbol.TheVariants.{Open}
use Rattle.sdl_ast.specs.Plain.{Text, decides, Choice, nothing_else, otherwise, answer, PlainStatement, decide, PlainAnswer, PlainHead, before, all_before, all_answers}
use Rattle.sdl_productions.specs.Bodies.{whole_texts, WholeBranching, WholeBody, WholeReached, WholeMove, reaches, closes, with_answer}
use Rattle.sdl_ast.specs.Views.{end_text}
use Rattle.sdl_productions.specs.Tokens.{begins, a_word, a_symbol, an_action, an_end, a_choice, word_place, symbol_place, choice_place}
use Rattle.sdl_tree.specs.Syntax.{action_syntax, question_syntax, else_head_syntax, some_head_syntax, no_head_syntax, head_syntax, end_decision_syntax, end_syntax, TextReads, ChoiceReads}
use Rattle.sdl_productions.specs.Machine.{whole_trees, expression_at}
use Rattle.sdl_productions.specs.Readings.{Reading, read, fails, At, then_read}
use Rattle.sdl_productions.specs.Productions.{action_at, question_at, head_at, end_decision_at, end_at, head_step, closing_step, answer_step, body_step, behind_step, end_step, decision_step, action_step, step_at}
use Rattle.sdl_productions.proofs.Decides.{Seen, Decides, give_decides, choice_decides, optional_decides, ◌>>=◌}

-- The readings of the parts without nested bodies decide their grammars.
pub record Leaves : Type 0 where
  pub action : Decides action_syntax (action_at (expression_at whole_trees))
  pub question : Decides question_syntax (question_at (expression_at whole_trees))
  pub head : Decides head_syntax head_at
  pub closing : Decides end_decision_syntax end_decision_at
  pub last : Decides end_syntax end_at

-- The steps inspect at most one token ahead.

graph_decides : {A : Type 0} (p : At A) → ((ts : List Token) → Seen p ts) → Decides (λ ts x us. p ts ≡ read x us) p
graph_decides p looks = record { looks = looks; sound = λ ts x us h. h; complete = λ ts x us h. h }

head_step_looks : Leaves → (outer : List WholeBody) (d : WholeBranching) (ts : List Token) → Seen (head_step whole_texts outer d) ts
unfolding head_step
head_step_looks l outer d = (l.head >>= λ head. give_decides _).looks

closing_step_looks : Leaves → (outer : List WholeBody) (d : WholeBranching) (others : Choice) (ts : List Token) → Seen (closing_step whole_texts outer d others) ts
unfolding closing_step
closing_step_looks l outer d others = (l.closing >>= λ _. give_decides _).looks

answer_step_looks : Leaves → (outer : List WholeBody) (d : WholeBranching) (ts : List Token) → Seen (answer_step whole_texts outer d) ts
unfolding answer_step
answer_step_looks l outer d =
    (choice_decides a_choice (graph_decides (head_step whole_texts outer d) (head_step_looks l outer d))
    (graph_decides (closing_step whole_texts outer d nothing_else) (closing_step_looks l outer d nothing_else))).looks

body_step_looks : Leaves → (outer : List WholeBody) (d : WholeBranching) (head : Option PlainHead) (text : Text) (ts : List Token) → Seen (body_step whole_texts outer d head text) ts
body_step_looks l outer d (Some h) text = answer_step_looks l outer (with_answer whole_texts d h text)
body_step_looks l outer d None text = closing_step_looks l outer d (otherwise text)

behind_step_looks : Leaves → (outer : List WholeBody) (text : Text) (ts : List Token) → Seen (behind_step whole_texts outer text) ts
behind_step_looks l [] text = (give_decides (closes text)).looks
behind_step_looks l (body ∷ outer) text = body_step_looks l outer body.branching body.head text

end_step_looks : Leaves → (s : WholeReached) (ts : List Token) → Seen (end_step whole_texts s) ts
unfolding end_step
end_step_looks l s = (optional_decides an_end l.last >>= λ last. graph_decides _ (behind_step_looks l s.outer (all_before s.here (end_text last)))).looks

decision_step_looks : Leaves → (s : WholeReached) (ts : List Token) → Seen (decision_step whole_texts s) ts
unfolding decision_step
decision_step_looks l s = (l.question >>= λ asked. graph_decides _ (head_step_looks l s.outer (record { before = s.here; asked = asked; answers = [] }))).looks

action_step_looks : Leaves → (s : WholeReached) (ts : List Token) → Seen (action_step whole_texts s) ts
unfolding action_step
action_step_looks l s = (l.action >>= λ action. give_decides _).looks

pub step_looks : Leaves → (s : WholeReached) (ts : List Token) → Seen (step_at whole_texts s) ts
unfolding step_at
step_looks l s =
    (choice_decides an_action (graph_decides (action_step whole_texts s) (action_step_looks l s))
    (choice_decides (a_word words.Decision) (graph_decides (decision_step whole_texts s) (decision_step_looks l s))
    (graph_decides (end_step whole_texts s) (end_step_looks l s)))).looks

-- Statements and answers appended to others.

pub all_before-more : (ss : List PlainStatement) (s : PlainStatement) (text : Text) → all_before (ss ++ s ∷ []) text ≡ all_before ss (before s text)
all_before-more [] s text = refl
all_before-more (x ∷ ss) s text = ap (before x) (all_before-more ss s text)

pub all_answers-more : (xs : List PlainAnswer) (x : PlainAnswer) (others : Choice) → all_answers (xs ++ x ∷ []) others ≡ all_answers xs (answer x.at x.ranges x.text others)
all_answers-more [] x others = refl
all_answers-more (y ∷ xs) x others = ap (answer y.at y.ranges y.text) (all_answers-more xs x others)

-- The two parts of a sequence of readings.
pub record Split {A B : Type 0} (p : At A) (q : A → At B) (ts : List Token) (y : B) (us : List Token) : Type 0 where
  pub value : A
  pub between : List Token
  pub first : p ts ≡ read value between
  pub second : q value between ≡ read y us

pub split : {A B : Type 0} (p : At A) (q : A → At B) (ts : List Token) (y : B) (us : List Token) → then_read (p ts) q ≡ read y us → Split p q ts y us
split {A} {B} p q ts y us h = by_result p q ts y us (p ts) refl h
  where
    by_result : {A B : Type 0} (p : At A) (q : A → At B) (ts : List Token) (y : B) (us : List Token) (r : Reading A) → p ts ≡ r → then_read r q ≡ read y us → Split p q ts y us
    by_result p q ts y us (fails vs) e h = cc
    by_result p q ts y us (read x vs) e h = record { value = x; between = vs; first = e; second = h }

-- The tree read from an intermediate state: the rest of the current transition, followed by the parts that close the
-- open bodies, innermost first, up to the whole transition.

pub record Closed (K : Text → List Token → Type 0) (d : WholeBranching) (others : Choice) (ts : List Token) : Type 0 where
  pub closed : ℕ
  pub us : List Token
  pub ends : end_decision_syntax ts closed us
  pub rest : Text
  pub vs : List Token
  pub follows : TextReads us rest vs
  pub behind : K (all_before d.before (decides d.asked.at d.asked.question (all_answers d.answers others) rest)) vs

pub record Chosen (K : Text → List Token → Type 0) (d : WholeBranching) (ts : List Token) : Type 0 where
  pub others : Choice
  pub us : List Token
  pub reads : ChoiceReads ts others us
  pub closed : Closed K d others us

pub record Answered (K : Text → List Token → Type 0) (d : WholeBranching) (h : PlainHead) (text : Text) (ts : List Token) : Type 0 where
  pub others : Choice
  pub us : List Token
  pub reads : ChoiceReads ts others us
  pub closed : Closed K d (answer h.at h.ranges text others) us

unfoldable pub InBody : (Text → List Token → Type 0) → WholeBranching → Option PlainHead → Text → List Token → Type 0
InBody K d (Some h) text ts = Answered K d h text ts
InBody K d None text ts = Closed K d (otherwise text) ts

unfoldable pub Behind : List WholeBody → Text → List Token → (Text → List Token → Type 0)
Behind [] whole us text ts = (text ≡ whole) × (ts ≡ us)
Behind (body ∷ outer) whole us text ts = InBody (Behind outer whole us) body.branching body.head text ts

pub record Stands (s : WholeReached) (ts : List Token) (whole : Text) (us : List Token) : Type 0 where
  pub text : Text
  pub vs : List Token
  pub reads : TextReads ts text vs
  pub behind : Behind s.outer whole us (all_before s.here text) vs

unfoldable pub Follows : WholeMove → List Token → Text → List Token → Type 0
Follows (reaches s) ts whole us = Stands s ts whole us
Follows (closes text) ts whole us = (text ≡ whole) × (ts ≡ us)

-- From the steps to the grammar.

pub carried : (next : WholeReached) (m : WholeMove) (ws between : List Token) (whole : Text) (us : List Token) → m ≡ reaches next → ws ≡ between → Follows m ws whole us → Stands next between whole us
unfolding Follows
carried next m ws between whole us e f h = subst (λ vs. Stands next vs whole us) f (subst (λ n. Follows n ws whole us) e h)

pub closing_sound : Leaves → (outer : List WholeBody) (d : WholeBranching) (others : Choice) (ts : List Token) (m : WholeMove) (ws : List Token) (whole : Text) (us : List Token)
    → closing_step whole_texts outer d others ts ≡ read m ws → Follows m ws whole us → Closed (Behind outer whole us) d others ts
unfolding closing_step Follows
closing_sound l outer d others ts m ws whole us h f =
    let s = split end_decision_at _ ts m ws h in
    let next : WholeReached = record { outer = outer; here = d.before ++ decide d.asked.at d.asked.question (all_answers d.answers others) ∷ [] } in
    let move : m ≡ reaches next = (let e = s.second in cc) in
    let rest : ws ≡ s.between = (let e = s.second in cc) in
    let g : Stands next s.between whole us = carried next m ws s.between whole us move rest f in
    record {
      closed = s.value;
      us = s.between;
      ends = l.closing.sound ts s.value s.between s.first;
      rest = g.text;
      vs = g.vs;
      follows = g.reads;
      behind = subst (λ t. Behind outer whole us t g.vs) (all_before-more d.before (decide d.asked.at d.asked.question (all_answers d.answers others)) g.text) g.behind;
    }

-- Only a token that is a parenthesis or ELSE begins a head.

open_is_choice : (at : ℕ) (x : Lexeme) → is_some (symbol_place Open at x) ≡ true → is_some (choice_place at x) ≡ true
open_is_choice at (lexemes.Symbol Open) e = refl
open_is_choice at (lexemes.Symbol _) e = cc
open_is_choice at (lexemes.Name n) e = cc
open_is_choice at (lexemes.Number k) e = cc
open_is_choice at (lexemes.Word w) e = cc
open_is_choice at lexemes.Quoted e = cc

else_is_choice : (at p : ℕ) (x : Lexeme) → word_place words.Else at x ≡ Some p → is_some (choice_place at x) ≡ true
else_is_choice at p (lexemes.Word words.Else) e = refl
else_is_choice at p (lexemes.Word _) e = cc
else_is_choice at p (lexemes.Name n) e = cc
else_is_choice at p (lexemes.Number k) e = cc
else_is_choice at p (lexemes.Symbol s) e = cc
else_is_choice at p lexemes.Quoted e = cc

open_begins : (ts : List Token) → begins (a_symbol Open) ts ≡ true → begins a_choice ts ≡ true
open_begins [] e = cc
open_begins (t ∷ ts) e = open_is_choice t.start t.lexeme e

else_begins : (ts us : List Token) (opened : ℕ) → else_head_syntax ts opened us → begins a_choice ts ≡ true
unfolding else_head_syntax
else_begins ts us opened h = rw h.before.first (else_is_choice h.before.one.start h.value h.before.one.lexeme h.before.stands)

no_head_begins : (ts us : List Token) (head : Option PlainHead) → no_head_syntax ts head us → begins a_choice ts ≡ true
unfolding no_head_syntax
no_head_begins ts us head h = else_begins ts h.between h.value h.before

head_begins_by : (ts us : List Token) (head : Option PlainHead) (b : Bool) → begins (a_symbol Open) ts ≡ b → MatchBool b (some_head_syntax ts head us) (no_head_syntax ts head us)
    → begins a_choice ts ≡ true
head_begins_by ts us head true e m = open_begins ts e
head_begins_by ts us head false e m = no_head_begins ts us head m

pub head_begins : (ts us : List Token) (head : Option PlainHead) → head_syntax ts head us → begins a_choice ts ≡ true
unfolding head_syntax
head_begins ts us head h = head_begins_by ts us head (begins (a_symbol Open) ts) refl h
