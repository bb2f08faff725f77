-- The transitions read in steps are those of the grammar, with DECISIONs nested to any depth.
use Rattle.std.proofs.Common.{◌≡◌, ℕ, suc, zero, Bool, true, false, List, [], ◌∷◌, ◌++◌, Option, Some, None, length, refl, sym, ap, subst, ◌∙◌, MatchBool}
use Rattle.sdl_lex.specs.declared.lexemes.Token.{Token}
use Rattle.sdl_lex.specs.declared.lexemes.Word.TheVariants as words
use Rattle.sdl_lex.specs.declared.lexemes.Symbol.TheVariants.{Open}
use Rattle.sdl_ast.specs.declared.tree.End.{End}
use Rattle.sdl_ast.specs.Plain.{PlainAction, Text, falls, ends, does, decides, Choice, nothing_else, otherwise, answer, PlainStatement, act, decide, PlainAnswer, PlainQuestion, PlainHead, all_before, all_answers}
use Rattle.sdl_productions.specs.Bodies.{Keeping, whole_texts, WholeBranching, WholeBody, WholeReached, WholeMove, reaches, closes, with_answer}
use Rattle.sdl_ast.specs.Views.{end_text}
use Rattle.sdl_productions.specs.Tokens.{begins, a_word, a_symbol, an_action, an_end, a_choice}
use Rattle.sdl_productions.specs.Grammar.{Gives, Then}
use Rattle.sdl_productions.specs.Grammar as grammar
use Rattle.sdl_tree.specs.Syntax.{action_syntax, question_syntax, answer_head_syntax, else_head_syntax, some_head_syntax, no_head_syntax, head_syntax, end_decision_syntax, end_syntax, TextReads, ChoiceReads, runs_off, ends_there, goes_on, branches, no_more_answers, else_follows, answer_follows, text_syntax}
use Rattle.sdl_productions.specs.Machine.{whole_trees, expression_at}
use Rattle.sdl_productions.specs.Readings.{Reading, read, then_read, either, choice, give, optional}
use Rattle.sdl_productions.specs.Productions.{action_at, question_at, head_at, end_decision_at, end_at, head_step, closing_step, answer_step, body_step, behind_step, end_step, decision_step, action_step, step_at, after_move, steps_for, steps_from, at_first, text_at}
use Rattle.sdl_productions.proofs.Decides.{Seen, Decides, optional_decides}
use Rattle.sdl_tree.proofs.StepLemmas.{from_step, from_reaches, steps_look}
use Rattle.sdl_tree.proofs.TextSteps.{Leaves, step_looks, all_before-more, all_answers-more, split, Closed, Chosen, Answered, InBody, Behind, Stands, Follows, carried, closing_sound, head_begins}

-- The body after a head is part of the remaining answers.

some_chosen : (K : Text → List Token → Type 0) (d : WholeBranching) (ts us vs : List Token) (head : Option PlainHead) (text : Text) → begins a_choice ts ≡ true
    → begins (a_symbol Open) ts ≡ true → some_head_syntax ts head us → TextReads us text vs → InBody K d head text vs → Chosen K d ts
unfolding some_head_syntax InBody
some_chosen K d ts us vs head text c e h r k =
    let head_is : head ≡ Some h.value = h.after.same in
    let rest_is : us ≡ h.between = h.after.none in
    let a : Answered K d h.value text vs = subst (λ o. InBody K d o text vs) head_is k in
    record {
      others = answer h.value.at h.value.ranges text a.others;
      us = a.us;
      reads = answer_follows ts h.between vs a.us h.value text a.others c e h.before (subst (λ ws. TextReads ws text vs) rest_is r) a.reads;
      closed = a.closed;
    }

no_chosen : (K : Text → List Token → Type 0) (d : WholeBranching) (ts us vs : List Token) (head : Option PlainHead) (text : Text) → begins a_choice ts ≡ true
    → begins (a_symbol Open) ts ≡ false → no_head_syntax ts head us → TextReads us text vs → InBody K d head text vs → Chosen K d ts
unfolding no_head_syntax InBody
no_chosen K d ts us vs head text c e h r k =
    let head_is : head ≡ None = h.after.same in
    let rest_is : us ≡ h.between = h.after.none in
    let a : Closed K d (otherwise text) vs = subst (λ o. InBody K d o text vs) head_is k in
    record {
      others = otherwise text;
      us = vs;
      reads = else_follows ts h.between vs h.value text c e h.before (subst (λ ws. TextReads ws text vs) rest_is r);
      closed = a;
    }

chosen_by : (K : Text → List Token → Type 0) (d : WholeBranching) (ts us vs : List Token) (head : Option PlainHead) (text : Text) → begins a_choice ts ≡ true
    → (b : Bool) → begins (a_symbol Open) ts ≡ b → MatchBool b (some_head_syntax ts head us) (no_head_syntax ts head us)
    → TextReads us text vs → InBody K d head text vs → Chosen K d ts
chosen_by K d ts us vs head text c true e m r k = some_chosen K d ts us vs head text c e m r k
chosen_by K d ts us vs head text c false e m r k = no_chosen K d ts us vs head text c e m r k

chosen : (K : Text → List Token → Type 0) (d : WholeBranching) (ts us vs : List Token) (head : Option PlainHead) (text : Text) → head_syntax ts head us
    → TextReads us text vs → InBody K d head text vs → Chosen K d ts
unfolding head_syntax
chosen K d ts us vs head text h r k = chosen_by K d ts us vs head text (head_begins ts us head h) (begins (a_symbol Open) ts) refl h r k

head_sound : Leaves → (outer : List WholeBody) (d : WholeBranching) (ts : List Token) (m : WholeMove) (ws : List Token) (whole : Text) (us : List Token)
    → head_step whole_texts outer d ts ≡ read m ws → Follows m ws whole us → Chosen (Behind outer whole us) d ts
unfolding head_step Follows Behind
head_sound l outer d ts m ws whole us h f =
    let s = split head_at _ ts m ws h in
    let next : WholeReached = record { outer = record { branching = d; head = s.value } ∷ outer; here = [] } in
    let move : m ≡ reaches next = (let e = s.second in cc) in
    let rest : ws ≡ s.between = (let e = s.second in cc) in
    let g : Stands next s.between whole us = carried next m ws s.between whole us move rest f in
    chosen (Behind outer whole us) d ts s.between g.vs s.value g.text (l.head.sound ts s.value s.between s.first) g.reads g.behind

answer_sound_by : Leaves → (outer : List WholeBody) (d : WholeBranching) (ts : List Token) (m : WholeMove) (ws : List Token) (whole : Text) (us : List Token)
    → (b : Bool) → begins a_choice ts ≡ b → either b (head_step whole_texts outer d) (closing_step whole_texts outer d nothing_else) ts ≡ read m ws
    → Follows m ws whole us → Chosen (Behind outer whole us) d ts
answer_sound_by l outer d ts m ws whole us true e h f = head_sound l outer d ts m ws whole us h f
answer_sound_by l outer d ts m ws whole us false e h f = record {
  others = nothing_else;
  us = ts;
  reads = no_more_answers ts e;
  closed = closing_sound l outer d nothing_else ts m ws whole us h f;
}

answer_sound : Leaves → (outer : List WholeBody) (d : WholeBranching) (ts : List Token) (m : WholeMove) (ws : List Token) (whole : Text) (us : List Token)
    → answer_step whole_texts outer d ts ≡ read m ws → Follows m ws whole us → Chosen (Behind outer whole us) d ts
unfolding answer_step
answer_sound l outer d ts m ws whole us h f = answer_sound_by l outer d ts m ws whole us (begins a_choice ts) refl h f

-- One more answer is appended to the others.
with_one_more : (K : Text → List Token → Type 0) (d : WholeBranching) (h : PlainHead) (text : Text) (others : Choice) (ts : List Token)
    → Closed K (with_answer whole_texts d h text) others ts → Closed K d (answer h.at h.ranges text others) ts
with_one_more K d h text others ts c = record {
  closed = c.closed;
  us = c.us;
  ends = c.ends;
  rest = c.rest;
  vs = c.vs;
  follows = c.follows;
  behind = subst (λ x. K (all_before d.before (decides d.asked.at d.asked.question x c.rest)) c.vs)
      (all_answers-more d.answers (record { at = h.at; ranges = h.ranges; text = text }) others) c.behind;
}

body_sound : Leaves → (outer : List WholeBody) (d : WholeBranching) (head : Option PlainHead) (text : Text) (ts : List Token) (m : WholeMove) (ws : List Token) (whole : Text) (us : List Token)
    → body_step whole_texts outer d head text ts ≡ read m ws → Follows m ws whole us → InBody (Behind outer whole us) d head text ts
unfolding InBody
body_sound l outer d (Some h) text ts m ws whole us e f =
    let c = answer_sound l outer (with_answer whole_texts d h text) ts m ws whole us e f in
    record { others = c.others; us = c.us; reads = c.reads; closed = with_one_more (Behind outer whole us) d h text c.others c.us c.closed }
body_sound l outer d None text ts m ws whole us e f = closing_sound l outer d (otherwise text) ts m ws whole us e f

behind_sound : Leaves → (outer : List WholeBody) (text : Text) (ts : List Token) (m : WholeMove) (ws : List Token) (whole : Text) (us : List Token)
    → behind_step whole_texts outer text ts ≡ read m ws → Follows m ws whole us → Behind outer whole us text ts
unfolding Behind Follows
behind_sound l [] text ts m ws whole us e f =
    let move : m ≡ closes text = cc in
    let rest : ws ≡ ts = cc in
    let g : (text ≡ whole) × (ws ≡ us) = subst (λ n. Follows n ws whole us) move f in
    (g.0, sym rest ∙ g.1)
behind_sound l (body ∷ outer) text ts m ws whole us e f = body_sound l outer body.branching body.head text ts m ws whole us e f

end_from : (ts us : List Token) (last : Option End) (b : Bool) → begins an_action ts ≡ false → begins (a_word words.Decision) ts ≡ false → begins an_end ts ≡ b
    → MatchBool b (Then end_syntax (λ e. grammar.give (Some e)) ts last us) (Gives None ts last us) → TextReads ts (end_text last) us
end_from ts us last true e d f m =
    let last_is : Some m.value ≡ last = sym m.after.same in
    let rest_is : m.between ≡ us = sym m.after.none in
    subst (λ l. TextReads ts (end_text l) us) last_is
    (subst (λ vs. TextReads ts (ends m.value) vs) rest_is (ends_there ts m.between m.value e d f m.before))
end_from ts us last false e d f m =
    let last_is : None ≡ last = sym m.same in
    let rest_is : ts ≡ us = sym m.none in
    subst (λ l. TextReads ts (end_text l) us) last_is (subst (λ vs. TextReads ts falls vs) rest_is (runs_off ts e d f))

end_sound : Leaves → (s : WholeReached) (ts : List Token) (m : WholeMove) (ws : List Token) (whole : Text) (us : List Token) → begins an_action ts ≡ false
    → begins (a_word words.Decision) ts ≡ false → end_step whole_texts s ts ≡ read m ws → Follows m ws whole us → Stands s ts whole us
unfolding end_step
end_sound l s ts m ws whole us a d h f =
    let p = split (optional an_end end_at) _ ts m ws h in
    record {
      text = end_text p.value;
      vs = p.between;
      reads = end_from ts p.between p.value (begins an_end ts) a d refl ((optional_decides an_end l.last).sound ts p.value p.between p.first);
      behind = behind_sound l s.outer (all_before s.here (end_text p.value)) p.between m ws whole us p.second f;
    }

record HeadRead (ts : List Token) : Type 0 where
  value : Option PlainHead
  between : List Token
  first : head_at ts ≡ read value between

head_of : (outer : List WholeBody) (d : WholeBranching) (ts : List Token) (m : WholeMove) (ws : List Token) → head_step whole_texts outer d ts ≡ read m ws → HeadRead ts
unfolding head_step
head_of outer d ts m ws h = let s = split head_at _ ts m ws h in record { value = s.value; between = s.between; first = s.first }

decision_sound : Leaves → (s : WholeReached) (ts : List Token) (m : WholeMove) (ws : List Token) (whole : Text) (us : List Token) → begins an_action ts ≡ false
    → begins (a_word words.Decision) ts ≡ true → decision_step whole_texts s ts ≡ read m ws → Follows m ws whole us → Stands s ts whole us
unfolding decision_step
decision_sound l s ts m ws whole us a d h f =
    let p = split (question_at (expression_at whole_trees)) _ ts m ws h in
    let opened : WholeBranching = record { before = s.here; asked = p.value; answers = [] } in
    let q = head_of s.outer opened p.between m ws p.second in
    let c = head_sound l s.outer opened p.between m ws whole us p.second f in
    let k = c.closed in
    record {
      text = decides p.value.at p.value.question c.others k.rest;
      vs = k.vs;
      reads = branches ts p.between c.us k.us k.vs p.value c.others k.closed k.rest a d (l.question.sound ts p.value p.between p.first)
          (head_begins p.between q.between q.value (l.head.sound p.between q.value q.between q.first)) c.reads k.ends k.follows;
      behind = k.behind;
    }

action_sound : Leaves → (s : WholeReached) (ts : List Token) (m : WholeMove) (ws : List Token) (whole : Text) (us : List Token) → begins an_action ts ≡ true
    → action_step whole_texts s ts ≡ read m ws → Follows m ws whole us → Stands s ts whole us
unfolding action_step Follows
action_sound l s ts m ws whole us a h f =
    let p = split (action_at (expression_at whole_trees)) _ ts m ws h in
    let next : WholeReached = record { outer = s.outer; here = s.here ++ act p.value ∷ [] } in
    let move : m ≡ reaches next = (let e = p.second in cc) in
    let rest : ws ≡ p.between = (let e = p.second in cc) in
    let g : Stands next p.between whole us = carried next m ws p.between whole us move rest f in
    record {
      text = does p.value g.text;
      vs = g.vs;
      reads = goes_on ts p.between g.vs p.value g.text a (l.action.sound ts p.value p.between p.first) g.reads;
      behind = subst (λ t. Behind s.outer whole us t g.vs) (all_before-more s.here (act p.value) g.text) g.behind;
    }

step_sound_by : Leaves → (s : WholeReached) (ts : List Token) (m : WholeMove) (ws : List Token) (whole : Text) (us : List Token) (a d : Bool)
    → begins an_action ts ≡ a → begins (a_word words.Decision) ts ≡ d
    → either a (action_step whole_texts s) (λ zs. either d (decision_step whole_texts s) (end_step whole_texts s) zs) ts ≡ read m ws
    → Follows m ws whole us → Stands s ts whole us
step_sound_by l s ts m ws whole us true d e f h k = action_sound l s ts m ws whole us e h k
step_sound_by l s ts m ws whole us false true e f h k = decision_sound l s ts m ws whole us e f h k
step_sound_by l s ts m ws whole us false false e f h k = end_sound l s ts m ws whole us e f h k

-- A step by the results of its two tests: an action begins, or a DECISION begins.
step_is : (b : Keeping (List PlainStatement) (List PlainAnswer) Choice Text) (s : WholeReached) (ts : List Token) (a d : Bool) → begins an_action ts ≡ a → begins (a_word words.Decision) ts ≡ d
    → step_at b s ts ≡ either a (action_step b s) (λ zs. either d (decision_step b s) (end_step b s) zs) ts
unfolding step_at
step_is b s ts true d e f = ap (λ c. either c (action_step b s) (choice (a_word words.Decision) (decision_step b s) (end_step b s)) ts) e
step_is b s ts false d e f =
    ap (λ c. either c (action_step b s) (choice (a_word words.Decision) (decision_step b s) (end_step b s)) ts) e
    ∙ ap (λ c. either c (decision_step b s) (end_step b s) ts) f

step_sound : Leaves → (s : WholeReached) (ts : List Token) (m : WholeMove) (ws : List Token) (whole : Text) (us : List Token)
    → step_at whole_texts s ts ≡ read m ws → Follows m ws whole us → Stands s ts whole us
step_sound l s ts m ws whole us h f =
    step_sound_by l s ts m ws whole us (begins an_action ts) (begins (a_word words.Decision) ts) refl refl
    (sym (step_is whole_texts s ts (begins an_action ts) (begins (a_word words.Decision) ts) refl refl) ∙ h) f

follows_of : (n : ℕ) → ((s : WholeReached) (ts : List Token) (whole : Text) (us : List Token) → steps_for whole_texts n s ts ≡ read whole us → Stands s ts whole us)
    → (m : WholeMove) (ws : List Token) (whole : Text) (us : List Token) → after_move (steps_for whole_texts n) m ws ≡ read whole us → Follows m ws whole us
unfolding Follows
follows_of n ih (reaches s) ws whole us h = ih s ws whole us h
follows_of n ih (closes text) ws whole us h = (let e : text ≡ whole = cc in e, let e : ws ≡ us = cc in e)

steps_sound : Leaves → (n : ℕ) (s : WholeReached) (ts : List Token) (whole : Text) (us : List Token) → steps_for whole_texts n s ts ≡ read whole us → Stands s ts whole us
unfolding steps_for
steps_sound l zero s ts whole us h = cc
steps_sound l (suc n) s ts whole us h =
    let p = split (step_at whole_texts s) (after_move (steps_for whole_texts n)) ts whole us h in
    step_sound l s ts p.value p.between whole us p.first (follows_of n (steps_sound l n) p.value p.between whole us p.second)

-- From the grammar to the steps.

go_on : Reading WholeMove → Reading Text
go_on r = then_read r (after_move (steps_from whole_texts))

head_complete_by : Leaves → (outer : List WholeBody) (d : WholeBranching) (ts us : List Token) (head : Option PlainHead) → head_syntax ts head us
    → head_step whole_texts outer d ts ≡ read (reaches (record { outer = record { branching = d; head = head } ∷ outer; here = [] })) us
unfolding head_step
head_complete_by l outer d ts us head h = ap (λ r. then_read r (λ x. give (reaches (record { outer = record { branching = d; head = x } ∷ outer; here = [] })))) (l.head.complete ts head us h)

else_is_head : (ts us : List Token) (opened : ℕ) → begins (a_symbol Open) ts ≡ false → else_head_syntax ts opened us → head_syntax ts None us
unfolding head_syntax no_head_syntax
else_is_head ts us opened e h =
    subst (λ c. MatchBool c (some_head_syntax ts None us) (no_head_syntax ts None us)) (sym e)
    (record { value = opened; between = us; before = h; after = record { same = refl; none = refl } })

answer_is_head : (ts us : List Token) (head : PlainHead) → begins (a_symbol Open) ts ≡ true → answer_head_syntax ts head us → head_syntax ts (Some head) us
unfolding head_syntax some_head_syntax
answer_is_head ts us head e h =
    subst (λ c. MatchBool c (some_head_syntax ts (Some head) us) (no_head_syntax ts (Some head) us)) (sym e)
    (record { value = head; between = us; before = h; after = record { same = refl; none = refl } })

answer_step_head : (outer : List WholeBody) (d : WholeBranching) (ts : List Token) → begins a_choice ts ≡ true → answer_step whole_texts outer d ts ≡ head_step whole_texts outer d ts
unfolding answer_step
answer_step_head outer d ts e = ap (λ c. either c (head_step whole_texts outer d) (closing_step whole_texts outer d nothing_else) ts) e

answer_step_closing : (outer : List WholeBody) (d : WholeBranching) (ts : List Token) → begins a_choice ts ≡ false → answer_step whole_texts outer d ts ≡ closing_step whole_texts outer d nothing_else ts
unfolding answer_step
answer_step_closing outer d ts e = ap (λ c. either c (head_step whole_texts outer d) (closing_step whole_texts outer d nothing_else) ts) e

closing_step_more : (outer : List WholeBody) (d : WholeBranching) (h : PlainHead) (text : Text) (others : Choice) (ts : List Token)
    → closing_step whole_texts outer (with_answer whole_texts d h text) others ts ≡ closing_step whole_texts outer d (answer h.at h.ranges text others) ts
unfolding closing_step
closing_step_more outer d h text others ts =
    ap (λ c. then_read (end_decision_at ts) (λ _. give (reaches (record { outer = outer; here = d.before ++ decide d.asked.at d.asked.question c ∷ [] }))))
    (all_answers-more d.answers (record { at = h.at; ranges = h.ranges; text = text }) others)

closing_complete : Leaves → (outer : List WholeBody) (d : WholeBranching) (others : Choice) (ts us : List Token) (closed : ℕ) → end_decision_syntax ts closed us
    → closing_step whole_texts outer d others ts ≡ read (reaches (record { outer = outer; here = d.before ++ decide d.asked.at d.asked.question (all_answers d.answers others) ∷ [] })) us
unfolding closing_step
closing_complete l outer d others ts us closed h =
    ap (λ r. then_read r (λ _. give (reaches (record { outer = outer; here = d.before ++ decide d.asked.at d.asked.question (all_answers d.answers others) ∷ [] })))) (l.closing.complete ts closed us h)

action_complete : Leaves → (s : WholeReached) (ts us : List Token) (action : PlainAction) → begins an_action ts ≡ true → action_syntax ts action us
    → step_at whole_texts s ts ≡ read (reaches (record { outer = s.outer; here = s.here ++ act action ∷ [] })) us
unfolding action_step
action_complete l s ts us action e h =
    step_is whole_texts s ts true (begins (a_word words.Decision) ts) e refl
    ∙ ap (λ r. then_read r (λ x. give (reaches (record { outer = s.outer; here = s.here ++ act x ∷ [] })))) (l.action.complete ts action us h)

decision_complete : Leaves → (s : WholeReached) (ts us : List Token) (asked : PlainQuestion) → begins an_action ts ≡ false → begins (a_word words.Decision) ts ≡ true
    → question_syntax ts asked us → step_at whole_texts s ts ≡ head_step whole_texts s.outer (record { before = s.here; asked = asked; answers = [] }) us
unfolding decision_step
decision_complete l s ts us asked e f h =
    step_is whole_texts s ts false true e f
    ∙ ap (λ r. then_read r (λ x. head_step whole_texts s.outer (record { before = s.here; asked = x; answers = [] }))) (l.question.complete ts asked us h)

MatchBool-at : (b c : Bool) (P Q : Type 0) → b ≡ c → MatchBool c P Q → MatchBool b P Q
MatchBool-at b c P Q e m = subst (λ d. MatchBool d P Q) (sym e) m

end_complete : Leaves → (s : WholeReached) (ts us : List Token) (last : Option End) → begins an_action ts ≡ false → begins (a_word words.Decision) ts ≡ false
    → grammar.optional an_end end_syntax ts last us → step_at whole_texts s ts ≡ behind_step whole_texts s.outer (all_before s.here (end_text last)) us
unfolding end_step
end_complete l s ts us last e f h =
    step_is whole_texts s ts false false e f
    ∙ ap (λ r. then_read r (λ x. behind_step whole_texts s.outer (all_before s.here (end_text x)))) ((optional_decides an_end l.last).complete ts last us h)

mutual
  unfolding go_on

  text_complete : Leaves → (ts us : List Token) (text : Text) → TextReads ts text us → (s : WholeReached)
      → steps_from whole_texts s ts ≡ go_on (behind_step whole_texts s.outer (all_before s.here text) us)
  text_complete l ts us text (runs_off _ e d f) s =
      from_step whole_texts s ts
      ∙ ap go_on (end_complete l s ts ts None e d (MatchBool-at _ false _ _ f (record { same = refl; none = refl })))
  text_complete l ts us text (ends_there _ _ last e d f h) s =
      from_step whole_texts s ts
      ∙ ap go_on (end_complete l s ts us (Some last) e d (MatchBool-at _ true _ _ f (record { value = last; between = us; before = h; after = record { same = refl; none = refl } })))
  text_complete l ts us text (goes_on _ vs _ action rest e h r) s =
      from_reaches whole_texts s (record { outer = s.outer; here = s.here ++ act action ∷ [] }) ts vs (action_complete l s ts vs action e h)
      ∙ text_complete l vs us rest r (record { outer = s.outer; here = s.here ++ act action ∷ [] })
      ∙ ap (λ t. go_on (behind_step whole_texts s.outer t us)) (all_before-more s.here (act action) rest)
  text_complete l ts us text (branches _ vs ws xs _ asked choice closed rest e d q b c h r) s =
      let opened : WholeBranching = record { before = s.here; asked = asked; answers = [] } in
      let after : WholeReached = record { outer = s.outer; here = s.here ++ decide asked.at asked.question choice ∷ [] } in
      from_step whole_texts s ts
      ∙ ap go_on (decision_complete l s ts vs asked e d q ∙ sym (answer_step_head s.outer opened vs b))
      ∙ choice_complete l vs ws choice c s.outer opened
      ∙ ap go_on (closing_complete l s.outer opened choice ws xs closed h)
      ∙ text_complete l xs us rest r after
      ∙ ap (λ t. go_on (behind_step whole_texts s.outer t us)) (all_before-more s.here (decide asked.at asked.question choice) rest)

  choice_complete : Leaves → (ts us : List Token) (others : Choice) → ChoiceReads ts others us → (outer : List WholeBody) (d : WholeBranching)
      → go_on (answer_step whole_texts outer d ts) ≡ go_on (closing_step whole_texts outer d others us)
  choice_complete l ts us others (no_more_answers _ e) outer d = ap go_on (answer_step_closing outer d ts e)
  choice_complete l ts us others (else_follows _ vs _ opened text e f h r) outer d =
      ap go_on (answer_step_head outer d ts e ∙ head_complete_by l outer d ts vs None (else_is_head ts vs opened f h))
      ∙ text_complete l vs us text r (record { outer = record { branching = d; head = None } ∷ outer; here = [] })
  choice_complete l ts us others (answer_follows _ vs ws _ head text more e f h r c) outer d =
      ap go_on (answer_step_head outer d ts e ∙ head_complete_by l outer d ts vs (Some head) (answer_is_head ts vs head f h))
      ∙ text_complete l vs ws text r (record { outer = record { branching = d; head = Some head } ∷ outer; here = [] })
      ∙ choice_complete l ws us more c outer (with_answer whole_texts d head text)
      ∙ ap go_on (closing_step_more outer d head text more us)

-- The whole transition, with no body open.

text_sound_at : (ts : List Token) (whole : Text) (us : List Token) → Stands (at_first whole_texts) ts whole us → TextReads ts whole us
unfolding Behind
text_sound_at ts whole us s =
    subst (λ vs. TextReads ts whole vs) s.behind.1 (subst (λ t. TextReads ts t s.vs) s.behind.0 s.reads)

text_sound : Leaves → (ts : List Token) (whole : Text) (us : List Token) → text_at whole_texts ts ≡ read whole us → TextReads ts whole us
unfolding text_at steps_from
text_sound l ts whole us h = text_sound_at ts whole us (steps_sound l (suc (length ts)) (at_first whole_texts) ts whole us h)

text_whole : Leaves → (ts : List Token) (whole : Text) (us : List Token) → TextReads ts whole us → text_at whole_texts ts ≡ read whole us
unfolding text_at go_on
text_whole l ts whole us h = text_complete l ts us whole h (at_first whole_texts)

text_looks : Leaves → (ts : List Token) → Seen (text_at whole_texts) ts
unfolding text_at
text_looks l ts = steps_look whole_texts (step_looks l) (at_first whole_texts) ts

pub text_decides_from : Leaves → Decides text_syntax (text_at whole_texts)
text_decides_from l = record { looks = text_looks l; sound = text_sound l; complete = text_whole l }
