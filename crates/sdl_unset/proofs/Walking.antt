-- Steps of the walk of a tree: one more statement, one more answer, and the ends.
use Rattle.std.proofs.Common.{◌≡◌, ℕ, ◌+◌, ◌<◌, ◌≤◌, List, [], ◌∷◌, ◌++◌, map, take, length, Option, None, Some, get_or, sym, ap, ◌∙◌, subst}
use Rattle.std.proofs.lemmas.List.{map_more, take_all}
use lib.Bits.{bit_or}
use Rattle.sdl_ast.specs.declared.tree.End.{End}
use Rattle.sdl_ast.specs.declared.tree.Transition.{Transition}
use Rattle.sdl_ast.specs.declared.tree.Statement.{Statement}
use Rattle.sdl_ast.specs.declared.tree.Statement.TheVariants.{Decide}
use Rattle.sdl_ast.specs.declared.tree.Decision.{Decision, out-Decision}
use Rattle.sdl_ast.specs.declared.tree.Answer.{Answer}
use Rattle.sdl_ast.specs.Plain.{falls, ends, nothing_else, otherwise, PlainStatement, PlainAnswer, all_before, all_answers, PlainProcess}
use Rattle.sdl_ast.specs.Views.{plain_statement, plain_answer, tree_of, end_text, else_choice, text_of, statement_of, statements_before, answers_before, choice_of}
use Rattle.sdl_tables.specs.Names.{states_of}
use Rattle.sdl_sound.specs.Paths.{tree_events}
use Rattle.sdl_sound.specs.Chances.{Chances, event_chances, behind, beside, chances, choice_chances}
use Rattle.sdl_unset.specs.Flows.{Doings, Walked, Forked, text_doings, choice_doings, end_doings}
use Rattle.sdl_unset.specs.declared.walker.Walker.{Walker}
use Rattle.sdl_ast.proofs.Views.{text_of-is, statement_of-decide, plain_answer-is}
use Rattle.sdl_unset.proofs.Walkers.{behind_leaving, walked_same, walked_behind, fork_more, fork_end, forked_same, statements_then, statements_more, answers_then, answers_more}

abbrev pub Told : Type 0
Told = List ℕ → ℕ → List ℕ → Chances

pub walked_decide : (p : PlainProcess) (told : Told) (d : Decision) (a b c : Walker)
    → Walked p (λ x q. event_chances (tree_events (tree_of (out-Decision d).question)) x) a b → Walked p (choice_doings p told (choice_of d)) b c
    → Walked p (text_doings p told (statement_of (Decide d) falls)) a c
walked_decide p told d a b c v w =
    let asked : Doings = λ x q. event_chances (tree_events (tree_of (out-Decision d).question)) x in
    walked_same p (λ x q. behind (asked x q) (choice_doings p told (choice_of d) x q)) (text_doings p told (statement_of (Decide d) falls)) a c
    (λ x q. sym (ap (chances (states_of p) (told x q) x q) (statement_of-decide d falls) ∙ ap (behind (asked x q)) (behind_leaving (choice_doings p told (choice_of d) x q))))
    (walked_behind p asked (choice_doings p told (choice_of d)) a b c v w)

pub walked_more : (p : PlainProcess) (told : Told) (ss : List Statement) (i : ℕ) (s : Statement) (a b c : Walker) → i < length ss → s ≡ get_or ss i s
    → Walked p (text_doings p told (statements_before (take i ss) falls)) a b → Walked p (text_doings p told (statement_of s falls)) b c
    → Walked p (text_doings p told (statements_before (take (i + 1) ss) falls)) a c
walked_more p told ss i s a b c within is v w =
    let done = map plain_statement (take i ss) in
    let all : map plain_statement (take (i + 1) ss) ≡ done ++ plain_statement s ∷ [] = map_more plain_statement ss i s within ∙ sym (ap (λ u. done ++ plain_statement u ∷ []) is) in
    walked_same p (λ x q. behind (text_doings p told (all_before done falls) x q) (text_doings p told (statement_of s falls) x q)) (text_doings p told (statements_before (take (i + 1) ss) falls)) a c
    (λ x q. sym (ap (λ (list : List PlainStatement). chances (states_of p) (told x q) x q (all_before list falls)) all ∙ statements_more (states_of p) (told x q) x q done (plain_statement s)))
    (walked_behind p (text_doings p told (all_before done falls)) (text_doings p told (statement_of s falls)) a b c v w)

pub walked_through : (p : PlainProcess) (told : Told) (t : Transition) (ss : List Statement) (i : ℕ) (a b : Walker) → ss ≡ t.statements.items → length ss ≤ i
    → t.end ≡ None → Walked p (text_doings p told (statements_before (take i ss) falls)) a b → Walked p (text_doings p told (text_of t)) a b
walked_through p told t ss i a b same past off w =
    let all : take i ss ≡ t.statements.items = take_all i ss past ∙ same in
    let whole : text_of t ≡ statements_before t.statements.items falls = text_of-is t ∙ ap (λ (e : Option End). statements_before t.statements.items (end_text e)) off in
    walked_same p (text_doings p told (statements_before (take i ss) falls)) (text_doings p told (text_of t)) a b
    (λ x q. ap (λ (list : List Statement). chances (states_of p) (told x q) x q (statements_before list falls)) all ∙ sym (ap (chances (states_of p) (told x q) x q) whole)) w

pub walked_end : (p : PlainProcess) (told : Told) (t : Transition) (ss : List Statement) (i : ℕ) (e : End) (a b c : Walker) → ss ≡ t.statements.items → length ss ≤ i
    → t.end ≡ Some e → Walked p (text_doings p told (statements_before (take i ss) falls)) a b → Walked p (end_doings p told e) b c
    → Walked p (text_doings p told (text_of t)) a c
walked_end p told t ss i e a b c same past off v w =
    let all : take i ss ≡ t.statements.items = take_all i ss past ∙ same in
    let list = map plain_statement t.statements.items in
    let whole : text_of t ≡ all_before list (ends e) = text_of-is t ∙ ap (λ (o : Option End). statements_before t.statements.items (end_text o)) off in
    walked_same p (λ x q. behind (text_doings p told (statements_before (take i ss) falls) x q) (end_doings p told e x q)) (text_doings p told (text_of t)) a c
    (λ x q.
    ap (λ (some : List Statement). behind (chances (states_of p) (told x q) x q (statements_before some falls)) (end_doings p told e x q)) all
    ∙ sym (ap (chances (states_of p) (told x q) x q) whole ∙ statements_then (states_of p) (told x q) x q list (ends e)))
    (walked_behind p (text_doings p told (statements_before (take i ss) falls)) (end_doings p told e) a b c v w)

pub forked_more : (p : PlainProcess) (told : Told) (list : List Answer) (i : ℕ) (answer : Answer) (old now next : Walker) (after : ℕ) → i < length list → answer ≡ get_or list i answer
    → Forked p (choice_doings p told (answers_before (take i list) nothing_else)) old now after → Walked p (text_doings p told (text_of answer.body)) now next
    → Forked p (choice_doings p told (answers_before (take (i + 1) list) nothing_else)) old (record { reads = next.reads; leaves = old.leaves; enters = next.enters; firsts = next.firsts }) (bit_or after next.leaves)
forked_more p told list i answer old now next after within is fork w =
    let done = map plain_answer (take i list) in
    let all : map plain_answer (take (i + 1) list) ≡ done ++ plain_answer answer ∷ [] = map_more plain_answer list i answer within ∙ sym (ap (λ u. done ++ plain_answer u ∷ []) is) in
    let new : Walker = record { reads = next.reads; leaves = old.leaves; enters = next.enters; firsts = next.firsts } in
    forked_same p (λ x q. beside (choice_doings p told (all_answers done nothing_else) x q) (text_doings p told (text_of answer.body) x q))
    (choice_doings p told (answers_before (take (i + 1) list) nothing_else)) old new (bit_or after next.leaves)
    (λ x q.
    sym (ap (λ (some : List PlainAnswer). choice_chances (states_of p) (told x q) x q (all_answers some nothing_else)) all
    ∙ (answers_more (states_of p) (told x q) x q done (plain_answer answer)
    ∙ ap (λ (u : PlainAnswer). beside (choice_doings p told (all_answers done nothing_else) x q) (chances (states_of p) (told x q) x q u.text)) (plain_answer-is answer))))
    (fork_more p (choice_doings p told (all_answers done nothing_else)) (text_doings p told (text_of answer.body)) old now next after fork w)

-- There is no ELSE.
pub forked_through : (p : PlainProcess) (told : Told) (d : Decision) (list : List Answer) (i : ℕ) (old now : Walker) (after : ℕ)
    → list ≡ (out-Decision d).answers.items → length list ≤ i → (out-Decision d).otherwise ≡ None
    → Forked p (choice_doings p told (answers_before (take i list) nothing_else)) old now after
    → Walked p (choice_doings p told (choice_of d)) old (record { reads = now.reads; leaves = after; enters = now.enters; firsts = now.firsts })
forked_through p told d list i old now after same past none fork =
    let all : take i list ≡ (out-Decision d).answers.items = take_all i list past ∙ same in
    let new : Walker = record { reads = now.reads; leaves = after; enters = now.enters; firsts = now.firsts } in
    walked_same p (choice_doings p told (answers_before (take i list) nothing_else)) (choice_doings p told (choice_of d)) old new
    (λ x q.
    ap (λ (some : List Answer). choice_chances (states_of p) (told x q) x q (answers_before some nothing_else)) all
    ∙ sym (ap (λ (o : Option Transition). choice_chances (states_of p) (told x q) x q (answers_before (out-Decision d).answers.items (else_choice o))) none))
    (fork_end p (choice_doings p told (answers_before (take i list) nothing_else)) old now after fork)

-- There is an ELSE.
pub forked_else : (p : PlainProcess) (told : Told) (d : Decision) (list : List Answer) (i : ℕ) (body : Transition) (old now next : Walker) (after : ℕ)
    → list ≡ (out-Decision d).answers.items → length list ≤ i → (out-Decision d).otherwise ≡ Some body
    → Forked p (choice_doings p told (answers_before (take i list) nothing_else)) old now after → Walked p (text_doings p told (text_of body)) now next
    → Walked p (choice_doings p told (choice_of d)) old (record { reads = next.reads; leaves = bit_or after next.leaves; enters = next.enters; firsts = next.firsts })
forked_else p told d list i body old now next after same past there fork w =
    let all : take i list ≡ (out-Decision d).answers.items = take_all i list past ∙ same in
    let some = choice_doings p told (answers_before (take i list) nothing_else) in
    let last = text_doings p told (text_of body) in
    let both : Doings = λ x q. beside (some x q) (last x q) in
    let new : Walker = record { reads = next.reads; leaves = bit_or after next.leaves; enters = next.enters; firsts = next.firsts } in
    let middle : Walker = record { reads = next.reads; leaves = old.leaves; enters = next.enters; firsts = next.firsts } in
    walked_same p both (choice_doings p told (choice_of d)) old new
    (λ x q.
    ap (λ (u : List Answer). beside (choice_chances (states_of p) (told x q) x q (answers_before u nothing_else)) (last x q)) all
    ∙ (sym (answers_then (states_of p) (told x q) x q (map plain_answer (out-Decision d).answers.items) (otherwise (text_of body)))
    ∙ sym (ap (λ (o : Option Transition). choice_chances (states_of p) (told x q) x q (answers_before (out-Decision d).answers.items (else_choice o))) there)))
    (fork_end p both old middle (bit_or after next.leaves) (fork_more p some last old now next after fork w))

-- As above, for walkers and masks that are equal to these.
pub leaving_at : (p : PlainProcess) (f : Doings) (old now w : Walker) (after a : ℕ) → w ≡ now → a ≡ after
    → Walked p f old (record { reads = now.reads; leaves = after; enters = now.enters; firsts = now.firsts }) → Walked p f old (record { reads = w.reads; leaves = a; enters = w.enters; firsts = w.firsts })
leaving_at p f old now w after a same is h =
    subst (λ (u : Walker). Walked p f old (record { reads = u.reads; leaves = a; enters = u.enters; firsts = u.firsts })) (sym same)
    (subst (λ (m : ℕ). Walked p f old (record { reads = now.reads; leaves = m; enters = now.enters; firsts = now.firsts })) (sym is) h)
