use Rattle.std.proofs.Common.{◌≡◌, ℕ, ◌+◌, ◌<◌, ◌++◌, ◌∷◌, [], List, length, drop, get_or, map, arith, refl, sym, ap, ◌∙◌, append_assoc}
use Rattle.std.proofs.lemmas.Grind.{common_steps}
use Rattle.std.proofs.lemmas.List.{drop_more, map_push}
use Rattle.turn_code.specs.declared.draft.PlaceFacts.{PlaceFacts}
use Rattle.sdl_compile.proofs.facts.place_facts.Goals as goal

-- One more place: its fact is the next of those given.
one_more : {A B : Type 0} (read : A → B) (old new : List A) (x : A) (said all : List B) (k : ℕ) (d : B) → new ≡ old ++ x ∷ [] → k < length said → read x ≡ get_or said k d
    → map read old ++ drop k said ≡ all → map read new ++ drop (k + 1) said ≡ all
one_more read old new x said all k d more lt is before =
    ap (λ l. map read l ++ drop (k + 1) said) more ∙ ap (λ l. l ++ drop (k + 1) said) (map_push read old x)
    ∙ append_assoc (map read old) (read x ∷ []) (drop (k + 1) said)
    ∙ ap (λ y. map read old ++ y ∷ drop (k + 1) said) is
    ∙ ap (λ l. map read old ++ l) (sym (drop_more said k d lt)) ∙ before

pub loop-k-preserved : goal.loop-k-preserved
loop-k-preserved c =
    let marks = c.args.marks.now in
    let k = c.loop-k.k in
    let old = c.loop-k.facts.items in
    let new = c.push.new.self.items in
    let items = c.in_ok-push.ensures.items in
    let lt = c.loop-k-test.true in
    record {
      shaped = grind (arith, common_steps);
      settled = one_more (λ (f : PlaceFacts). f.set) old new _ marks.sets.now _ k _ items (omega arith) refl c.loop-k.invariant.settled;
      counted = one_more (λ (f : PlaceFacts). f.count) old new _ marks.counts.now _ k _ items (omega arith) refl c.loop-k.invariant.counted;
      effected = one_more (λ (f : PlaceFacts). f.effects) old new _ marks.effects.now _ k _ items (omega arith) refl c.loop-k.invariant.effected;
    }
