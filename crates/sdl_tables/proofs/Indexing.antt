-- The index with one more signal.
use Rattle.std.proofs.Common.{◌≡◌, ℕ, Bool, true, false, not, cond, List, [], ◌∷◌, ◌++◌, if◌then◌else◌, map, sym, ap, ◌∙◌}
use Rattle.std.specs.List.{list_any}
use Rattle.std.proofs.lemmas.List.{map-append}
use Rattle.std.proofs.lemmas.Bool.{not-true, not-false}
use Rattle.indexmap.specs.IndexSet.{contains}
use Rattle.sdl_ast.specs.declared.tree.Party.{Party}
use Rattle.sdl_tables.specs.declared.route_index.End.{End}
use Rattle.sdl_tables.specs.declared.route_index.Passage.{Passage}
use Rattle.sdl_tables.specs.declared.route_index.RouteIndex.{RouteIndex}
use Rattle.sdl_tables.specs.RouteIndexes.{Mention, turned, is_mention, receivers_in, same_end, same_passage, end_of, passage_of, held, listed, is_carried, Indexes}
use Rattle.sdl_tables.proofs.Mentions.{receivers_new, receivers_known, turned_any, carried_push, end_mention}

module _ (i n : RouteIndex) (ms : List Mention) (m : Mention) (key : Passage) (added : Bool)
    (way : key ≡ passage_of m.from m.to m.signal)
    (old : Indexes i ms)
    (told : added ≡ not (contains same_passage i.carried key))
    (puts : (q : Passage) → contains same_passage n.carried q ≡ cond (same_passage key q) true (contains same_passage i.carried q)) where
  before : (b : Bool) → contains same_passage i.carried key ≡ b → list_any (is_mention m.from m.to m.signal) ms ≡ b
  before b h = sym (old.carried m.from m.to m.signal) ∙ (ap (contains same_passage i.carried) (sym way) ∙ h)

  carried_more : (p q : Party) (s : List ℕ) → is_carried n p q s ≡ list_any (is_mention p q s) (ms ++ m ∷ [])
  carried_more p q s =
      carried_push ms m p q s (is_carried i p q s) (is_carried n p q s) (old.carried p q s)
      (puts (passage_of p q s) ∙ ap (λ k. cond (same_passage k (passage_of p q s)) true (is_carried i p q s)) way)

  -- A passage that was already in the index.
  pub index_known : added ≡ false → n.receivers ≡ i.receivers → n.senders ≡ i.senders → Indexes n (ms ++ m ∷ [])
  index_known stands receivers senders =
      let there = before true (not-false (contains same_passage i.carried key) (sym told ∙ stands)) in
      record {
        carried = carried_more;
        receivers = λ p s. ap (λ e. listed e p s) receivers ∙ (old.receivers p s ∙ sym (receivers_known ms m p s there));
        senders = λ p s.
            ap (λ e. listed e p s) senders
            ∙ (old.senders p s
            ∙ (sym (receivers_known (map turned ms) (turned m) p s (turned_any ms m.from m.to m.signal ∙ there))
            ∙ ap (λ l. receivers_in l p s) (sym (map-append turned ms (m ∷ [])))));
      }

  -- A passage that is new.
  pub index_new : added ≡ true
      → ((k : End) → held n.receivers k ≡ held i.receivers k ++ (if same_end (end_of m.from m.signal) k then m.to ∷ [] else []))
      → ((k : End) → held n.senders k ≡ held i.senders k ++ (if same_end (end_of m.to m.signal) k then m.from ∷ [] else []))
      → Indexes n (ms ++ m ∷ [])
  index_new fresh receivers senders =
      let absent = before false (not-true (contains same_passage i.carried key) (sym told ∙ fresh)) in
      record {
        carried = carried_more;
        receivers = λ p s.
            receivers (end_of p s)
            ∙ ((λ j. old.receivers p s j ++ (if end_mention m.from p m.signal s j then m.to ∷ [] else []))
            ∙ sym (receivers_new ms m p s absent));
        senders = λ p s.
            senders (end_of p s)
            ∙ ((λ j. old.senders p s j ++ (if end_mention m.to p m.signal s j then m.from ∷ [] else []))
            ∙ (sym (receivers_new (map turned ms) (turned m) p s (turned_any ms m.from m.to m.signal ∙ absent))
            ∙ ap (λ l. receivers_in l p s) (sym (map-append turned ms (m ∷ [])))));
      }
