-- The meaning of the words of an order to a link set.
use Rattle.std.proofs.Common.{◌≡◌, ◌∙◌, ℕ, ◌≤◌, List, [], ◌∷◌, length, Bor, Option, None, Some, option_map, Result, IfOk, refl, ap, arith}
use Rattle.std.specs.Prelude.{◌≢◌, option_and_then, codes}
use Rattle.std.proofs.lemmas.Result.{IfOk-weaker}
use Rattle.script_lines.specs.Lines.{texts}
use Rattle.script_lines.proofs.NumberLemmas.{bytes_ne}
use Rattle.script_links.specs.Octets.{octets_of}
use Rattle.script_links.specs.Orders.{order_of}
use Rattle.line_play.specs.SetOrders.{plain_set_order, links, alone_of, asked_of, other_order_of, sent_word, send_of, by_sent_word, set_order_of}
use Rattle.line_play.specs.declared.set.orders.SetOrder.{SetOrder}

-- a word that is none of the order words
pub other_word : (word : List ℕ) → word ≢ codes "measure" → word ≢ codes "table" → word ≢ codes "held" → word ≢ codes "unsure" → word ≢ codes "rebalance" → word ≢ codes "reopen" → word ≢ codes "quit" → word ≢ codes "leave"
    → option_map links (order_of word) ≡ alone_of word
other_word word n_measure n_table n_held n_unsure n_rebalance n_reopen n_quit n_leave =
    rw (
      bytes_ne word (codes "measure") n_measure,
      bytes_ne word (codes "table") n_table,
      bytes_ne word (codes "held") n_held,
      bytes_ne word (codes "unsure") n_unsure,
      bytes_ne word (codes "rebalance") n_rebalance,
      bytes_ne word (codes "reopen") n_reopen,
      bytes_ne word (codes "quit") n_quit,
      bytes_ne word (codes "leave") n_leave,
    ) refl

pub many_words : (ws : List (Bor (List ℕ))) → 3 ≤ length ws → asked_of (texts ws) ≡ other_order_of (texts ws)
many_words [] many = absurd (omega (arith, many))
many_words (a ∷ []) many = absurd (omega (arith, many))
many_words (a ∷ b ∷ []) many = absurd (omega (arith, many))
many_words (a ∷ b ∷ c ∷ more) many = refl

pub read_send : {E : Type 0} (r : Result (Option SetOrder) E) (word : List ℕ) (words : List (List ℕ)) → Some word ≡ sent_word words
    → IfOk r (λ (o : Option SetOrder). option_map plain_set_order o ≡ option_and_then send_of (octets_of word))
    → IfOk r (λ (o : Option SetOrder). option_map plain_set_order o ≡ set_order_of words)
read_send r word words is =
    IfOk-weaker r (λ (o : Option SetOrder). option_map plain_set_order o ≡ option_and_then send_of (octets_of word)) (λ (o : Option SetOrder). option_map plain_set_order o ≡ set_order_of words)
    (λ o read. read ∙ ap (λ (w : Option (List ℕ)). by_sent_word w (other_order_of words)) is)

pub read_other : {E : Type 0} (r : Result (Option SetOrder) E) (said words : List (List ℕ)) → said ≡ words → None ≡ sent_word words
    → IfOk r (λ (o : Option SetOrder). option_map plain_set_order o ≡ other_order_of said)
    → IfOk r (λ (o : Option SetOrder). option_map plain_set_order o ≡ set_order_of words)
read_other r said words same is =
    IfOk-weaker r (λ (o : Option SetOrder). option_map plain_set_order o ≡ other_order_of said) (λ (o : Option SetOrder). option_map plain_set_order o ≡ set_order_of words)
    (λ o read. read ∙ (ap other_order_of same ∙ ap (λ (w : Option (List ℕ)). by_sent_word w (other_order_of words)) is))
