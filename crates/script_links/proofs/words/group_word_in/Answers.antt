use Rattle.std.proofs.Common.{◌≡◌, ℕ, List, None, refl}
use Rattle.std.specs.Prelude.{◌≢◌, codes}
use Rattle.script_links.specs.GroupCommands.{group_word_of}
use Rattle.script_lines.proofs.NumberLemmas.{bytes_ne}
use Rattle.script_links.proofs.words.group_word_in.Goals as goal

pub returns-in-fail : goal.returns-in-fail
unfolding group_word_of
returns-in-fail c = rw c.in-fail.is refl

pub returns-in-retrieve : goal.returns-in-retrieve
unfolding group_word_of
returns-in-retrieve c = rw c.in-retrieve.is refl

pub returns-in-abandon : goal.returns-in-abandon
unfolding group_word_of
returns-in-abandon c = rw c.in-abandon.is refl

pub returns-in-divert : goal.returns-in-divert
unfolding group_word_of
returns-in-divert c = rw c.in-divert.is refl

pub returns-in-rebalance : goal.returns-in-rebalance
unfolding group_word_of
returns-in-rebalance c = rw c.in-rebalance.is refl

pub returns-in-table : goal.returns-in-table
unfolding group_word_of
returns-in-table c = rw c.in-table.is refl

pub returns-in-held : goal.returns-in-held
unfolding group_word_of
returns-in-held c = rw c.in-held.is refl

pub returns-in-unsure : goal.returns-in-unsure
unfolding group_word_of
returns-in-unsure c = rw c.in-unsure.is refl

pub returns-in-link : goal.returns-in-link
unfolding group_word_of
returns-in-link c = rw c.in-link.is refl

-- A word that is none of the commands.
no_word : (word : List ℕ)
    → word ≢ codes "fail"
    → word ≢ codes "retrieve"
    → word ≢ codes "abandon"
    → word ≢ codes "divert"
    → word ≢ codes "rebalance"
    → word ≢ codes "table"
    → word ≢ codes "held"
    → word ≢ codes "unsure"
    → word ≢ codes "link"
    → None ≡ group_word_of word
unfolding group_word_of
no_word word n_fail n_retrieve n_abandon n_divert n_rebalance n_table n_held n_unsure n_link =
    rw (
      bytes_ne word (codes "fail") n_fail,
      bytes_ne word (codes "retrieve") n_retrieve,
      bytes_ne word (codes "abandon") n_abandon,
      bytes_ne word (codes "divert") n_divert,
      bytes_ne word (codes "rebalance") n_rebalance,
      bytes_ne word (codes "table") n_table,
      bytes_ne word (codes "held") n_held,
      bytes_ne word (codes "unsure") n_unsure,
      bytes_ne word (codes "link") n_link,
    ) refl

pub returns-in_default : goal.returns-in_default
returns-in_default c = no_word c.args.word.now c.in_default.not-fail c.in_default.not-retrieve c.in_default.not-abandon c.in_default.not-divert c.in_default.not-rebalance c.in_default.not-table c.in_default.not-held c.in_default.not-unsure c.in_default.not-link
