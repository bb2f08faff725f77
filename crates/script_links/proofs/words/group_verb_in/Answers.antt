use Rattle.std.proofs.Common.{◌≡◌, ℕ, List, None, refl}
use Rattle.std.specs.Prelude.{◌≢◌, codes}
use Rattle.script_links.specs.GroupCommands.{group_verb_of}
use Rattle.script_lines.proofs.NumberLemmas.{bytes_ne}
use Rattle.script_links.proofs.words.group_verb_in.Goals as goal

pub returns-in-on : goal.returns-in-on
unfolding group_verb_of
returns-in-on c = rw c.in-on.is refl

pub returns-in-send : goal.returns-in-send
unfolding group_verb_of
returns-in-send c = rw c.in-send.is refl

pub returns-in-bound : goal.returns-in-bound
unfolding group_verb_of
returns-in-bound c = rw c.in-bound.is refl

pub returns-in-message : goal.returns-in-message
unfolding group_verb_of
returns-in-message c = rw c.in-message.is refl

pub returns-in-admit : goal.returns-in-admit
unfolding group_verb_of
returns-in-admit c = rw c.in-admit.is refl

-- A word that is none of the verbs.
no_verb : (word : List ℕ)
    → word ≢ codes "on"
    → word ≢ codes "send"
    → word ≢ codes "bound"
    → word ≢ codes "message"
    → word ≢ codes "admit"
    → None ≡ group_verb_of word
unfolding group_verb_of
no_verb word n_on n_send n_bound n_message n_admit =
    rw (
      bytes_ne word (codes "on") n_on,
      bytes_ne word (codes "send") n_send,
      bytes_ne word (codes "bound") n_bound,
      bytes_ne word (codes "message") n_message,
      bytes_ne word (codes "admit") n_admit,
    ) refl

pub returns-in_default : goal.returns-in_default
returns-in_default c = no_verb c.args.word.now c.in_default.not-on c.in_default.not-send c.in_default.not-bound c.in_default.not-message c.in_default.not-admit
