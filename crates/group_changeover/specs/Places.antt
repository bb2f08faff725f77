-- Where messages are (Q.704, changeover).
use Rattle.std.specs.Prelude.{◌≡◌, ◌⊎◌, ℕ, ◌<◌, List, [], ◌++◌, Option, Some, None}
use Rattle.resend_store.specs.declared.messages.Msu.{Msu}
use Rattle.group_changeover.specs.Limits.{SELECTIONS}
use Rattle.group_changeover.specs.Sharing.{of, off}

pub record Places : Type 0 where
  -- the messages that were accepted, in order
  pub accepted : List Msu
  -- the messages that have left, acknowledged or unsure, in order
  pub gone : List Msu
  -- the messages that each link holds, in sending order
  pub held : ℕ → List Msu
  -- the messages in the retrieval of each link, in the order in which they are diverted
  pub retrieval : ℕ → List Msu
  -- the link of each selection
  pub link : ℕ → Option ℕ

-- the messages of a selection in its one place: held by its link, or in that link's retrieval
abbrev pub standing : Places → ℕ → Option ℕ → List Msu
standing p s None = []
standing p s (Some l) = of s (p.held l) ++ of s (p.retrieval l)

-- For each selection, the accepted messages are those that have left and then, in order, those in
-- its one place. None is elsewhere, and a link holds no message while it has a retrieval.
pub record OnePlace (p : Places) : Type 0 where
  pub whole : (s : ℕ) → s < SELECTIONS → of s p.accepted ≡ of s p.gone ++ standing p s (p.link s)
  pub links_else : (s l : ℕ) → s < SELECTIONS → (p.link s ≡ Some l → ⊥) → of s (p.held l) ≡ []
  pub retrievals_else :
      (s l : ℕ) → s < SELECTIONS → (p.link s ≡ Some l → ⊥) → of s (p.retrieval l) ≡ []
  pub alone : (l : ℕ) → (p.retrieval l ≡ []) ⊎ (p.held l ≡ [])

-- no message accepted yet
pub record IsEmpty (p : Places) : Type 0 where
  pub accepted : p.accepted ≡ []
  pub gone : p.gone ≡ []
  pub held : (l : ℕ) → p.held l ≡ []
  pub retrieval : (l : ℕ) → p.retrieval l ≡ []

-- Messages are added to one link, leave it, or go from it into its retrieval or back, in order.
pub record AtOneLink (l : ℕ) (p q : Places) : Type 0 where
  pub came : List Msu
  pub left : List Msu
  pub accepted : q.accepted ≡ p.accepted ++ came
  pub gone : q.gone ≡ p.gone ++ left
  pub own : (s : ℕ) → s < SELECTIONS → (of s came ≡ []) ⊎ (p.link s ≡ Some l)
  pub order : p.held l ++ p.retrieval l ++ came ≡ left ++ q.held l ++ q.retrieval l
  pub apart : (q.retrieval l ≡ []) ⊎ (q.held l ≡ [])
  pub held_else : (j : ℕ) → (j ≡ l → ⊥) → q.held j ≡ p.held j
  pub retrieval_else : (j : ℕ) → (j ≡ l → ⊥) → q.retrieval j ≡ p.retrieval j
  pub link : (s : ℕ) → q.link s ≡ p.link s

-- All messages of one selection go from the retrieval of a link to another link, which that
-- selection has from then on.
pub record Diverts (s l t : ℕ) (p q : Places) : Type 0 where
  pub other : l ≡ t → ⊥
  pub some : of s (p.retrieval l) ≡ [] → ⊥
  pub accepted : q.accepted ≡ p.accepted
  pub gone : q.gone ≡ p.gone
  pub free : p.retrieval t ≡ []
  pub held : q.held t ≡ p.held t ++ of s (p.retrieval l)
  pub retrieval : q.retrieval l ≡ off s (p.retrieval l)
  pub held_else : (j : ℕ) → (j ≡ t → ⊥) → q.held j ≡ p.held j
  pub retrieval_else : (j : ℕ) → (j ≡ l → ⊥) → q.retrieval j ≡ p.retrieval j
  pub link : q.link s ≡ Some t
  pub link_else : (r : ℕ) → (r ≡ s → ⊥) → q.link r ≡ p.link r

-- Selections without messages in their place get other links.
pub record PlacesAnew (p q : Places) : Type 0 where
  pub accepted : q.accepted ≡ p.accepted
  pub gone : q.gone ≡ p.gone
  pub held : (l : ℕ) → q.held l ≡ p.held l
  pub retrieval : (l : ℕ) → q.retrieval l ≡ p.retrieval l
  pub link : (s : ℕ) → s < SELECTIONS → (q.link s ≡ p.link s) ⊎ (standing p s (p.link s) ≡ [])
