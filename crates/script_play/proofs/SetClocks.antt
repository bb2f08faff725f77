-- The number of links of a set.
use Rattle.std.proofs.Common.{◌≡◌, ◌∙◌, List, length}
use Rattle.std.proofs.lemmas.List.{length-map}
use Rattle.turn_code.specs.declared.draft.Draft.{Draft}
use Rattle.script_links.specs.declared.heads.GroupHead.{GroupHead}
use Rattle.resend_store.specs.declared.messages.RoundLimits.{RoundLimits}
use Rattle.script_seen.specs.New.{new_set}
use Rattle.script_seen.specs.Reading.{book_of}
use Rattle.link_term.specs.Term.{Term}
use Rattle.script_seen.specs.GroupRuns.{OWN_POINT, OTHER_POINT, begun as begun_set, AreNew}
use Rattle.script_seen.specs.TracedGroups.{books_of}

-- a new link set has as many links as the script's first line states
pub links_made : (d : Draft) (limits : RoundLimits) (head : GroupHead) (ts : List Term) → AreNew d limits head ts
    → length (books_of (begun_set (new_set OWN_POINT OTHER_POINT ts))) ≡ head.links
unfolding new_set
links_made d limits head ts new = length-map _ book_of ∙ (length-map ts _ ∙ new.number)
