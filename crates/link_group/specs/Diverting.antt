-- Diversion (Q.704): a link's retrieved messages go to the other links.
use Rattle.std.specs.Prelude.{ℕ, if◌then◌else◌, List, length, map, Option, Some, None, slice_get}
use Rattle.std.specs.Prelude.{◌++◌, codes}
use Rattle.std.specs.Fmt.{decimal}
use Rattle.resend_store.specs.declared.messages.Msu.{Msu}
use Rattle.group_changeover.specs.Sharing.{selections, link_of}
use Rattle.group_changeover.specs.Printed.{divert_fault_text}
use Rattle.group_changeover.specs.declared.errors.DivertFault.{DivertFault}
use Rattle.link_group.specs.declared.link.Link.{Link}
use Rattle.link_group.specs.Links.{change}
use Rattle.link_group.specs.Moving.{Diversion, Diverted, division, takers, hands_over}
use Rattle.link_group.specs.Moving.{is_out_at, hand_by, without_hand, ends_on, ends_at, keeps_at}
use Rattle.link_group.specs.declared.ending.DivertError.{DivertError}
use Rattle.link_group.specs.declared.ending.DivertError.TheVariants as error
use Rattle.link_group.specs.Set.{LinkSet}

-- the diversion of messages taken from a link's hand
unfoldable pub diverted : List Link → List (Option ℕ) → ℕ → List Msu → Diverted
diverted ks ts l ms = hands_over (takers l ks) l (division ks ts ms)

-- If all of them went, the link's changeover ends. Otherwise the rest are its hand again.
abbrev pub settled_by : List ℕ → ℕ → Diversion → Option DivertFault → Diversion
settled_by ls l d None = record {
  links = change d.links l ends_at;
  table = map (λ s. ends_on ls l (slice_get d.links l) (link_of d.table s) s) selections;
  rest = d.rest;
}
settled_by ls l d (Some fault) = record d { links = change d.links l (keeps_at d.rest) }

abbrev pub settled : List Link → List (Option ℕ) → ℕ → List Msu → Diversion
settled ks ts l ms =
    settled_by (takers l ks) l (diverted ks ts l ms).at (diverted ks ts l ms).fault

-- ---- diversion in a set

-- The link's retrieved messages are taken from its hand.
abbrev pub emptied : LinkSet → ℕ → LinkSet
emptied c l = record c { links = change c.links l without_hand }

abbrev pub with_division : LinkSet → Diversion → LinkSet
with_division c d = record c { links = d.links; table = d.table }

-- the set after the diversion of the messages taken
abbrev pub after_taken : LinkSet → ℕ → List Msu → LinkSet
after_taken c l ms = with_division c (settled c.links c.table l ms)

abbrev pub after_hand : LinkSet → ℕ → LinkSet
after_hand c l = after_taken (emptied c l) l (hand_by (slice_get c.links l))

-- If its messages aren't retrieved, nothing changes.
unfoldable pub after_divert : LinkSet → ℕ → LinkSet
after_divert c l = if is_out_at (slice_get c.links l) then after_hand c l else c

abbrev pub left_by : Diversion → Option DivertFault → Option DivertError
left_by d None = None
left_by d (Some fault) = Some (error.Left fault (length d.rest))

-- why some messages remain, and how many
abbrev pub left_fault : Diverted → Option DivertError
left_fault d = left_by d.at d.fault

abbrev pub divert_fault_by : LinkSet → ℕ → Option Link → Option DivertError
divert_fault_by c l None = Some error.NoLink
divert_fault_by c l (Some k) =
    if is_out_at (Some k) then left_fault (diverted (emptied c l).links c.table l k.hand)
    else Some error.Waiting

-- K1 without the link, K2 if its messages aren't retrieved, else why some remain
unfoldable pub divert_fault : LinkSet → ℕ → Option DivertError
divert_fault c l = divert_fault_by c l (slice_get c.links l)

-- the printed text of why some messages aren't diverted
abbrev pub divert_error_text : DivertError → List ℕ
divert_error_text error.NoLink = codes "K1 NoLink"
divert_error_text error.Waiting = codes "K2 Waiting"
divert_error_text (error.Left fault left) =
    divert_fault_text fault ++ codes " left " ++ decimal left
