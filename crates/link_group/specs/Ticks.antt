-- Ticks pass on all links of a set, or on none.
use Rattle.std.specs.Prelude.{◌≡◌, ℕ, List, map, Option, Some}
use Rattle.actor_machine.specs.declared.reply.Refusal.{Refusal}
use Rattle.link_term.specs.declared.answers.CallError.{CallError}
use Rattle.link_term.specs.declared.answers.CallError.TheVariants as call
use Rattle.link_group.specs.declared.link.Link.{Link}
use Rattle.link_group.specs.Ticking.{roomy, LacksRoom, first_refusal, passed}
use Rattle.link_group.specs.Set.{LinkSet}
use Rattle.link_group.specs.Lines.{all_seen}

abbrev pub with_room : List Link → List Link
with_room ks = map roomy ks

-- why ticks can't pass after room was made on each link: the first link's refusal, if there is one
abbrev pub tick_fault : ℕ → LinkSet → Option Refusal
tick_fault n c = first_refusal n (with_room c.links)

-- Ticks pass on all links. The table is remade if one may then have selections for the first time.
unfoldable pub after_ticks : ℕ → LinkSet → LinkSet
after_ticks n c = all_seen (record c { links = map (passed n) (with_room c.links) })

-- Memory ran out to make room on a link. Those before it have room now, and nothing else changed.
pub record NoRoom (c d : LinkSet) : Type 0 where
  pub links : List Link
  pub lacks : LacksRoom c.links links
  pub set : d ≡ record c { links = links }

-- Why ticks didn't pass. Room was made on all links, or on those before one that lacks it; nothing
-- else changed.
abbrev pub IsTickError : ℕ → LinkSet → LinkSet → CallError → Type 0
IsTickError n c d (call.Refused refusal) =
    (tick_fault n c ≡ Some refusal) × (d ≡ record c { links = with_room c.links })
IsTickError n c d call.NoMemory = NoRoom c d
