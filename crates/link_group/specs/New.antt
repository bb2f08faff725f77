-- A link of a new set.
use Rattle.link_transceiver.specs.declared.signals.Hold.TheVariants as hold
use Rattle.group_changeover.specs.declared.availability.Behind.TheVariants as behind
use Rattle.std.specs.Prelude.{◌≡◌, true, false, [], None, ℕ, List, map}
use Rattle.link_term.specs.Term.{Term, transceiver_of, term_with_transceiver}
use Rattle.link_term.specs.Kept.{window_of}
use Rattle.group_changeover.specs.declared.bound.Points.{Points}
use Rattle.link_group.specs.declared.link.Link.{Link}
use Rattle.group_changeover.specs.Sharing.{selections, pick}
use Rattle.link_group.specs.Set.{LinkSet}
use Rattle.link_group.specs.Moving.{able_links}

-- a terminal that holds no message
abbrev pub IsUnused : Term → Type 0
IsUnused t = (window_of t).kept ≡ []

-- It isn't held. If it came into service earlier, only its present state counts.
abbrev pub fresh : Points → Term → Link
fresh p t =
    record {
      points = p;
      terminal = term_with_transceiver t
          (record (transceiver_of t) { came = false; began = false; hold = hold.Free });
      availability =
          record {
            served = (transceiver_of t).in_service;
            admitted = true;
            anew = false;
            failed = false;
            behind = behind.Nothing;
            changing = None;
          };
      hand = [];
    }

abbrev pub points : ℕ → ℕ → Points
points own peer = record { own = own; peer = peer }

-- Links in service have the selections from the beginning.
unfoldable pub new_set : ℕ → ℕ → List Term → LinkSet
new_set own peer ts = record {
  own = own;
  peer = peer;
  links = map (fresh (points own peer)) ts;
  table = map (pick (able_links false (map (fresh (points own peer)) ts))) selections;
  unsure = 0;
  accepted = [];
  gone = [];
}
