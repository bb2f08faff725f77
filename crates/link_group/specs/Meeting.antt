-- Two sets joined by the lines of a link, call by call, whose ends begin a life of the link at
-- different moments, in either order, while units of earlier lives are still under way. A life of
-- an end goes from a restart of its directions to the next one; 'this life' is one of each end,
-- and these two match.
use Rattle.std.specs.Prelude.{◌≡◌, ℕ, ◌&&◌, ◌||◌, Bool, true, false, List, [], ◌∷◌, ◌++◌}
use Rattle.std.specs.Prelude.{◌⊎◌, All, map, Option, Some, None, slice_get}
use Rattle.su_octets.specs.declared.units.Unit.{Unit}
use Rattle.su_octets.specs.declared.units.Unit.TheVariants as units
use Rattle.resend_store.specs.declared.messages.Msu.{Msu}
use Rattle.link_transceiver.specs.TransceiverState.{TransceiverState}
use Rattle.group_changeover.specs.declared.changeover.Changeover.{Changeover}
use Rattle.group_changeover.specs.Bound.{unbound}
use Rattle.group_changeover.specs.Saying.{number_in, begun_by_message}
use Rattle.link_group.specs.declared.link.Link.{Link}
use Rattle.link_group.specs.Set.{LinkSet}
use Rattle.link_group.specs.Changing.{is_for, after_message, after_retrieve}
use Rattle.link_group.specs.Laws.{hand_at}
use Rattle.link_group.specs.Joined.{end_at, Deed, Does, Empties, Joined, SendsAnew, AcceptsAnew}
use Rattle.link_group.specs.Joined.{counted_of, counted_at, takes_number, IsTold, told_behind}
use Rattle.link_group.specs.Joined.{Fares, Goes}

-- ---- the lines

-- a unit under way, and whether its end had begun this life when it sent it
pub record UnderWay : Type 0 where
  pub unit : Unit
  pub anew : Bool

abbrev pub sent_so : Bool → List Unit → List UnderWay
sent_so anew us = map (λ u. record { unit = u; anew = anew }) us

-- FISUs and MSUs may go through the stores of an end; LSSUs never do.
abbrev pub through_stores : Unit → Bool
through_stores (units.Lssu head status second) = false
through_stores (units.Fisu head) = true
through_stores (units.Msu head sio sif) = true

-- Of the units under way an end hears these, in order. Others before them are lost, and the rest
-- stay under way.
pub data Pass : List UnderWay → List UnderWay → List UnderWay → Type 0 where
  none_passes : {us ws : List UnderWay} → us ≡ ws → Pass [] us ws
  one_lost : {s : UnderWay} {us vs ws : List UnderWay} → Pass vs us ws → Pass vs (s ∷ us) ws
  one_passes : {s t : UnderWay} {us vs ws : List UnderWay}
      → s ≡ t → Pass vs us ws → Pass (s ∷ vs) (t ∷ us) ws

-- ---- two sets

pub record Meeting : Type 0 where
  -- the set that sends by the link, and the set that accepts
  pub near : LinkSet
  pub far : LinkSet
  -- whether this life of each began
  pub near_began : Bool
  pub far_began : Bool
  -- units under way from near to far, and back; the next to arrive is first
  pub forth : List UnderWay
  pub back : List UnderWay
  -- In this life: the messages that near held as it began, and those from `send`, `send_by` and
  -- `divert` since; those that far accepted, in order; the number that far reported.
  pub taken : List Msu
  pub delivered : List Msu
  pub told : Option ℕ

-- The states of two sets and of a link's lines, call by call. Lines may lose and delay units, but
-- keep their order. Before its life begins a set may do anything; `heard` are the units that go
-- through its stores. From then on a call is one of a life, as in Joined. Other units are heard
-- apart (`near_passes`, `far_passes`): LSSUs, and all units while none are taken. When a life
-- begins near, no number counts there, and of the numbers heard near only the one that far
-- reported comes to count.
pub data Runs (l : ℕ) : Meeting → Type 0 where
  is_earlier :
      (c d : LinkSet) (forth back : List Unit)
      → Runs l (record {
        near = c;
        far = d;
        near_began = false;
        far_began = false;
        forth = sent_so false forth;
        back = sent_so false back;
        taken = [];
        delivered = [];
        told = None;
      })
  near_earlier :
      (x : Meeting) (e : LinkSet) (out : List Unit) (heard rest : List UnderWay)
      → Runs l x → x.near_began ≡ false
      → All (λ s. through_stores s.unit ≡ true) heard → Pass heard x.back rest
      → Runs l (record x { near = e; forth = x.forth ++ sent_so false out; back = rest })
  far_earlier :
      (x : Meeting) (e : LinkSet) (out : List Unit) (heard rest : List UnderWay)
      → Runs l x → x.far_began ≡ false
      → All (λ s. through_stores s.unit ≡ true) heard → Pass heard x.forth rest
      → Runs l (record x { far = e; forth = rest; back = x.back ++ sent_so false out })
  near_begins :
      (x : Meeting) (h : TransceiverState)
      → Runs l x → x.near_began ≡ false → end_at x.near l ≡ Some h → SendsAnew h
      → counted_at x.near l ≡ None
      → Runs l (record x { near_began = true; taken = h.sender.kept })
  far_begins :
      (x : Meeting) (g : TransceiverState)
      → Runs l x → x.far_began ≡ false → end_at x.far l ≡ Some g → AcceptsAnew g
      → Runs l (record x { far_began = true })
  near_does :
      (x : Meeting) (e : LinkSet) (deed : Deed) (heard rest : List UnderWay)
      → Runs l x → x.near_began ≡ true → Does l x.near e deed
      → map (λ s. s.unit) heard ≡ deed.came → Pass heard x.back rest
      → IsTold deed.heard x.told ⊎ (counted_at e l ≡ counted_at x.near l)
      → Runs l (record x {
        near = e;
        forth = x.forth ++ sent_so true deed.out;
        back = rest;
        taken = x.taken ++ deed.given;
      })
  far_does :
      (x : Meeting) (e : LinkSet) (deed : Deed) (heard rest : List UnderWay)
      → Runs l x → x.far_began ≡ true → Does l x.far e deed
      → map (λ s. s.unit) heard ≡ deed.came → Pass heard x.forth rest
      → Runs l (record x {
        far = e;
        forth = rest;
        back = x.back ++ sent_so true deed.out;
        delivered = x.delivered ++ deed.accepted;
        told = told_behind deed.told x.told;
      })
  far_empties :
      (x : Meeting) (e : LinkSet)
      → Runs l x → x.far_began ≡ true → Empties l x.far e → Runs l (record x { far = e })
  near_passes :
      (x : Meeting) (s : UnderWay) (lost rest : List UnderWay)
      → Runs l x → x.back ≡ lost ++ s ∷ rest → Runs l (record x { back = rest })
  far_passes :
      (x : Meeting) (s : UnderWay) (lost rest : List UnderWay)
      → Runs l x → x.forth ≡ lost ++ s ∷ rest → Runs l (record x { forth = rest })

-- ---- the premise

-- sent in this life, or before it
abbrev pub OfLife : Bool → List UnderWay → Type 0
OfLife anew heard = All (λ s. s.anew ≡ anew) heard

-- Each unit that goes through the stores of an end in this life was sent in this life of the other
-- end; and none of this life goes through the stores of an end in an earlier one.
abbrev pub Matches : {l : ℕ} {x : Meeting} → Runs l x → Type 0
Matches (is_earlier c d forth back) = Prim.Unit {0}
Matches (near_earlier x e out heard rest r began may passes) = Matches r × OfLife false heard
Matches (far_earlier x e out heard rest r began may passes) = Matches r × OfLife false heard
Matches (near_begins x h r began is anew none) = Matches r
Matches (far_begins x g r began is anew) = Matches r
Matches (near_does x e deed heard rest r began does came passes is) =
    Matches r × OfLife true heard
Matches (far_does x e deed heard rest r began does came passes) = Matches r × OfLife true heard
Matches (far_empties x e r began does) = Matches r
Matches (near_passes x s lost rest r is) = Matches r
Matches (far_passes x s lost rest r is) = Matches r

-- ---- the law

-- two sets whose ends both began this life, with units of this life under way
abbrev pub met : Joined → Meeting
met x = record {
  near = x.near;
  far = x.far;
  near_began = true;
  far_began = true;
  forth = sent_so true x.forth;
  back = sent_so true x.back;
  taken = x.taken;
  delivered = x.delivered;
  told = x.told;
}

-- As in SetsComplete, whichever end begins its life first, and whatever of earlier lives is under
-- way: what far accepts by the link until its directions restart, then what near retrieves with the
-- number that far reported, is what the link held as its life began near, then what `send` and
-- `divert` gave it, without bound messages: each once, in order. At each moment, what far accepted
-- is a beginning of what was given. Sets whose ends begin together, with no unit under way, are
-- among these.
pub record SetsMeet : Type 0 where
  pub complete :
      (l : ℕ) (x : Meeting) (k : Link) (p : ℕ) (e : LinkSet) (later : List Msu) (r : Runs l x)
      → Matches r → x.near_began ≡ true → x.far_began ≡ true
      → slice_get x.near.links l ≡ Some k → counted_of (Some k) ≡ Some p
      → Goes l x.far e later
      → unbound k.points x.taken
      ≡ unbound k.points (x.delivered ++ later) ++ hand_at (after_retrieve x.near l) l
  pub counts :
      (l : ℕ) (x : Meeting) (m : Changeover) (k : Link) (n : ℕ) (r : Runs l x)
      → Matches r → x.near_began ≡ true → x.told ≡ Some n → slice_get x.near.links l ≡ Some k
      → takes_number (begun_by_message m.kind k.availability).changing ≡ true
      → k.availability.anew ≡ false
      → is_for x.near m ≡ true → m.label.sls ≡ l → number_in m.kind ≡ Some n
      → (p : ℕ) × (counted_at (after_message x.near (Some m)) l ≡ Some p)
  pub in_order :
      (l : ℕ) (x : Meeting) (r : Runs l x)
      → Matches r → (missing : List Msu) × (x.taken ≡ x.delivered ++ missing)
  pub together : (l : ℕ) (x : Joined) → Fares l x → (r : Runs l (met x)) × Matches r

-- ---- why the premise holds

-- whether an end heard, in this life, a unit that the other end sent in this life
abbrev pub near_met : {l : ℕ} {x : Meeting} → Runs l x → Bool
near_met (is_earlier c d forth back) = false
near_met (near_earlier x e out heard rest r began may passes) = near_met r
near_met (far_earlier x e out heard rest r began may passes) = near_met r
near_met (near_begins x h r began is anew none) = near_met r
near_met (far_begins x g r began is anew) = near_met r
near_met (near_does x e deed heard rest r began does came passes is) = near_met r
near_met (far_does x e deed heard rest r began does came passes) = near_met r
near_met (far_empties x e r began does) = near_met r
near_met (near_passes x s lost rest r is) = near_met r || x.near_began && s.anew
near_met (far_passes x s lost rest r is) = near_met r

abbrev pub far_met : {l : ℕ} {x : Meeting} → Runs l x → Bool
far_met (is_earlier c d forth back) = false
far_met (near_earlier x e out heard rest r began may passes) = far_met r
far_met (far_earlier x e out heard rest r began may passes) = far_met r
far_met (near_begins x h r began is anew none) = far_met r
far_met (far_begins x g r began is anew) = far_met r
far_met (near_does x e deed heard rest r began does came passes is) = far_met r
far_met (far_does x e deed heard rest r began does came passes) = far_met r
far_met (far_empties x e r began does) = far_met r
far_met (near_passes x s lost rest r is) = far_met r
far_met (far_passes x s lost rest r is) = far_met r || x.far_began && s.anew

-- no unit goes through the stores, and only LSSUs are sent
abbrev pub IsQuiet : List UnderWay → List Unit → Type 0
IsQuiet heard out = (heard ≡ []) × All (λ u. through_stores u ≡ false) out

-- In this life each end takes units through its stores, and sends FISUs and MSUs, only after it
-- heard a unit that the other end sent in this life. So Q.703's alignment has it: an end that
-- begins sends LSSUs until it is aligned, which takes an LSSU of the other end's alignment.
abbrev pub Aligned : {l : ℕ} {x : Meeting} → Runs l x → Type 0
Aligned (is_earlier c d forth back) = Prim.Unit {0}
Aligned (near_earlier x e out heard rest r began may passes) = Aligned r
Aligned (far_earlier x e out heard rest r began may passes) = Aligned r
Aligned (near_begins x h r began is anew none) = Aligned r
Aligned (far_begins x g r began is anew) = Aligned r
Aligned (near_does x e deed heard rest r began does came passes is) =
    Aligned r × ((near_met r ≡ true) ⊎ IsQuiet heard deed.out)
Aligned (far_does x e deed heard rest r began does came passes) =
    Aligned r × ((far_met r ≡ true) ⊎ IsQuiet heard deed.out)
Aligned (far_empties x e r began does) = Aligned r
Aligned (near_passes x s lost rest r is) = Aligned r
Aligned (far_passes x s lost rest r is) = Aligned r

-- Lines that keep their order, and ends that align so, give the premise.
pub record AlignmentMatches : Type 0 where
  pub matches : (l : ℕ) (x : Meeting) (r : Runs l x) → Aligned r → Matches r
