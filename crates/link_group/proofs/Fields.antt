-- Fields of messages.
use Rattle.std.proofs.Common.{◌≡◌, ℕ, ◌≤◌, ◌%◌, Bool, true, false, List, [], ◌∷◌, Option, Some, None, length, drop, arith, refl, sym, ap}
use Rattle.std.specs.Prelude.{◌↔◌, ◌&&◌, slice_get}
use Rattle.resend_store.specs.declared.messages.Msu.{Msu}
use Rattle.group_changeover.specs.declared.bound.Points.{Points}
use Rattle.group_changeover.specs.Bound.{goes_between, is_content, is_bound_by, is_bound}
use Rattle.plain_laws.proofs.Options.{none_some, some_none}
use Rattle.group_changeover.specs.declared.labels.Label.{Label}
use Rattle.group_changeover.specs.declared.changeover.Changeover.{Changeover}
use Rattle.group_changeover.specs.declared.changeover.Kind.{Kind}
use Rattle.group_changeover.specs.Labels.{label_in}
use Rattle.group_changeover.specs.Changeovers.{Reads}
use Rattle.link_group.specs.declared.link.Link.{Link}
use Rattle.link_group.specs.Set.{LinkSet}
use Rattle.link_group.specs.Links.{read_at}
use Rattle.link_group.specs.Changing.{message, order_by, order_at, IsRead}
use Rattle.link_group.specs.Failing.{order_of}

pub long_enough : (octets : List ℕ) (l : Label) → label_in octets ≡ Some l → 2 ≤ length octets
long_enough [] l e = absurd (none_some e)
long_enough (a ∷ []) l e = absurd (none_some e)
long_enough (a ∷ b ∷ []) l e = omega arith
long_enough (a ∷ b ∷ c ∷ []) l e = omega arith
long_enough (a ∷ b ∷ c ∷ d ∷ others) l e = omega arith

long_by : (p : Points) (octets : List ℕ) (rest : Bool) → (goes_between p (label_in octets) && rest) ≡ true → 2 ≤ length octets
long_by p [] rest e = let f : false ≡ true = e in cc
long_by p (a ∷ []) rest e = let f : false ≡ true = e in cc
long_by p (a ∷ b ∷ []) rest e = omega arith
long_by p (a ∷ b ∷ c ∷ others) rest e = omega arith

pub long_bound : (p : Points) (m : Msu) → is_bound p m ≡ true → 2 ≤ length m.sif.items
unfolding is_bound_by
long_bound p m e = long_by p m.sif.items (is_content (m.sio % 16) (drop 4 m.sif.items)) e

-- ---- the order for a link

order_is : (c : LinkSet) (l : ℕ) (o : Option Link) (k : Kind) → Some k ≡ read_at order_of o → message c.own c.peer l k ≡ order_by c l o
order_is c l None k e = absurd (some_none e)
order_is c l (Some link) k e = let same : k ≡ order_of link = cc in ap (message c.own c.peer l) same

pub order_here : (c : LinkSet) (own peer l : ℕ) (k : Kind) → Some k ≡ read_at order_of (slice_get c.links l) → c.own ≡ own → c.peer ≡ peer → message own peer l k ≡ order_at c l
unfolding order_at
order_here c own peer l k e o p = rw (sym o, sym p) (order_is c l (slice_get c.links l) k e)

-- ---- what a message reads as

pub one_reading : (octets : List ℕ) (r m : Option Changeover) → ((x : Changeover) → (r ≡ Some x) ↔ Reads octets x) → IsRead octets m → m ≡ r
one_reading octets r (Some x) exact is = sym ((exact x).1 is)
one_reading octets None None exact is = refl
one_reading octets (Some x) None exact is = absurd (is x ((exact x).0 refl))
