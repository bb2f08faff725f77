-- An end accepts nothing while no unit goes through its stores.
use Rattle.std.proofs.Common.{◌≡◌, ℕ, Bool, List, [], ◌∷◌, ◌++◌, refl, sym, ap, ◌∙◌}
use Rattle.resend_store.specs.declared.messages.Msu.{Msu}
use Rattle.bit_line.specs.declared.events.LineEvent.{LineEvent}
use Rattle.su_octets.specs.declared.units.Unit.{Unit}
use Rattle.link_transceiver.specs.TransceiverState.{TransceiverState}
use Rattle.link_transceiver.specs.Laws.{accepted_of}
use Rattle.link_processes.specs.declared.processes.Processes.{Processes}
use Rattle.link_term.specs.Hearing.{Reads, as_unit, as_error, AreTaken, nothing, unit, errored, sixteen, Hears, silent, octet}
use Rattle.link_term.specs.Laws.{accepted_read, accepted_taken, accepted_along}
use Rattle.link_group.specs.Along.{heeded, units_read, units_taken, units_along, Arrive, none_arrives, one_lost, one_arrives}
use Rattle.link_group.specs.Set.{LinkSet}
use Rattle.link_group.specs.Joined.{Deed, Does, listens}
use Rattle.link_group.proofs.Units.{Heeds, left_so, goes_through, heeding}

both_none : {A : Type 0} (xs ys : List A) → xs ++ ys ≡ [] → (xs ≡ []) × (ys ≡ [])
both_none [] ys e = (refl, e)
both_none (x ∷ xs) ys e = absurd (cc)

by_heeding : (h : TransceiverState) (u : Unit) → Heeds h u → heeded h u ≡ [] → accepted_of h u ≡ []
by_heeding h u (left_so none same accepts) e = accepts
by_heeding h u (goes_through one) e = let f : u ∷ [] ≡ [] = sym one ∙ e in absurd (cc)

deaf_read : (octets : List ℕ) (t u : Processes) (read : Reads octets t u) → units_read read ≡ [] → accepted_read read ≡ []
deaf_read _ _ _ (as_unit octets v t frame) e = by_heeding t.transceiver v (heeding t.transceiver v) e
deaf_read _ _ _ (as_error octets t none) e = refl

both_so : (xs ys : List Msu) → xs ≡ [] → ys ≡ [] → xs ++ ys ≡ []
both_so xs ys e f = ap (λ (zs : List Msu). zs ++ ys) e ∙ f

deaf_taken : (events : List LineEvent) (t v : Processes) (taken : AreTaken events t v) → units_taken taken ≡ [] → accepted_taken taken ≡ []
deaf_taken _ _ _ (nothing t) e = refl
deaf_taken _ _ _ (unit octets left t u v read taken) e =
    let none = both_none (units_read read) (units_taken taken) e in
    both_so (accepted_read read) (accepted_taken taken) (deaf_read octets _ u read none.0) (deaf_taken left u v taken none.1)
deaf_taken _ _ _ (errored left t v taken) e = deaf_taken left _ v taken e
deaf_taken _ _ _ (sixteen left t v taken) e = deaf_taken left _ v taken e

deaf_along : (bits : List Bool) (all now : List LineEvent) (t v : Processes) (octets : List ℕ) (h : Hears bits all t octets now v) → units_along h ≡ [] → accepted_along h ≡ []
deaf_along _ _ _ _ _ _ (silent bits all t) e = refl
deaf_along _ _ _ _ _ _ (octet bits all given t u v first octets now on room are taken counts hears) e =
    let none = both_none (units_taken taken) (units_along hears) e in
    both_so (accepted_taken taken) (accepted_along hears) (deaf_taken given _ u taken none.0) (deaf_along _ _ now _ v octets hears none.1)

-- a call in which no unit goes through the stores
pub deaf : (l : ℕ) (d e : LinkSet) (deed : Deed) → Does l d e deed → deed.came ≡ [] → deed.accepted ≡ []
deaf l _ _ _ (listens d e octets taken by bits all now h none) is = deaf_along bits all now _ _ _ h is
deaf l _ _ _ call is = refl

-- none arrives from an empty line
pub none_left : (vs us ws : List Unit) → Arrive vs us ws → us ≡ [] → (vs ≡ []) × (ws ≡ [])
none_left _ us ws (none_arrives same) e = (refl, sym same ∙ e)
none_left vs _ ws (one_lost {u = u} {us = us} a) e = let f : u ∷ us ≡ [] = e in absurd (cc)
none_left _ _ ws (one_arrives {v = v} {us = us} same a) e = let f : v ∷ us ≡ [] = e in absurd (cc)
