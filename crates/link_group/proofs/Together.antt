-- Ends that begin a life of a link together, with no unit under way, are among those that begin it at different moments.
use Rattle.std.proofs.Common.{◌≡◌, ℕ, true, List, [], ◌∷◌, ◌++◌, map, refl, ap, subst}
use Rattle.std.proofs.lemmas.List.Elements.{All-nil, All-cons}
use Rattle.su_octets.specs.declared.units.Unit.{Unit}
use Rattle.link_group.specs.Along.{Arrive, none_arrives, one_lost as lost_one, one_arrives}
use Rattle.link_group.specs.Joined.{Joined, told_behind}
use Rattle.link_group.specs.Joined.{Fares, begins, near_does as fares_near, far_does as fares_far, far_empties as fares_empties, SetsComplete}
use Rattle.link_group.specs.Meeting.{UnderWay, sent_so, Pass, none_passes, one_lost, one_passes, Meeting, OfLife, met, SetsMeet}
use Rattle.link_group.specs.Meeting.{Runs, is_earlier, near_begins, far_begins, near_does, far_does, far_empties, Matches}
use Rattle.link_group.proofs.Meeting.{before, meet_whole, meet_counts, in_order_by}

record Together (l : ℕ) (x : Meeting) : Type 0 where
  run : Runs l x
  matches : Matches run

met_forth : (l : ℕ) (x : Meeting) (us : List UnderWay) → x.forth ≡ us → Together l x → Together l (record x { forth = us })
met_forth l x us e t = subst (λ (vs : List UnderWay). Together l (record x { forth = vs })) e t

met_back : (l : ℕ) (x : Meeting) (us : List UnderWay) → x.back ≡ us → Together l x → Together l (record x { back = us })
met_back l x us e t = subst (λ (vs : List UnderWay). Together l (record x { back = vs })) e t

sent_append : (us vs : List Unit) → sent_so true us ++ sent_so true vs ≡ sent_so true (us ++ vs)
sent_append [] vs = refl
sent_append (u ∷ us) vs = ap (λ (xs : List UnderWay). record { unit = u; anew = true } ∷ xs) (sent_append us vs)

units_sent : (us : List Unit) → map (λ s. s.unit) (sent_so true us) ≡ us
units_sent [] = refl
units_sent (u ∷ us) = ap (λ (vs : List Unit). u ∷ vs) (units_sent us)

all_sent : (us : List Unit) → OfLife true (sent_so true us)
all_sent [] = All-nil (λ (z : UnderWay). z.anew ≡ true)
all_sent (u ∷ us) = All-cons (λ (z : UnderWay). z.anew ≡ true) (record { unit = u; anew = true }) (sent_so true us) refl (all_sent us)

pass_sent : (vs us ws : List Unit) → Arrive vs us ws → Pass (sent_so true vs) (sent_so true us) (sent_so true ws)
pass_sent _ us ws (none_arrives same) = none_passes (ap (sent_so true) same)
pass_sent vs _ ws (lost_one {us = us} a) = one_lost (pass_sent vs us ws a)
pass_sent _ _ ws (one_arrives {u = u} {v = v} {us = us} {vs = vs} same a) = one_passes (ap (λ (w : Unit). record { unit = w; anew = true }) same) (pass_sent vs us ws a)

each_together : (l : ℕ) (x : Joined) → Fares l x → Together l (met x)
each_together l _ (begins c d h g near far sends accepts none) =
    let first : Runs l (before c d [] []) = is_earlier c d [] [] in
    let second = near_begins (before c d [] []) h first refl near sends none in
    record { run = far_begins (record (before c d [] []) { near_began = true; taken = h.sender.kept }) g second refl far accepts; matches = tt }
each_together l _ (fares_near x e deed rest r call a is) =
    let t : Together l (met x) = each_together l x r in
    met_forth l (record (met x) { near = e; forth = sent_so true x.forth ++ sent_so true deed.out; back = sent_so true rest; taken = x.taken ++ deed.given }) (sent_so true (x.forth ++ deed.out))
    (sent_append x.forth deed.out)
    (record { run = near_does (met x) e deed (sent_so true deed.came) (sent_so true rest) t.run refl call (units_sent deed.came) (pass_sent deed.came x.back rest a) is; matches = (t.matches, all_sent deed.came) })
each_together l _ (fares_far x e deed rest r call a) =
    let t : Together l (met x) = each_together l x r in
    met_back l
    (record (met x) {
      far = e;
      forth = sent_so true rest;
      back = sent_so true x.back ++ sent_so true deed.out;
      delivered = x.delivered ++ deed.accepted;
      told = told_behind deed.told x.told;
    }) (sent_so true (x.back ++ deed.out)) (sent_append x.back deed.out)
    (record { run = far_does (met x) e deed (sent_so true deed.came) (sent_so true rest) t.run refl call (units_sent deed.came) (pass_sent deed.came x.forth rest a); matches = (t.matches, all_sent deed.came) })
each_together l _ (fares_empties x e r call) =
    let t : Together l (met x) = each_together l x r in
    record { run = far_empties (met x) e t.run refl call; matches = t.matches }

-- ---- the laws

pub sets_meet : SetsMeet
sets_meet = record {
  complete = meet_whole;
  counts = meet_counts;
  in_order = λ l x r m. in_order_by l x r m x.near_began x.far_began refl refl;
  together = λ l x r. let t = each_together l x r in (t.run, t.matches);
}

-- the law of ends that begin together follows
pub sets_complete : SetsMeet → SetsComplete
sets_complete law = record {
  complete = λ l x k p e later r there counts goes. let t = law.together l x r in law.complete l (met x) k p e later t.0 t.1 refl refl there counts goes;
  counts = λ l x m k n r told there counts anew ours label number. let t = law.together l x r in law.counts l (met x) m k n t.0 t.1 refl told there counts anew ours label number;
  in_order = λ l x r. let t = law.together l x r in law.in_order l (met x) t.0 t.1;
}
