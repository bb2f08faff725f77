-- What holds of each run of a new link set.
use Rattle.std.proofs.Common.{◌≡◌, ◌∙◌, ℕ, Bool, true, List, [], ◌∷◌, ◌++◌, append-nil, map, Option, refl, sym, ap, subst}
use Rattle.std.proofs.lemmas.Grind.{flat_map-append}
use Rattle.line_filter.specs.Orders.{Timed}
use Rattle.line_filter.specs.Reporting.{ToldLine, Stand}
use Rattle.line_tending.specs.Standing.{HasTaken, TakenStand}
use Rattle.line_tending.specs.Tended.{Tended}
use Rattle.line_play.specs.LineTraffic.{Traffic}
use Rattle.line_play.specs.SetAnswers.{AreRead, read_attending, read_by_all, read_along}
use Rattle.line_play.specs.SetDesks.{Ran, RanFrom}
use Rattle.line_play.specs.SetDoing.{Stood}
use Rattle.line_play.specs.SetGiven.{given_in}
use Rattle.line_play.specs.SetLaws.{InOrder, octets_of, octets_said, of_selection, came_attending, came_by_all, came_along, sent_along}
use Rattle.line_play.specs.SetPromised.{sends_in, IsPromised}
use Rattle.line_play.specs.SetQueues.{Waited}
use Rattle.line_play.specs.SetReported.{AreReported}
use Rattle.line_play.specs.SetRounds.{Attends, waited, comes, looks, AttendsAll, none_due, full, answers_wait, over, SetPlace, Rounds, begins, round}
use Rattle.line_play.proofs.SetAnswered.{answered_along}
use Rattle.line_play.proofs.SetKeeping.{kept_along}
use Rattle.line_play.proofs.SetReading.{all_read}
use Rattle.line_play.proofs.SetReported.{reported_along}
use Rattle.line_play.proofs.SetStanding.{runs_stand}

-- ---- the messages of the orders that were read

sends_more : (xs ys : List Timed) → sends_in (xs ++ ys) ≡ sends_in xs ++ sends_in ys
sends_more xs ys = flat_map-append (λ (o : Timed). octets_said (given_in o.text).said) xs ys

sends_last : (xs : List Timed) (o : Timed) → sends_in (xs ++ o ∷ []) ≡ sends_in xs ++ octets_said (given_in o.text).said
sends_last xs o = sends_more xs (o ∷ []) ∙ ap (λ (l : List (List ℕ)). sends_in xs ++ l) (append-nil (octets_said (given_in o.text).said))

sends_attending : {a : Stand} (p : Stood) (waits : List Waited) (left : Option (List Timed)) (bytes : List ToldLine) (q : Stood) (later : List Waited) (last : Option (List Timed)) {b : Stand}
    → (made : Attends p waits left a bytes q later last b) → sends_in (read_attending made) ≡ came_attending made
sends_attending p waits left _ _ _ _ (waited before tells) = refl
sends_attending p waits left _ _ _ _ (comes {bytes} {q} {now} {fewer} order more r later last c before next going may made tells) =
    sends_last (read_attending before) (record { at = q.tender.ticks; text = order })
    ∙ ap (λ (l : List (List ℕ)). l ++ octets_said (given_in order).said) (sends_attending p waits left bytes q now fewer before)
sends_attending p waits left _ _ _ _ (looks {bytes} {q} {now} {fewer} more last c before anew tells) = sends_attending p waits left bytes q now fewer before

sends_by_all : {a : Stand} (p : Stood) (waits : List Waited) (left : Option (List Timed)) (bytes : List ToldLine) (q : Stood) (later : List Waited) (last : Option (List Timed)) {b : Stand}
    → (made : AttendsAll p waits left a bytes q later last b) → sends_in (read_by_all made) ≡ came_by_all made
sends_by_all p waits left _ _ _ _ (none_due {bytes} {q} {now} {fewer} last before none_there) = sends_attending p waits left bytes q now fewer before
sends_by_all p waits left _ _ _ _ (full {bytes} {q} {now} {fewer} last before many same) = sends_attending p waits left bytes q now fewer before
sends_by_all p waits left _ _ _ _ (answers_wait {bytes} {q} {now} {fewer} last before many same) = sends_attending p waits left bytes q now fewer before
sends_by_all p waits left _ _ _ _ (over {bytes} {q} {now} {fewer} before ends_it) = sends_attending p waits left bytes q now fewer before

sends_along : (ahead : ℕ) (p q : SetPlace) (bytes : List ToldLine) (traffic : List Traffic) (on : Bool) → (run : Rounds ahead p bytes traffic on q) → sends_in (read_along run) ≡ came_along run
sends_along ahead p _ _ _ _ begins = refl
sends_along ahead p _ _ _ _ (round {bytes} {traffic} {q} {r} more others on before is) =
    sends_more (read_along before) (read_by_all is.attends)
    ∙ (ap (λ (l : List (List ℕ)). l ++ sends_in (read_by_all is.attends)) (sends_along ahead p q bytes traffic true before)
    ∙ ap (λ (l : List (List ℕ)). came_along before ++ l)
    (sends_by_all (record q.stood { tender = is.minded }) q.waiting q.left is.third is.obeyed r.waiting r.left is.attends))

-- ---- from the beginning

promised_by : TakenStand → (ahead : ℕ) (tender : Tended) (left left_after : Option (List Timed)) (before after : Stand) (first last : SetPlace) (lines : List ToldLine) (traffic : List Traffic) (on : Bool)
    → Rounds ahead first lines traffic on last → tender.reports ≡ [] → first.left ≡ left → first.reports ≡ before → first.stood.tender ≡ tender → first.waiting ≡ []
    → last.left ≡ left_after → last.reports ≡ after → IsPromised tender left left_after before after
promised_by law ahead tender left left_after before after first last lines traffic on run none_left left_is before_is set none_wait left_later after_is =
    let none : first.stood.tender.reports ≡ [] = ap (λ (t : Tended). t.reports) set ∙ none_left in
    let told : AreReported first.stood.tender last.stood.tender (sent_along run) first.reports last.reports lines = reported_along ahead first last lines traffic on run none in
    record {
      last = last.stood.tender;
      read = read_along run;
      took = sent_along run;
      lines = lines;
      waiting = last.waiting;
      orders = λ known is.
          subst (λ (l : Option (List Timed)). AreRead known (read_along run) l) left_later (all_read ahead first last lines traffic on run known (left_is ∙ is));
      answered = answered_along ahead first last lines traffic on run none_wait;
      in_order = λ s.
          subst (λ (l : List (List ℕ)). InOrder (of_selection s (map octets_of (sent_along run))) (of_selection s l)) (sym (sends_along ahead first last lines traffic on run))
          (kept_along ahead first last lines traffic on run none_wait s);
      stand = λ earlier brought. runs_stand law ahead first last lines traffic on run earlier (subst (λ (t : Tended). HasTaken t earlier) (sym set) brought);
      reported = subst (λ (t : Tended). AreReported t last.stood.tender (sent_along run) before after lines) set
          (subst (λ (a : Stand). AreReported first.stood.tender last.stood.tender (sent_along run) a after lines) before_is
          (subst (λ (b : Stand). AreReported first.stood.tender last.stood.tender (sent_along run) first.reports b lines) after_is told));
    }

pub promised : TakenStand → (ahead : ℕ) (tender : Tended) (left left_after : Option (List Timed)) (before after : Stand) (given_before given : Option (List Traffic))
    → RanFrom ahead tender left left_after before after given_before given → tender.reports ≡ [] → IsPromised tender left left_after before after
promised law ahead tender left left_after before after given_before given ran none_left =
    let made = ran.made in
    let are : Ran ahead ran.first made.bytes made.traffic ran.last = made.are in
    promised_by law ahead tender left left_after before after ran.first ran.last made.bytes made.traffic are.goes_on are.rounds none_left ran.left_is ran.reports_are ran.set ran.none_wait
    ran.left_later ran.reports_later
