-- The orders that are read along a run are the first of those that are known.
use Rattle.std.proofs.Common.{◌≡◌, ◌∙◌, ℕ, Bool, true, false, List, [], ◌∷◌, ◌++◌, append-nil, append_assoc, Option, None, Some, refl, sym, ap, subst}
use Rattle.std.proofs.lemmas.List.{map-append}
use Rattle.line_filter.specs.Orders.{Timed, NextIs, NoneIsDue, Stays, BeginsAnew}
use Rattle.line_filter.specs.Reporting.{ToldLine, Stand}
use Rattle.line_play.specs.LineTraffic.{Traffic}
use Rattle.line_play.specs.SetAnswers.{read_attending, read_by_all, read_along, texts_of, AreRead}
use Rattle.line_play.specs.SetDoing.{Stood}
use Rattle.line_play.specs.SetQueues.{Waited}
use Rattle.line_play.specs.SetRounds.{Attends, waited, comes, looks, AttendsAll, none_due, full, answers_wait, over, SetPlace, Rounds, begins, round}

-- those left, after some were read
pub record ReadSo (orders : List (List ℕ)) (read : List Timed) (left : Option (List Timed)) : Type 0 where
  pub later : List Timed
  pub left_is : left ≡ Some later
  pub are : orders ≡ texts_of read ++ texts_of later

next_by : (orders : List (List ℕ)) (now at : ℕ) (order : List ℕ) (read : List Timed) (os : List Timed) (last : Option (List Timed)) → NextIs now (Some os) order last
    → orders ≡ texts_of read ++ texts_of os → ReadSo orders (read ++ record { at = at; text = order } ∷ []) last
next_by orders now at order read [] last next are = absurd next
next_by orders now at order read (o ∷ os) None next are = absurd next
next_by orders now at order read (o ∷ os) (Some left) next are = record {
  later = left;
  left_is = refl;
  are =
      are
      ∙ (ap (λ (t : List ℕ). texts_of read ++ t ∷ texts_of os) next.1
      ∙ (ap (λ (l : List Timed). texts_of read ++ order ∷ texts_of l) (sym next.0)
      ∙ (sym (append_assoc (texts_of read) (order ∷ []) (texts_of left))
      ∙ ap (λ (l : List (List ℕ)). l ++ texts_of left) (sym (map-append (λ (t : Timed). t.text) read (record { at = at; text = order } ∷ []))))));
}

next_so : (orders : List (List ℕ)) (now at : ℕ) (order : List ℕ) (read : List Timed) (left last : Option (List Timed)) → NextIs now left order last → ReadSo orders read left
    → ReadSo orders (read ++ record { at = at; text = order } ∷ []) last
next_so orders now at order read left last next so =
    next_by orders now at order read so.later last (subst (λ (l : Option (List Timed)). NextIs now l order last) so.left_is next) so.are

stays_by : (os : List Timed) (last : Option (List Timed)) → Stays (Some os) last → last ≡ Some os
stays_by os None same = absurd same
stays_by os (Some left) same = ap (λ (l : List Timed). Some l) same

none_due_by : (now : ℕ) (os : List Timed) (last : Option (List Timed)) → NoneIsDue now (Some os) last → last ≡ Some os
none_due_by now [] None none = absurd none
none_due_by now [] (Some left) none = ap (λ (l : List Timed). Some l) none
none_due_by now (o ∷ os) None none = absurd none
none_due_by now (o ∷ os) (Some left) none = ap (λ (l : List Timed). Some l) none.0

anew_by : (b : Bool) (os : List Timed) (last : Option (List Timed)) → BeginsAnew b (Some os) last → last ≡ Some os
anew_by true os last anew = absurd anew
anew_by false os last anew = anew

-- the orders left are the same
left_on : (orders : List (List ℕ)) (read : List Timed) (left last : Option (List Timed)) → (so : ReadSo orders read left) → last ≡ Some so.later → ReadSo orders read last
left_on orders read left last so is = record { later = so.later; left_is = is; are = so.are }

read_so : {a : Stand} (orders : List (List ℕ)) (read : List Timed) (p : Stood) (waits : List Waited) (left : Option (List Timed)) (bytes : List ToldLine) (q : Stood) (later : List Waited)
    (last : Option (List Timed)) {b : Stand} → (made : Attends p waits left a bytes q later last b) → ReadSo orders read left → ReadSo orders (read ++ read_attending made) last
read_so orders read p waits left _ _ _ _ (waited before tells) so = subst (λ (l : List Timed). ReadSo orders l left) (sym (append-nil read)) so
read_so orders read p waits left _ _ _ _ (comes {bytes} {q} {now} {fewer} order more r later last c before next going may made tells) so =
    subst (λ (l : List Timed). ReadSo orders l last) (append_assoc read (read_attending before) (record { at = q.tender.ticks; text = order } ∷ []))
    (next_so orders q.tender.ticks q.tender.ticks order (read ++ read_attending before) fewer last next (read_so orders read p waits left bytes q now fewer before so))
read_so orders read p waits left _ _ _ _ (looks {bytes} {q} {now} {fewer} more last c before anew tells) so =
    let first : ReadSo orders (read ++ read_attending before) fewer = read_so orders read p waits left bytes q now fewer before so in
    left_on orders (read ++ read_attending before) fewer last first
    (anew_by anew.begins first.later last (subst (λ (l : Option (List Timed)). BeginsAnew anew.begins l last) first.left_is anew.anew))

read_all : {a : Stand} (orders : List (List ℕ)) (read : List Timed) (p : Stood) (waits : List Waited) (left : Option (List Timed)) (bytes : List ToldLine) (q : Stood) (later : List Waited)
    (last : Option (List Timed)) {b : Stand} → (made : AttendsAll p waits left a bytes q later last b) → ReadSo orders read left → ReadSo orders (read ++ read_by_all made) last
read_all orders read p waits left _ _ _ _ (none_due {bytes} {q} {now} {fewer} last before none_there) so =
    let first : ReadSo orders (read ++ read_attending before) fewer = read_so orders read p waits left bytes q now fewer before so in
    left_on orders (read ++ read_attending before) fewer last first
    (none_due_by q.tender.ticks first.later last (subst (λ (l : Option (List Timed)). NoneIsDue q.tender.ticks l last) first.left_is none_there))
read_all orders read p waits left _ _ _ _ (full {bytes} {q} {now} {fewer} last before many same) so =
    let first : ReadSo orders (read ++ read_attending before) fewer = read_so orders read p waits left bytes q now fewer before so in
    left_on orders (read ++ read_attending before) fewer last first (stays_by first.later last (subst (λ (l : Option (List Timed)). Stays l last) first.left_is same))
read_all orders read p waits left _ _ _ _ (answers_wait {bytes} {q} {now} {fewer} last before many same) so =
    let first : ReadSo orders (read ++ read_attending before) fewer = read_so orders read p waits left bytes q now fewer before so in
    left_on orders (read ++ read_attending before) fewer last first (stays_by first.later last (subst (λ (l : Option (List Timed)). Stays l last) first.left_is same))
read_all orders read p waits left _ _ _ _ (over {bytes} {q} {now} {fewer} before ends_it) so = read_so orders read p waits left bytes q now fewer before so

read_run : (orders : List (List ℕ)) (ahead : ℕ) (p q : SetPlace) (bytes : List ToldLine) (traffic : List Traffic) (on : Bool) → (run : Rounds ahead p bytes traffic on q)
    → ReadSo orders [] p.left → ReadSo orders (read_along run) q.left
read_run orders ahead p _ _ _ _ begins so = so
read_run orders ahead p _ _ _ _ (round {bytes} {traffic} {q} {r} more others on before is) so =
    read_all orders (read_along before) (record q.stood { tender = is.minded }) q.waiting q.left is.third is.obeyed r.waiting r.left is.attends
    (read_run orders ahead p q bytes traffic true before so)

pub all_read : (ahead : ℕ) (p q : SetPlace) (bytes : List ToldLine) (traffic : List Traffic) (on : Bool) → (run : Rounds ahead p bytes traffic on q) → (orders : List Timed)
    → p.left ≡ Some orders → AreRead orders (read_along run) q.left
all_read ahead p q bytes traffic on run orders known =
    let so : ReadSo (texts_of orders) (read_along run) q.left = read_run (texts_of orders) ahead p q bytes traffic on run (record { later = orders; left_is = known; are = refl }) in
    record { later = so.later; left_is = so.left_is; are = so.are }
