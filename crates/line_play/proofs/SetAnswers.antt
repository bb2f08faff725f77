-- Each order that comes along a run is answered once, in time, or waits.
use Rattle.std.proofs.Common.{◌≡◌, ◌∙◌, ℕ, ◌+◌, if◌then◌else◌, Bool, true, false, List, [], ◌∷◌, ◌++◌, map, length, append-nil, append_assoc, IsPermutation, refl, sym, ap, subst, arith}
use Rattle.std.proofs.lemmas.Grind.{flat_map-append}
use Rattle.std.proofs.lemmas.List.{map-append}
use Rattle.std.proofs.lemmas.List.Sorted.{IsPermutation-refl, IsPermutation-trans, IsPermutation-append_left, IsPermutation-append_right, IsPermutation-append_comm}
use Rattle.script_links.specs.resend_store_types.messages.Msu.{Msu}
use Rattle.line_filter.specs.Reporting.{ToldLine}
use Rattle.line_play.specs.SetAnswers.{Asked, asked_of, answers_in, Answered, AreAnswers, no_answer, one_answer, orders_of, taken_by, taken_in, IsTimely}
use Rattle.line_play.specs.SetDoing.{Stood, marked}
use Rattle.line_play.specs.SetLaws.{octets_of, sent_trying, sent_waiting}
use Rattle.line_play.specs.SetQueues.{Waited, is_early, Retries, none_yet, behind, holds, goes}
use Rattle.line_play.proofs.SetAnswering.{OneAnswer, tried_one, WaitsSo, tried_none}
use Rattle.line_play.proofs.SetTimes.{rising_front, Each, each_more, each_then, each_front, each_last, Fresh, Rising, StaysSo, retries_times}

-- ---- lists with the same elements

same_elements : {A : Type 0} (xs ys : List A) → xs ≡ ys → IsPermutation xs ys
same_elements {A} xs ys same = subst (λ (l : List A). IsPermutation xs l) same (IsPermutation-refl xs)

-- one more stands last in both, or before those left
last_in_both : {A : Type 0} (xs gone left : List A) (x : A) → IsPermutation xs (gone ++ left) → IsPermutation (xs ++ x ∷ []) (gone ++ (left ++ x ∷ []))
last_in_both {A} xs gone left x before =
    subst (λ (l : List A). IsPermutation (xs ++ x ∷ []) l) (append_assoc gone left (x ∷ [])) (IsPermutation-append_left (x ∷ []) xs (gone ++ left) before)

goes_last : {A : Type 0} (xs gone left : List A) (x : A) → IsPermutation xs (gone ++ left) → IsPermutation (xs ++ x ∷ []) ((gone ++ x ∷ []) ++ left)
goes_last {A} xs gone left x before =
    subst (λ (l : List A). IsPermutation (xs ++ x ∷ []) l) (sym (append_assoc gone (x ∷ []) left))
    (IsPermutation-trans (xs ++ x ∷ []) (gone ++ (left ++ x ∷ [])) (gone ++ (x ∷ [] ++ left)) (last_in_both xs gone left x before)
    (IsPermutation-append_right gone (left ++ x ∷ []) (x ∷ [] ++ left) (IsPermutation-append_comm left (x ∷ []))))

-- some come, of which some go and others are left; then more come
both_parts : {A : Type 0} (waits came gone left next more still : List A) → IsPermutation (waits ++ came) (gone ++ left) → IsPermutation (left ++ next) (more ++ still)
    → IsPermutation (waits ++ (came ++ next)) ((gone ++ more) ++ still)
both_parts {A} waits came gone left next more still first second =
    let one_more : IsPermutation ((waits ++ came) ++ next) ((gone ++ left) ++ next) = IsPermutation-append_left next (waits ++ came) (gone ++ left) first in
    let two : IsPermutation (gone ++ (left ++ next)) (gone ++ (more ++ still)) = IsPermutation-append_right gone (left ++ next) (more ++ still) second in
    let so : IsPermutation ((waits ++ came) ++ next) (gone ++ (more ++ still)) =
    IsPermutation-trans ((waits ++ came) ++ next) (gone ++ (left ++ next)) (gone ++ (more ++ still))
    (subst (λ (l : List A). IsPermutation ((waits ++ came) ++ next) l) (append_assoc gone left next) one_more) two in
    subst (λ (l : List A). IsPermutation l ((gone ++ more) ++ still)) (append_assoc waits came next)
    (subst (λ (l : List A). IsPermutation ((waits ++ came) ++ next) l) (sym (append_assoc gone more still)) so)

-- ---- lines of answers

chosen : (b : Bool) (l : ToldLine) (xs ys zs : List ToldLine) → xs ≡ ys ++ zs → (if b then l ∷ xs else xs) ≡ (if b then l ∷ ys else ys) ++ zs
chosen true l xs ys zs is = ap (λ (ls : List ToldLine). l ∷ ls) is
chosen false l xs ys zs is = is

pub answers_more : (xs ys : List ToldLine) → answers_in (xs ++ ys) ≡ answers_in xs ++ answers_in ys
answers_more [] ys = refl
answers_more (x ∷ xs) ys = chosen _ x (answers_in (xs ++ ys)) (answers_in xs) (answers_in ys) (answers_more xs ys)

are_then : (gone more : List Answered) (ls ks : List ToldLine) → AreAnswers gone ls → AreAnswers more ks → AreAnswers (gone ++ more) (ls ++ ks)
are_then gone _ ls _ first no_answer =
    subst (λ (xs : List Answered). AreAnswers xs (ls ++ [])) (sym (append-nil gone)) (subst (λ (l : List ToldLine). AreAnswers gone l) (sym (append-nil ls)) first)
are_then gone _ ls _ first (one_answer {before} {lines} a more rest is) =
    subst (λ (xs : List Answered). AreAnswers xs (ls ++ (lines ++ more))) (append_assoc gone before (a ∷ []))
    (subst (λ (l : List ToldLine). AreAnswers ((gone ++ before) ++ a ∷ []) l) (append_assoc ls lines more) (one_answer a more (are_then gone before ls lines first rest) is))

-- ---- a part of a run

pub record PartSo (waits : List Waited) (asked : List Asked) (sent_so : List Msu) (bytes : List ToldLine) (later : List Waited) : Type 0 where
  pub answers : List Answered
  pub lines : AreAnswers answers (answers_in bytes)
  pub each : IsPermutation (map asked_of waits ++ asked) (orders_of answers ++ map asked_of later)
  pub timely : Each IsTimely answers
  pub taken : map octets_of sent_so ≡ taken_in answers

-- nothing comes
pub no_part : (waits : List Waited) → PartSo waits [] [] [] waits
no_part waits = record {
  answers = [];
  lines = no_answer;
  each = same_elements (map asked_of waits ++ []) (map asked_of waits) (append-nil (map asked_of waits));
  timely = tt;
  taken = refl;
}

pub parts_then : (waits mid later : List Waited) (asked next : List Asked) (sent_so more : List Msu) (bytes others : List ToldLine) → PartSo waits asked sent_so bytes mid
    → PartSo mid next more others later → PartSo waits (asked ++ next) (sent_so ++ more) (bytes ++ others) later
parts_then waits mid later asked next sent_so more bytes others first second = record {
  answers = first.answers ++ second.answers;
  lines = subst (λ (l : List ToldLine). AreAnswers (first.answers ++ second.answers) l) (sym (answers_more bytes others))
      (are_then first.answers second.answers (answers_in bytes) (answers_in others) first.lines second.lines);
  each = subst (λ (l : List Asked). IsPermutation (map asked_of waits ++ (asked ++ next)) (l ++ map asked_of later))
      (sym (map-append (λ (a : Answered). a.order) first.answers second.answers))
      (both_parts (map asked_of waits) asked (orders_of first.answers) (map asked_of mid) next (orders_of second.answers) (map asked_of later) first.each second.each);
  timely = each_then IsTimely first.answers second.answers first.timely second.timely;
  taken =
      map-append octets_of sent_so more
      ∙ (ap (λ (l : List (List ℕ)). l ++ map octets_of more) first.taken
      ∙ (ap (λ (l : List (List ℕ)). taken_in first.answers ++ l) second.taken ∙ sym (flat_map-append taken_by first.answers second.answers)));
}

-- other lines follow, or stand before
pub quiet_part : (waits later : List Waited) (asked : List Asked) (sent_so : List Msu) (bytes others : List ToldLine) → PartSo waits asked sent_so bytes later → answers_in others ≡ answers_in bytes
    → PartSo waits asked sent_so others later
quiet_part waits later asked sent_so bytes others part same = record {
  answers = part.answers;
  lines = subst (λ (l : List ToldLine). AreAnswers part.answers l) (sym same) part.lines;
  each = part.each;
  timely = part.timely;
  taken = part.taken;
}

pub no_more_answers : (bytes more : List ToldLine) → answers_in more ≡ [] → answers_in (bytes ++ more) ≡ answers_in bytes
no_more_answers bytes more none = answers_more bytes more ∙ (ap (λ (l : List ToldLine). answers_in bytes ++ l) none ∙ append-nil (answers_in bytes))

-- an order is answered
pub one_part : (waits : List Waited) (o : Asked) (at : ℕ) (sent_so : List Msu) (bytes : List ToldLine) (one_so : OneAnswer o at sent_so bytes)
    → IsTimely (record { order = o; ok = one_so.ok; at = at }) → PartSo waits (o ∷ []) sent_so bytes waits
one_part waits o at sent_so bytes one_so timely =
    let a : Answered = record { order = o; ok = one_so.ok; at = at } in
    record {
      answers = a ∷ [];
      lines = subst (λ (l : List ToldLine). AreAnswers (a ∷ []) l) (sym one_so.all) (one_answer a bytes no_answer one_so.is);
      each = IsPermutation-append_comm (map asked_of waits) (o ∷ []);
      timely = (timely, tt);
      taken = one_so.taken_are ∙ sym (append-nil (taken_by a));
    }

-- an order waits
pub wait_part : (waits : List Waited) (w : Waited) (sent_so : List Msu) (bytes : List ToldLine) → map octets_of sent_so ≡ [] → bytes ≡ []
    → PartSo waits (asked_of w ∷ []) sent_so bytes (waits ++ w ∷ [])
wait_part waits w sent_so bytes none_sent none_told = record {
  answers = [];
  lines = subst (λ (l : List ToldLine). AreAnswers [] (answers_in l)) (sym none_told) no_answer;
  each = same_elements (map asked_of waits ++ asked_of w ∷ []) (map asked_of (waits ++ w ∷ [])) (sym (map-append asked_of waits (w ∷ [])));
  timely = tt;
  taken = none_sent;
}

-- ---- waiting orders

pub record RetriedSo (waits : List Waited) (sent_so : List Msu) (bytes : List ToldLine) (later : List Waited) : Type 0 where
  pub answers : List Answered
  pub lines : AreAnswers answers (answers_in bytes)
  pub each : IsPermutation (map asked_of waits) (orders_of answers ++ map asked_of later)
  pub timely : Each IsTimely answers
  pub taken : map octets_of sent_so ≡ taken_in answers

-- it stays
retried_stays : (ws stay : List Waited) (w : Waited) (sent_so more : List Msu) (bytes others : List ToldLine) → RetriedSo ws sent_so bytes stay → map octets_of more ≡ [] → others ≡ []
    → RetriedSo (ws ++ w ∷ []) (sent_so ++ more) (bytes ++ others) (stay ++ w ∷ [])
retried_stays ws stay w sent_so more bytes others before none_sent none_told = record {
  answers = before.answers;
  lines = subst (λ (l : List ToldLine). AreAnswers before.answers l) (sym (no_more_answers bytes others (ap answers_in none_told))) before.lines;
  each = subst (λ (l : List Asked). IsPermutation l (orders_of before.answers ++ map asked_of (stay ++ w ∷ []))) (sym (map-append asked_of ws (w ∷ [])))
      (subst (λ (l : List Asked). IsPermutation (map asked_of ws ++ asked_of w ∷ []) (orders_of before.answers ++ l)) (sym (map-append asked_of stay (w ∷ [])))
      (last_in_both (map asked_of ws) (orders_of before.answers) (map asked_of stay) (asked_of w) before.each));
  timely = before.timely;
  taken =
      map-append octets_of sent_so more
      ∙ (ap (λ (l : List (List ℕ)). map octets_of sent_so ++ l) none_sent ∙ (append-nil (map octets_of sent_so) ∙ before.taken));
}

-- it leaves, and is answered
retried_goes : (ws stay : List Waited) (w : Waited) (sent_so more : List Msu) (bytes others : List ToldLine) (at : ℕ) → RetriedSo ws sent_so bytes stay
    → (one_so : OneAnswer (asked_of w) at more others) → IsTimely (record { order = asked_of w; ok = one_so.ok; at = at })
    → RetriedSo (ws ++ w ∷ []) (sent_so ++ more) (bytes ++ others) stay
retried_goes ws stay w sent_so more bytes others at before one_so timely =
    let a : Answered = record { order = asked_of w; ok = one_so.ok; at = at } in
    record {
      answers = before.answers ++ a ∷ [];
      lines = subst (λ (l : List ToldLine). AreAnswers (before.answers ++ a ∷ []) l) (sym (answers_more bytes others ∙ ap (λ (l : List ToldLine). answers_in bytes ++ l) one_so.all))
          (one_answer a others before.lines one_so.is);
      each = subst (λ (l : List Asked). IsPermutation l (orders_of (before.answers ++ a ∷ []) ++ map asked_of stay)) (sym (map-append asked_of ws (w ∷ [])))
          (subst (λ (l : List Asked). IsPermutation (map asked_of ws ++ asked_of w ∷ []) (l ++ map asked_of stay))
          (sym (map-append (λ (x : Answered). x.order) before.answers (a ∷ [])))
          (goes_last (map asked_of ws) (orders_of before.answers) (map asked_of stay) (asked_of w) before.each));
      timely = each_more IsTimely before.answers a before.timely timely;
      taken =
          map-append octets_of sent_so more
          ∙ (ap (λ (l : List (List ℕ)). l ++ map octets_of more) before.taken
          ∙ (ap (λ (l : List (List ℕ)). taken_in before.answers ++ l) (one_so.taken_are ∙ sym (append-nil (taken_by a)))
          ∙ sym (flat_map-append taken_by before.answers (a ∷ []))));
    }

sends_some : {A : Type 0} (x : A) → x ∷ [] ≡ [] → ⊥
sends_some x is = let e : 1 ≡ 0 = ap length is in absurd (omega (arith, e))

-- the answer to one that waited
waited_timely : (now at : ℕ) (w : Waited) (ok : Bool) → Fresh now w → at ≡ now → IsTimely (record { order = asked_of w; ok = ok; at = at })
waited_timely now at w ok recent is = record {
  after = omega (arith, recent.came, is);
  soon = omega (arith, recent.soon, is);
  at_once = λ none. absurd (sends_some w.octets none);
}

pub retried_so : (now : ℕ) (p : Stood) (ws : List Waited) (bytes : List ToldLine) (q : Stood) (stay : List Waited) → (made : Retries p ws bytes q stay) → p.tender.ticks ≡ now → Rising ws
    → Each (Fresh now) ws → RetriedSo ws (sent_waiting made) bytes stay
retried_so now p _ _ _ _ none_yet is rising recent = record { answers = []; lines = no_answer; each = IsPermutation-refl []; timely = tt; taken = refl }
retried_so now p _ _ _ _ (behind {ws} {bytes} {q} {stay} w before some_wait) is rising recent =
    let so : RetriedSo ws (sent_waiting before) bytes stay = retried_so now p ws bytes q stay before is (rising_front ws w rising) (each_front (Fresh now) ws w recent) in
    subst (λ (l : List Msu). RetriedSo (ws ++ w ∷ []) l bytes (stay ++ w ∷ [])) (append-nil (sent_waiting before))
    (subst (λ (l : List ToldLine). RetriedSo (ws ++ w ∷ []) (sent_waiting before ++ []) l (stay ++ w ∷ [])) (append-nil bytes)
    (retried_stays ws stay w (sent_waiting before) [] bytes [] so refl refl))
retried_so now p _ _ _ _ (holds {ws} {bytes} {q} {stay} w more r before none_wait tries) is rising recent =
    let so : RetriedSo ws (sent_waiting before) bytes stay = retried_so now p ws bytes q stay before is (rising_front ws w rising) (each_front (Fresh now) ws w recent) in
    let none : WaitsSo (marked w.mark q) r (sent_trying tries) more = tried_none w.text w.octets (is_early q.tender.ticks w) (marked w.mark q) more false r refl tries in
    retried_stays ws stay w (sent_waiting before) (sent_trying tries) bytes more so none.sent_is none.bytes_are
retried_so now p _ _ _ _ (goes {ws} {bytes} {q} {stay} w more r before none_wait tries) is rising recent =
    let so : RetriedSo ws (sent_waiting before) bytes stay = retried_so now p ws bytes q stay before is (rising_front ws w rising) (each_front (Fresh now) ws w recent) in
    let times : StaysSo now (ws ++ w ∷ []) r stay =
    retries_times now p (ws ++ w ∷ []) (bytes ++ more) r stay (goes w more r before none_wait tries) is rising recent in
    let one_so : OneAnswer (asked_of w) r.tender.ticks (sent_trying tries) more =
    tried_one w.text w.octets (is_early q.tender.ticks w) (marked w.mark q) more true r w.since refl tries in
    retried_goes ws stay w (sent_waiting before) (sent_trying tries) bytes more r.tender.ticks so one_so
    (waited_timely now r.tender.ticks w one_so.ok (each_last (Fresh now) ws w recent) times.ticks)
