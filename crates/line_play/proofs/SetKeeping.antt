-- The messages taken of a selection keep the order of their orders.
use Rattle.std.proofs.Common.{◌≡◌, ◌∙◌, ℕ, ◌==◌, ◌||◌, Bool, true, false, List, [], ◌∷◌, ◌++◌, append-nil, append_assoc, filter, map, Option, None, Some, option_map, if◌then◌else◌, true≢false, refl, sym, ap, subst, arith}
use Rattle.std.proofs.lemmas.Bool.Decides.{nat_tests}
use Rattle.std.proofs.lemmas.List.{map-append}
use Rattle.std.proofs.lemmas.List.Elements.{filter-append}
use Rattle.std.proofs.lemmas.Option.{none-some, same_Some}
use Rattle.script_links.specs.resend_store_types.messages.Msu.{Msu}
use Rattle.script_ends.specs.TermAnswers.{IsMessageOf}
use Rattle.line_filter.specs.Reporting.{ToldLine, Stand}
use Rattle.line_filter.specs.Orders.{Timed}
use Rattle.line_tending.specs.Tended.{Tended}
use Rattle.line_play.specs.LineTraffic.{Traffic}
use Rattle.line_play.specs.SetDoing.{Stood, marked}
use Rattle.line_play.specs.SetGiven.{PlainSaid, given_in}
use Rattle.line_play.specs.SetOrders.{PlainSetOrder, send}
use Rattle.line_play.specs.SetQueues.{Waited, selection_in, is_of, any_of, is_early, PlainSent, taken, refused, held, AsksOf, is_taken, unlabelled, turned_down, is_kept, is_moving, Asks, no_message, is_message, Tries, leaves, takes, refuses, waits_on, Retries, none_yet, behind, holds, goes, SaysSend, waits_as, TakesSend, late, crowded, goes_now, waits_first, waits_behind, TakesOrder, obeyed, sent, report}
use Rattle.line_play.specs.SetRounds.{Attends, waited, comes, looks, AttendsAll, none_due, full, answers_wait, over, SetPlace, IsRound, Rounds, begins, round}
use Rattle.line_play.specs.SetLaws.{sent_asking, sent_of, sent_trying, sent_waiting, sent_sending, sent_taking, sent_attending, sent_by_all, sent_along, octets_by, octets_said, came_attending, came_by_all, came_along, InOrder, nothing_left, skips, keeps, of_selection, octets_of}
use Rattle.line_play.proofs.KeepsOrder.{all_in_order, none_in_order, joined_in_order, behind_both, front_in_order, goes_on}

-- those of a selection, of messages and of waiting orders
abbrev mine : ℕ → List Msu → List (List ℕ)
mine s ms = of_selection s (map octets_of ms)

abbrev queued : ℕ → List Waited → List (List ℕ)
queued s ws = of_selection s (map (λ (w : Waited). w.octets) ws)

mine_more : (s : ℕ) (xs ys : List Msu) → mine s (xs ++ ys) ≡ mine s xs ++ mine s ys
mine_more s xs ys = ap (of_selection s) (map-append octets_of xs ys) ∙ filter-append (λ (o : List ℕ). selection_in o == s) (map octets_of xs) (map octets_of ys)

queued_more : (s : ℕ) (ws : List Waited) (w : Waited) → queued s (ws ++ w ∷ []) ≡ queued s ws ++ of_selection s (w.octets ∷ [])
queued_more s ws w =
    ap (of_selection s) (map-append (λ (v : Waited). v.octets) ws (w ∷ [])) ∙ filter-append (λ (o : List ℕ). selection_in o == s) (map (λ (v : Waited). v.octets) ws) (w.octets ∷ [])

or_none_left : (x y : Bool) → (x || y) ≡ false → x ≡ false
or_none_left false y both = refl
or_none_left true y both = absurd (true≢false both)

or_none_right : (x y : Bool) → (x || y) ≡ false → y ≡ false
or_none_right false y both = both
or_none_right true y both = absurd (true≢false both)

left_out : (s : ℕ) (octets : List ℕ) (more : List (List ℕ)) (b : Bool) → (selection_in octets == s) ≡ b → b ≡ false
    → of_selection s (octets ∷ more) ≡ of_selection s more
left_out s octets more true is denied = absurd (true≢false denied)
left_out s octets more false is denied = ap (λ (x : Bool). if x then octets ∷ of_selection s more else of_selection s more) is

-- none of a selection waits
none_queued : (s : ℕ) (ws : List Waited) → any_of s ws ≡ false → queued s ws ≡ []
none_queued s [] none_so = refl
none_queued s (w ∷ ws) none_so =
    left_out s w.octets (map (λ (v : Waited). v.octets) ws) (is_of s w) refl (or_none_left (is_of s w) (any_of s ws) none_so)
    ∙ none_queued s ws (or_none_right (is_of s w) (any_of s ws) none_so)

same_by : (x y : ℕ) → (x == y) ≡ true → x ≡ y
same_by x y shown = grind (arith, nat_tests, shown)

-- ---- a message is tried

asked_octets : (octets : List ℕ) (m : Msu) (patient : Bool) (t u : Tended) (r : PlainSent) → IsMessageOf octets m → (made : AsksOf m patient t r u)
    → InOrder (map octets_of (sent_asking made)) (octets ∷ [])
asked_octets octets m patient t _ _ is (is_taken room acts) = subst (λ (o : List ℕ). InOrder (octets_of m ∷ []) (o ∷ [])) (sym is) (all_in_order (octets_of m ∷ []))
asked_octets octets m patient t _ _ is (unlabelled none_there) = none_in_order (octets ∷ [])
asked_octets octets m patient t _ _ is (turned_down why fault not_later) = none_in_order (octets ∷ [])
asked_octets octets m patient t _ _ is (is_kept why patient_so fault later) = none_in_order (octets ∷ [])
asked_octets octets m patient t _ _ is (is_moving patient_so there) = none_in_order (octets ∷ [])

asked_of : (octets : List ℕ) (patient : Bool) (t u : Tended) (r : PlainSent) → (made : Asks octets patient t r u) → InOrder (map octets_of (sent_of made)) (octets ∷ [])
asked_of octets patient t _ _ (no_message none_there) = none_in_order (octets ∷ [])
asked_of octets patient t _ _ (is_message m is asks) = asked_octets octets m patient t _ _ is asks

tried_octets : (text octets : List ℕ) (patient : Bool) (p : Stood) (bytes : List ToldLine) (went : Bool) (q : Stood) → (made : Tries text octets patient p bytes went q)
    → InOrder (map octets_of (sent_trying made)) (octets ∷ [])
tried_octets text octets patient p _ _ _ (leaves ended) = none_in_order (octets ∷ [])
tried_octets text octets patient p _ _ _ (takes {u} going asks) = asked_of octets patient p.tender u taken asks
tried_octets text octets patient p _ _ _ (refuses {u} why going asks) = asked_of octets patient p.tender u (refused why) asks
tried_octets text octets patient p _ _ _ (waits_on {u} going asks) = asked_of octets patient p.tender u held asks

abbrev is_taken_so : PlainSent → Bool
is_taken_so taken = true
is_taken_so (refused why) = false
is_taken_so held = false

taken_held : taken ≡ held → ⊥
taken_held is = absurd (let e : true ≡ false = ap is_taken_so is in true≢false e)

-- what waits on was not taken
asks_held : (m : Msu) (patient : Bool) (t u : Tended) (r : PlainSent) → r ≡ held → (made : AsksOf m patient t r u) → sent_asking made ≡ []
asks_held m patient t _ _ is (is_taken room acts) = absurd (taken_held is)
asks_held m patient t _ _ is (unlabelled none_there) = refl
asks_held m patient t _ _ is (turned_down why fault not_later) = refl
asks_held m patient t _ _ is (is_kept why patient_so fault later) = refl
asks_held m patient t _ _ is (is_moving patient_so there) = refl

asked_held : (octets : List ℕ) (patient : Bool) (t u : Tended) (r : PlainSent) → r ≡ held → (made : Asks octets patient t r u) → sent_of made ≡ []
asked_held octets patient t _ _ is (no_message none_there) = refl
asked_held octets patient t _ _ is (is_message m message asks) = asks_held m patient t _ _ is asks

tried_held : (text octets : List ℕ) (patient : Bool) (p : Stood) (bytes : List ToldLine) (went : Bool) (q : Stood) → went ≡ false → (made : Tries text octets patient p bytes went q)
    → sent_trying made ≡ []
tried_held text octets patient p _ _ _ is (leaves ended) = refl
tried_held text octets patient p _ _ _ is (takes going asks) = absurd (true≢false is)
tried_held text octets patient p _ _ _ is (refuses why going asks) = absurd (true≢false is)
tried_held text octets patient p _ _ _ is (waits_on {u} going asks) = asked_held octets patient p.tender u held refl asks

-- ---- in order, for one selection

filtered_skip : (s : ℕ) (xs ys : List (List ℕ)) (y : List ℕ) (b : Bool) → b ≡ (selection_in y == s) → InOrder (of_selection s xs) (of_selection s ys)
    → InOrder (of_selection s xs) (if b then y ∷ of_selection s ys else of_selection s ys)
filtered_skip s xs ys y true is more = skips y more
filtered_skip s xs ys y false is more = more

filtered_keep : (s : ℕ) (xs ys : List (List ℕ)) (y : List ℕ) (b : Bool) → b ≡ (selection_in y == s) → InOrder (of_selection s xs) (of_selection s ys)
    → InOrder (if b then y ∷ of_selection s xs else of_selection s xs) (if b then y ∷ of_selection s ys else of_selection s ys)
filtered_keep s xs ys y true is more = keeps y more
filtered_keep s xs ys y false is more = more

filtered : (s : ℕ) (xs ys : List (List ℕ)) → InOrder xs ys → InOrder (of_selection s xs) (of_selection s ys)
filtered s _ _ nothing_left = nothing_left
filtered s _ _ (skips {xs} {ys} y more) = filtered_skip s xs ys y (selection_in y == s) refl (filtered s xs ys more)
filtered s _ _ (keeps {xs} {ys} y more) = filtered_keep s xs ys y (selection_in y == s) refl (filtered s xs ys more)

none_below : {A : Type 0} (xs : List A) → InOrder xs [] → xs ≡ []
none_below _ nothing_left = refl

nothing_of : (s : ℕ) (xs : List (List ℕ)) (octets : List ℕ) → InOrder xs (octets ∷ []) → of_selection s (octets ∷ []) ≡ [] → of_selection s xs ≡ []
nothing_of s xs octets one none_all =
    none_below (of_selection s xs) (subst (λ (l : List (List ℕ)). InOrder (of_selection s xs) l) none_all (filtered s xs (octets ∷ []) one))

-- the first part is in the order of both
first_of_both : (xs ys : List (List ℕ)) → InOrder xs (xs ++ ys)
first_of_both xs ys =
    subst (λ (l : List (List ℕ)). InOrder l (xs ++ ys)) (append-nil xs) (joined_in_order xs xs [] ys (all_in_order xs) (none_in_order ys))

-- one more waits, and came after the others
waits_more : (s : ℕ) (ws stay : List Waited) (w : Waited) (gone : List (List ℕ)) → InOrder (gone ++ queued s stay) (queued s ws)
    → InOrder (gone ++ queued s (stay ++ w ∷ [])) (queued s (ws ++ w ∷ []))
waits_more s ws stay w gone before =
    subst (λ (l : List (List ℕ)). InOrder (gone ++ l) (queued s (ws ++ w ∷ []))) (sym (queued_more s stay w))
    (subst (λ (l : List (List ℕ)). InOrder (gone ++ (queued s stay ++ of_selection s (w.octets ∷ []))) l) (sym (queued_more s ws w))
    (subst (λ (l : List (List ℕ)). InOrder l (queued s ws ++ of_selection s (w.octets ∷ []))) (append_assoc gone (queued s stay) (of_selection s (w.octets ∷ [])))
    (behind_both (gone ++ queued s stay) (queued s ws) (of_selection s (w.octets ∷ [])) before)))

-- A message that is taken while none of its selection waits follows all that were taken of the
-- selection before.
gone_by : (s : ℕ) (mine_so left_so all_so : List (List ℕ)) (went : List Msu) (octets : List ℕ) (b : Bool) → (selection_in octets == s) ≡ b
    → (b ≡ true → left_so ≡ []) → InOrder (map octets_of went) (octets ∷ []) → InOrder (mine_so ++ left_so) all_so
    → InOrder ((mine_so ++ mine s went) ++ left_so) (all_so ++ of_selection s (octets ∷ []))
gone_by s mine_so left_so all_so went octets true is none_left one before =
    let first : InOrder mine_so all_so = front_in_order mine_so left_so all_so before in
    subst (λ (l : List (List ℕ)). InOrder ((mine_so ++ mine s went) ++ l) (all_so ++ of_selection s (octets ∷ []))) (sym (none_left refl))
    (subst (λ (l : List (List ℕ)). InOrder l (all_so ++ of_selection s (octets ∷ []))) (sym (append-nil (mine_so ++ mine s went)))
    (joined_in_order mine_so all_so (mine s went) (of_selection s (octets ∷ [])) first (filtered s (map octets_of went) (octets ∷ []) one)))
gone_by s mine_so left_so all_so went octets false is none_left one before =
    let none_all : of_selection s (octets ∷ []) ≡ [] = left_out s octets [] false is refl in
    let none_mine : mine s went ≡ [] = nothing_of s (map octets_of went) octets one none_all in
    subst (λ (l : List (List ℕ)). InOrder ((mine_so ++ mine s went) ++ left_so) (all_so ++ l)) (sym none_all)
    (subst (λ (l : List (List ℕ)). InOrder ((mine_so ++ l) ++ left_so) (all_so ++ [])) (sym none_mine)
    (subst (λ (l : List (List ℕ)). InOrder (l ++ left_so) (all_so ++ [])) (sym (append-nil mine_so))
    (subst (λ (l : List (List ℕ)). InOrder (mine_so ++ left_so) l) (sym (append-nil all_so)) before)))

-- ---- waiting orders

retried_keeps : (s : ℕ) (p : Stood) (waiting : List Waited) (bytes : List ToldLine) (q : Stood) (now : List Waited) → (made : Retries p waiting bytes q now)
    → InOrder (mine s (sent_waiting made) ++ queued s now) (queued s waiting)
retried_keeps s p _ _ _ _ none_yet = nothing_left
retried_keeps s p _ _ _ _ (behind {ws} {bytes} {q} {stay} w before some_wait) = waits_more s ws stay w (mine s (sent_waiting before)) (retried_keeps s p ws bytes q stay before)
retried_keeps s p _ _ _ _ (holds {ws} {bytes} {q} {stay} w more r before none_wait tries) =
    let none_went : sent_trying tries ≡ [] = tried_held w.text w.octets (is_early q.tender.ticks w) (marked w.mark q) more false r refl tries in
    let same : mine s (sent_waiting before ++ sent_trying tries) ≡ mine s (sent_waiting before) =
    ap (λ (l : List Msu). mine s (sent_waiting before ++ l)) none_went ∙ ap (mine s) (append-nil (sent_waiting before)) in
    subst (λ (l : List (List ℕ)). InOrder (l ++ queued s (stay ++ w ∷ [])) (queued s (ws ++ w ∷ []))) (sym same)
    (waits_more s ws stay w (mine s (sent_waiting before)) (retried_keeps s p ws bytes q stay before))
retried_keeps s p _ _ _ _ (goes {ws} {bytes} {q} {stay} w more r before none_wait tries) =
    subst (λ (l : List (List ℕ)). InOrder (l ++ queued s stay) (queued s (ws ++ w ∷ []))) (sym (mine_more s (sent_waiting before) (sent_trying tries)))
    (subst (λ (l : List (List ℕ)). InOrder ((mine s (sent_waiting before) ++ mine s (sent_trying tries)) ++ queued s stay) l) (sym (queued_more s ws w))
    (gone_by s (mine s (sent_waiting before)) (queued s stay) (queued s ws) (sent_trying tries) w.octets (selection_in w.octets == s) refl
    (λ same. none_queued s stay (subst (λ (n : ℕ). any_of n stay ≡ false) (same_by (selection_in w.octets) s same) none_wait))
    (tried_octets w.text w.octets (is_early q.tender.ticks w) (marked w.mark q) more true r tries) (retried_keeps s p ws bytes q stay before)))

-- ---- an arriving order

sending_keeps : (s : ℕ) (text octets : List ℕ) (p : Stood) (waiting : List Waited) (bytes : List ToldLine) (q : Stood) (now : List Waited)
    → (made : TakesSend text octets p waiting bytes q now) → InOrder (mine s (sent_sending made) ++ queued s now) (queued s waiting ++ of_selection s (octets ∷ []))
sending_keeps s text octets p waiting _ _ _ (late ended) = first_of_both (queued s waiting) (of_selection s (octets ∷ []))
sending_keeps s text octets p waiting _ _ _ (crowded many) = first_of_both (queued s waiting) (of_selection s (octets ∷ []))
sending_keeps s text octets p waiting _ _ _ (goes_now {bytes} {q} none_wait tries) =
    gone_by s [] (queued s waiting) (queued s waiting) (sent_trying tries) octets (selection_in octets == s) refl
    (λ same. none_queued s waiting (subst (λ (n : ℕ). any_of n waiting ≡ false) (same_by (selection_in octets) s same) none_wait))
    (tried_octets text octets true p bytes true q tries) (all_in_order (queued s waiting))
sending_keeps s text octets p waiting _ _ _ (waits_first {bytes} {q} none_wait tries) =
    let none_went : sent_trying tries ≡ [] = tried_held text octets true p bytes false q refl tries in
    subst (λ (l : List Msu). InOrder (mine s l ++ queued s (waiting ++ waits_as q text octets ∷ [])) (queued s waiting ++ of_selection s (octets ∷ []))) (sym none_went)
    (subst (λ (l : List (List ℕ)). InOrder l (queued s waiting ++ of_selection s (octets ∷ []))) (sym (queued_more s waiting (waits_as q text octets)))
    (all_in_order (queued s waiting ++ of_selection s (octets ∷ []))))
sending_keeps s text octets p waiting _ _ _ (waits_behind some_wait few) =
    subst (λ (l : List (List ℕ)). InOrder l (queued s waiting ++ of_selection s (octets ∷ []))) (sym (queued_more s waiting (waits_as p text octets)))
    (all_in_order (queued s waiting ++ of_selection s (octets ∷ [])))

said_octets : (octets : List ℕ) (said : Option PlainSaid) → SaysSend octets said → octets_said said ≡ octets ∷ []
said_octets octets None says = absurd (none-some (send octets) says)
said_octets octets (Some said) says = ap octets_by (same_Some said.order (send octets) says)

taking_keeps : (s : ℕ) (text : List ℕ) (said : Option PlainSaid) (p : Stood) (waiting : List Waited) (bytes : List ToldLine) (q : Stood) (now : List Waited)
    → (made : TakesOrder text said p waiting bytes q now) → InOrder (mine s (sent_taking made) ++ queued s now) (queued s waiting ++ of_selection s (octets_said said))
taking_keeps s text said p waiting _ _ _ (obeyed made) = first_of_both (queued s waiting) (of_selection s (octets_said said))
taking_keeps s text said p waiting _ _ _ (sent {bytes} {q} {now} octets says made) =
    subst (λ (l : List (List ℕ)). InOrder (mine s (sent_sending made) ++ queued s now) (queued s waiting ++ of_selection s l)) (sym (said_octets octets said says))
    (sending_keeps s text octets p waiting bytes q now made)
taking_keeps s text said p waiting _ _ _ (report none_there is_told) = first_of_both (queued s waiting) (of_selection s (octets_said said))

-- one part after another
parts_keep : (s : ℕ) (waiting left still : List Waited) (gone more : List Msu) (came next : List (List ℕ))
    → InOrder (mine s gone ++ queued s left) (queued s waiting ++ of_selection s came)
    → InOrder (mine s more ++ queued s still) (queued s left ++ of_selection s next)
    → InOrder (mine s (gone ++ more) ++ queued s still) (queued s waiting ++ of_selection s (came ++ next))
parts_keep s waiting left still gone more came next before after =
    subst (λ (l : List (List ℕ)). InOrder (l ++ queued s still) (queued s waiting ++ of_selection s (came ++ next))) (sym (mine_more s gone more))
    (subst (λ (l : List (List ℕ)). InOrder ((mine s gone ++ mine s more) ++ queued s still) (queued s waiting ++ l)) (sym (filter-append (λ (o : List ℕ). selection_in o == s) came next))
    (goes_on (mine s gone) (queued s left) (queued s waiting) (of_selection s came) (mine s more) (queued s still) (of_selection s next) before after))

attending_keeps : {a : Stand} (s : ℕ) (p : Stood) (waiting : List Waited) (left : Option (List Timed)) (bytes : List ToldLine) (q : Stood) (now : List Waited) (last : Option (List Timed))
    {b : Stand} → (made : Attends p waiting left a bytes q now last b)
    → InOrder (mine s (sent_attending made) ++ queued s now) (queued s waiting ++ of_selection s (came_attending made))
attending_keeps s p waiting left _ _ _ _ (waited {bytes} {q} {now} before tells) =
    subst (λ (l : List (List ℕ)). InOrder (mine s (sent_waiting before) ++ queued s now) l) (sym (append-nil (queued s waiting)))
    (retried_keeps s p waiting bytes q now before)
attending_keeps s p waiting left _ _ _ _ (comes {bytes} {q} {now} {fewer} order more r later last c before next going may made tells) =
    parts_keep s waiting now later (sent_attending before) (sent_taking made) (came_attending before) (octets_said (given_in order).said)
    (attending_keeps s p waiting left bytes q now fewer before)
    (taking_keeps s (given_in order).text (given_in order).said (marked (given_in order).mark q) now more r later made)
attending_keeps s p waiting left _ _ _ _ (looks {bytes} {q} {now} {fewer} more last c before anew tells) = attending_keeps s p waiting left bytes q now fewer before

all_keep : {a : Stand} (s : ℕ) (p : Stood) (waiting : List Waited) (left : Option (List Timed)) (bytes : List ToldLine) (q : Stood) (now : List Waited) (last : Option (List Timed))
    {b : Stand} → (made : AttendsAll p waiting left a bytes q now last b) → InOrder (mine s (sent_by_all made) ++ queued s now) (queued s waiting ++ of_selection s (came_by_all made))
all_keep s p waiting left _ _ _ _ (none_due {bytes} {q} {now} {fewer} last before none_there) = attending_keeps s p waiting left bytes q now fewer before
all_keep s p waiting left _ _ _ _ (full {bytes} {q} {now} {fewer} last before many same) = attending_keeps s p waiting left bytes q now fewer before
all_keep s p waiting left _ _ _ _ (answers_wait {bytes} {q} {now} {fewer} last before many same) = attending_keeps s p waiting left bytes q now fewer before
all_keep s p waiting left _ _ _ _ (over {bytes} {q} {now} {fewer} before is) = attending_keeps s p waiting left bytes q now fewer before

-- ---- along a run

along_keeps : (s ahead : ℕ) (p r : SetPlace) (bytes : List ToldLine) (traffic : List Traffic) (on : Bool) → (run : Rounds ahead p bytes traffic on r)
    → InOrder (mine s (sent_along run) ++ queued s r.waiting) (queued s p.waiting ++ of_selection s (came_along run))
along_keeps s ahead p _ _ _ _ begins =
    subst (λ (l : List (List ℕ)). InOrder (queued s p.waiting) l) (sym (append-nil (queued s p.waiting))) (all_in_order (queued s p.waiting))
along_keeps s ahead p _ _ _ _ (round {bytes} {traffic} {q} {r} more others on before is) =
    parts_keep s p.waiting q.waiting r.waiting (sent_along before) (sent_by_all is.attends) (came_along before) (came_by_all is.attends)
    (along_keeps s ahead p q bytes traffic true before)
    (all_keep s (record q.stood { tender = is.minded }) q.waiting q.left is.third is.obeyed r.waiting r.left is.attends)

pub kept_along : (ahead : ℕ) (p q : SetPlace) (bytes : List ToldLine) (traffic : List Traffic) (on : Bool) → (run : Rounds ahead p bytes traffic on q)
    → p.waiting ≡ [] → (s : ℕ) → InOrder (of_selection s (map octets_of (sent_along run))) (of_selection s (came_along run))
kept_along ahead p q bytes traffic on run none_wait s =
    front_in_order (mine s (sent_along run)) (queued s q.waiting) (of_selection s (came_along run))
    (subst (λ (l : List (List ℕ)). InOrder (mine s (sent_along run) ++ queued s q.waiting) (l ++ of_selection s (came_along run))) (ap (queued s) none_wait)
    (along_keeps s ahead p q bytes traffic on run))
