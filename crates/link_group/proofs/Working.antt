-- Changeovers that begin and their messages, calls of one terminal, and ticks.
use Rattle.std.proofs.Common.{◌≡◌, ℕ, zero, suc, Bool, true, false, not, List, [], ◌∷◌, ◌++◌, Option, Some, None, map, take, drop, slice_set, refl, sym, ap, ◌∙◌, subst, inl, inr}
use Rattle.std.specs.Prelude.{◌⊎◌, ◌&&◌, if◌then◌else◌, slice_get, option_map}
use Rattle.std.specs.List.{list_any}
use Rattle.plain_laws.proofs.Lists.{append-nil_right}
use Rattle.plain_laws.proofs.Truths.{by_test}
use Rattle.resend_store.specs.declared.messages.Msu.{Msu}
use Rattle.group_changeover.specs.declared.changeover.Changeover.{Changeover}
use Rattle.group_changeover.specs.declared.changeover.Kind.{Kind}
use Rattle.actor_machine.specs.Ledger.{rebased}
use Rattle.actor_machine.specs.declared.event.Event.TheVariants.{Advance}
use Rattle.link_processes.specs.declared.processes.Processes.{Processes}
use Rattle.link_processes.specs.Laws.{KeptLaw}
use Rattle.link_processes.specs.Machine.{with_book, is_low, tidied}
use Rattle.group_changeover.specs.declared.availability.Availability.{Availability}
use Rattle.group_changeover.specs.Laws.{StepsKeepPlaces}
use Rattle.group_changeover.specs.Availability.{changeover_begins, serves}
use Rattle.group_changeover.specs.Saying.{is_late, is_order, begun_by_message, is_held_by, answer_after}
use Rattle.group_changeover.specs.declared.bound.Points.{Points}
use Rattle.group_changeover.specs.Bound.{unbound}
use Rattle.group_changeover.proofs.Equal.{same}
use Rattle.group_changeover.proofs.Unbound.{unbound-append, unbound-behind}
use Rattle.link_group.specs.declared.link.Link.{Link}
use Rattle.link_group.specs.OneLink.{held, messages, window, with_hold, hold_by}
use Rattle.link_group.specs.Links.{set_at, change}
use Rattle.link_group.specs.Failing.{changeover_begins_at, count_heard, marked, hears}
use Rattle.link_term.specs.Term.{term_with_transceiver}
use Rattle.link_group.specs.Doing.{began, unbegun, leaves_out, anew, bound_told, came, came_first, marked_served, asked_of, asked, came_by, admits_at, admits_by, AtLink}
use Rattle.link_group.specs.Ticking.{roomy, passed}
use Rattle.link_group.specs.Set.{LinkSet, points_of}
use Rattle.link_group.specs.Changing.{after_failure, is_for, after_message}
use Rattle.link_group.specs.Placing.{table_anew}
use Rattle.link_group.specs.Lines.{seen, all_seen, after_admission, ByLink, Alone}
use Rattle.link_group.specs.Ticks.{with_room, after_ticks, NoRoom}
use Rattle.link_group.specs.Laws.{held_by, held_at}
use Rattle.link_group.specs.declared.gone.Gone.{Gone}
use Rattle.link_group.specs.Gone.{acknowledged, left_of}
use Rattle.link_group.proofs.Fitting.{FitsAvailability, FitsLink, FitsAt, Alike, fits_there, fits_change, fits_map, fits_alike, fits_begins, fits_told, fits_fewer, fits_waits, fits_held, less_fits}
use Rattle.link_group.proofs.Getting.{change_here, change_other, held_changed, held_mapped}
use Rattle.link_group.proofs.PlacingLaws.{stays_placed}
use Rattle.link_group.proofs.Staying.{Stays, listed, gone_marked, gone_none, quiet, leaves}

-- ---- links change, and none of their messages moves

pub one_changes : (laws : StepsKeepPlaces) (c : LinkSet) (retrievals : ℕ → List Msu) (accepted : List Msu) (gone : List Gone) (l : ℕ) (f : Link → Link) → ((k : Link) → slice_get c.links l ≡ Some k → Alike (f k) k)
    → ((k : Link) (ms : List Msu) → FitsAvailability k.availability ms → FitsAvailability (f k).availability ms) → Stays c retrievals accepted gone → Stays (record c { links = change c.links l f }) retrievals accepted gone
one_changes laws c retrievals accepted gone l f same availability stays = record {
  places = quiet laws c (record c { links = change c.links l f }) retrievals accepted gone (λ j. held_changed f c.links l j (λ k e. (same k e).0)) refl stays.places;
  fits = fits_change (points_of c) f c.links retrievals l stays.fits (λ k e x. fits_held (points_of c) k (f k) (retrievals l) (availability k (retrievals l) x.availability) (same k e) x);
  table = stays.table;
}

all_change : (laws : StepsKeepPlaces) (c : LinkSet) (retrievals : ℕ → List Msu) (accepted : List Msu) (gone : List Gone) (f : Link → Link) → ((k : Link) → Alike (f k) k)
    → ((k : Link) (ms : List Msu) → FitsAvailability k.availability ms → FitsAvailability (f k).availability ms) → Stays c retrievals accepted gone → Stays (record c { links = map f c.links }) retrievals accepted gone
all_change laws c retrievals accepted gone f same availability stays = record {
  places = quiet laws c (record c { links = map f c.links }) retrievals accepted gone (λ j. held_mapped f c.links j (λ k. (same k).0)) refl stays.places;
  fits = fits_map (points_of c) f c.links retrievals stays.fits (λ k l e x. fits_held (points_of c) k (f k) (retrievals l) (availability k (retrievals l) x.availability) (same k) x);
  table = stays.table;
}

-- ---- a changeover begins, and its messages are received

pub stays_failed : (laws : StepsKeepPlaces) (c : LinkSet) (retrievals : ℕ → List Msu) (accepted : List Msu) (gone : List Gone) (l : ℕ) → Stays c retrievals accepted gone → Stays (after_failure c l) retrievals accepted gone
unfolding after_failure
stays_failed laws c retrievals accepted gone l stays = one_changes laws c retrievals accepted gone l changeover_begins_at (λ k e. (refl, refl)) (λ k ms x. fits_begins k.availability ms x) stays

fits_heard : (what : Kind) (k : Link) (ms : List Msu) → FitsAvailability k.availability ms → FitsAvailability (hears what k).availability ms
fits_heard what k ms fits =
    fits_told (answer_after k.availability (count_heard what k)) (begun_by_message what k.availability) ms
    (by_test (λ (m : Availability). FitsAvailability m ms) (is_order what && not (is_late k.availability)) (changeover_begins k.availability) k.availability
    (λ e. fits_begins k.availability ms fits) (λ e. fits))

held_heard : (what : Kind) (k : Link) → Alike (hears what k) k
held_heard what k =
    by_test (λ (x : Link). Alike x k) (is_held_by what k.availability) (with_hold (hold_by (marked what k).changing) k) k (λ e. (refl, refl)) (λ e. (refl, refl))

pub stays_heard : (laws : StepsKeepPlaces) (c : LinkSet) (retrievals : ℕ → List Msu) (accepted : List Msu) (gone : List Gone) (m : Option Changeover) → Stays c retrievals accepted gone
    → Stays (after_message c m) retrievals accepted gone
stays_heard laws c retrievals accepted gone None stays = stays
stays_heard laws c retrievals accepted gone (Some m) stays =
    by_test (λ (x : LinkSet). Stays x retrievals accepted gone) (is_for c m) (record c { links = change c.links m.label.sls (hears m.kind) }) c
    (λ e. one_changes laws c retrievals accepted gone m.label.sls (hears m.kind) (λ k there. held_heard m.kind k) (fits_heard m.kind) stays) (λ e. stays)

-- ---- a link comes into service

-- a link that was checked, with these marks
abbrev asked_with : Link → Availability → Link
asked_with k m =
    marked_served (record k { terminal = term_with_transceiver k.terminal (record k.terminal.processes.transceiver { came = false }); availability = m })

fits_anew : (k : Link) (ms : List Msu) → FitsAvailability k.availability ms → FitsAvailability (anew k).availability ms
fits_anew k ms fits =
    by_test (λ (x : Link). FitsAvailability x.availability ms) (began k) (leaves_out (unbegun k)) (unbegun k)
    (λ e. fits_fewer (bound_told (unbegun k)) k.availability ms fits) (λ e. fits)

fits_asked_of : (k : Link) (ms : List Msu) → FitsAvailability k.availability ms → FitsAvailability (asked_of k).availability ms
fits_asked_of k ms fits =
    by_test (λ (m : Availability). FitsAvailability (asked_with k m).availability ms) (came k) (serves k.availability) k.availability
    (λ e. fits_alike k.availability (asked_with k (serves k.availability)).availability ms refl refl fits)
    (λ e. fits_alike k.availability (asked_with k k.availability).availability ms refl refl fits)

fits_asked : (k : Link) (ms : List Msu) → FitsAvailability k.availability ms → FitsAvailability (asked k).availability ms
fits_asked k ms fits = fits_asked_of (anew k) ms (fits_anew k ms fits)

-- Messages not bound to a link stay when its directions restart.
anew_alike : (k : Link) → Alike (anew k) k
anew_alike k =
    by_test (λ (x : Link). Alike x k) (began k) (leaves_out (unbegun k)) (unbegun k)
    (λ e. (unbound-behind k.points (window k).sent (held k), refl)) (λ e. (refl, refl))

pub asked_alike : (k : Link) → Alike (asked k) k
asked_alike k = anew_alike k

stays_seen : (laws : StepsKeepPlaces) (c : LinkSet) (retrievals : ℕ → List Msu) (accepted : List Msu) (gone : List Gone) (l : ℕ) → Stays c retrievals accepted gone → Stays (seen l c) retrievals accepted gone
unfolding seen
stays_seen laws c retrievals accepted gone l stays =
    let d : LinkSet = record c { links = change c.links l asked } in
    let looked : Stays d retrievals accepted gone = one_changes laws c retrievals accepted gone l asked (λ k e. asked_alike k) fits_asked stays in
    by_test (λ (t : List (Option ℕ)). Stays (record d { table = t }) retrievals accepted gone) (came_by (slice_get c.links l)) (table_anew d.links c.table) c.table (λ e. stays_placed laws d retrievals accepted gone looked) (λ e. looked)

stays_all_seen : (laws : StepsKeepPlaces) (c : LinkSet) (retrievals : ℕ → List Msu) (accepted : List Msu) (gone : List Gone) → Stays c retrievals accepted gone → Stays (all_seen c) retrievals accepted gone
unfolding all_seen
stays_all_seen laws c retrievals accepted gone stays =
    let d : LinkSet = record c { links = map asked c.links } in
    let looked : Stays d retrievals accepted gone = all_change laws c retrievals accepted gone asked asked_alike fits_asked stays in
    by_test (λ (t : List (Option ℕ)). Stays (record d { table = t }) retrievals accepted gone) (list_any came_first c.links) (table_anew d.links c.table) c.table (λ e. stays_placed laws d retrievals accepted gone looked) (λ e. looked)

-- ---- level 3 admits a link

pub stays_admitted : (laws : StepsKeepPlaces) (c : LinkSet) (retrievals : ℕ → List Msu) (accepted : List Msu) (gone : List Gone) (l : ℕ) (way : Bool) → Stays c retrievals accepted gone
    → Stays (after_admission c l way) retrievals accepted gone
unfolding after_admission
stays_admitted laws c retrievals accepted gone l way stays =
    let d : LinkSet = record c { links = change c.links l (admits_at way) } in
    let said : Stays d retrievals accepted gone =
    one_changes laws c retrievals accepted gone l (admits_at way) (λ k e. (refl, refl)) (λ k ms x. fits_alike k.availability (admits_at way k).availability ms refl refl x) stays in
    by_test (λ (t : List (Option ℕ)). Stays (record d { table = t }) retrievals accepted gone) (admits_by way (slice_get c.links l)) (table_anew d.links c.table) c.table (λ e. stays_placed laws d retrievals accepted gone said) (λ e. said)

-- ---- a call of one terminal

pub changed_is : (ks : List Link) (l : ℕ) (before after : Link) → slice_get ks l ≡ Some before → slice_set ks l after ≡ change ks l (λ k. after)
unfolding change
changed_is ks l before after there = sym (ap (set_at ks l (λ k. after)) there)

apart_by : (h x g left : List Msu) → h ≡ left ++ g → (x ≡ []) ⊎ (h ≡ []) → (x ≡ []) ⊎ (g ≡ [])
apart_by h x g left e (inl none) = inl none
apart_by h x g left e (inr none) = inr (append-nil_right left g (sym e ∙ none))

order_left : (h x g left before after : List Msu) → h ≡ before → before ≡ left ++ after → g ≡ after → h ++ x ≡ left ++ g ++ x
order_left h x g left before after e loses is = rw (e, loses, is) refl

one_works : (laws : StepsKeepPlaces) (c : LinkSet) (retrievals : ℕ → List Msu) (accepted : List Msu) (gone : List Gone) (l : ℕ) (before after : Link) (left : List Msu) → Stays c retrievals accepted gone
    → slice_get c.links l ≡ Some before → messages before ≡ left ++ messages after → after.points ≡ before.points → ((ms : List Msu) → FitsAvailability before.availability ms → FitsAvailability after.availability ms)
    → Stays (record c { links = change c.links l (λ k. after) }) retrievals accepted (gone ++ acknowledged left)
one_works laws c retrievals accepted gone l before after left stays there kept points alike =
    let d : LinkSet = record c { links = change c.links l (λ k. after) } in
    let here : held_at c l ≡ messages before = ap held_by there in
    let now : held_at d l ≡ messages after = ap held_by (change_here (λ k. after) c.links l (Some before) there) in
    let fits : FitsLink (points_of c) before (retrievals l) = fits_there (points_of c) c.links retrievals l before stays.fits there in
    record {
      places = leaves laws l c d retrievals retrievals accepted left gone (gone ++ acknowledged left) stays.places (gone_marked false gone left)
          (order_left (held_at c l) (retrievals l) (held_at d l) left (messages before) (messages after) here kept now)
          (apart_by (held_at c l) (retrievals l) (held_at d l) left (here ∙ kept ∙ ap (λ (x : List Msu). left ++ x) (sym now)) (stays.places.alone l))
          (λ j h. ap held_by (change_other (λ k. after) c.links l j h)) (λ j h. refl) refl;
      fits = fits_change (points_of c) (λ k. after) c.links retrievals l stays.fits (λ k e x. less_fits (points_of c) before after (retrievals l) left kept points (alike (retrievals l) fits.availability) fits);
      table = stays.table;
    }

same_set : (c : LinkSet) (ks new : List Link) (l : ℕ) (before after : Link) → slice_get c.links l ≡ Some before → new ≡ slice_set c.links l after
    → record c { links = change c.links l (λ k. after) } ≡ record c { links = new }
same_set c ks new l before after there is = ap (λ (xs : List Link). record c { links = xs }) (sym (is ∙ changed_is c.links l before after there))

-- after any such call: some of the oldest messages left, and no mark of a changeover changed
pub alone_works : (laws : StepsKeepPlaces) (did : Link → Link → Type 0) (c : LinkSet) (retrievals : ℕ → List Msu) (accepted : List Msu) (gone : List Gone) (l : ℕ) (new : List Link) (left : List Msu)
    → Stays c retrievals accepted gone → (at : AtLink did l c.links new) → messages at.before ≡ left ++ messages at.after → at.after.points ≡ at.before.points
    → ((ms : List Msu) → FitsAvailability at.before.availability ms → FitsAvailability at.after.availability ms) → Stays (record c { links = new }) retrievals accepted (gone ++ acknowledged left)
alone_works laws did c retrievals accepted gone l new left stays at kept points alike =
    subst (λ (x : LinkSet). Stays x retrievals accepted (gone ++ acknowledged left)) (same_set c c.links new l at.before at.after at.there at.links)
    (one_works laws c retrievals accepted gone l at.before at.after left stays at.there kept points alike)

pub seen_works : (laws : StepsKeepPlaces) (did : Link → Link → Type 0) (c d : LinkSet) (retrievals : ℕ → List Msu) (accepted : List Msu) (gone : List Gone) (l : ℕ) (links : List Link) (left : List Msu)
    → Stays c retrievals accepted gone → (at : AtLink did l c.links links) → d ≡ seen l (record c { links = links }) → messages at.before ≡ left ++ messages at.after → at.after.points ≡ at.before.points
    → ((ms : List Msu) → FitsAvailability at.before.availability ms → FitsAvailability at.after.availability ms) → Stays d retrievals accepted (gone ++ acknowledged left)
seen_works laws did c d retrievals accepted gone l links left stays at set kept points alike =
    subst (λ (x : LinkSet). Stays x retrievals accepted (gone ++ acknowledged left)) (sym set)
    (stays_seen laws (record c { links = links }) retrievals accepted (gone ++ acknowledged left) l (alone_works laws did c retrievals accepted gone l links left stays at kept points alike))

pub link_works : (laws : StepsKeepPlaces) (did : Link → Link → Type 0) (c d : LinkSet) (retrievals : ℕ → List Msu) (accepted : List Msu) (gone : List Gone) (l : ℕ) (left : List Msu)
    → Stays c retrievals accepted gone → (by : ByLink did l c d) → messages by.at.before ≡ left ++ messages by.at.after → by.at.after.points ≡ by.at.before.points
    → ((ms : List Msu) → FitsAvailability by.at.before.availability ms → FitsAvailability by.at.after.availability ms) → Stays d retrievals accepted (gone ++ acknowledged left)
link_works laws did c d retrievals accepted gone l left stays by kept points alike =
    let b : LinkSet = record c { gone = c.gone ++ acknowledged (left_of by.at.before by.at.after) } in
    seen_works laws did b d retrievals accepted gone l by.links left (listed c c.accepted b.gone retrievals accepted gone stays) by.at by.set kept points alike

-- the messages that left, and those that stay
pub part_messages : (a b : Link) (left : List Msu) → b.points ≡ a.points → held a ≡ left ++ held b → messages a ≡ unbound a.points left ++ messages b
part_messages a b left points e =
    ap (unbound a.points) e ∙ unbound-append a.points left (held b) ∙ ap (λ (p : Points). unbound a.points left ++ unbound p (held b)) (sym points)

pub same_messages : (a b : Link) → b.points ≡ a.points → held a ≡ held b → messages a ≡ messages b
same_messages a b points e = ap (unbound a.points) e ∙ ap (λ (p : Points). unbound p (held b)) (sym points)

-- no messages left
pub alone_keeps : (laws : StepsKeepPlaces) (did : Link → Link → Type 0) (c d : LinkSet) (retrievals : ℕ → List Msu) (accepted : List Msu) (gone : List Gone) (l : ℕ) → Stays c retrievals accepted gone
    → (by : Alone did l c d) → held by.at.before ≡ held by.at.after → by.at.after.points ≡ by.at.before.points → by.at.after.availability.changing ≡ by.at.before.availability.changing → by.at.after.availability.failed ≡ by.at.before.availability.failed
    → Stays d retrievals accepted gone
alone_keeps laws did c d retrievals accepted gone l stays by kept points changing failed =
    subst (λ (x : LinkSet). Stays x retrievals accepted gone) (sym by.set)
    (subst (λ (g : List Gone). Stays (record c { links = by.links }) retrievals accepted g) (gone_none gone)
    (alone_works laws did c retrievals accepted gone l by.links [] stays by.at (same_messages by.at.before by.at.after points kept) points (λ ms x. fits_alike by.at.before.availability by.at.after.availability ms changing failed x)))

pub link_keeps : (laws : StepsKeepPlaces) (did : Link → Link → Type 0) (c d : LinkSet) (retrievals : ℕ → List Msu) (accepted : List Msu) (gone : List Gone) (l : ℕ) → Stays c retrievals accepted gone
    → (by : ByLink did l c d) → held by.at.before ≡ held by.at.after → by.at.after.points ≡ by.at.before.points → by.at.after.availability.changing ≡ by.at.before.availability.changing → by.at.after.availability.failed ≡ by.at.before.availability.failed
    → Stays d retrievals accepted gone
link_keeps laws did c d retrievals accepted gone l stays by kept points changing failed =
    subst (λ (g : List Gone). Stays d retrievals accepted g) (gone_none gone) (link_works laws did c d retrievals accepted gone l [] stays by (same_messages by.at.before by.at.after points kept) points (λ ms x. fits_alike by.at.before.availability by.at.after.availability ms changing failed x))

-- ---- ticks

transceiver_by : (t : Processes) (b : Bool) → (if b then with_book t (rebased t.book) else t).transceiver ≡ t.transceiver
transceiver_by t true = refl
transceiver_by t false = refl

pub transceiver_tidied : (t : Processes) → (tidied t).transceiver ≡ t.transceiver
unfolding tidied
transceiver_tidied t = transceiver_by t (is_low t)

held_roomy : (k : Link) → Alike (roomy k) k
held_roomy k = (ap (λ h. unbound k.points h.sender.kept) (transceiver_tidied k.terminal.processes), refl)

held_passed : (law : KeptLaw) (n : ℕ) (k : Link) → Alike (passed n k) k
held_passed law n k = (ap (unbound k.points) (sym (law.events (Advance n) k.terminal.processes).kept), refl)

pub stays_roomy : (laws : StepsKeepPlaces) (c : LinkSet) (retrievals : ℕ → List Msu) (accepted : List Msu) (gone : List Gone) → Stays c retrievals accepted gone
    → Stays (record c { links = with_room c.links }) retrievals accepted gone
stays_roomy laws c retrievals accepted gone stays = all_change laws c retrievals accepted gone roomy held_roomy (λ k ms x. x) stays

pub stays_ticked : (laws : StepsKeepPlaces) (law : KeptLaw) (c : LinkSet) (retrievals : ℕ → List Msu) (accepted : List Msu) (gone : List Gone) (n : ℕ) → Stays c retrievals accepted gone
    → Stays (after_ticks n c) retrievals accepted gone
unfolding after_ticks
stays_ticked laws law c retrievals accepted gone n stays =
    let room : LinkSet = record c { links = with_room c.links } in
    stays_all_seen laws (record c { links = map (passed n) (with_room c.links) }) retrievals accepted gone
    (all_change laws room retrievals accepted gone (passed n) (held_passed law n) (λ k ms x. fits_waits n k.availability ms x) (stays_roomy laws c retrievals accepted gone stays))

-- ---- room on some links

abbrev pub PartOf : (Link → Link) → Option Link → Option Link → Type 0
PartOf f new old = (new ≡ option_map f old) ⊎ (new ≡ old)

pub part_at : (f : Link → Link) (ks : List Link) (n j : ℕ) → PartOf f (slice_get (map f (take n ks) ++ drop n ks) j) (slice_get ks j)
part_at f [] zero j = inr refl
part_at f [] (suc n) j = inr refl
part_at f (k ∷ ks) zero j = inr refl
part_at f (k ∷ ks) (suc n) zero = inl refl
part_at f (k ∷ ks) (suc n) (suc j) = part_at f ks n j

held_part : (new old : Option Link) → PartOf roomy new old → held_by new ≡ held_by old
held_part new None (inl e) = ap held_by e
held_part new (Some k) (inl e) = ap held_by e ∙ (held_roomy k).0
held_part new old (inr e) = ap held_by e

fits_part : (p : Points) (new old : Option Link) (ms : List Msu) → PartOf roomy new old → FitsAt p old ms → FitsAt p new ms
fits_part p new None ms (inl e) fits = subst (λ (o : Option Link). FitsAt p o ms) (sym e) fits
fits_part p new (Some k) ms (inl e) fits = subst (λ (o : Option Link). FitsAt p o ms) (sym e) (fits_held p k (roomy k) ms fits.availability (held_roomy k) fits)
fits_part p new old ms (inr e) fits = subst (λ (o : Option Link). FitsAt p o ms) (sym e) fits

pub stays_lacking : (laws : StepsKeepPlaces) (c d : LinkSet) (retrievals : ℕ → List Msu) (accepted : List Msu) (gone : List Gone) → Stays c retrievals accepted gone → NoRoom c d → Stays d retrievals accepted gone
stays_lacking laws c d retrievals accepted gone stays none =
    let at : (j : ℕ) → PartOf roomy (slice_get none.links j) (slice_get c.links j) =
    λ j. subst (λ (ks : List Link). PartOf roomy (slice_get ks j) (slice_get c.links j)) (sym none.lacks.links) (part_at roomy c.links none.lacks.front j) in
    let e : LinkSet = record c { links = none.links } in
    let now : Stays e retrievals accepted gone = record {
      places = quiet laws c e retrievals accepted gone (λ j. held_part (slice_get none.links j) (slice_get c.links j) (at j)) refl stays.places;
      fits = λ j. fits_part (points_of c) (slice_get none.links j) (slice_get c.links j) (retrievals j) (at j) (stays.fits j);
      table = stays.table;
    } in
    subst (λ (x : LinkSet). Stays x retrievals accepted gone) (sym none.set) now
