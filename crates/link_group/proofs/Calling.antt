-- Messages to send, and retrieved messages.
use Rattle.std.proofs.Common.{◌≡◌, ◌≢◌, ℕ, ◌+◌, ◌-◌, ◌^◌, ◌<◌, ◌==◌, Bool, true, false, cond, List, [], ◌∷◌, ◌++◌, Option, Some, None, take, drop, refl, sym, ap, ◌∙◌, subst, inl, inr}
use Rattle.std.specs.Prelude.{◌⊎◌, All, min, is_some, if◌then◌else◌, slice_get}
use Rattle.std.proofs.lemmas.Bool.Decides.{eqb_tells}
use Rattle.std.proofs.lemmas.List.{append-nil, take-append-drop, nil_from_length}
use Rattle.std.proofs.lemmas.List.Elements.{All-push}
use Rattle.plain_laws.proofs.Options.{some_none, row_passes}
use Rattle.resend_store.specs.declared.messages.Msu.{Msu}
use Rattle.resend_store.specs.Window.{unacknowledged}
use Rattle.group_changeover.specs.declared.availability.Changing.{Changing}
use Rattle.group_changeover.specs.declared.availability.Availability.{Availability}
use Rattle.group_changeover.specs.Laws.{StepsKeepPlaces}
use Rattle.group_changeover.specs.Limits.{SELECTIONS}
use Rattle.group_changeover.specs.Availability.{retrieval_in, with_retrieval}
use Rattle.group_changeover.specs.Sharing.{selection_of, is_on, of, link_of, counts_of}
use Rattle.group_changeover.specs.declared.bound.Points.{Points}
use Rattle.group_changeover.specs.Bound.{is_bound, unbound}
use Rattle.group_changeover.proofs.Unbound.{IsUnbound, unbound-nil, unbound-append, unbound-one, unbound-other, all-unbound}
use Rattle.group_changeover.specs.declared.errors.SendError.TheVariants as send
use Rattle.group_changeover.specs.declared.errors.RetrieveError.{RetrieveError}
use Rattle.group_changeover.specs.declared.errors.RetrieveError.TheVariants as retrieve
use Rattle.group_changeover.specs.declared.errors.AbandonError.TheVariants as abandon
use Rattle.link_group.specs.declared.link.Link.{Link}
use Rattle.link_processes.specs.Laws.{KeptLaw}
use Rattle.link_group.specs.OneLink.{number_behind, window, held, messages, handed_by, unknown, is_changing, put_fault, puts, unsure_by, retrieve_fault, retrieve_fault_by, retrieve_fault_in, accepted_in, accepted_of, lacking, hands_out, abandon_by, abandon_fault}
use Rattle.link_group.specs.Links.{change, fault_at}
use Rattle.link_group.specs.Failing.{handed, given_up, messages_by, none_known, sent_by}
use Rattle.link_group.specs.Moving.{retrieval_by}
use Rattle.link_group.specs.Set.{LinkSet, points_of, send_fault, send_fault_by, change_by, sent, bound_at}
use Rattle.link_group.specs.Changing.{retrieve_fault_at, after_retrieve, messages_for, abandon_fault_at, after_abandon, unsent_at}
use Rattle.link_group.specs.Laws.{held_by, held_at}
use Rattle.link_group.specs.declared.gone.Gone.{Gone}
use Rattle.link_group.specs.Gone.{acknowledged, unsure, messages_gone, told_front, unacknowledged_at, first_of}
use Rattle.link_group.proofs.Getting.{change_here, change_other, held_changed}
use Rattle.link_group.proofs.Fitting.{IsSmall, none_small, FitsAvailability, FitsLink, Alike, fits_there, fits_change, fits_changed, fits_held, back_small}
use Rattle.link_group.proofs.Staying.{Stays, listed, gone_marked, at_one, leaves, quiet}

-- ---- retrievals

-- the messages retrieved from each link, with those of one link changed
abbrev pub with_retrieval_of : (ℕ → List Msu) → ℕ → List Msu → ℕ → List Msu
with_retrieval_of retrievals l ms j = if j == l then ms else retrievals j

equal_retrieval : (retrievals : ℕ → List Msu) (l j : ℕ) (ms : List Msu) → ((j == l) ≡ true) × (j ≡ l) ⊎ ((j == l) ≡ false) × (j ≢ l) → j ≡ l → with_retrieval_of retrievals l ms j ≡ ms
equal_retrieval retrievals l j ms (inl x) e = ap (λ (b : Bool). if b then ms else retrievals j) x.0
equal_retrieval retrievals l j ms (inr x) e = absurd (x.1 e)

pub retrieval_here : (retrievals : ℕ → List Msu) (l : ℕ) (ms : List Msu) → with_retrieval_of retrievals l ms l ≡ ms
retrieval_here retrievals l ms = equal_retrieval retrievals l l ms (eqb_tells l l) refl

other_retrieval : (retrievals : ℕ → List Msu) (l j : ℕ) (ms : List Msu) → ((j == l) ≡ true) × (j ≡ l) ⊎ ((j == l) ≡ false) × (j ≢ l) → (j ≡ l → ⊥) → with_retrieval_of retrievals l ms j ≡ retrievals j
other_retrieval retrievals l j ms (inl x) h = absurd (h x.1)
other_retrieval retrievals l j ms (inr x) h = ap (λ (b : Bool). if b then ms else retrievals j) x.0

pub retrieval_other : (retrievals : ℕ → List Msu) (l j : ℕ) (ms : List Msu) → (j ≡ l → ⊥) → with_retrieval_of retrievals l ms j ≡ retrievals j
retrieval_other retrievals l j ms h = other_retrieval retrievals l j ms (eqb_tells j l) h

pub no_retrieval : (o : Option Changing) → is_some o ≡ false → retrieval_by o ≡ None
no_retrieval None e = refl
no_retrieval (Some c) e = let f : true ≡ false = e in cc

-- ---- a message to send

free_link : (k : Link) → put_fault k ≡ None → is_changing k ≡ false
unfolding put_fault
free_link k e = (row_passes (is_changing k) send.Waiting _ e).0

one_none : (s : ℕ) (m : Msu) → is_on s m ≡ false → of s (m ∷ []) ≡ []
unfolding of
one_none s m e = ap (λ (b : Bool). cond b (m ∷ []) []) e

own_by : (s l : ℕ) (m : Msu) (table : List (Option ℕ)) → ((selection_of m == s) ≡ true) × (selection_of m ≡ s) ⊎ ((selection_of m == s) ≡ false) × (selection_of m ≢ s)
    → link_of table (selection_of m) ≡ Some l → (of s (m ∷ []) ≡ []) ⊎ (link_of table s ≡ Some l)
own_by s l m table (inl x) e = inr (ap (link_of table) (sym x.1) ∙ e)
own_by s l m table (inr x) e = inl (one_none s m x.0)

order_put : (h x g came : List Msu) → x ≡ [] → g ≡ h ++ came → h ++ x ++ came ≡ [] ++ g ++ x
order_put h x g came e f = rw (e, f) (ap (λ (y : List Msu). y ++ came) (append-nil h) ∙ sym (append-nil (h ++ came)))

puts_held : (m : Msu) (k : Link) → is_bound k.points m ≡ false → messages (puts m k) ≡ messages k ++ m ∷ []
unfolding puts
puts_held m k free =
    unbound-append k.points (held k) (m ∷ [])
    ∙ ap (λ (xs : List Msu). messages k ++ xs) (unbound-other k.points m [] free ∙ ap (λ (xs : List Msu). m ∷ xs) (unbound-nil k.points))

puts_same : (m : Msu) (k : Link) → (puts m k).points ≡ k.points
unfolding puts
puts_same m k = refl

puts_marks : (m : Msu) (k : Link) (ms : List Msu) → FitsAvailability k.availability ms → FitsAvailability (puts m k).availability ms
unfolding puts
puts_marks m k ms fits = fits

puts_fits : (p : Points) (m : Msu) (k : Link) (ms : List Msu) → selection_of m < SELECTIONS → is_bound p m ≡ false → FitsLink p k ms → FitsLink p (puts m k) ms
puts_fits p m k ms small free fits = record {
  availability = puts_marks m k ms fits.availability;
  small = subst (λ (xs : List Msu). All IsSmall xs) (sym (puts_held m k (ap (λ (q : Points). is_bound q m) fits.points ∙ free)))
      (All-push IsSmall (messages k) m fits.small small);
  small_retrieval = fits.small_retrieval;
  points = puts_same m k ∙ fits.points;
  unbound = fits.unbound;
}

send_at : (laws : StepsKeepPlaces) (c : LinkSet) (retrievals : ℕ → List Msu) (accepted : List Msu) (gone : List Gone) (m : Msu) (l : ℕ) (k : Link) → Stays c retrievals accepted gone
    → link_of c.table (selection_of m) ≡ Some l → slice_get c.links l ≡ Some k → put_fault k ≡ None → selection_of m < SELECTIONS → is_bound (points_of c) m ≡ false
    → Stays (record c { links = change c.links l (puts m) }) retrievals (accepted ++ m ∷ []) gone
send_at laws c retrievals accepted gone m l k stays link there free small other =
    let d : LinkSet = record c { links = change c.links l (puts m) } in
    let fits : FitsLink (points_of c) k (retrievals l) = fits_there (points_of c) c.links retrievals l k stays.fits there in
    let none : retrievals l ≡ [] = fits.availability.idle (no_retrieval k.availability.changing (free_link k free)) in
    let free_m : is_bound k.points m ≡ false = ap (λ (q : Points). is_bound q m) fits.points ∙ other in
    let grows : held_at d l ≡ held_at c l ++ m ∷ [] = ap held_by (change_here (puts m) c.links l (Some k) there) ∙ puts_held m k free_m ∙ ap (λ (o : Option Link). held_by o ++ m ∷ []) (sym there) in
    record {
      places = at_one laws l c d retrievals retrievals accepted (m ∷ []) [] gone gone stays.places (sym (append-nil (messages_gone gone)))
          (λ s lt. own_by s l m c.table (eqb_tells (selection_of m) s) link) (order_put (held_at c l) (retrievals l) (held_at d l) (m ∷ []) none grows) (inl none)
          (λ j h. ap held_by (change_other (puts m) c.links l j h)) (λ j h. refl) refl;
      fits = fits_change (points_of c) (puts m) c.links retrievals l stays.fits (λ x e f. puts_fits (points_of c) m x (retrievals l) small other f);
      table = stays.table;
    }

send_there : (laws : StepsKeepPlaces) (c : LinkSet) (retrievals : ℕ → List Msu) (accepted : List Msu) (gone : List Gone) (m : Msu) (l : ℕ) (o : Option Link) → Stays c retrievals accepted gone
    → link_of c.table (selection_of m) ≡ Some l → slice_get c.links l ≡ o → fault_at send.NoLink put_fault o ≡ None → selection_of m < SELECTIONS → is_bound (points_of c) m ≡ false
    → Stays (record c { links = change c.links l (puts m) }) retrievals (accepted ++ m ∷ []) gone
send_there laws c retrievals accepted gone m l None stays link there free small other = absurd (some_none free)
send_there laws c retrievals accepted gone m l (Some k) stays link there free small other = send_at laws c retrievals accepted gone m l k stays link there free small other

send_by : (laws : StepsKeepPlaces) (c : LinkSet) (retrievals : ℕ → List Msu) (accepted : List Msu) (gone : List Gone) (m : Msu) (o : Option ℕ) → Stays c retrievals accepted gone
    → link_of c.table (selection_of m) ≡ o → send_fault_by c.links o ≡ None → selection_of m < SELECTIONS → is_bound (points_of c) m ≡ false
    → Stays (record c { links = change_by c.links o (puts m) }) retrievals (accepted ++ m ∷ []) gone
send_by laws c retrievals accepted gone m None stays link free small other = absurd (some_none free)
send_by laws c retrievals accepted gone m (Some l) stays link free small other = send_there laws c retrievals accepted gone m l (slice_get c.links l) stays link refl free small other

pub stays_sent : (laws : StepsKeepPlaces) (c : LinkSet) (retrievals : ℕ → List Msu) (accepted : List Msu) (gone : List Gone) (m : Msu) → Stays c retrievals accepted gone
    → send_fault c m ≡ None → selection_of m < SELECTIONS → Stays (sent c m) retrievals (accepted ++ m ∷ []) gone
unfolding send_fault sent
stays_sent laws c retrievals accepted gone m stays free small =
    let first = row_passes (is_bound (points_of c) m) send.Bound _ free in
    listed (record c { links = change_by c.links (link_of c.table (selection_of m)) (puts m) }) (c.accepted ++ m ∷ []) c.gone retrievals (accepted ++ m ∷ []) gone
    (send_by laws c retrievals accepted gone m (link_of c.table (selection_of m)) stays refl first.1 small first.0)

-- ---- a message bound to a link

binds_held : (m : Msu) (k : Link) → is_bound k.points m ≡ true → messages (puts m k) ≡ messages k
unfolding puts
binds_held m k bound =
    unbound-append k.points (held k) (m ∷ []) ∙ ap (λ (xs : List Msu). messages k ++ xs) (unbound-one k.points m bound) ∙ append-nil (messages k)

pub stays_bound : (laws : StepsKeepPlaces) (c : LinkSet) (retrievals : ℕ → List Msu) (accepted : List Msu) (gone : List Gone) (l : ℕ) (m : Msu) → Stays c retrievals accepted gone
    → is_bound (points_of c) m ≡ true → Stays (bound_at c l m) retrievals accepted gone
unfolding bound_at
stays_bound laws c retrievals accepted gone l m stays bound =
    let alike : (k : Link) → slice_get c.links l ≡ Some k → Alike (puts m k) k = λ k there.
    let fits : FitsLink (points_of c) k (retrievals l) = fits_there (points_of c) c.links retrievals l k stays.fits there in
    (binds_held m k (ap (λ (q : Points). is_bound q m) fits.points ∙ bound), puts_same m k) in
    record {
      places = quiet laws c (record c { links = change c.links l (puts m) }) retrievals accepted gone (λ j. held_changed (puts m) c.links l j (λ k there. (alike k there).0)) refl stays.places;
      fits = fits_change (points_of c) (puts m) c.links retrievals l stays.fits
          (λ k there f. fits_held (points_of c) k (puts m k) (retrievals l) (puts_marks m k (retrievals l) f.availability) (alike k there) f);
      table = stays.table;
    }

-- ---- messages are retrieved

gives_idle : (counts : List ℕ) (o : Option Changing) (ms : List Msu) → is_some o ≡ true → retrieval_by (retrieval_in counts o) ≡ None → ms ≡ []
gives_idle counts None ms some e = let f : false ≡ true = some in cc
gives_idle counts (Some c) ms some e = absurd (some_none e)

pub fits_given : (counts : List ℕ) (m : Availability) (ms new : List Msu) → is_some m.changing ≡ true → FitsAvailability m ms → FitsAvailability (with_retrieval counts m) new
fits_given counts m ms new some fits = record {
  idle = λ e. gives_idle counts m.changing new some e;
  failed = λ e. fits.failed some;
}

cut_at : (p : Points) (n : ℕ) (ms : List Msu) → unbound p ms ≡ unbound p (take n ms) ++ unbound p (drop n ms)
cut_at p n ms = ap (unbound p) (sym (take-append-drop n ms)) ∙ unbound-append p (take n ms) (drop n ms)

small_behind : (p : Points) (n : ℕ) (ms : List Msu) → All IsSmall (unbound p ms) → All IsSmall (unbound p (drop n ms))
small_behind p n ms small = back_small (unbound p (take n ms)) (unbound p (drop n ms)) (subst (λ (xs : List Msu). All IsSmall xs) (cut_at p n ms) small)

small_given : (k : Link) (fsn : Option ℕ) → All IsSmall (messages k) → All IsSmall (handed_by k fsn)
small_given k (Some n) small = small_behind k.points n (held k) small
small_given k None small = small_behind k.points (window k).sent (held k) small

given_held : (law : KeptLaw) (fsn : Option ℕ) (k : Link) → messages (hands_out fsn k) ≡ []
unfolding hands_out
given_held law fsn k = ap (unbound k.points) (law.retrievals (number_behind (window k) fsn) k.terminal.processes) ∙ unbound-nil k.points

given_same : (fsn : Option ℕ) (k : Link) → (hands_out fsn k).points ≡ k.points
unfolding hands_out
given_same fsn k = refl

given_marks : (fsn : Option ℕ) (k : Link) (ms : List Msu) → is_some k.availability.changing ≡ true → FitsAvailability k.availability ms → FitsAvailability (hands_out fsn k).availability (handed_by k fsn)
unfolding hands_out
given_marks fsn k ms some fits = fits_given (counts_of (handed_by k fsn)) k.availability ms (handed_by k fsn) some fits

given_fits : (law : KeptLaw) (p : Points) (fsn : Option ℕ) (k : Link) (ms : List Msu) → is_some k.availability.changing ≡ true → FitsLink p k ms → FitsLink p (hands_out fsn k) (handed_by k fsn)
given_fits law p fsn k ms some fits = record {
  availability = given_marks fsn k ms some fits.availability;
  small = subst (λ (xs : List Msu). All IsSmall xs) (sym (given_held law fsn k)) none_small;
  small_retrieval = small_given k fsn fits.small;
  points = given_same fsn k ∙ fits.points;
  unbound = subst (λ (q : Points). All (IsUnbound q) (handed_by k fsn)) fits.points (all-unbound k.points (lacking (window k) fsn));
}

order_given : (h x left ms g new : List Msu) → x ≡ [] → left ++ ms ≡ h → g ≡ [] → new ≡ ms → h ++ x ≡ left ++ g ++ new
order_given h x left ms g new e parts none is = rw (e, none, is) (append-nil h ∙ sym parts ∙ ap (λ (y : List Msu). y ++ ms) (sym (append-nil left)))

same_link : (a b : Link) → Some a ≡ Some b → a ≡ b
same_link a b e = cc

give_at : (laws : StepsKeepPlaces) (law : KeptLaw) (c : LinkSet) (retrievals : ℕ → List Msu) (accepted : List Msu) (gone more : List Gone) (l unsure : ℕ) (k : Link) (fsn : Option ℕ) (left : List Msu)
    (f : Link → Link) → Stays c retrievals accepted gone → slice_get c.links l ≡ Some k → retrieval_by k.availability.changing ≡ None → is_some k.availability.changing ≡ true
    → left ++ handed_by k fsn ≡ messages k → messages_gone more ≡ messages_gone gone ++ left → f k ≡ hands_out fsn k
    → Stays (record c { links = change c.links l f; unsure = unsure }) (with_retrieval_of retrievals l (handed_by k fsn)) accepted more
give_at laws law c retrievals accepted gone more l unsure k fsn left f stays there free some parts marked is =
    let d : LinkSet = record c { links = change c.links l f; unsure = unsure } in
    let ms : List Msu = handed_by k fsn in
    let fits : FitsLink (points_of c) k (retrievals l) = fits_there (points_of c) c.links retrievals l k stays.fits there in
    let none : retrievals l ≡ [] = fits.availability.idle free in
    let empty : held_at d l ≡ [] = ap held_by (change_here f c.links l (Some k) there) ∙ ap (λ (x : Link). messages x) is ∙ given_held law fsn k in
    let whole : left ++ ms ≡ held_at c l = parts ∙ ap held_by (sym there) in
    record {
      places = leaves laws l c d retrievals (with_retrieval_of retrievals l ms) accepted left gone more stays.places marked
          (order_given (held_at c l) (retrievals l) left ms (held_at d l) (with_retrieval_of retrievals l ms l) none whole empty (retrieval_here retrievals l ms)) (inr empty)
          (λ j h. ap held_by (change_other f c.links l j h)) (λ j h. retrieval_other retrievals l j ms h) refl;
      fits = fits_changed (points_of c) f c.links retrievals (with_retrieval_of retrievals l ms) ms l stays.fits (λ j h. retrieval_other retrievals l j ms h) (retrieval_here retrievals l ms)
          (λ x e. let same : x ≡ k = same_link x k (sym e ∙ there) in
          subst (λ (y : Link). FitsLink (points_of c) y ms) (sym (ap f same ∙ is)) (given_fits law (points_of c) fsn k (retrievals l) some fits))
          (λ e. absurd (some_none (sym there ∙ e)));
      table = stays.table;
    }

-- ---- by the number reported

none_by : (n : ℕ) (b : Bool) → (n == 0) ≡ b → ((n == 0) ≡ true) × (n ≡ 0) ⊎ ((n == 0) ≡ false) × (n ≢ 0) → (if b then None else Some (retrieve.Unsure n)) ≡ None → n ≡ 0
none_by n b is (inl x) e = x.1
none_by n true is (inr x) e = let f : false ≡ true = sym x.0 ∙ is in cc
none_by n false is (inr x) e = absurd (some_none e)

none_unknown : (k : Link) → unknown k ≡ 0 → unbound k.points (unacknowledged (window k)) ≡ []
unfolding unknown
none_unknown k e = nil_from_length (unbound k.points (unacknowledged (window k))) e

told_parts : (k : Link) (n : Option ℕ) → unsure_by (unknown k) n ≡ None → unbound k.points (first_of n (held k)) ++ handed_by k n ≡ messages k
told_parts k (Some n) e = sym (cut_at k.points n (held k))
told_parts k None e =
    let none : unbound k.points (take (window k).sent (held k)) ≡ [] = none_unknown k (none_by (unknown k) (unknown k == 0) refl (eqb_tells (unknown k) 0) e) in
    ap (λ (xs : List Msu). xs ++ handed_by k None) (unbound-nil k.points ∙ sym none) ∙ sym (cut_at k.points (window k).sent (held k))

abbrev pub Told : Link → Type 0
Told k = (retrieval_by k.availability.changing ≡ None) × (is_some k.availability.changing ≡ true) × (unsure_by (unknown k) (accepted_of k) ≡ None)

told_by : (k : Link) (o : Option Changing) → k.availability.changing ≡ o → retrieve_fault_by k o ≡ None → Told k
unfolding retrieve_fault_in accepted_of
told_by k None is e = absurd (some_none e)
told_by k (Some c) is e =
    let first = row_passes (is_some c.retrieval) retrieve.Waiting _ e in
    let second = row_passes _ retrieve.Waiting _ first.1 in
    (ap retrieval_by is ∙ retrieval_none c.retrieval first.0, ap is_some is, ap (λ (x : Option Changing). unsure_by (unknown k) (accepted_in x)) is ∙ second.1)
  where
    retrieval_none : (h : Option (List ℕ)) → is_some h ≡ false → h ≡ None
    retrieval_none None x = refl
    retrieval_none (Some counts) x = let f : true ≡ false = x in cc

told_of : (k : Link) → retrieve_fault k ≡ None → Told k
unfolding retrieve_fault
told_of k e = told_by k k.availability.changing refl e

retrieves_by : (laws : StepsKeepPlaces) (law : KeptLaw) (c : LinkSet) (retrievals : ℕ → List Msu) (accepted : List Msu) (gone : List Gone) (l : ℕ) (o : Option Link) → Stays c retrievals accepted gone
    → slice_get c.links l ≡ o → fault_at retrieve.NoLink retrieve_fault o ≡ None
    → Stays (record c { links = change c.links l handed }) (with_retrieval_of retrievals l (messages_by accepted_of o)) accepted (gone ++ acknowledged (told_front o))
retrieves_by laws law c retrievals accepted gone l None stays there e = absurd (some_none e)
retrieves_by laws law c retrievals accepted gone l (Some k) stays there e =
    let told : Told k = told_of k e in
    let left : List Msu = unbound k.points (first_of (accepted_of k) (held k)) in
    give_at laws law c retrievals accepted gone (gone ++ acknowledged left) l c.unsure k (accepted_of k) left handed stays there told.0 told.1
    (told_parts k (accepted_of k) told.2) (gone_marked false gone left) refl

pub stays_retrieved : (laws : StepsKeepPlaces) (law : KeptLaw) (c : LinkSet) (retrievals : ℕ → List Msu) (accepted : List Msu) (gone : List Gone) (l : ℕ) → Stays c retrievals accepted gone
    → retrieve_fault_at c l ≡ None
    → Stays (after_retrieve c l) (with_retrieval_of retrievals l (messages_for c l)) accepted (gone ++ acknowledged (told_front (slice_get c.links l)))
unfolding retrieve_fault_at after_retrieve messages_for
stays_retrieved laws law c retrievals accepted gone l stays e =
    listed (record c { links = change c.links l handed }) c.accepted (c.gone ++ acknowledged (told_front (slice_get c.links l))) _ accepted _
    (retrieves_by laws law c retrievals accepted gone l (slice_get c.links l) stays refl e)

-- ---- sent messages are given up

abbrev pub Unknown : Link → Type 0
Unknown k = (retrieval_by k.availability.changing ≡ None) × (is_some k.availability.changing ≡ true)

unsure_in : (a : Bool) (n : ℕ) (rest : Option RetrieveError) → (if a then Some retrieve.Waiting else rest) ≡ Some (retrieve.Unsure n) → a ≡ false
unsure_in true n rest e = cc
unsure_in false n rest e = refl

unknown_by : (k : Link) (n : ℕ) (o : Option Changing) → k.availability.changing ≡ o → retrieve_fault_by k o ≡ Some (retrieve.Unsure n) → Unknown k
unfolding retrieve_fault_in
unknown_by k n None is e = cc
unknown_by k n (Some c) is e = rw is (retrieval_none c.retrieval (unsure_in (is_some c.retrieval) n _ e), refl)
  where
    retrieval_none : (h : Option (List ℕ)) → is_some h ≡ false → h ≡ None
    retrieval_none None x = refl
    retrieval_none (Some counts) x = let f : true ≡ false = x in cc

unsure_by_fault : (k : Link) (o : Option RetrieveError) → retrieve_fault k ≡ o → abandon_by o ≡ None → Unknown k
unfolding retrieve_fault
unsure_by_fault k None is e = absurd (some_none e)
unsure_by_fault k (Some retrieve.NoLink) is e = absurd (some_none e)
unsure_by_fault k (Some retrieve.Waiting) is e = absurd (some_none e)
unsure_by_fault k (Some (retrieve.Unsure n)) is e = unknown_by k n k.availability.changing refl is
unsure_by_fault k (Some retrieve.NoMemory) is e = absurd (some_none e)

unknown_of : (k : Link) → abandon_fault k ≡ None → Unknown k
unfolding abandon_fault
unknown_of k e = unsure_by_fault k (retrieve_fault k) refl e

abandons_by : (laws : StepsKeepPlaces) (law : KeptLaw) (c : LinkSet) (retrievals : ℕ → List Msu) (accepted : List Msu) (gone : List Gone) (l count : ℕ) (o : Option Link) → Stays c retrievals accepted gone
    → slice_get c.links l ≡ o → fault_at abandon.NoLink abandon_fault o ≡ None
    → Stays (record c { links = change c.links l given_up; unsure = count }) (with_retrieval_of retrievals l (messages_by none_known o)) accepted (gone ++ unsure (unacknowledged_at o))
abandons_by laws law c retrievals accepted gone l count None stays there e = absurd (some_none e)
abandons_by laws law c retrievals accepted gone l count (Some k) stays there e =
    let free : Unknown k = unknown_of k e in
    let left : List Msu = unbound k.points (unacknowledged (window k)) in
    give_at laws law c retrievals accepted gone (gone ++ unsure left) l count k None left given_up stays there free.0 free.1
    (sym (cut_at k.points (window k).sent (held k))) (gone_marked true gone left) refl

pub stays_abandoned : (laws : StepsKeepPlaces) (law : KeptLaw) (c : LinkSet) (retrievals : ℕ → List Msu) (accepted : List Msu) (gone : List Gone) (l : ℕ) → Stays c retrievals accepted gone
    → abandon_fault_at c l ≡ None
    → Stays (after_abandon c l) (with_retrieval_of retrievals l (unsent_at c l)) accepted (gone ++ unsure (unacknowledged_at (slice_get c.links l)))
unfolding abandon_fault_at after_abandon unsent_at
stays_abandoned laws law c retrievals accepted gone l stays e =
    let count : ℕ = min (2 ^ 64 - 1) (c.unsure + sent_by (slice_get c.links l)) in
    listed (record c { links = change c.links l given_up; unsure = count }) c.accepted (c.gone ++ unsure (unacknowledged_at (slice_get c.links l))) _ accepted _
    (abandons_by laws law c retrievals accepted gone l count (slice_get c.links l) stays refl e)
