-- A diversion of retrieved messages, selection by selection.
use Rattle.std.proofs.Common.{◌≡◌, ◌≢◌, ℕ, ◌+◌, ◌<◌, ◌==◌, ◌%◌, zero, suc, Bool, true, false, not, cond, List, [], ◌∷◌, ◌++◌, Option, Some, None, length, slice_set, refl, sym, ap, ◌∙◌, subst, inl, inr, arith}
use Rattle.std.specs.Prelude.{◌⊎◌, All, if◌then◌else◌, slice_get}
use Rattle.std.proofs.lemmas.Bool.Decides.{eqb_tells}
use Rattle.std.proofs.lemmas.List.{nil_from_length}
use Rattle.std.proofs.lemmas.List.Elements.{All-append, All-filter, All-head}
use Rattle.plain_laws.proofs.Lists.{cons-nil}
use Rattle.plain_laws.proofs.Options.{some_none}
use Rattle.resend_store.specs.declared.messages.Msu.{Msu}
use Rattle.group_changeover.specs.Laws.{StepsKeepPlaces}
use Rattle.group_changeover.specs.Limits.{SELECTIONS}
use Rattle.group_changeover.specs.Places.{Diverts}
use Rattle.group_changeover.specs.Sharing.{selection_of, is_on, of, off, entry_by, link_of, pick}
use Rattle.group_changeover.specs.declared.bound.Points.{Points}
use Rattle.group_changeover.proofs.Equal.{Same, same}
use Rattle.group_changeover.proofs.Unbound.{IsUnbound, unbound-append, unbound-all}
use Rattle.group_changeover.proofs.Lists.{of-off, of-off_other}
use Rattle.group_changeover.specs.declared.errors.DivertFault.{DivertFault}
use Rattle.link_group.specs.declared.link.Link.{Link}
use Rattle.link_group.specs.OneLink.{held, messages}
use Rattle.link_group.specs.Moving.{retrieval_by, term_takes, takes_on, Diversion, take_fault, move_fault_by, move_fault, moved_by, moved, Diverted, goes_on, moves}
use Rattle.link_group.specs.Set.{LinkSet, points_of}
use Rattle.link_group.specs.Laws.{held_by, held_at}
use Rattle.link_group.specs.declared.gone.Gone.{Gone}
use Rattle.link_group.proofs.Calling.{with_retrieval_of, retrieval_here, retrieval_other}
use Rattle.link_group.proofs.Fitting.{IsSmall, FitsAvailability, FitsLink, FitsAt, Fits, fits_there, fits_change}
use Rattle.link_group.proofs.Getting.{set_here, set_other, change_here, change_other}
use Rattle.link_group.proofs.Staying.{places_with, Stays}

-- a set with the links and the table of a diversion
abbrev pub within : LinkSet → Diversion → LinkSet
within c d = record c { links = d.links; table = d.table }

-- The link is marked as having retrieved messages.
abbrev pub IsOut : Option Link → Type 0
IsOut None = ⊥
IsOut (Some k) = retrieval_by k.availability.changing ≡ None → ⊥

-- a link that may take messages: another one, without retrieved messages
pub record IsOther (l : ℕ) (retrievals : ℕ → List Msu) (t : ℕ) : Type 0 where
  pub other : t ≡ l → ⊥
  pub free : retrievals t ≡ []

abbrev pub Others : ℕ → (ℕ → List Msu) → List ℕ → Type 0
Others l retrievals ls = (i t : ℕ) → slice_get ls i ≡ Some t → IsOther l retrievals t

pub record Moving (c : LinkSet) (retrievals : ℕ → List Msu) (accepted : List Msu) (gone : List Gone) (l : ℕ) (d : Diversion) : Type 0 where
  pub stays : Stays (within c d) (with_retrieval_of retrievals l d.rest) accepted gone
  pub out : IsOut (slice_get d.links l)

pub takes_held : (p : Points) (ms : List Msu) (k : Link) → All (IsUnbound p) ms → k.points ≡ p → messages (takes_on ms k) ≡ messages k ++ ms
unfolding takes_on term_takes
takes_held p ms k free same =
    unbound-append k.points (held k) ms ∙ ap (λ (xs : List Msu). messages k ++ xs) (unbound-all k.points ms (subst (λ (q : Points). All (IsUnbound q) ms) (sym same) free))

takes_points : (ms : List Msu) (k : Link) → (takes_on ms k).points ≡ k.points
unfolding takes_on
takes_points ms k = refl

pub takes_availability : (ms : List Msu) (k : Link) → (takes_on ms k).availability ≡ k.availability
unfolding takes_on
takes_availability ms k = refl

pub fits_takes : (p : Points) (ms old : List Msu) (k : Link) → All IsSmall ms → All (IsUnbound p) ms → FitsLink p k old → FitsLink p (takes_on ms k) old
fits_takes p ms old k small free fits = record {
  availability = subst (λ m. FitsAvailability m old) (sym (takes_availability ms k)) fits.availability;
  small = subst (λ (xs : List Msu). All IsSmall xs) (sym (takes_held p ms k free fits.points)) (All-append IsSmall (messages k) ms fits.small small);
  small_retrieval = fits.small_retrieval;
  points = takes_points ms k ∙ fits.points;
  unbound = fits.unbound;
}

small_of : (s : ℕ) (ms : List Msu) → All IsSmall ms → All IsSmall (of s ms)
unfolding of
small_of s ms small = All-filter (is_on s) IsSmall ms small

small_off : (s : ℕ) (ms : List Msu) → All IsSmall ms → All IsSmall (off s ms)
unfolding off
small_off s ms small = All-filter (λ m. not (is_on s m)) IsSmall ms small

free_of : (p : Points) (s : ℕ) (ms : List Msu) → All (IsUnbound p) ms → All (IsUnbound p) (of s ms)
unfolding of
free_of p s ms free = All-filter (is_on s) (IsUnbound p) ms free

free_off : (p : Points) (s : ℕ) (ms : List Msu) → All (IsUnbound p) ms → All (IsUnbound p) (off s ms)
unfolding off
free_off p s ms free = All-filter (λ m. not (is_on s m)) (IsUnbound p) ms free

-- a link marked as having retrieved messages may have any in its hand
fits_other : (p : Points) (o : Option Link) (ms new : List Msu) → IsOut o → All IsSmall new → All (IsUnbound p) new → FitsAt p o ms → FitsAt p o new
fits_other p None ms new out small free fits = absurd out
fits_other p (Some k) ms new out small free fits = record {
  availability = record { idle = λ e. absurd (out e); failed = fits.availability.failed };
  small = fits.small;
  small_retrieval = small;
  points = fits.points;
  unbound = free;
}

small_at : (p : Points) (o : Option Link) (ms : List Msu) → IsOut o → FitsAt p o ms → All IsSmall ms
small_at p None ms out fits = absurd out
small_at p (Some k) ms out fits = fits.small_retrieval

free_at : (p : Points) (o : Option Link) (ms : List Msu) → IsOut o → FitsAt p o ms → All (IsUnbound p) ms
free_at p None ms out fits = absurd out
free_at p (Some k) ms out fits = fits.unbound

retrieved_anew_by : (p : Points) (ks : List Link) (retrievals : ℕ → List Msu) (l j : ℕ) (old new : List Msu) → Same j l → IsOut (slice_get ks l) → All IsSmall new → All (IsUnbound p) new
    → Fits p ks (with_retrieval_of retrievals l old) → FitsAt p (slice_get ks j) (with_retrieval_of retrievals l new j)
retrieved_anew_by p ks retrievals l j old new (inl e) out small free fits =
    rw (e, retrieval_here retrievals l new) (fits_other p (slice_get ks l) old new out small free (subst (λ (ms : List Msu). FitsAt p (slice_get ks l) ms) (retrieval_here retrievals l old) (fits l)))
retrieved_anew_by p ks retrievals l j old new (inr other) out small free fits =
    rw (retrieval_other retrievals l j new other) (subst (λ (ms : List Msu). FitsAt p (slice_get ks j) ms) (retrieval_other retrievals l j old other) (fits j))

-- fewer messages are retrieved
pub fits_retrieved_anew : (p : Points) (ks : List Link) (retrievals : ℕ → List Msu) (l : ℕ) (old new : List Msu) → IsOut (slice_get ks l) → All IsSmall new → All (IsUnbound p) new
    → Fits p ks (with_retrieval_of retrievals l old) → Fits p ks (with_retrieval_of retrievals l new)
fits_retrieved_anew p ks retrievals l old new out small free fits = λ j. retrieved_anew_by p ks retrievals l j old new (same j l) out small free fits

-- ---- one selection

pub rest_small : (c : LinkSet) (retrievals : ℕ → List Msu) (accepted : List Msu) (gone : List Gone) (l : ℕ) (d : Diversion) → Moving c retrievals accepted gone l d → All IsSmall d.rest
rest_small c retrievals accepted gone l d m =
    small_at (points_of c) (slice_get d.links l) d.rest m.out
    (subst (λ (ms : List Msu). FitsAt (points_of c) (slice_get d.links l) ms) (retrieval_here retrievals l d.rest) (m.stays.fits l))

pub rest_free : (c : LinkSet) (retrievals : ℕ → List Msu) (accepted : List Msu) (gone : List Gone) (l : ℕ) (d : Diversion) → Moving c retrievals accepted gone l d
    → All (IsUnbound (points_of c)) d.rest
rest_free c retrievals accepted gone l d m =
    free_at (points_of c) (slice_get d.links l) d.rest m.out
    (subst (λ (ms : List Msu). FitsAt (points_of c) (slice_get d.links l) ms) (retrieval_here retrievals l d.rest) (m.stays.fits l))

some_of : (ms : List Msu) → (length ms == 0) ≡ false → ms ≡ [] → ⊥
some_of ms e none = let f : true ≡ false = sym (ap (λ (xs : List Msu). length xs == 0) none) ∙ e in cc

length_set : (ts : List (Option ℕ)) (s : ℕ) (x : Option ℕ) → length (slice_set ts s x) ≡ length ts
length_set [] s x = refl
length_set (t ∷ ts) zero x = refl
length_set (t ∷ ts) (suc s) x = ap (λ (n : ℕ). suc n) (length_set ts s x)

link_set : (ts : List (Option ℕ)) (s t : ℕ) → s < length ts → link_of (slice_set ts s (Some t)) s ≡ Some t
unfolding link_of
link_set ts s t h = ap entry_by (set_here ts s (Some t) h)

link_unset : (ts : List (Option ℕ)) (s r : ℕ) (x : Option ℕ) → (r ≡ s → ⊥) → link_of (slice_set ts s x) r ≡ link_of ts r
unfolding link_of
link_unset ts s r x h = ap entry_by (set_other ts s r x h)

pub moves_to : (laws : StepsKeepPlaces) (c : LinkSet) (retrievals : ℕ → List Msu) (accepted : List Msu) (gone : List Gone) (l s t : ℕ) (d : Diversion) (k : Link) → s < SELECTIONS
    → IsOther l retrievals t → slice_get d.links t ≡ Some k → (length (of s d.rest) == 0) ≡ false → Moving c retrievals accepted gone l d → Moving c retrievals accepted gone l (moved_by s d (Some t))
moves_to laws c retrievals accepted gone l s t d k small able there some m =
    let ms : List Msu = of s d.rest in
    let e : Diversion = moved_by s d (Some t) in
    let p = places_with (within c d) (with_retrieval_of retrievals l d.rest) accepted gone in
    let q = places_with (within c e) (with_retrieval_of retrievals l e.rest) accepted gone in
    let here : with_retrieval_of retrievals l d.rest l ≡ d.rest = retrieval_here retrievals l d.rest in
    let free : All (IsUnbound (points_of c)) d.rest = rest_free c retrievals accepted gone l d m in
    let fit : FitsLink (points_of c) k (with_retrieval_of retrievals l d.rest t) = fits_there (points_of c) d.links (with_retrieval_of retrievals l d.rest) t k m.stays.fits there in
    let held_t : held_at (within c e) t ≡ held_at (within c d) t ++ ms =
    ap held_by (change_here (takes_on ms) d.links t (Some k) there) ∙ takes_held (points_of c) ms k (free_of (points_of c) s d.rest free) fit.points ∙ ap (λ (o : Option Link). held_by o ++ ms) (sym there) in
    let table : s < length d.table = subst (λ (n : ℕ). s < n) (sym m.stays.table) small in
    let step : Diverts s l t p q = record {
      other = λ x. able.other (sym x);
      some = λ x. some_of ms some (ap (of s) (sym here) ∙ x);
      accepted = refl;
      gone = refl;
      free = retrieval_other retrievals l t d.rest able.other ∙ able.free;
      held = held_t ∙ ap (λ (x : List Msu). held_at (within c d) t ++ of s x) (sym here);
      retrieval = retrieval_here retrievals l (off s d.rest) ∙ ap (off s) (sym here);
      held_else = λ j h. ap held_by (change_other (takes_on ms) d.links t j h);
      retrieval_else = λ j h. retrieval_other retrievals l j (off s d.rest) h ∙ sym (retrieval_other retrievals l j d.rest h);
      link = link_set d.table s t table;
      link_else = λ r h. link_unset d.table s r (Some t) h;
    } in
    let all : All IsSmall d.rest = rest_small c retrievals accepted gone l d m in
    record {
      stays = record {
        places = laws.diverted s l t p q small m.stays.places step;
        fits = fits_change (points_of c) (takes_on ms) d.links (with_retrieval_of retrievals l (off s d.rest)) t
            (fits_retrieved_anew (points_of c) d.links retrievals l d.rest (off s d.rest) m.out (small_off s d.rest all) (free_off (points_of c) s d.rest free) m.stays.fits)
            (λ x here f. fits_takes (points_of c) ms (with_retrieval_of retrievals l (off s d.rest) t) x (small_of s d.rest all) (free_of (points_of c) s d.rest free) f);
        table = length_set d.table s (Some t) ∙ m.stays.table;
      };
      out = subst (λ (o : Option Link). IsOut o) (sym (change_other (takes_on ms) d.links t l (λ x. able.other (sym x)))) m.out;
    }

-- ---- selection after selection

move_there : (laws : StepsKeepPlaces) (c : LinkSet) (retrievals : ℕ → List Msu) (accepted : List Msu) (gone : List Gone) (l s t : ℕ) (d : Diversion) (o : Option Link) → s < SELECTIONS
    → IsOther l retrievals t → slice_get d.links t ≡ o → take_fault (length (of s d.rest)) o ≡ None → (length (of s d.rest) == 0) ≡ false → Moving c retrievals accepted gone l d
    → Moving c retrievals accepted gone l (moved_by s d (Some t))
move_there laws c retrievals accepted gone l s t d None small able there fault some m = absurd (some_none fault)
move_there laws c retrievals accepted gone l s t d (Some k) small able there fault some m = moves_to laws c retrievals accepted gone l s t d k small able there some m

move_by : (laws : StepsKeepPlaces) (c : LinkSet) (retrievals : ℕ → List Msu) (accepted : List Msu) (gone : List Gone) (l s : ℕ) (d : Diversion) (o : Option ℕ) → s < SELECTIONS
    → ((t : ℕ) → o ≡ Some t → IsOther l retrievals t) → move_fault_by d (length (of s d.rest)) o ≡ None → (length (of s d.rest) == 0) ≡ false → Moving c retrievals accepted gone l d
    → Moving c retrievals accepted gone l (moved_by s d o)
move_by laws c retrievals accepted gone l s d None small able fault some m = absurd (some_none fault)
move_by laws c retrievals accepted gone l s d (Some t) small able fault some m =
    move_there laws c retrievals accepted gone l s t d (slice_get d.links t) small (able t refl) refl fault some m

move_one : (laws : StepsKeepPlaces) (c : LinkSet) (retrievals : ℕ → List Msu) (accepted : List Msu) (gone : List Gone) (l s : ℕ) (ls : List ℕ) (d : Diversion) (b : Bool) → s < SELECTIONS
    → Others l retrievals ls → (length (of s d.rest) == 0) ≡ b → (if b then None else move_fault_by d (length (of s d.rest)) (pick ls s)) ≡ None → Moving c retrievals accepted gone l d
    → Moving c retrievals accepted gone l (if b then d else moved_by s d (pick ls s))
unfolding pick
move_one laws c retrievals accepted gone l s ls d true small able is fault m = m
move_one laws c retrievals accepted gone l s ls d false small able is fault m =
    move_by laws c retrievals accepted gone l s d (pick ls s) small (λ t e. able (s % length ls) t e) fault is m

pub stays_moving : (laws : StepsKeepPlaces) (c : LinkSet) (retrievals : ℕ → List Msu) (accepted : List Msu) (gone : List Gone) (l s : ℕ) (ls : List ℕ) (d : Diversion) → s < SELECTIONS
    → Others l retrievals ls → move_fault ls s d ≡ None → Moving c retrievals accepted gone l d → Moving c retrievals accepted gone l (moved ls s d)
unfolding move_fault moved
stays_moving laws c retrievals accepted gone l s ls d small able fault m = move_one laws c retrievals accepted gone l s ls d (length (of s d.rest) == 0) small able refl fault m

-- ---- no messages of the selections so far remain

equal_by : (a b : ℕ) → ((a == b) ≡ true) × (a ≡ b) ⊎ ((a == b) ≡ false) × (a ≢ b) → (a == b) ≡ true → a ≡ b
equal_by a b (inl x) e = x.1
equal_by a b (inr x) e = let f : false ≡ true = sym x.0 ∙ e in cc

abbrev pub NoneBelow : ℕ → List Msu → Type 0
NoneBelow s ms = (r : ℕ) → r < s → of r ms ≡ []

off_below : (s r : ℕ) (ms : List Msu) → r < s + 1 → Same r s → NoneBelow s ms → of r (off s ms) ≡ []
off_below s r ms h (inl e) none = rw e (of-off s ms)
off_below s r ms h (inr other) none = of-off_other r s ms other ∙ none r (omega (arith, h, other))

here_below : (s r : ℕ) (ms : List Msu) → r < s + 1 → Same r s → of s ms ≡ [] → NoneBelow s ms → of r ms ≡ []
here_below s r ms h (inl e) here none = rw e here
here_below s r ms h (inr other) here none = none r (omega (arith, h, other))

none_more : (ls : List ℕ) (s : ℕ) (d : Diversion) (b : Bool) (o : Option ℕ) → (length (of s d.rest) == 0) ≡ b → (if b then None else move_fault_by d (length (of s d.rest)) o) ≡ None
    → NoneBelow s d.rest → NoneBelow (s + 1) (if b then d else moved_by s d o).rest
none_more ls s d true o is fault none =
    λ r h. here_below s r d.rest h (same r s) (nil_from_length (of s d.rest) (equal_by (length (of s d.rest)) 0 (eqb_tells (length (of s d.rest)) 0) is)) none
none_more ls s d false None is fault none = absurd (some_none fault)
none_more ls s d false (Some t) is fault none = λ r h. off_below s r d.rest h (same r s) none

pub none_behind : (ls : List ℕ) (s : ℕ) (d : Diversion) → move_fault ls s d ≡ None → NoneBelow s d.rest → NoneBelow (s + 1) (moved ls s d).rest
unfolding move_fault moved
none_behind ls s d fault none = none_more ls s d (length (of s d.rest) == 0) (pick ls s) refl fault none

-- a diversion that went as far as it can
pub record Gone_on (c : LinkSet) (retrievals : ℕ → List Msu) (accepted : List Msu) (gone : List Gone) (l : ℕ) (w : Diverted) : Type 0 where
  pub moving : Moving c retrievals accepted gone l w.at
  pub whole : w.fault ≡ None → NoneBelow SELECTIONS w.at.rest

ends : (c : LinkSet) (retrievals : ℕ → List Msu) (accepted : List Msu) (gone : List Gone) (l s : ℕ) (d : Diversion) → s ≡ SELECTIONS → NoneBelow s d.rest → Moving c retrievals accepted gone l d
    → Gone_on c retrievals accepted gone l (record { at = d; fault = None })
ends c retrievals accepted gone l s d is none m = record { moving = m; whole = λ e. subst (λ (n : ℕ). NoneBelow n d.rest) is none }

goes : (laws : StepsKeepPlaces) (c : LinkSet) (retrievals : ℕ → List Msu) (accepted : List Msu) (gone : List Gone) (l s : ℕ) (ls : List ℕ) (d : Diversion) (rest : Diversion → Diverted) (o : Option DivertFault)
    → move_fault ls s d ≡ o → Moving c retrievals accepted gone l d → (o ≡ None → Gone_on c retrievals accepted gone l (rest (moved ls s d)))
    → Gone_on c retrievals accepted gone l (goes_on rest d (moved ls s d) o)
goes laws c retrievals accepted gone l s ls d rest None is m next = next refl
goes laws c retrievals accepted gone l s ls d rest (Some fault) is m next = record { moving = m; whole = λ e. absurd (some_none e) }

pub moves_stay : (laws : StepsKeepPlaces) (c : LinkSet) (retrievals : ℕ → List Msu) (accepted : List Msu) (gone : List Gone) (l k s : ℕ) (ls : List ℕ) (d : Diversion) → k + s ≡ SELECTIONS
    → Others l retrievals ls → NoneBelow s d.rest → Moving c retrievals accepted gone l d → Gone_on c retrievals accepted gone l (moves ls k s d)
unfolding moves
moves_stay laws c retrievals accepted gone l zero s ls d is able none m = ends c retrievals accepted gone l s d (omega (arith, is)) none m
moves_stay laws c retrievals accepted gone l (suc k) s ls d is able none m =
    goes laws c retrievals accepted gone l s ls d (moves ls k (s + 1)) (move_fault ls s d) refl m
    (λ e. moves_stay laws c retrievals accepted gone l k (s + 1) ls (moved ls s d) (omega (arith, is)) able (none_behind ls s d e none)
    (stays_moving laws c retrievals accepted gone l s ls d (omega (arith, is)) able e m))

-- ---- no messages of any selection remain

on_itself : (m : Msu) (ms : List Msu) → of (selection_of m) (m ∷ ms) ≡ [] → ⊥
unfolding of
on_itself m ms e = by (eqb_tells (selection_of m) (selection_of m))
  where
    by : ((selection_of m == selection_of m) ≡ true) × (selection_of m ≡ selection_of m) ⊎ ((selection_of m == selection_of m) ≡ false) × (selection_of m ≢ selection_of m) → ⊥
    by (inl x) = cons-nil m (of (selection_of m) ms) (sym (ap (λ (b : Bool). cond b (m ∷ of (selection_of m) ms) (of (selection_of m) ms)) x.0) ∙ e)
    by (inr x) = x.1 refl

pub all_gone : (ms : List Msu) → All IsSmall ms → NoneBelow SELECTIONS ms → ms ≡ []
all_gone [] small none = refl
all_gone (m ∷ ms) small none = absurd (on_itself m ms (none (selection_of m) (All-head IsSmall m ms small)))
