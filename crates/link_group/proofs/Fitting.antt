-- The marks of each link fit the messages retrieved from it.
use Rattle.std.proofs.Common.{◌≡◌, ℕ, ◌<◌, true, List, [], ◌∷◌, ◌++◌, Option, Some, None, refl, sym, ap, ◌∙◌, subst, arith, inl, inr}
use Rattle.std.specs.Prelude.{All, is_some, map, option_map, slice_get}
use Rattle.std.proofs.lemmas.List.Elements.{All-tail}
use Rattle.std.proofs.lemmas.Option.{slice_get-map}
use Rattle.resend_store.specs.declared.messages.Msu.{Msu}
use Rattle.group_changeover.specs.declared.availability.Availability.{Availability}
use Rattle.group_changeover.specs.declared.availability.Changing.{Changing}
use Rattle.group_changeover.specs.declared.availability.Answer.{Answer}
use Rattle.group_changeover.specs.Limits.{SELECTIONS}
use Rattle.group_changeover.specs.Availability.{begun_by, changeover_begins, told_by, told_in, told, fewer_in, fewer, waited_in, waits}
use Rattle.group_changeover.specs.Sharing.{selection_of}
use Rattle.group_changeover.specs.declared.bound.Points.{Points}
use Rattle.group_changeover.proofs.Equal.{Same, same}
use Rattle.group_changeover.proofs.Unbound.{IsUnbound}
use Rattle.link_group.specs.declared.link.Link.{Link}
use Rattle.link_group.specs.OneLink.{messages}
use Rattle.link_group.specs.Links.{change}
use Rattle.link_group.specs.Moving.{retrieval_by}
use Rattle.link_group.proofs.Getting.{change_here, change_other}

abbrev pub IsSmall : Msu → Type 0
IsSmall m = selection_of m < SELECTIONS

pub none_small : All IsSmall []
none_small = λ i d lt. absurd (omega (arith, lt))

-- Only a link marked so has retrieved messages. A link in changeover has failed.
pub record FitsAvailability (m : Availability) (ms : List Msu) : Type 0 where
  pub idle : retrieval_by m.changing ≡ None → ms ≡ []
  pub failed : is_some m.changing ≡ true → m.failed ≡ true

-- All links connect the same points, and no link has retrieved a message bound to it.
pub record FitsLink (p : Points) (k : Link) (ms : List Msu) : Type 0 where
  pub availability : FitsAvailability k.availability ms
  pub small : All IsSmall (messages k)
  pub small_retrieval : All IsSmall ms
  pub points : k.points ≡ p
  pub unbound : All (IsUnbound p) ms

abbrev pub FitsAt : Points → Option Link → List Msu → Type 0
FitsAt p None ms = ms ≡ []
FitsAt p (Some k) ms = FitsLink p k ms

abbrev pub Fits : Points → List Link → (ℕ → List Msu) → Type 0
Fits p ks retrievals = (l : ℕ) → FitsAt p (slice_get ks l) (retrievals l)

pub fits_there : (p : Points) (ks : List Link) (retrievals : ℕ → List Msu) (l : ℕ) (k : Link) → Fits p ks retrievals → slice_get ks l ≡ Some k → FitsLink p k (retrievals l)
fits_there p ks retrievals l k fits e = subst (λ (o : Option Link). FitsAt p o (retrievals l)) e (fits l)

-- ---- one link changes, or all do

change_at : (p : Points) (f : Link → Link) (o : Option Link) (ms : List Msu) → ((k : Link) → o ≡ Some k → FitsLink p (f k) ms) → (o ≡ None → ms ≡ []) → FitsAt p (option_map f o) ms
change_at p f None ms some none = none refl
change_at p f (Some k) ms some none = some k refl

change_by : (p : Points) (f : Link → Link) (ks : List Link) (retrievals : ℕ → List Msu) (ms : List Msu) (l j : ℕ) (new : ℕ → List Msu) → Same j l → Fits p ks retrievals
    → ((i : ℕ) → (i ≡ l → ⊥) → new i ≡ retrievals i) → new l ≡ ms
    → ((k : Link) → slice_get ks l ≡ Some k → FitsLink p (f k) ms) → (slice_get ks l ≡ None → ms ≡ []) → FitsAt p (slice_get (change ks l f) j) (new j)
change_by p f ks retrievals ms l j new (inl e) fits else is some none =
    let here : FitsAt p (slice_get (change ks l f) l) (new l) =
    rw (change_here f ks l (slice_get ks l) refl, is) (change_at p f (slice_get ks l) ms some none) in
    subst (λ (i : ℕ). FitsAt p (slice_get (change ks l f) i) (new i)) (sym e) here
change_by p f ks retrievals ms l j new (inr other) fits else is some none = rw (change_other f ks l j other, else j other) (fits j)

-- a link changes, with its retrieved messages
pub fits_changed : (p : Points) (f : Link → Link) (ks : List Link) (retrievals new : ℕ → List Msu) (ms : List Msu) (l : ℕ) → Fits p ks retrievals
    → ((i : ℕ) → (i ≡ l → ⊥) → new i ≡ retrievals i) → new l ≡ ms
    → ((k : Link) → slice_get ks l ≡ Some k → FitsLink p (f k) ms) → (slice_get ks l ≡ None → ms ≡ []) → Fits p (change ks l f) new
fits_changed p f ks retrievals new ms l fits else is some none = λ j. change_by p f ks retrievals ms l j new (same j l) fits else is some none

none_at : (p : Points) (ks : List Link) (retrievals : ℕ → List Msu) (l : ℕ) → Fits p ks retrievals → slice_get ks l ≡ None → retrievals l ≡ []
none_at p ks retrievals l fits e = subst (λ (o : Option Link). FitsAt p o (retrievals l)) e (fits l)

-- a link changes, but not its retrieved messages
pub fits_change : (p : Points) (f : Link → Link) (ks : List Link) (retrievals : ℕ → List Msu) (l : ℕ) → Fits p ks retrievals
    → ((k : Link) → slice_get ks l ≡ Some k → FitsLink p k (retrievals l) → FitsLink p (f k) (retrievals l)) → Fits p (change ks l f) retrievals
fits_change p f ks retrievals l fits step =
    fits_changed p f ks retrievals retrievals (retrievals l) l fits (λ i h. refl) refl (λ k e. step k e (fits_there p ks retrievals l k fits e)) (none_at p ks retrievals l fits)

map_at : (p : Points) (f : Link → Link) (o : Option Link) (ms : List Msu) → ((k : Link) → o ≡ Some k → FitsLink p k ms → FitsLink p (f k) ms) → FitsAt p o ms → FitsAt p (option_map f o) ms
map_at p f None ms step fits = fits
map_at p f (Some k) ms step fits = step k refl fits

pub fits_map : (p : Points) (f : Link → Link) (ks : List Link) (retrievals : ℕ → List Msu) → Fits p ks retrievals
    → ((k : Link) (l : ℕ) → slice_get ks l ≡ Some k → FitsLink p k (retrievals l) → FitsLink p (f k) (retrievals l)) → Fits p (map f ks) retrievals
fits_map p f ks retrievals fits step = λ l. rw (slice_get-map f ks l) (map_at p f (slice_get ks l) (retrievals l) (λ k. step k l) (fits l))

-- ---- marks

-- marks with equal retrievals and changeovers
pub fits_alike : (m n : Availability) (ms : List Msu) → n.changing ≡ m.changing → n.failed ≡ m.failed → FitsAvailability m ms → FitsAvailability n ms
fits_alike m n ms c f fits = record {
  idle = λ e. fits.idle (ap retrieval_by (sym c) ∙ e);
  failed = λ e. f ∙ fits.failed (ap is_some (sym c) ∙ e);
}

begins_by : (m : Availability) (ms : List Msu) (o : Option Changing) → m.changing ≡ o → FitsAvailability m ms → FitsAvailability (begun_by o m) ms
begins_by m ms None is fits = record {
  idle = λ e. fits.idle (ap retrieval_by is);
  failed = λ e. refl;
}
begins_by m ms (Some c) is fits = fits

pub fits_begins : (m : Availability) (ms : List Msu) → FitsAvailability m ms → FitsAvailability (changeover_begins m) ms
fits_begins m ms fits = begins_by m ms m.changing refl fits

told_retrieval : (h : Option (List ℕ)) (a : Answer) (c : Changing) → (told_by h a c).retrieval ≡ c.retrieval
told_retrieval None a c = refl
told_retrieval (Some counts) a c = refl

told_retrieval_by : (o : Option Changing) (a : Answer) → retrieval_by (told_in o a) ≡ retrieval_by o
told_retrieval_by None a = refl
told_retrieval_by (Some c) a = told_retrieval c.retrieval a c

told_some : (o : Option Changing) (a : Answer) → is_some (told_in o a) ≡ is_some o
told_some None a = refl
told_some (Some c) a = refl

pub fits_told : (a : Answer) (m : Availability) (ms : List Msu) → FitsAvailability m ms → FitsAvailability (told a m) ms
fits_told a m ms fits = record {
  idle = λ e. fits.idle (sym (told_retrieval_by m.changing a) ∙ e);
  failed = λ e. fits.failed (sym (told_some m.changing a) ∙ e);
}

fewer_retrieval : (n : ℕ) (o : Option Changing) → retrieval_by (fewer_in n o) ≡ retrieval_by o
fewer_retrieval n None = refl
fewer_retrieval n (Some c) = refl

fewer_some : (n : ℕ) (o : Option Changing) → is_some (fewer_in n o) ≡ is_some o
fewer_some n None = refl
fewer_some n (Some c) = refl

pub fits_fewer : (n : ℕ) (m : Availability) (ms : List Msu) → FitsAvailability m ms → FitsAvailability (fewer n m) ms
fits_fewer n m ms fits = record {
  idle = λ e. fits.idle (sym (fewer_retrieval n m.changing) ∙ e);
  failed = λ e. fits.failed (sym (fewer_some n m.changing) ∙ e);
}

waited_retrieval : (n : ℕ) (o : Option Changing) → retrieval_by (waited_in n o) ≡ retrieval_by o
waited_retrieval n None = refl
waited_retrieval n (Some c) = refl

waited_some : (n : ℕ) (o : Option Changing) → is_some (waited_in n o) ≡ is_some o
waited_some n None = refl
waited_some n (Some c) = refl

pub fits_waits : (n : ℕ) (m : Availability) (ms : List Msu) → FitsAvailability m ms → FitsAvailability (waits n m) ms
fits_waits n m ms fits = record {
  idle = λ e. fits.idle (sym (waited_retrieval n m.changing) ∙ e);
  failed = λ e. fits.failed (sym (waited_some n m.changing) ∙ e);
}

-- ---- links with equal messages

-- equal messages, without bound ones, and equal points
abbrev pub Alike : Link → Link → Type 0
Alike new old = (messages new ≡ messages old) × (new.points ≡ old.points)

pub fits_held : (p : Points) (k new : Link) (ms : List Msu) → FitsAvailability new.availability ms → Alike new k → FitsLink p k ms → FitsLink p new ms
fits_held p k new ms availability same fits = record {
  availability = availability;
  small = subst (λ (xs : List Msu). All IsSmall xs) (sym same.0) fits.small;
  small_retrieval = fits.small_retrieval;
  points = same.1 ∙ fits.points;
  unbound = fits.unbound;
}

pub back_small : (left rest : List Msu) → All IsSmall (left ++ rest) → All IsSmall rest
back_small [] rest small = small
back_small (m ∷ left) rest small = back_small left rest (All-tail IsSmall m (left ++ rest) small)

-- a link that holds only some of another's messages, the last ones
pub less_fits : (p : Points) (k new : Link) (ms left : List Msu) → messages k ≡ left ++ messages new → new.points ≡ k.points → FitsAvailability new.availability ms → FitsLink p k ms → FitsLink p new ms
less_fits p k new ms left parts points availability fits = record {
  availability = availability;
  small = back_small left (messages new) (subst (λ (xs : List Msu). All IsSmall xs) parts fits.small);
  small_retrieval = fits.small_retrieval;
  points = points ∙ fits.points;
  unbound = fits.unbound;
}
