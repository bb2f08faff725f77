-- Giving links to selections: when a link first comes into service, and when a set is rebalanced.
use Rattle.std.proofs.Common.{◌≡◌, ◌≢◌, ℕ, ◌+◌, ◌<◌, ◌==◌, zero, suc, Bool, true, false, List, [], ◌∷◌, ◌++◌, Option, Some, None, map, refl, sym, ap, ◌∙◌, inl, inr, arith}
use Rattle.std.specs.Prelude.{◌⊎◌, if◌then◌else◌, slice_get, option_map}
use Rattle.std.specs.List.{list_any}
use Rattle.std.proofs.lemmas.Bool.Decides.{eqb_tells}
use Rattle.std.proofs.lemmas.List.FromFn.{get_or-range_with_len}
use Rattle.std.proofs.lemmas.Option.{slice_get-map, slice_get_read}
use Rattle.plain_laws.proofs.Options.{none_some, row_passes}
use Rattle.plain_laws.proofs.Truths.{neither_first, neither_second}
use Rattle.resend_store.specs.declared.messages.Msu.{Msu}
use Rattle.group_changeover.specs.Laws.{StepsKeepPlaces}
use Rattle.group_changeover.specs.Limits.{SELECTIONS}
use Rattle.group_changeover.specs.Places.{standing}
use Rattle.group_changeover.specs.Sharing.{of, selections, entry_by, link_of, pick}
use Rattle.group_changeover.specs.declared.bound.Points.{Points}
use Rattle.group_changeover.proofs.Equal.{Same, same}
use Rattle.group_changeover.proofs.Unbound.{none-of}
use Rattle.group_changeover.proofs.Lists.{of-nil}
use Rattle.group_changeover.specs.declared.errors.RebalanceError.TheVariants as rebalance
use Rattle.link_group.specs.declared.link.Link.{Link}
use Rattle.link_group.specs.OneLink.{held, messages, is_changing}
use Rattle.link_group.specs.Moving.{holds, holds_at, able_links, anew_links}
use Rattle.link_group.specs.Tables.{changing_by, changing_at, held_by_any, or_kept, anew_on, stands_in_way, in_way, any_below, forgiven}
use Rattle.link_group.specs.Set.{LinkSet, points_of}
use Rattle.link_group.specs.Placing.{table_anew, rebalance_fault, rebalanced}
use Rattle.link_group.specs.Laws.{held_by, held_at}
use Rattle.link_group.specs.declared.gone.Gone.{Gone}
use Rattle.link_group.proofs.Calling.{no_retrieval}
use Rattle.link_group.proofs.Fitting.{FitsAt, FitsLink, Fits, fits_map}
use Rattle.link_group.proofs.Getting.{held_mapped}
use Rattle.link_group.proofs.Staying.{places_with, Stays, placed}

-- ---- a table of all selections

selection_at : (s : ℕ) → s < SELECTIONS → slice_get selections s ≡ Some s
selection_at s h =
    let plain : 0 + s ≡ s = omega arith in
    slice_get_read selections 16 s s refl h (sym (get_or-range_with_len 0 16 s s h ∙ plain))

pub link_at : (f : ℕ → Option ℕ) (s : ℕ) → s < SELECTIONS → link_of (map f selections) s ≡ f s
unfolding link_of
link_at f s h = ap entry_by (slice_get-map f selections s ∙ ap (option_map f) (selection_at s h))

-- ---- no messages of a selection

any_at : (p : Link → Bool) (ks : List Link) (l : ℕ) (k : Link) → list_any p ks ≡ false → slice_get ks l ≡ Some k → p k ≡ false
any_at p [] l k e there = absurd (none_some there)
any_at p (x ∷ ks) zero k e there = let same : x ≡ k = cc in ap p (sym same) ∙ neither_first (p x) (list_any p ks) e
any_at p (x ∷ ks) (suc l) k e there = any_at p ks l k (neither_second (p x) (list_any p ks) e) there

holds_none : (s : ℕ) (k : Link) → holds s k ≡ false → of s (messages k) ≡ []
unfolding holds
holds_none s k e = none-of k.points s (held k) e

-- the messages of a selection that a link holds, if it exists
pub holds_at_none : (s : ℕ) (o : Option Link) → holds_at s o ≡ false → of s (held_by o) ≡ []
holds_at_none s None e = of-nil s
holds_at_none s (Some k) e = holds_none s k e

held_none : (s : ℕ) (ks : List Link) (l : ℕ) (o : Option Link) → slice_get ks l ≡ o → held_by_any s ks ≡ false → of s (held_by o) ≡ []
unfolding held_by_any
held_none s ks l None there e = of-nil s
held_none s ks l (Some k) there e = holds_none s k (any_at (holds s) ks l k e there)

retrieval_none : (p : Points) (o : Option Link) (ms : List Msu) → changing_by o ≡ false → FitsAt p o ms → ms ≡ []
retrieval_none p None ms e fits = fits
retrieval_none p (Some k) ms e fits = fits.availability.idle (no_retrieval k.availability.changing e)

pub nothing : (s : ℕ) (h g : List Msu) → of s h ≡ [] → g ≡ [] → of s h ++ of s g ≡ []
nothing s h g e f = rw (e, f, of-nil s) refl

-- ---- the table is remade

stands_none : (c : LinkSet) (retrievals : ℕ → List Msu) (accepted : List Msu) (gone : List Gone) (s : ℕ) (o : Option ℕ) → Stays c retrievals accepted gone
    → changing_at c.links o ≡ false → held_by_any s c.links ≡ false → standing (places_with c retrievals accepted gone) s o ≡ []
stands_none c retrievals accepted gone s None stays still none = refl
stands_none c retrievals accepted gone s (Some l) stays still none =
    nothing s (held_at c l) (retrievals l) (held_none s c.links l (slice_get c.links l) refl none) (retrieval_none (points_of c) (slice_get c.links l) (retrievals l) still (stays.fits l))

anew_cases : (a b : Bool) (was new : Option ℕ) (P : Type 0) → (a ≡ false → b ≡ false → P) → ((if a then was else (if b then was else new)) ≡ was) ⊎ P
anew_cases true b was new P h = inl refl
anew_cases false true was new P h = inl refl
anew_cases false false was new P h = inr (h refl refl)

pub with_first : (x y z : Option ℕ) (P : Type 0) → x ≡ y → (y ≡ z) ⊎ P → (x ≡ z) ⊎ P
with_first x y z P e (inl f) = inl (e ∙ f)
with_first x y z P e (inr p) = inr p

abbrev pub placed_anew : LinkSet → LinkSet
placed_anew c = record c { table = table_anew c.links c.table }

pub stays_placed : (laws : StepsKeepPlaces) (c : LinkSet) (retrievals : ℕ → List Msu) (accepted : List Msu) (gone : List Gone) → Stays c retrievals accepted gone
    → Stays (placed_anew c) retrievals accepted gone
unfolding table_anew
stays_placed laws c retrievals accepted gone stays =
    let ls : List ℕ = anew_links c.links in
    record {
      places = placed laws c (placed_anew c) retrievals accepted gone (λ l. refl)
          (λ s lt. with_first _ _ (link_of c.table s) _ (link_at (anew_on c.links c.table ls) s lt)
          (anew_cases (changing_at c.links (link_of c.table s)) (held_by_any s c.links) (link_of c.table s) (or_kept (pick ls s) (link_of c.table s)) _
          (λ still none. stands_none c retrievals accepted gone s (link_of c.table s) stays still none))) stays.places;
      fits = stays.fits;
      table = refl;
    }

-- ---- a set is rebalanced

below_by : (f : ℕ → Bool) (n i : ℕ) → any_below f n ≡ false → f n ≡ false → i < suc n → Same i n → (i < n → f i ≡ false) → f i ≡ false
below_by f n i e last h (inl here) before = ap f here ∙ last
below_by f n i e last h (inr other) before = before (omega (arith, h, other))

below : (f : ℕ → Bool) (n i : ℕ) → any_below f n ≡ false → i < n → f i ≡ false
unfolding any_below
below f zero i e h = absurd (omega (arith, h))
below f (suc n) i e h =
    let first : any_below f n ≡ false = neither_first (any_below f n) (f n) e in
    below_by f n i first (neither_second (any_below f n) (f n) e) h (same i n) (λ less. below f n i first less)

same_links : (c : LinkSet) (retrievals : ℕ → List Msu) (accepted : List Msu) (gone : List Gone) (s : ℕ) (was new : Option ℕ) → ((l : ℕ) → retrievals l ≡ [])
    → stands_in_way c.links s was new ≡ false → (new ≡ was) ⊎ (standing (places_with c retrievals accepted gone) s was ≡ [])
same_links c retrievals accepted gone s None new none e = inr refl
same_links c retrievals accepted gone s (Some l) None none e = inr (nothing s (held_at c l) (retrievals l) (holds_at_none s (slice_get c.links l) e) (none l))
same_links c retrievals accepted gone s (Some l) (Some t) none e = by (eqb_tells t l) e
  where
    by : ((t == l) ≡ true) × (t ≡ l) ⊎ ((t == l) ≡ false) × (t ≢ l) → (if t == l then false else holds_at s (slice_get c.links l)) ≡ false
        → (Some t ≡ Some l) ⊎ (standing (places_with c retrievals accepted gone) s (Some l) ≡ [])
    by (inl x) e = inl (ap (λ (n : ℕ). Some n) x.1)
    by (inr x) e =
        inr (nothing s (held_at c l) (retrievals l) (holds_at_none s (slice_get c.links l) (sym (ap (λ (b : Bool). if b then false else holds_at s (slice_get c.links l)) x.0) ∙ e)) (none l))

in_way_none : (ks : List Link) (ts : List (Option ℕ)) (ls : List ℕ) (s : ℕ) → in_way ks ts ls s ≡ false → stands_in_way ks s (link_of ts s) (pick ls s) ≡ false
unfolding in_way
in_way_none ks ts ls s e = e

all_idle : (p : Points) (ks : List Link) (retrievals : ℕ → List Msu) → Fits p ks retrievals → list_any is_changing ks ≡ false → (l : ℕ) → retrievals l ≡ []
all_idle p ks retrievals fits none l = by (slice_get ks l) refl (fits l)
  where
    by : (o : Option Link) → slice_get ks l ≡ o → FitsAt p o (retrievals l) → retrievals l ≡ []
    by None there f = f
    by (Some k) there f = f.availability.idle (no_retrieval k.availability.changing (any_at is_changing ks l k none there))

fits_forgiven : (p : Points) (k : Link) (ms : List Msu) → is_changing k ≡ false → FitsLink p k ms → FitsLink p (forgiven k) ms
fits_forgiven p k ms still fits = record {
  availability = record { idle = fits.availability.idle; failed = λ e. let f : false ≡ true = sym still ∙ e in cc };
  small = fits.small;
  small_retrieval = fits.small_retrieval;
  points = fits.points;
  unbound = fits.unbound;
}

pub stays_rebalanced : (laws : StepsKeepPlaces) (c : LinkSet) (retrievals : ℕ → List Msu) (accepted : List Msu) (gone : List Gone) → Stays c retrievals accepted gone
    → rebalance_fault c ≡ None → Stays (rebalanced c) retrievals accepted gone
unfolding rebalance_fault rebalanced
stays_rebalanced laws c retrievals accepted gone stays e =
    let ls : List ℕ = able_links true c.links in
    let first = row_passes (list_any is_changing c.links) rebalance.Waiting _ e in
    let second = row_passes (any_below (in_way c.links c.table ls) SELECTIONS) rebalance.NotEmpty None first.1 in
    let none : (l : ℕ) → retrievals l ≡ [] = all_idle (points_of c) c.links retrievals stays.fits first.0 in
    record {
      places = placed laws c (rebalanced c) retrievals accepted gone (λ l. held_mapped forgiven c.links l (λ k. refl))
          (λ s lt. with_first _ _ (link_of c.table s) _ (link_at (pick ls) s lt)
          (same_links c retrievals accepted gone s (link_of c.table s) (pick ls s) none
          (in_way_none c.links c.table ls s (below (in_way c.links c.table ls) SELECTIONS s second.0 lt)))) stays.places;
      fits = fits_map (points_of c) forgiven c.links retrievals stays.fits (λ k l there f. fits_forgiven (points_of c) k (retrievals l) (any_at is_changing c.links l k first.0 there) f);
      table = refl;
    }
