-- A set in which each message is in its one place, and what keeps it so.
use Rattle.std.proofs.Common.{◌≡◌, ℕ, ◌<◌, Bool, List, [], ◌∷◌, ◌++◌, Option, Some, length, map, refl, sym, ap, ◌∙◌, inl}
use Rattle.std.specs.Prelude.{◌⊎◌}
use Rattle.std.proofs.lemmas.List.{append-nil, map-append}
use Rattle.group_changeover.proofs.Lists.{of-nil}
use Rattle.resend_store.specs.declared.messages.Msu.{Msu}
use Rattle.group_changeover.specs.Limits.{SELECTIONS}
use Rattle.group_changeover.specs.Laws.{StepsKeepPlaces}
use Rattle.group_changeover.specs.Places.{Places, standing, OnePlace}
use Rattle.group_changeover.specs.Sharing.{of, link_of}
use Rattle.link_group.specs.Set.{LinkSet, points_of}
use Rattle.link_group.specs.Laws.{held_at}
use Rattle.link_group.specs.declared.gone.Gone.{Gone}
use Rattle.link_group.specs.Gone.{acknowledged, messages_gone}
use Rattle.link_group.proofs.Fitting.{Fits}

-- the places of messages, with those retrieved from each link
abbrev pub places_with : LinkSet → (ℕ → List Msu) → List Msu → List Gone → Places
places_with c retrievals accepted gone = record {
  accepted = accepted;
  gone = messages_gone gone;
  held = held_at c;
  retrieval = retrievals;
  link = link_of c.table;
}

pub record Stays (c : LinkSet) (retrievals : ℕ → List Msu) (accepted : List Msu) (gone : List Gone) : Type 0 where
  pub places : OnePlace (places_with c retrievals accepted gone)
  pub fits : Fits (points_of c) c.links retrievals
  pub table : length c.table ≡ SELECTIONS

-- the lists of a set are its own
pub listed : (c : LinkSet) (told : List Msu) (left : List Gone) (retrievals : ℕ → List Msu) (accepted : List Msu) (gone : List Gone) → Stays c retrievals accepted gone
    → Stays (record c { accepted = told; gone = left }) retrievals accepted gone
listed c told left retrievals accepted gone stays = record { places = stays.places; fits = stays.fits; table = stays.table }

-- ---- messages that left

gone_map : (b : Bool) (ms : List Msu) → messages_gone (map (λ m. record { message = m; unsure = b }) ms) ≡ ms
gone_map b [] = refl
gone_map b (m ∷ ms) = ap (λ (xs : List Msu). m ∷ xs) (gone_map b ms)

pub gone_marked : (b : Bool) (gone : List Gone) (ms : List Msu) → messages_gone (gone ++ map (λ m. record { message = m; unsure = b }) ms) ≡ messages_gone gone ++ ms
gone_marked b gone ms =
    map-append (λ (g : Gone). g.message) gone (map (λ m. record { message = m; unsure = b }) ms) ∙ ap (λ (xs : List Msu). messages_gone gone ++ xs) (gone_map b ms)

pub gone_none : (gone : List Gone) → gone ++ acknowledged [] ≡ gone
gone_none gone = append-nil gone

-- ---- nothing moves

pub quiet : (laws : StepsKeepPlaces) (c d : LinkSet) (retrievals : ℕ → List Msu) (accepted : List Msu) (gone : List Gone)
    → ((l : ℕ) → held_at d l ≡ held_at c l) → d.table ≡ c.table → OnePlace (places_with c retrievals accepted gone) → OnePlace (places_with d retrievals accepted gone)
quiet laws c d retrievals accepted gone held table places =
    laws.placed_anew (places_with c retrievals accepted gone) (places_with d retrievals accepted gone) places
    (record { accepted = refl; gone = refl; held = held; retrieval = λ l. refl; link = λ s lt. inl (ap (λ (t : List (Option ℕ)). link_of t s) table) })

-- ---- selections without messages get other links

pub placed : (laws : StepsKeepPlaces) (c d : LinkSet) (retrievals : ℕ → List Msu) (accepted : List Msu) (gone : List Gone)
    → ((l : ℕ) → held_at d l ≡ held_at c l)
    → ((s : ℕ) → s < SELECTIONS → (link_of d.table s ≡ link_of c.table s) ⊎ (standing (places_with c retrievals accepted gone) s (link_of c.table s) ≡ []))
    → OnePlace (places_with c retrievals accepted gone) → OnePlace (places_with d retrievals accepted gone)
placed laws c d retrievals accepted gone held links places =
    laws.placed_anew (places_with c retrievals accepted gone) (places_with d retrievals accepted gone) places
    (record { accepted = refl; gone = refl; held = held; retrieval = λ l. refl; link = links })

-- ---- messages are given to a link, leave it, are retrieved, or go back

pub at_one : (laws : StepsKeepPlaces) (l : ℕ) (c d : LinkSet) (retrievals new : ℕ → List Msu) (accepted came left : List Msu) (gone more : List Gone)
    → OnePlace (places_with c retrievals accepted gone)
    → messages_gone more ≡ messages_gone gone ++ left
    → ((s : ℕ) → s < SELECTIONS → (of s came ≡ []) ⊎ (link_of c.table s ≡ Some l))
    → held_at c l ++ retrievals l ++ came ≡ left ++ held_at d l ++ new l
    → (new l ≡ []) ⊎ (held_at d l ≡ [])
    → ((j : ℕ) → (j ≡ l → ⊥) → held_at d j ≡ held_at c j) → ((j : ℕ) → (j ≡ l → ⊥) → new j ≡ retrievals j) → d.table ≡ c.table
    → OnePlace (places_with d new (accepted ++ came) more)
at_one laws l c d retrievals new accepted came left gone more places marked own order apart held retrieval table =
    laws.at_one_link l (places_with c retrievals accepted gone) (places_with d new (accepted ++ came) more) places
    (record {
      came = came;
      left = left;
      accepted = refl;
      gone = marked;
      own = own;
      order = order;
      apart = apart;
      held_else = held;
      retrieval_else = retrieval;
      link = λ s. ap (λ (t : List (Option ℕ)). link_of t s) table;
    })

-- as above, without new messages: the accepted ones stay
none_came : (accepted : List Msu) (c : LinkSet) (retrievals : ℕ → List Msu) (gone : List Gone) → OnePlace (places_with c retrievals (accepted ++ []) gone)
    → OnePlace (places_with c retrievals accepted gone)
none_came accepted c retrievals gone places = rw (sym (append-nil accepted)) places

pub leaves : (laws : StepsKeepPlaces) (l : ℕ) (c d : LinkSet) (retrievals new : ℕ → List Msu) (accepted left : List Msu) (gone more : List Gone)
    → OnePlace (places_with c retrievals accepted gone)
    → messages_gone more ≡ messages_gone gone ++ left
    → held_at c l ++ retrievals l ≡ left ++ held_at d l ++ new l
    → (new l ≡ []) ⊎ (held_at d l ≡ [])
    → ((j : ℕ) → (j ≡ l → ⊥) → held_at d j ≡ held_at c j) → ((j : ℕ) → (j ≡ l → ⊥) → new j ≡ retrievals j) → d.table ≡ c.table
    → OnePlace (places_with d new accepted more)
leaves laws l c d retrievals new accepted left gone more places marked order apart held retrieval table =
    none_came accepted d new more
    (at_one laws l c d retrievals new accepted [] left gone more places marked (λ s lt. inl (of-nil s)) (append-nil (held_at c l ++ retrievals l) ∙ order) apart held retrieval table)
