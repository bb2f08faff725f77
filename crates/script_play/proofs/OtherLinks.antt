-- The state of a link is unchanged by signal units of another link.
use Rattle.std.proofs.Common.{◌≡◌, ◌∙◌, ℕ, zero, suc, ◌+◌, ◌<◌, ◌≤◌, Bool, true, false, List, [], ◌∷◌, ◌++◌, length, slice_set, Option, None, Some, arith, refl, sym, ap, subst}
use Rattle.std.specs.Prelude.{◌==◌, ◌&&◌, ◌||◌, not, if◌then◌else◌}
use Rattle.std.proofs.lemmas.Bool.{ne_eqb}
use Rattle.line_streams.specs.Capturing.{IsUnit}
use Rattle.line_streams.specs.Repeats.{kept, with_kept, is_kept, is_of, last_of, news_since, is_news, Recalls, StandsFor}
use Rattle.line_streams.specs.declared.repeats.Latest.{Latest}
use Rattle.line_streams.specs.declared.repeats.Repeats.{Repeats}
use Rattle.line_streams.specs.declared.seen.Seen.{Seen}
use Rattle.script_seen.specs.Set.{LinkSet}
use Rattle.script_play.specs.Captured.{Hears, nothing, one, IsHeard}
use Rattle.script_play.specs.CapturedSets.{SendsOn, nothing as none_asked, silent, one_goes, AreHeard, none, more}
use Rattle.script_play.specs.declared.capturing.LinkSeen.{LinkSeen}

and_false : (b c : Bool) → c ≡ false → (b && c) ≡ false
and_false true c is = is
and_false false c is = refl

not_of : (went : Bool) (other : ℕ) (s : Seen) → (s.link ≡ other → ⊥) → is_of went other s ≡ false
not_of went other s apart = and_false (if went then s.went else not s.went) (s.link == other) (ne_eqb s.link other apart)

same_octets : (went : Bool) (other : ℕ) (s : Seen) (h : List Seen) → (s.link ≡ other → ⊥) → last_of went other (s ∷ h) ≡ last_of went other h
same_octets went other s h apart = ap (λ (b : Bool). if b then s.octets.items else last_of went other h) (not_of went other s apart)

same_news : (went : Bool) (other : ℕ) (s : Seen) (h : List Seen) → (s.link ≡ other → ⊥) → news_since went other (s ∷ h) ≡ news_since went other h
same_news went other s h apart =
    ap (λ (b : Bool). if b then false else ((is_of (not went) other s && is_news h s) || news_since went other h)) (not_of went other s apart)
    ∙ ap (λ (b : Bool). (b && is_news h s) || news_since went other h) (not_of (not went) other s apart)

recalls_still : (went keeps : Bool) (other : ℕ) (s : Seen) (h : List Seen) (l : Latest) → (s.link ≡ other → ⊥) → Recalls went other h l → Recalls went other (with_kept keeps s h) l
recalls_still went true other s h l apart r = record { octets = r.octets ∙ sym (same_octets went other s h apart); news = r.news ∙ sym (same_news went other s h apart) }
recalls_still went false other s h l apart r = r

stands_still : (every : Bool) (other : ℕ) (s : Seen) (ss : List Seen) (r : Repeats) → (s.link ≡ other → ⊥) → StandsFor other (kept every ss) r
    → StandsFor other (kept every (s ∷ ss)) r
stands_still every other s ss r apart x =
    let keeps = is_kept every (kept every ss) s in
    record { went = recalls_still true keeps other s (kept every ss) r.went apart x.went; came = recalls_still false keeps other s (kept every ss) r.came apart x.came }

-- a signal unit of another link, if one was seen
unit_apart : (every went : Bool) (link other at : ℕ) (found : Option (List ℕ)) (ss last : List Seen) (r : Repeats) → (link ≡ other → ⊥) → IsUnit went link at found ss last
    → StandsFor other (kept every ss) r → StandsFor other (kept every last) r
unit_apart every went link other at None ss last r apart is x =
    let P : List Seen → Type 0 = λ l. StandsFor other (kept every l) r in subst P (sym is) x
unit_apart every went link other at (Some octets) ss [] r apart is x = absurd is
unit_apart every went link other at (Some octets) ss (s ∷ others) r apart is x =
    let P : List Seen → Type 0 = λ l. StandsFor other (kept every l) r in
    stands_still every other s others r (λ same. apart (sym is.1 ∙ same)) (subst P (sym is.4) x)

-- octets received on another link
pub heard_apart : (every : Bool) (link other at : ℕ) (before octets : List ℕ) (ss last : List Seen) (r : Repeats) → (link ≡ other → ⊥) → Hears link at before octets ss last
    → StandsFor other (kept every ss) r → StandsFor other (kept every last) r
heard_apart every link other at _ _ _ _ r apart (nothing before seen) x = x
heard_apart every link other at _ _ _ _ r apart (one before rest octet found seen mid last ends is others) x =
    heard_apart every link other at (before ++ octet ∷ []) rest mid last r apart others (unit_apart every false link other at found seen mid r apart is x)

-- a signal unit sent on another link
pub gone_apart : (every : Bool) (link other at : ℕ) (octets : List ℕ) (ss last : List Seen) (r : Repeats) → (link ≡ other → ⊥) → IsUnit true link at (Some octets) ss last
    → StandsFor other (kept every ss) r → StandsFor other (kept every last) r
gone_apart every link other at octets ss last r apart is x = unit_apart every true link other at (Some octets) ss last r apart is x

-- signal units requested on another link
pub sent_apart : (every : Bool) (link other at n : ℕ) (c d : LinkSet) (ss last : List Seen) (r : Repeats) → (link ≡ other → ⊥) → SendsOn link at n c ss d last
    → StandsFor other (kept every ss) r → StandsFor other (kept every last) r
sent_apart every link other at _ _ _ _ _ r apart (none_asked c seen) x = x
sent_apart every link other at _ _ _ _ _ r apart (silent n c d seen sent) x = x
sent_apart every link other at _ _ _ _ _ r apart (one_goes n c m d unit seen mid last sent gone rest) x =
    sent_apart every link other at n m d mid last r apart rest (gone_apart every link other at _ seen mid r apart gone.is_unit x)

-- the state of this link is unchanged
pub known_still : (every : Bool) (other : ℕ) (came : List ℕ) (ss last : List Seen) (l : LinkSeen)
    → (StandsFor other (kept every ss) l.repeats → StandsFor other (kept every last) l.repeats) → IsHeard other every came ss l → IsHeard other every came last l
known_still every other came ss last l stays h = record { every_is = h.every_is; hears = h.hears; recalls = stays h.recalls }

-- ---- all links of a set

-- none of these links is the one whose units were seen
all_apart : (every : Bool) (seen last : List Seen) (l : ℕ) (cs : List (List ℕ)) (ks : List LinkSeen)
    → ((other : ℕ) → l ≤ other → (c : List ℕ) (k : LinkSeen) → IsHeard other every c seen k → IsHeard other every c last k)
    → AreHeard every seen l cs ks → AreHeard every last l cs ks
all_apart every seen last _ _ _ stays (none l) = none l
all_apart every seen last _ _ _ stays (more l c cs k ks h rest) =
    more l c cs k ks (stays l (omega arith) c k h) (all_apart every seen last (suc l) cs ks (λ other le d m x. stays other (omega (arith, le)) d m x) rest)

-- that link is number l + n
pub one_known : (every : Bool) (seen last : List Seen) (l n : ℕ) (cs : List (List ℕ)) (ks : List LinkSeen) (came : List ℕ) (k : LinkSeen) → n < length cs
    → ((other : ℕ) → (l + n ≡ other → ⊥) → (c : List ℕ) (m : LinkSeen) → IsHeard other every c seen m → IsHeard other every c last m)
    → IsHeard (l + n) every came last k → AreHeard every seen l cs ks → AreHeard every last l (slice_set cs n came) (slice_set ks n k)
one_known every seen last _ n _ _ came k within stays here (none l) = absurd (omega (arith, within))
one_known every seen last _ zero _ _ came k within stays here (more l c cs m ks h rest) =
    let H : ℕ → Type 0 = λ x. IsHeard x every came last k in
    let same : l + zero ≡ l = omega arith in
    more l came cs k ks (subst H same here) (all_apart every seen last (suc l) cs ks (λ other le d x y. stays other (λ is. omega (arith, le, is)) d x y) rest)
one_known every seen last _ (suc n) _ _ came k within stays here (more l c cs m ks h rest) =
    let H : ℕ → Type 0 = λ x. IsHeard x every came last k in
    let same : l + suc n ≡ suc l + n = omega arith in
    more l c (slice_set cs n came) m (slice_set ks n k) (stays l (λ is. omega (arith, is)) c m h)
    (one_known every seen last (suc l) n cs ks came k (omega (arith, within)) (λ other apart. stays other (λ is. apart (omega (arith, is)))) (subst H same here) rest)
