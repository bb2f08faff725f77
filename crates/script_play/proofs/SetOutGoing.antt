-- Signal units sent one after another on a link of a set, printed and captured.
use Rattle.std.proofs.Common.{◌≡◌, ℕ, suc, ◌+◌, ◌-◌, ◌<◌, ◌≤◌, Bool, List, [], ◌∷◌, ◌++◌, length, append-nil, append_assoc, Option, None, Some, refl, sym, ap, subst, arith}
use Rattle.std.specs.Prelude.{codes}
use Rattle.std.proofs.KnownBytes.{Appends-nil}
use Rattle.su_octets.specs.Printed.{unit_text}
use Rattle.su_octets.specs.declared.units.Unit as su
use Rattle.line_streams.specs.declared.seen.Seen.{Seen}
use Rattle.script_seen.specs.Set.{LinkSet}
use Rattle.script_seen.specs.SetLines.{ByLink}
use Rattle.script_seen.specs.Doing.{Sent}
use Rattle.script_seen.specs.TermAnswers.{unit_line}
use Rattle.script_seen.specs.TermRuns.{HasPrinted}
use Rattle.script_seen.specs.GroupAnswers.{GoOut, none_goes, silent, one_goes, out_goes}
use Rattle.script_seen.specs.GroupRuns.{HasGivenOut}
use Rattle.script_play.specs.Captured.{IsGone, IsCapturing}
use Rattle.script_play.specs.CapturedSets.{SendsOn, nothing, silent as none_sent, one_goes as one_sent}
use Rattle.script_play.specs.declared.capturing.LinkSeen.{LinkSeen}
use Rattle.script_play.proofs.OutGoing.{printed_both, printed_as}

out_as : (on n m : ℕ) (c : LinkSet) (xs ys : List (List ℕ)) (d : LinkSet) → n ≡ m → xs ≡ ys → GoOut on n c xs d → GoOut on m c ys d
out_as on n m c xs ys d same lines out =
    let P : ℕ → Type 0 = λ k. GoOut on k c xs d in
    let Q : List (List ℕ) → Type 0 = λ ls. GoOut on m c ls d in
    subst Q lines (subst P same out)

sends_as : (on at n m : ℕ) (c d : LinkSet) (ss last : List Seen) → n ≡ m → SendsOn on at n c ss d last → SendsOn on at m c ss d last
sends_as on at n m c d ss last same sends = let P : ℕ → Type 0 = λ k. SendsOn on at k c ss d last in subst P same sends

-- the unit that a link sent, with the link's number replaced by an equal one
sent_on : (on j : ℕ) (o p : Option su.Unit) (c d : LinkSet) → j ≡ on → o ≡ p → ByLink (Sent o) j c d → ByLink (Sent p) on c d
sent_on on j o p c d same is sent =
    let P : Option su.Unit → Type 0 = λ x. ByLink (Sent x) j c d in
    let Q : ℕ → Type 0 = λ i. ByLink (Sent p) i c d in
    subst Q same (subst P is sent)

-- these units were seen, and later units come after them
pub record SetSeenSoFar (on at k : ℕ) (c now : LinkSet) (every : Bool) (came : List ℕ) (ss : List Seen) (begun new : Option (List ℕ)) (l : LinkSeen) : Type 0 where
  pub seen : List Seen
  pub others : (n : ℕ) (d : LinkSet) (last : List Seen) → SendsOn on at n now seen d last → SendsOn on at (k + n) c ss d last
  pub capturing : IsCapturing on every came seen begun new l

-- this many signal units were sent, printed and captured
pub record SetOutGoing (on at k : ℕ) (old new last next from to : Option (List ℕ)) (c now : LinkSet) (l m : LinkSeen) : Type 0 where
  pub lines : List (List ℕ)
  pub printed : HasPrinted old new last next lines
  pub others : (n : ℕ) (more : List (List ℕ)) (d : LinkSet) → GoOut on n now more d → GoOut on (k + n) c (lines ++ more) d
  pub captured : (every : Bool) (came : List ℕ) (ss : List Seen) (begun : Option (List ℕ)) → IsCapturing on every came ss begun from l
      → SetSeenSoFar on at k c now every came ss begun to m

pub set_none : (on at : ℕ) (old last from : Option (List ℕ)) (c : LinkSet) (l : LinkSeen) → SetOutGoing on at 0 old old last last from from c c l l
set_none on at old last from c l = record {
  lines = [];
  printed = record { latest_is = refl; written = Appends-nil old };
  others = λ n more d out. let number : n ≡ 0 + n = omega arith in out_as on n (0 + n) c more more d number refl out;
  captured = λ every came ss begun k.
      record {
        seen = ss;
        others = λ n d last sends. let number : n ≡ 0 + n = omega arith in sends_as on at n (0 + n) c d ss last number sends;
        capturing = k;
      };
}

-- one more signal unit is sent
pub set_more : (on at k j n : ℕ) (old mid new last this next from via to : Option (List ℕ)) (c u v : LinkSet) (o : Option su.Unit) (x : su.Unit) (l m p : LinkSeen)
    → j ≡ on → n ≡ on → o ≡ Some x → ByLink (Sent o) j u v → HasPrinted mid new this next (unit_line o ∷ [])
    → ((every : Bool) (came : List ℕ) (ss : List Seen) (begun : Option (List ℕ)) → IsCapturing n every came ss begun via m
    → (more : List Seen) × IsGone n at x ss more × IsCapturing n every came more begun to p) → SetOutGoing on at k old mid last this from via c u l m
    → SetOutGoing on at (k + 1) old new last next from to c v l p
set_more on at k j n old mid new last this next from via to c u v o x l m p same number is sent printed seen so_far =
    let text : unit_line o ∷ [] ≡ unit_text x ∷ [] = ap (λ y. unit_line y ∷ []) is in
    let gone : ByLink (Sent (Some x)) on u v = sent_on on j o (Some x) u v same is sent in
    record {
      lines = so_far.lines ++ unit_text x ∷ [];
      printed = printed_both old mid new last this next so_far.lines (unit_text x ∷ []) so_far.printed (printed_as mid new this next _ _ text printed);
      others = λ i more d out.
          let far : k + suc i ≡ k + 1 + i = omega arith in
          out_as on (k + suc i) (k + 1 + i) c _ _ d far (sym (append_assoc so_far.lines (unit_text x ∷ []) more))
          (so_far.others (suc i) (unit_text x ∷ more) d (one_goes i u v d x more gone out));
      captured = λ every came ss begun h.
          let before = so_far.captured every came ss begun h in
          let N : ℕ → Type 0 =
          λ i. IsCapturing i every came before.seen begun via m → (more : List Seen) × IsGone i at x before.seen more × IsCapturing i every came more begun to p in
          let s = subst N number (seen every came before.seen begun) before.capturing in
          record {
            seen = s.0;
            others = λ i d end sends.
                let far : k + suc i ≡ k + 1 + i = omega arith in
                sends_as on at (k + suc i) (k + 1 + i) c d ss end far
                (before.others (suc i) d end (one_sent i u v d x before.seen s.0 end gone s.1 sends));
            capturing = s.2;
          };
    }

pub record SetHasGone (on at asked : ℕ) (old new last next from to : Option (List ℕ)) (c now : LinkSet) (l m : LinkSeen) : Type 0 where
  pub given : HasGivenOut on asked old new last next c now
  pub captured : (every : Bool) (came : List ℕ) (ss : List Seen) (begun : Option (List ℕ)) → IsCapturing on every came ss begun from l
      → (more : List Seen) × SendsOn on at asked c ss now more × IsCapturing on every came more begun to m

-- no signal unit is sent
pub set_silent : (on at k asked j : ℕ) (old mid new last this next from to : Option (List ℕ)) (c u v : LinkSet) (o : Option su.Unit) (l m : LinkSeen)
    → on < length c.links → k < asked → j ≡ on → o ≡ None → ByLink (Sent o) j u v → HasPrinted mid new this next (unit_line o ∷ [])
    → SetOutGoing on at k old mid last this from to c u l m → SetHasGone on at asked old new last next from to c v l m
set_silent on at k asked j old mid new last this next from to c u v o l m there less same is sent printed so_far =
    let text : unit_line o ∷ [] ≡ codes "silent" ∷ [] = ap (λ y. unit_line y ∷ []) is in
    let none : ByLink (Sent None) on u v = sent_on on j o None u v same is sent in
    let rest : ℕ = asked - (k + 1) in
    let number : k + suc rest ≡ asked = omega (arith, less) in
    record {
      given = record {
        lines = so_far.lines ++ codes "silent" ∷ [];
        out =
            out_goes _ v there
            (out_as on (k + suc rest) asked c _ _ v number refl (so_far.others (suc rest) (codes "silent" ∷ []) v (silent rest u v none)));
        printed = printed_both old mid new last this next so_far.lines (codes "silent" ∷ []) so_far.printed (printed_as mid new this next _ _ text printed);
      };
      captured = λ every came ss begun h.
          let before = so_far.captured every came ss begun h in (
            before.seen,
            sends_as on at (k + suc rest) asked c v ss before.seen number (before.others (suc rest) v before.seen (none_sent rest u v before.seen none)),
            before.capturing,
          );
    }

-- as many signal units were sent as requested
pub set_all : (on at k asked : ℕ) (old new last next from to : Option (List ℕ)) (c u : LinkSet) (l m : LinkSeen) → on < length c.links → k ≤ asked → asked ≤ k
    → SetOutGoing on at k old new last next from to c u l m → SetHasGone on at asked old new last next from to c u l m
set_all on at k asked old new last next from to c u l m there most least so_far =
    let number : k + 0 ≡ asked = omega (arith, most, least) in
    record {
      given = record {
        lines = so_far.lines;
        out = out_goes _ u there (out_as on (k + 0) asked c _ _ u number (append-nil so_far.lines) (so_far.others 0 [] u (none_goes u)));
        printed = so_far.printed;
      };
      captured = λ every came ss begun h.
          let before = so_far.captured every came ss begun h in
          (before.seen, sends_as on at (k + 0) asked c u ss before.seen number (before.others 0 u before.seen (nothing u before.seen)), before.capturing);
    }
