-- Signal units sent one after another, printed and captured.
use Rattle.std.proofs.Common.{◌≡◌, ◌∙◌, ℕ, suc, ◌+◌, ◌-◌, ◌<◌, ◌≤◌, Bool, List, [], ◌∷◌, ◌++◌, append-nil, append_assoc, Option, None, Some, refl, sym, ap, subst, arith}
use Rattle.std.specs.Prelude.{codes}
use Rattle.std.specs.List.{flat_map}
use Rattle.std.specs.Io.KnownBytes.{Appends}
use Rattle.std.proofs.KnownBytes.{Appends-trans, Appends-nil}
use Rattle.std.proofs.lemmas.Grind.{flat_map-append}
use Rattle.su_octets.specs.Printed.{unit_text}
use Rattle.su_octets.specs.declared.units.Unit as su
use Rattle.line_streams.specs.declared.seen.Seen.{Seen}
use Rattle.plain_text.specs.Lines.{line_of}
use Rattle.link_term.specs.Term.{Term}
use Rattle.script_seen.specs.TermAnswers.{next_of, behind_next, unit_line, GoOut, nothing, silent, one_goes}
use Rattle.script_seen.specs.TermRuns.{latest, HasPrinted, HasGivenOut}
use Rattle.script_play.specs.Captured.{Sends, no_more, silent as none_sent, one_goes as one_sent, IsGone, IsCapturing}
use Rattle.script_play.specs.declared.capturing.LinkSeen.{LinkSeen}

-- ---- lines

latest_of_two : (last : Option (List ℕ)) (xs ys : List (List ℕ)) → latest last (xs ++ ys) ≡ latest (latest last xs) ys
latest_of_two last [] ys = refl
latest_of_two last (x ∷ xs) ys = latest_of_two (Some x) xs ys

pub printed_both : (old now next last mid after : Option (List ℕ)) (xs ys : List (List ℕ)) → HasPrinted old now last mid xs → HasPrinted now next mid after ys
    → HasPrinted old next last after (xs ++ ys)
printed_both old now next last mid after xs ys first second =
    let P : List ℕ → Type 0 = λ text. Appends old next text in
    record {
      latest_is = second.latest_is ∙ (ap (λ l. latest l ys) first.latest_is ∙ sym (latest_of_two last xs ys));
      written =
          subst P (sym (flat_map-append line_of xs ys))
          (Appends-trans old now next (flat_map line_of xs) (flat_map line_of ys) first.written second.written);
    }

pub printed_as : (old new last next : Option (List ℕ)) (xs ys : List (List ℕ)) → xs ≡ ys → HasPrinted old new last next xs → HasPrinted old new last next ys
printed_as old new last next xs ys same printed = let P : List (List ℕ) → Type 0 = λ ls. HasPrinted old new last next ls in subst P same printed

-- the line of a signal unit, or of none
pub printed_one : (old new last next : Option (List ℕ)) (text line : List ℕ) → next ≡ Some line → Appends old new (line_of line) → line ≡ text
    → HasPrinted old new last next (text ∷ [])
printed_one old new last next text line is grew same =
    let A : List ℕ → Type 0 = λ bs. Appends old new bs in
    let P : List ℕ → Type 0 = λ t. HasPrinted old new last next (t ∷ []) in
    subst P same (record { latest_is = is; written = subst A (sym (append-nil (line_of line))) grew })

out_as : (n m : ℕ) (t : Term) (xs ys : List (List ℕ)) (u : Term) → n ≡ m → xs ≡ ys → GoOut n t xs u → GoOut m t ys u
out_as n m t xs ys u same lines out =
    let P : ℕ → Type 0 = λ k. GoOut k t xs u in
    let Q : List (List ℕ) → Type 0 = λ ls. GoOut m t ls u in
    subst Q lines (subst P same out)

sends_as : (at n m : ℕ) (t u : Term) (ss last : List Seen) → n ≡ m → Sends 0 at n t ss u last → Sends 0 at m t ss u last
sends_as at n m t u ss last same sends = let P : ℕ → Type 0 = λ k. Sends 0 at k t ss u last in subst P same sends

-- ---- partial runs

-- these units were seen, and later units come after them
pub record SeenSoFar (at k : ℕ) (t now : Term) (every : Bool) (came : List ℕ) (ss : List Seen) (begun new : Option (List ℕ)) (l : LinkSeen) : Type 0 where
  pub seen : List Seen
  pub others : (n : ℕ) (u : Term) (last : List Seen) → Sends 0 at n now seen u last → Sends 0 at (k + n) t ss u last
  pub capturing : IsCapturing 0 every came seen begun new l

-- this many signal units were sent, printed and captured
pub record OutGoing (at k : ℕ) (old new last next from to : Option (List ℕ)) (t now : Term) (l m : LinkSeen) : Type 0 where
  pub lines : List (List ℕ)
  pub printed : HasPrinted old new last next lines
  pub others : (n : ℕ) (more : List (List ℕ)) (u : Term) → GoOut n now more u → GoOut (k + n) t (lines ++ more) u
  pub captured : (every : Bool) (came : List ℕ) (ss : List Seen) (begun : Option (List ℕ)) → IsCapturing 0 every came ss begun from l
      → SeenSoFar at k t now every came ss begun to m

pub goes_none : (at : ℕ) (old last from : Option (List ℕ)) (t : Term) (l : LinkSeen) → OutGoing at 0 old old last last from from t t l l
goes_none at old last from t l = record {
  lines = [];
  printed = record { latest_is = refl; written = Appends-nil old };
  others = λ n more u out. let number : n ≡ 0 + n = omega arith in out_as n (0 + n) t more more u number refl out;
  captured = λ every came ss begun c.
      record {
        seen = ss;
        others = λ n u last sends. let number : n ≡ 0 + n = omega arith in sends_as at n (0 + n) t u ss last number sends;
        capturing = c;
      };
}

-- one more signal unit is sent
pub goes_more : (at k : ℕ) (old mid new last this next from via to : Option (List ℕ)) (t u v : Term) (x : su.Unit) (l m n : LinkSeen) → (next_of u).unit ≡ Some x
    → v ≡ behind_next u → HasPrinted mid new this next (unit_line (next_of u).unit ∷ [])
    → ((every : Bool) (came : List ℕ) (ss : List Seen) (begun : Option (List ℕ)) → IsCapturing 0 every came ss begun via m
    → (more : List Seen) × IsGone 0 at x ss more × IsCapturing 0 every came more begun to n) → OutGoing at k old mid last this from via t u l m
    → OutGoing at (k + 1) old new last next from to t v l n
goes_more at k old mid new last this next from via to t u v x l m n is behind printed seen so_far =
    let text : unit_line (next_of u).unit ∷ [] ≡ unit_text x ∷ [] = ap (λ o. unit_line o ∷ []) is in
    record {
      lines = so_far.lines ++ unit_text x ∷ [];
      printed = printed_both old mid new last this next so_far.lines (unit_text x ∷ []) so_far.printed (printed_as mid new this next _ _ text printed);
      others = λ j more w out.
          let P : Term → Type 0 = λ s. GoOut j s more w in
          let number : k + suc j ≡ k + 1 + j = omega arith in
          out_as (k + suc j) (k + 1 + j) t _ _ w number (sym (append_assoc so_far.lines (unit_text x ∷ []) more))
          (so_far.others (suc j) (unit_text x ∷ more) w (one_goes j u w x more is (subst P behind out)));
      captured = λ every came ss begun c.
          let before = so_far.captured every came ss begun c in
          let s = seen every came before.seen begun before.capturing in
          record {
            seen = s.0;
            others = λ j w end sends.
                let P : Term → Type 0 = λ y. Sends 0 at j y s.0 w end in
                let number : k + suc j ≡ k + 1 + j = omega arith in
                sends_as at (k + suc j) (k + 1 + j) t w ss end number
                (before.others (suc j) w end (one_sent j u w x before.seen s.0 end is s.1 (subst P behind sends)));
            capturing = s.2;
          };
    }

pub record HasGone (at asked : ℕ) (old new last next from to : Option (List ℕ)) (t now : Term) (l m : LinkSeen) : Type 0 where
  pub given : HasGivenOut asked old new last next t now
  pub captured : (every : Bool) (came : List ℕ) (ss : List Seen) (begun : Option (List ℕ)) → IsCapturing 0 every came ss begun from l
      → (more : List Seen) × Sends 0 at asked t ss now more × IsCapturing 0 every came more begun to m

-- no signal unit is sent
pub goes_silent : (at k asked : ℕ) (old mid new last this next from to : Option (List ℕ)) (t u v : Term) (l m : LinkSeen) → k < asked → (next_of u).unit ≡ None
    → v ≡ behind_next u → HasPrinted mid new this next (unit_line (next_of u).unit ∷ []) → OutGoing at k old mid last this from to t u l m
    → HasGone at asked old new last next from to t v l m
goes_silent at k asked old mid new last this next from to t u v l m less is behind printed so_far =
    let text : unit_line (next_of u).unit ∷ [] ≡ codes "silent" ∷ [] = ap (λ o. unit_line o ∷ []) is in
    let rest : ℕ = asked - (k + 1) in
    let number : k + suc rest ≡ asked = omega (arith, less) in
    let P : Term → Type 0 = λ s. GoOut asked t (so_far.lines ++ codes "silent" ∷ []) s in
    record {
      given = record {
        lines = so_far.lines ++ codes "silent" ∷ [];
        out =
            subst P (sym behind)
            (out_as (k + suc rest) asked t _ _ _ number refl (so_far.others (suc rest) (codes "silent" ∷ []) (behind_next u) (silent rest u is)));
        printed = printed_both old mid new last this next so_far.lines (codes "silent" ∷ []) so_far.printed (printed_as mid new this next _ _ text printed);
      };
      captured = λ every came ss begun c.
          let before = so_far.captured every came ss begun c in
          let S : Term → Type 0 = λ y. Sends 0 at asked t ss y before.seen in (
            before.seen,
            subst S (sym behind)
                (sends_as at (k + suc rest) asked t (behind_next u) ss before.seen number
                (before.others (suc rest) (behind_next u) before.seen (none_sent rest u before.seen is))),
            before.capturing,
          );
    }

-- as many signal units were sent as requested
pub goes_all : (at k asked : ℕ) (old new last next from to : Option (List ℕ)) (t u : Term) (l m : LinkSeen) → k ≤ asked → asked ≤ k
    → OutGoing at k old new last next from to t u l m → HasGone at asked old new last next from to t u l m
goes_all at k asked old new last next from to t u l m most least so_far =
    let number : k + 0 ≡ asked = omega (arith, most, least) in
    record {
      given = record {
        lines = so_far.lines;
        out = out_as (k + 0) asked t _ _ u number (append-nil so_far.lines) (so_far.others 0 [] u (nothing u));
        printed = so_far.printed;
      };
      captured = λ every came ss begun c.
          let before = so_far.captured every came ss begun c in
          (before.seen, sends_as at (k + 0) asked t u ss before.seen number (before.others 0 u before.seen (no_more u before.seen)), before.capturing);
    }
