-- The count of discarded items: one more.
use Rattle.std.proofs.Common.{◌≡◌, ◌∙◌, ℕ, zero, suc, ◌+◌, ◌<◌, Bool, true, false, List, [], ◌∷◌, ◌++◌, append_assoc, length, map, get_or, slice_set, Option, None, Some, arith, refl, sym, ap}
use Rattle.std.specs.Prelude.{cond, if◌then◌else◌, position, codes}
use Rattle.std.specs.Fmt.{decimal}
use Rattle.std.specs.List.{position_from}
use Rattle.std.proofs.lemmas.Iterator.Adapters.{position_from-zero}
use Rattle.std.proofs.lemmas.List.Quantifiers.{position-Some}
use Rattle.std.proofs.lemmas.Option.{none-some}
use Rattle.turn_code.specs.declared.draft.Draft.{Draft}
use Rattle.script_lines.specs.Replies.{process_text, state_text, trigger_text}
use Rattle.script_seen.specs.Watched.{Notice, TurnEnd, Throw as OneThrow, ends, throws, throws_in}
use Rattle.script_play.specs.Thrown.{same_throw, throw_line, counted_throw, counts, once, CountsThrown}
use Rattle.script_play.specs.declared.thrown.Throw.{Throw}
use Rattle.script_play.specs.declared.thrown.Thrown.{Thrown}

-- an item with its count one higher
abbrev pub more : Throw → Throw
more c = record c { times = c.times + 1 }

counted_at : (x : Throw) (cs : List Throw) (n : ℕ) (d : Throw) → n < length cs → same_throw (get_or cs n d) x ≡ true
    → ((k : ℕ) → k < n → same_throw (get_or cs k d) x ≡ false) → counted_throw x cs ≡ slice_set cs n (more (get_or cs n d))
counted_at x [] n d within same before = absurd (omega (arith, within))
counted_at x (c ∷ cs) zero d within same before = ap (λ (b : Bool). if b then more c ∷ cs else c ∷ counted_throw x cs) same
counted_at x (c ∷ cs) (suc n) d within same before =
    ap (λ (b : Bool). if b then more c ∷ cs else c ∷ counted_throw x cs) (before zero (omega arith))
    ∙ ap (λ (l : List Throw). c ∷ l) (counted_at x cs n d (omega (arith, within)) same (λ k lt. before (suc k) (omega (arith, lt))))

-- the item was discarded before
pub counted_again : (x : Throw) (cs : List Throw) (n : ℕ) (d : Throw) → position (λ (c : Throw). same_throw c x) cs ≡ Some n
    → slice_set cs n (more (get_or cs n d)) ≡ counted_throw x cs
counted_again x cs n d is =
    let h = position-Some (λ (c : Throw). same_throw c x) cs n d is in
    sym (counted_at x cs n d h.0 h.1 h.2)

new_by : (x c : Throw) (cs : List Throw) (i : ℕ) (b : Bool) → cond b (Some i) (position_from (λ (z : Throw). same_throw z x) (i + 1) cs) ≡ None
    → (position_from (λ (z : Throw). same_throw z x) (i + 1) cs ≡ None → counted_throw x cs ≡ cs ++ x ∷ [])
    → (if b then more c ∷ cs else c ∷ counted_throw x cs) ≡ c ∷ (cs ++ x ∷ [])
new_by x c cs i true none rest = absurd (none-some i (sym none))
new_by x c cs i false none rest = ap (λ (l : List Throw). c ∷ l) (rest none)

new_from : (x : Throw) (cs : List Throw) (i : ℕ) → position_from (λ (z : Throw). same_throw z x) i cs ≡ None → counted_throw x cs ≡ cs ++ x ∷ []
new_from x [] i none = refl
new_from x (c ∷ cs) i none = new_by x c cs i (same_throw c x) none (new_from x cs (i + 1))

-- the item wasn't discarded before
pub counted_first : (x : Throw) (cs : List Throw) → position (λ (c : Throw). same_throw c x) cs ≡ None → cs ++ x ∷ [] ≡ counted_throw x cs
counted_first x cs none = sym (new_from x cs 0 (sym (position_from-zero (λ (c : Throw). same_throw c x) cs) ∙ none))

-- ---- a line

eight_pieces : (a p s q t g u n e b c d f h i j k : List ℕ) → b ≡ a ++ p → c ≡ b ++ s → d ≡ c ++ q → f ≡ d ++ t → h ≡ f ++ g → i ≡ h ++ u → j ≡ i ++ n
    → k ≡ j ++ e → k ≡ a ++ (p ++ s ++ q ++ t ++ g ++ u ++ n ++ e)
eight_pieces a p s q t g u n e b c d f h i j k is1 is2 is3 is4 is5 is6 is7 is8 =
    let behind : List ℕ → List ℕ → List ℕ = λ more text. text ++ more in
    is8
    ∙ (ap (behind e) (is7 ∙ ap (behind n) (is6 ∙ ap (behind u) (is5 ∙ ap (behind g) (is4 ∙ ap (behind t) (is3 ∙ ap (behind q) (is2 ∙ ap (behind s) is1))))))
    ∙ simp append_assoc)

pub throw_pieces : (m : Draft) (x : Throw) (a b c d f h i j k : List ℕ) → b ≡ a ++ process_text m x.process.0 → c ≡ b ++ codes " "
    → d ≡ c ++ state_text m x.process.0 x.state.0 → f ≡ d ++ codes "/" → h ≡ f ++ trigger_text m x.process.0 x.trigger → i ≡ h ++ codes " "
    → j ≡ i ++ decimal x.times → k ≡ j ++ codes "\n" → k ≡ a ++ throw_line m x
throw_pieces m x a b c d f h i j k is1 is2 is3 is4 is5 is6 is7 is8 =
    eight_pieces a (process_text m x.process.0) (codes " ") (state_text m x.process.0 x.state.0) (codes "/") (trigger_text m x.process.0 x.trigger) (codes " ")
    (decimal x.times) (codes "\n") b c d f h i j k is1 is2 is3 is4 is5 is6 is7 is8

-- ---- the watcher's notices

throws_end : (ns : List Notice) (t : TurnEnd) → throws_in ns ≡ throws_in (ns ++ ends t ∷ [])
throws_end [] t = refl
throws_end (ends s ∷ ns) t = throws_end ns t
throws_end (throws x ∷ ns) t = ap (λ (xs : List OneThrow). x ∷ xs) (throws_end ns t)

throws_more : (ns : List Notice) (x : OneThrow) → throws_in ns ++ x ∷ [] ≡ throws_in (ns ++ throws x ∷ [])
throws_more [] x = refl
throws_more (ends s ∷ ns) x = throws_more ns x
throws_more (throws y ∷ ns) x = ap (λ (xs : List OneThrow). y ∷ xs) (throws_more ns x)

counts_more : (cs : List Throw) (xs : List OneThrow) (x : OneThrow) → counted_throw (once x) (counts cs (map once xs)) ≡ counts cs (map once (xs ++ x ∷ []))
counts_more cs [] x = refl
counts_more cs (y ∷ xs) x = counts_more (counted_throw (once y) cs) xs x

-- the end of a turn changes no count
pub counts_end : (ns : List Notice) (t : TurnEnd) (c : Thrown) → CountsThrown (throws_in ns) c → CountsThrown (throws_in (ns ++ ends t ∷ [])) c
counts_end ns t c known = known ∙ ap (λ (xs : List OneThrow). counts [] (map once xs)) (throws_end ns t)

-- a discarded item is counted
pub counts_throw : (ns : List Notice) (x : OneThrow) (c d : Thrown) → d.throws.items ≡ counted_throw (once x) c.throws.items → CountsThrown (throws_in ns) c
    → CountsThrown (throws_in (ns ++ throws x ∷ [])) d
counts_throw ns x c d is known =
    is
    ∙ (ap (counted_throw (once x)) known
    ∙ (counts_more [] (throws_in ns) x ∙ ap (λ (xs : List OneThrow). counts [] (map once xs)) (throws_more ns x)))
