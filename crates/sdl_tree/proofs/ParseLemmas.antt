-- The readings of a text, and the grammar `Reads`.
use Rattle.std.proofs.Common.{◌≡◌, ℕ, suc, ◌+◌, ◌-◌, List, [], ◌∷◌, ◌++◌, Option, Some, None, length, take, refl, sym, ap, subst, ◌∙◌, arith, length-append, Result, Ok, Err}
use Rattle.sdl_lex.specs.declared.lexemes.Token.{Token}
use Rattle.sdl_tree.specs.declared.fault.ParseFault.{ParseFault}
use Rattle.sdl_tree.specs.declared.fault.ParseFault.TheVariants.{Unexpected, TooDeep, NoMemory}
use Rattle.sdl_ast.specs.declared.tree.Block.{Block}
use Rattle.sdl_ast.specs.Plain.{PlainBlock}
use Rattle.sdl_ast.specs.Views.{block_of}
use Rattle.sdl_tree.specs.Syntax.{Reads}
use Rattle.sdl_ast.specs.Heights.{first_too_high}
use Rattle.sdl_tree.specs.Refusals.{NoneAgrees, Refuses, Answers}
use Rattle.sdl_productions.specs.Readings.{Reading, read, fails}
use Rattle.sdl_productions.specs.Productions.{block_at}
use Rattle.sdl_productions.specs.Marks.{Marked, kept, too_high, by_place, marked}
use Rattle.sdl_productions.specs.MarkedParts.{marked_block}
use Rattle.sdl_tree.specs.Settled.{stops_at, Settled}
use Rattle.sdl_productions.proofs.Decides.{first, rest_of, with_rest}
use Rattle.sdl_tree.proofs.SyntaxDecides.{block_decides}
use Rattle.sdl_productions.proofs.Lowering.{mapped, Lowers}
use Rattle.sdl_tree.proofs.PartMarks.{block_lowers}
use Rattle.sdl_ast.proofs.HeightLemmas.{low_where_none, high_where_some}

marked_of_whole : (ts : List Token) → marked_block ts ≡ mapped (marked first_too_high) (block_at ts)
unfolding Lowers
marked_of_whole ts = block_lowers ts

whole_of_reads : (ts : List Token) (b : PlainBlock) → Reads ts b → block_at ts ≡ read b []
unfolding Reads
whole_of_reads ts b h = block_decides.complete ts b [] h

reads_of_whole : (ts : List Token) (b : PlainBlock) → block_at ts ≡ read b [] → Reads ts b
unfolding Reads
reads_of_whole ts b h = block_decides.sound ts b [] h

marked_of_reads : (ts : List Token) (b : PlainBlock) → Reads ts b → marked_block ts ≡ read (marked first_too_high b) []
unfolding mapped
marked_of_reads ts b h = marked_of_whole ts ∙ ap (mapped (marked first_too_high)) (whole_of_reads ts b h)

-- A text has at most one tree.
pub one_tree : (ts : List Token) (b c : PlainBlock) → Reads ts b → Reads ts c → b ≡ c
one_tree ts b c h k =
    let e : read b [] ≡ read c [] = sym (whole_of_reads ts b h) ∙ whole_of_reads ts c k in
    cc

-- The result is a tree that the tokens read as, possibly replaced by its mark.
record FromTree (ts : List Token) (m : Marked PlainBlock) : Type 0 where
  tree : PlainBlock
  reads : Reads ts tree
  is : marked first_too_high tree ≡ m

from_result : (ts : List Token) (m : Marked PlainBlock) (r : Reading PlainBlock) → block_at ts ≡ r → mapped (marked first_too_high) r ≡ read m [] → FromTree ts m
unfolding mapped
from_result ts m (fails us) e k = cc
from_result ts m (read c us) e k =
    let none : us ≡ [] = cc in
    let tree_is : marked first_too_high c ≡ m = cc in
    record { tree = c; reads = reads_of_whole ts c (e ∙ ap (λ vs. read c vs) none); is = tree_is }

from_tree : (ts : List Token) (m : Marked PlainBlock) → marked_block ts ≡ read m [] → FromTree ts m
from_tree ts m h = from_result ts m (block_at ts) refl (sym (marked_of_whole ts) ∙ h)

-- The meaning of a mark.

kept_none : (p : Option ℕ) (b c : PlainBlock) → by_place p b ≡ kept c → p ≡ None
kept_none None b c e = refl
kept_none (Some at) b c e = cc

kept_same : (p : Option ℕ) (b c : PlainBlock) → by_place p b ≡ kept c → c ≡ b
kept_same None b c e = cc
kept_same (Some at) b c e = cc

high_place : (p : Option ℕ) (b : PlainBlock) (at : ℕ) → by_place p b ≡ too_high at → p ≡ Some at
high_place None b at e = cc
high_place (Some other) b at e = cc

-- A tree that `parse` returns is a tree that the tokens read as.

pub found_reads : (ts : List Token) (block : Block) → Settled ts (Ok block) → Reads ts (block_of block)
found_reads ts block s =
    let f = from_tree ts (kept (block_of block)) s in
    subst (λ b. Reads ts b) (sym (kept_same (first_too_high f.tree) f.tree (block_of block) f.is)) f.reads

-- A tree that the tokens read as is returned, or refused as too high.

stops_not : (ts us : List Token) (m : Marked PlainBlock) → marked_block ts ≡ read m [] → stops_at (marked_block ts) ≡ Some us → ⊥
stops_not ts us m h s = let e : None ≡ Some us = sym (ap stops_at h) ∙ s in cc

pub answers_exactly : (ts : List Token) (r : Result Block ParseFault) (b : PlainBlock) → Settled ts r → Reads ts b → Answers r b
answers_exactly ts (Ok block) b s h =
    let e : read (kept (block_of block)) [] ≡ read (marked first_too_high b) [] = sym s ∙ marked_of_reads ts b h in
    let mark : marked first_too_high b ≡ kept (block_of block) = cc in
    (kept_same (first_too_high b) b (block_of block) mark, low_where_none b (kept_none (first_too_high b) b (block_of block) mark))
answers_exactly ts (Err (TooDeep at)) b s h =
    let e : read (too_high at) [] ≡ read (marked first_too_high b) [] = sym s ∙ marked_of_reads ts b h in
    let mark : marked first_too_high b ≡ too_high at = cc in
    let place : first_too_high b ≡ Some at = high_place (first_too_high b) b at mark in
    (high_where_some b at place, place)
answers_exactly ts (Err (Unexpected at)) b s h = stops_not ts s.0 (marked first_too_high b) (marked_of_reads ts b h) s.1
answers_exactly ts (Err NoMemory) b s h = tt

-- No text that reads continues with the token where the reading stops.

stops-mapped : (r : Reading PlainBlock) → stops_at (mapped (marked first_too_high) r) ≡ stops_at r
unfolding mapped
stops-mapped (read b []) = refl
stops-mapped (read b (t ∷ us)) = refl
stops-mapped (fails us) = refl

rest_where_stops : (r : Reading PlainBlock) (us : List Token) → stops_at r ≡ Some us → rest_of r ≡ us
rest_where_stops (read b []) us e = cc
rest_where_stops (read b (t ∷ vs)) us e = cc
rest_where_stops (fails vs) us e = cc

-- A list that agrees with a front and one more token begins with the front, and its next token is equal.
record Agrees (f us others : List Token) : Type 0 where
  rest : List Token
  parts : others ≡ f ++ rest
  alike : first rest ≡ first us

agrees : (f us others : List Token) → take (suc (length f)) others ≡ take (suc (length f)) (f ++ us) → Agrees f us others
agrees [] [] [] e = record { rest = []; parts = refl; alike = refl }
agrees [] [] (o ∷ others) e = cc
agrees [] (u ∷ us) [] e = cc
agrees [] (u ∷ us) (o ∷ others) e = record { rest = o ∷ others; parts = refl; alike = (let same : o ≡ u = cc in ap Some same) }
agrees (t ∷ f) us [] e = cc
agrees (t ∷ f) us (o ∷ others) e =
    let same : o ≡ t = cc in
    let more : take (suc (length f)) others ≡ take (suc (length f)) (f ++ us) = cc in
    let a = agrees f us others more in
    record { rest = a.rest; parts = ap (λ x. x ∷ others) same ∙ ap (λ xs. t ∷ xs) a.parts; alike = a.alike }

no_whole : (r : Reading PlainBlock) (us rest : List Token) (b : PlainBlock) → stops_at r ≡ Some us → first rest ≡ first us → with_rest r rest ≡ read b [] → ⊥
no_whole (fails vs) us rest b s alike e = cc
no_whole (read c []) us rest b s alike e = cc
no_whole (read c (t ∷ vs)) us [] b s alike e = (let same : (t ∷ vs) ≡ us = cc in let k : None ≡ Some t = alike ∙ ap first (sym same) in cc)
no_whole (read c (t ∷ vs)) us (o ∷ rest) b s alike e = cc

front_length : (ts us front : List Token) (at : ℕ) → ts ≡ front ++ us → at ≡ length ts - length us → at ≡ length front
front_length ts us front at parts e =
    let sum : length ts ≡ length front + length us = ap length parts ∙ length-append front us in
    omega arith

pub none_agrees : (ts us : List Token) (at : ℕ) → stops_at (marked_block ts) ≡ Some us → at ≡ length ts - length us → NoneAgrees ts at
none_agrees ts us at stops place others b same reads =
    let s = block_decides.looks ts in
    let stops_whole : stops_at (block_at ts) ≡ Some us = sym (stops-mapped (block_at ts)) ∙ ap stops_at (sym (marked_of_whole ts)) ∙ stops in
    let stops_there : stops_at s.result ≡ Some us = ap stops_at (sym s.is) ∙ stops_whole in
    let rest : rest_of s.result ≡ us = rest_where_stops s.result us stops_there in
    let parts : ts ≡ s.front ++ us = s.parts ∙ ap (λ vs. s.front ++ vs) rest in
    let here : at + 1 ≡ suc (length s.front) = (let l : at ≡ length s.front = front_length ts us s.front at parts place in omega arith) in
    let alike : take (suc (length s.front)) others ≡ take (suc (length s.front)) (s.front ++ us) =
    subst (λ n. take n others ≡ take n ts) here same ∙ ap (take (suc (length s.front))) parts in
    let a = agrees s.front us others alike in
    let again : block_at (s.front ++ a.rest) ≡ with_rest s.result a.rest = s.again a.rest (a.alike ∙ ap first (sym rest)) in
    let whole : block_at (s.front ++ a.rest) ≡ read b [] = ap block_at (sym a.parts) ∙ whole_of_reads others b reads in
    no_whole s.result us a.rest b stops_there a.alike (sym again ∙ whole)

pub refuses_rightly : (ts : List Token) (fault : ParseFault) → Settled ts (Err fault) → Refuses ts fault
refuses_rightly ts (Unexpected at) s = (let p = s.2 in omega arith, none_agrees ts s.0 at s.1 s.2)
refuses_rightly ts (TooDeep at) s =
    let f = from_tree ts (too_high at) s in
    (f.tree, f.reads, high_place (first_too_high f.tree) f.tree at f.is)
refuses_rightly ts NoMemory s = tt
