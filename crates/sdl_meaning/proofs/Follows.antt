-- The run of a whole piece is its meaning, with the connections to which it leads.
use Rattle.std.proofs.Common.{◌≡◌, ℕ, zero, suc, ◌+◌, ◌<◌, List, length, Option, Some, None, refl, sym, ap, subst, arith}
use Rattle.std.specs.Prelude.{slice_get, Contains}
use Rattle.std.specs.Option.{option_map_or}
use Rattle.sdl_ast.specs.declared.expression.Identifier.{Identifier}
use Rattle.sdl_ast.specs.declared.tree.Join as tree_join
use Rattle.sdl_ast.specs.Plain.{Text, falls, PlainConnection}
use Rattle.turn_code.specs.declared.value.Value.{Value}
use Rattle.turn_code.specs.declared.input.Input.{Input}
use Rattle.turn_code.specs.declared.input.Address.{Address}
use Rattle.turn_code.specs.declared.instruction.Instruction.{Instruction}
use Rattle.turn_code.specs.Run.{Progress}
use Rattle.sdl_tables.specs.Names.{variables_of, connection_named}
use Rattle.sdl_sound.specs.Longest.{size}
use Rattle.sdl_meaning.specs.Act.{act, closed, entered, follow}
use Rattle.sdl_meaning.specs.Outcomes.{Scope, connector_at, Outcome, goes_on, over}
use Rattle.sdl_meaning.specs.Named.{NamedConnections, NamedText, IsSentTo, AnswersSenders}
use Rattle.sdl_meaning.specs.Code.{number_or_zero, text_code, text_at, code_joins, joined}
use Rattle.sdl_meaning.proofs.Runs.{Does}
use Rattle.sdl_meaning.proofs.RunParts.{HasAt}
use Rattle.sdl_meaning.proofs.Choices.{IsOver}
use Rattle.sdl_meaning.proofs.Branches.{EachJoin, act_over, Leads, text_does}
use Rattle.sdl_meaning.proofs.Joining.{contains_map, has_connection, each_join}
use Rattle.turn_code.proofs.Lists.{within as slice_within}

closed_over : (o : Outcome (Unit {0})) → IsOver (closed o)
closed_over (goes_on x s) = tt
closed_over (over e s) = tt

pub follow_over : (c : Scope) (sender : Option Address) (n : ℕ) (x : List ℕ) (s : Progress) → IsOver (follow c sender n x s)
follow_over c sender zero x s = tt
follow_over c sender (suc n) x s = by_connection (connection_named c.process x)
  where
    by_connection : (o : Option PlainConnection) → IsOver (entered o s (λ t. closed (act c (follow c sender n) sender t s)))
    by_connection None = tt
    by_connection (Some k) = closed_over (act c (follow c sender n) sender k.text s)

module _ (inp : Input) (code : List Instruction) (c : Scope) (from : Option Identifier) (is_sent : IsSentTo c from inp.sender)
    (to : ℕ → ℕ) (ns : List ℕ) (connections : NamedConnections c)
    (stands : (n : ℕ) → Contains ns n → HasAt code (to n) (text_code c to (to n) (text_at c n)))
    (closing : (n m : ℕ) → Contains ns n → Contains (joined c (text_at c n)) m → Contains ns m)
    (sends : (n : ℕ) → Contains ns n → AnswersSenders c from (text_at c n)) where
  closed_does : (pc mid end : ℕ) (os : List Value) (s : Progress) (o : Outcome (Unit {0})) → IsOver o → Does inp code pc os s mid (λ _. os) o → Does inp code pc os s end (λ _. os) (closed o)
  closed_does pc mid end os s (goes_on x v) h d = absurd h
  closed_does pc mid end os s (over e v) h d = d

  -- A connection, if more JOINs are followed than it has steps.
  pub follow_does : (fuel n : ℕ) (x : List ℕ) (k : PlainConnection) → slice_get c.process.connections n ≡ Some k → connection_named c.process x ≡ Some k → Contains ns n → connections.steps n < fuel
      → (os : List Value) (s : Progress) (end : ℕ) → Does inp code (to n) os s end (λ _. os) (follow c inp.sender fuel x s)
  follow_does zero n x k at named placed few os s end = absurd (omega (arith, few))
  follow_does (suc f) n x k at named placed few os s end =
      let t : text_at c n ≡ k.text = ap (λ o. option_map_or (λ (k : PlainConnection). k.text) o falls) at in
      let w = connections.texts n k at in
      let mid = to n + size (variables_of c.process) k.text in
      let has = subst (λ t. HasAt code (to n) (text_code c to (to n) t)) t (stands n placed) in
      let well = subst (AnswersSenders c from) t (sends n placed) in
      let join = follow c inp.sender f in
      let leads = each_join c (Leads inp code c from is_sent to join (follow_over c inp.sender f)) k.text w.text
      (λ j a b some. let r = has_connection c j.connector some in
      let m = number_or_zero (connector_at c j.connector) in
      let less = connections.fewer n m k j at a r.number in
      let there = closing n m placed (subst (λ t. Contains (joined c t) m) (sym t) (contains_map (λ (j : tree_join.Join). number_or_zero (connector_at c j.connector)) (code_joins c k.text) j b)) in
      λ os s end. follow_does f m j.connector.name r.connection r.there r.named there (omega (arith, less, few)) os s end) in
      subst (λ o. Does inp code (to n) os s end (λ _. os) (entered o s (λ t. closed (act c join inp.sender t s)))) (sym named)
      (closed_does (to n) mid end os s (act c join inp.sender k.text s)
      (act_over c join inp.sender (follow_over c inp.sender f) k.text s w.ended)
      (text_does inp code c from is_sent to join (follow_over c inp.sender f) k.text (to n) mid os s has refl w.text well leads))

  -- Each JOIN of a text leads where it means, if its connection is placed.
  pub leads_on : (fuel : ℕ) (t : Text) → NamedText c t → ((m : ℕ) → Contains (joined c t) m → Contains ns m) → ((m : ℕ) → m < length c.process.connections → connections.steps m < fuel)
      → EachJoin (Leads inp code c from is_sent to (follow c inp.sender fuel) (follow_over c inp.sender fuel)) t
  leads_on fuel t named h few =
      each_join c (Leads inp code c from is_sent to (follow c inp.sender fuel) (follow_over c inp.sender fuel)) t named
      (λ j a b some. let r = has_connection c j.connector some in
      let m = number_or_zero (connector_at c j.connector) in
      let there = h m (contains_map (λ (j : tree_join.Join). number_or_zero (connector_at c j.connector)) (code_joins c t) j b) in
      λ os s end. follow_does fuel m j.connector.name r.connection r.there r.named there (few m (slice_within c.process.connections m r.connection r.there)) os s end)
