use Rattle.std.proofs.Common.{◌≡◌, ◌+◌, ◌++◌, ◌∷◌, [], ℕ, List, Option, Contains, map, take, sym, ap, ◌∙◌, subst}
use Rattle.std.specs.List.{flat_map}
use denote.Ref.{Bor}
use Rattle.std.proofs.lemmas.List.{take_more, map-append}
use Rattle.sdl_ast.specs.declared.tree.Process as the_process
use Rattle.sdl_ast.specs.Views.{process_of}
use Rattle.sdl_tables.specs.Scopes.{Marks, IsDouble, repeats, process_scopes}
use Rattle.sdl_tables.specs.declared.fault.TableFault.{TableFault}
use Rattle.sdl_tables.proofs.BlockLemmas.{Marks-nothing, Marks-one, Marks-some}
use Rattle.sdl_tables.proofs.block_parts.build_tables.Goals as goal
use Rattle.sdl_tables.proofs.block_parts.build_tables.Goals.{in-Ok+in_ok-push-in-Ok, in-Err-DoubleName}

abbrev twice : Bor the_process.Process → List ℕ
twice p = flat_map (repeats []) (process_scopes (process_of p.now))

abbrev now_of : Bor the_process.Process → the_process.Process
now_of p = p.now

pub loop-process-preserved : goal.loop-process-preserved
loop-process-preserved c =
    let ps = c.args.processes.now in
    let i = c.loop-process.process-index in
    let x = c.process-item.result in
    let done = take i ps in
    let more : take (i + 1) ps ≡ done ++ x ∷ [] =
    take_more ps i x c.loop-process-test.true ∙ ap (λ y. done ++ y ∷ []) (sym c.process-item.is) in
    elim c.match-new.branch [
      | in-Ok+in_ok-push-in-Ok w ↦ (
        λ none.
            ap (λ v. v.items) w.tables-is
            ∙ (w.in_ok-push-in-Ok.ensures.items
            ∙ (ap (λ l. l ++ w.in-Ok.table ∷ []) (c.loop-process.invariant.0 (sym w.double-is ∙ none))
            ∙ (ap (λ t. map now_of done ++ t ∷ []) w.in-Ok.ensures.table
            ∙ (sym (map-append now_of done (x ∷ [])) ∙ ap (map now_of) (sym more))))),
        subst (λ (l : List (Bor the_process.Process)). Marks c.match-new.double (flat_map twice l)) (sym more)
            (Marks-nothing twice done x c.match-new.double
            (subst (λ (o : Option ℕ). Marks o (flat_map twice done)) (sym w.double-is) c.loop-process.invariant.1)
            w.in-Ok.ensures.distinct),
      )
      | in-Err-DoubleName w ↦
          let there : Contains (twice x) w.in-Err-DoubleName.at =
          subst (λ (e : TableFault). IsDouble e (twice x)) w.in-Err-DoubleName.field-0-is w.in-Err-DoubleName.ensures.double in
          let both : Marks c.match-new.double (flat_map twice (done ++ x ∷ [])) =
          subst (λ (o : Option ℕ). Marks o (flat_map twice (done ++ x ∷ []))) (sym w.double-is)
          (Marks-one twice done x c.loop-process.double w.earlier-double.result w.in-Err-DoubleName.at
          c.loop-process.invariant.1 there w.earlier-double.ensures) in (
            λ none. absurd (Marks-some twice done x c.match-new.double w.in-Err-DoubleName.at both there none),
            subst (λ (l : List (Bor the_process.Process)). Marks c.match-new.double (flat_map twice l)) (sym more) both,
          )
    ]
