-- The text of a block diagram, joined from its pieces.
use Rattle.std.proofs.Common.{◌≡◌, ◌∙◌, ℕ, List, [], ◌++◌, ap, codes}
use Rattle.std.specs.List.{flat_map}
use Rattle.sdl_tables.specs.Names.{processes_of}
use Rattle.sdl_ast.specs.Plain.{PlainBlock, PlainProcess}
use Rattle.sdl_ast.specs.declared.tree.Party.{Party}
use Rattle.draw_text.specs.BlockEdges.{parties_of, edge_text, node_text}
use Rattle.draw_text.specs.BlockDiagram.{head_text, block_text}

joined : (t0 t1 t2 t3 t4 head nodes edges tail : List ℕ) → t0 ≡ [] → t1 ≡ t0 ++ head → t2 ≡ t1 ++ nodes → t3 ≡ t2 ++ edges → t4 ≡ t3 ++ tail
    → t4 ≡ head ++ nodes ++ edges ++ tail
joined t0 t1 t2 t3 t4 head nodes edges tail e0 e1 e2 e3 e4 =
    e4 ∙ ap (λ t. t ++ tail) (e3 ∙ ap (λ t. t ++ edges) (e2 ∙ ap (λ t. t ++ nodes) (e1 ∙ ap (λ t. t ++ head) e0)))

-- the nodes of the processes, followed by the edges between the parties
pub drawn : (b : PlainBlock) (parties : List Party) (processes : List PlainProcess) (t0 t1 t2 t3 t4 : List ℕ) → t0 ≡ [] → t1 ≡ t0 ++ head_text b
    → t2 ≡ t1 ++ flat_map (λ p. node_text b p.name.name) processes → t3 ≡ t2 ++ flat_map (λ from. flat_map (edge_text b from) parties) parties
    → t4 ≡ t3 ++ codes "}\n" → processes ≡ processes_of b → parties ≡ parties_of b → t4 ≡ block_text b
drawn b parties processes t0 t1 t2 t3 t4 e0 e1 e2 e3 e4 p q =
    joined t0 t1 t2 t3 t4 (head_text b) (flat_map (λ r. node_text b r.name.name) (processes_of b))
    (flat_map (λ from. flat_map (edge_text b from) (parties_of b)) (parties_of b)) (codes "}\n") e0 e1
    (e2 ∙ ap (λ rs. t1 ++ flat_map (λ r. node_text b r.name.name) rs) p)
    (e3 ∙ ap (λ qs. t2 ++ flat_map (λ from. flat_map (edge_text b from) qs) qs) q) e4
