-- The block diagram of a block, in Graphviz's language.
use Rattle.std.specs.Prelude.{ℕ, List, ◌++◌, codes}
use Rattle.std.specs.List.{flat_map}
use Rattle.sdl_tables.specs.Names.{processes_of}
use Rattle.sdl_ast.specs.Plain.{PlainBlock}
use Rattle.draw_text.specs.BlockEdges.{parties_of, edge_text, node_text}

unfoldable pub graph_style : List ℕ
graph_style = codes "digraph {\n  graph [labelloc=t, fontname=\"DejaVu Sans\", fontsize=16, label=<"

abbrev pub title_text : PlainBlock → List ℕ
title_text b = graph_style ++ codes "<b>BLOCK " ++ b.name.name ++ codes "</b>>];\n"

unfoldable pub node_style : List ℕ
node_style =
    codes "  node [shape=octagon, style=filled, fillcolor=\"#eef3ff\", fontsize=12,"

unfoldable pub edge_style : List ℕ
edge_style = codes " fontname=\"DejaVu Sans\"];\n  edge [fontsize=9, arrowsize=0.7,"

abbrev pub head_text : PlainBlock → List ℕ
head_text b =
    title_text b ++ node_style ++ edge_style ++ codes " fontname=\"DejaVu Sans\"];\n"

-- the nodes of the processes, followed by the edge of each pair of parties
abbrev pub block_text : PlainBlock → List ℕ
block_text b =
    head_text b ++ flat_map (λ p. node_text b p.name.name) (processes_of b)
    ++ flat_map (λ from. flat_map (edge_text b from) (parties_of b)) (parties_of b) ++ codes "}\n"
