-- Views of the heading of a process and of a part of its body.
use Rattle.sdl_ast.specs.Plain.{PlainProcessHead}
use Rattle.sdl_ast.specs.Views.{state_of, connection_of}
use Rattle.sdl_productions.specs.BodyViews.{marked_view}
use Rattle.sdl_productions.specs.MarkedParts.{MarkedSection, a_state, a_connection}
use Rattle.sdl_tree.specs.declared.blocks.ProcessHead.{ProcessHead}
use Rattle.sdl_tree.specs.declared.transitions.Section as the_section
use Rattle.sdl_tree.specs.declared.transitions.Section.TheVariants as sections

abbrev pub head_of : ProcessHead → PlainProcessHead
head_of h = record { name = h.name; instances = h.instances }

abbrev pub section_of : the_section.Section → MarkedSection
section_of (sections.State s) = a_state (marked_view state_of s)
section_of (sections.Connection c) = a_connection (marked_view connection_of c)
