mod Diagrams
