-- The figures of docs/RULES.md, by the rules and by their values.
use Rattle.std.specs.Prelude.{[], ◌∷◌, map, Some}
use Rattle.std.specs.List.{slice_get}
use Rattle.fabric.specs.Gray.{cube_addresses}
use Rattle.fabric.specs.Hop.{hop_of}
use Rattle.fabric.specs.Links.{thinned_meaning}
use Rattle.fabric.specs.Snake.{label_of, mesh_meaning}
use Rattle.figures.specs.declared.Figures.{Figures}
use Rattle.figures.specs.declared.OtherFigures.{OtherFigures}

-- what the rules give
abbrev pub ruled : Figures
ruled = record {
  labels = label_of 3 4 (3, 1) ∷ label_of 3 4 (0, 1) ∷ label_of 3 4 (0, 2) ∷ [];
  hops = map (hop_of (mesh_meaning 4 4) 6) (13 ∷ 7 ∷ 4 ∷ 1 ∷ []);
}

-- the figures themselves
abbrev pub known : Figures
known = record {
  labels = Some 4 ∷ Some 7 ∷ Some 8 ∷ [];
  hops = Some 9 ∷ Some 7 ∷ Some 5 ∷ Some 1 ∷ [];
}

-- and the same for cubes, and for a mesh with a closed link
abbrev pub ruled_others : OtherFigures
ruled_others = record {
  addresses = map (slice_get (cube_addresses 3)) (2 ∷ 4 ∷ 7 ∷ []);
  detour = hop_of (thinned_meaning ((6, 9) ∷ []) (mesh_meaning 4 4)) 6 13;
}

abbrev pub known_others : OtherFigures
known_others = record {
  addresses = Some 3 ∷ Some 6 ∷ Some 4 ∷ [];
  detour = Some 7;
}
